-- A scene that was restored goes on as the one that was saved.
use Rattle.std.proofs.Common.{◌≡◌, ℕ, List, sym, ◌∙◌, subst}
use Rattle.cp_dispatch.proofs.LineCodes.{lines_code}
use Rattle.sessions.specs.Installed.{Installation}
use Rattle.sessions.specs.Runs.{RestoredContinue}
use Rattle.sessions.specs.Saved.{IsOneBySaved, KeepsBase}

-- Sessions that were restored continue as one.
pub restored : {W : Type 0} (i : Installation W) → KeepsBase i → IsOneBySaved i → RestoredContinue i
restored i base saved one start other bytes same detail h k =
    let codes = lines_code one.lines other.lines h.rest k.saved.rest (sym h.written ∙ k.saved.written) in
    let rest = subst (λ (rest : List ℕ). i.IsSaved other.world rest) (sym codes.rest) k.saved.world in
    let based = base.transitive one.world start.world other.world same k.base in
    record {
      world = saved one.world other.world h.rest based h.world rest;
      lines = codes.this;
      detail = detail ∙ sym k.detail;
      had_slice = h.between ∙ sym k.saved.between;
    }

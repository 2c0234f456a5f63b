-- What is kept of the programs of users' devices, from one event to the next.
use Rattle.std.proofs.Common.{◌≡◌, ◌∙◌, ap, sym, subst, ℕ, List}
use Rattle.std.specs.Prelude.{slice_index_or, slice_set}
use Rattle.cp_dat.specs.Lent.{set_own}
use Rattle.cp_resident.specs.Reuse.{ReuseValue, kept_none}
use Rattle.cp_core.specs.Keeps.{HasKept}
use Rattle.cp_core.specs.System.{SystemView, kept_at}

-- where a work leaves what is kept of its user, all is kept as it was
pub kept_stays : (old new : SystemView) (user : ℕ) → new.kept ≡ slice_set old.kept user (kept_at new user)
    → kept_at new user ≡ kept_at old user → new.kept ≡ old.kept
kept_stays old new user others same =
    others ∙ (ap (λ (r : ReuseValue). slice_set old.kept user r) same ∙ sym (set_own old.kept user (kept_none 0)))

-- what comes after it and leaves what is kept
pub kept_on : (user : ℕ) (old mid new : SystemView) (Keeps : ReuseValue → ReuseValue → Type 0)
    → HasKept user old mid Keeps → new.kept ≡ mid.kept → HasKept user old new Keeps
kept_on user old mid new Keeps had same = record {
  own = subst (λ (ks : List ReuseValue). Keeps (kept_at old user) (slice_index_or ks user (kept_none 0))) (sym same)
      had.own;
  others = subst (λ (ks : List ReuseValue). ks ≡ slice_set old.kept user (slice_index_or ks user (kept_none 0)))
      (sym same) had.others;
}

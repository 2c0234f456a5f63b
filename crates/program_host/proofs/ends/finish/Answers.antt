use Rattle.std.proofs.Common.{◌≡◌, ◌∙◌, ◌⊎◌, ℕ, List, [], ◌∷◌, ◌++◌, Option, Result, Ok, Err, IfOk, codes, inl, inr}
use Rattle.std.proofs.Common.{Global, ap, string_bytes, subst, sym}
use Rattle.program_host.specs.Deeds.{Adds, Complains, Deed}
use Rattle.program_host.specs.Ends.{IsLineTold, path_complaints}
use Rattle.program_host.proofs.ends.finish.Goals as goal

-- the line of a failure, or that of refused memory, is the text of what is reported
said : {F S E : Type 0} (is_memory : F → Type 0) (text : F → List ℕ) (bytes : S → List ℕ) (path : Option (List ℕ))
    (line : Result S E) (failure reported : F) (old new : Option (List Deed))
    → ((f : F) → is_memory f → text f ≡ codes "fault: memory Memory") → IfOk line (λ l. bytes l ≡ text failure)
    → IsLineTold is_memory bytes path line failure reported old new
    → ((reported ≡ failure) ⊎ is_memory reported)
    × Adds old new (Complains (text reported ++ 10 ∷ []) ∷ path_complaints path)
said is_memory text bytes path (Ok line) failure reported old new memory is told = (
  inl told.0,
  subst (λ (t : List ℕ). Adds old new (Complains (t ++ 10 ∷ []) ∷ path_complaints path)) (is ∙ sym (ap text told.0))
      told.1,
)
said is_memory text bytes path (Err refused) failure reported old new memory is told = (
  inr told.0,
  subst (λ (t : List ℕ). Adds old new (Complains (t ++ 10 ∷ []) ∷ path_complaints path))
      (sym (memory reported told.0)) told.1,
)

pub returns-in-Err-2 : goal.returns-in-Err-2
returns-in-Err-2 g c =
    let deeds = g.H.ProgramHost.deeds in
    let line = said g.F.ProgramFailure.is_memory g.F.ProgramFailure.text (string_bytes {Z = Global})
    (g.F.ProgramFailure.unsaved c.in-Err.failure) c.line-line.result c.in-Err.failure c.tell.result
    (deeds c.args.host.now) (deeds c.tell.new.host) g.F.ProgramFailure.memory_told c.line-line.ensures
    c.tell.ensures in
    rw c.in-Err.is (inr (c.is_wrong_words.ensures.no c.if-is_wrong_words.false, line.0, line.1))

use Rattle.std.proofs.Common.{◌≡◌, ℕ, List, [], ◌∷◌, ◌++◌, Option, codes, refl, subst}
use Rattle.program_host.specs.Deeds.{Adds, Complains, Deed}
use Rattle.program_host.specs.Ends.{path_complaints}
use Rattle.program_host.proofs.Deeds.{adds_more}
use Rattle.program_host.proofs.ends.tell.Goals as goal

-- a line that was printed, and then a path, if there is one
told : (old mid new : Option (List Deed)) (line text : List ℕ) (at path : Option (List ℕ))
    → Adds old mid (Complains (line ++ 10 ∷ []) ∷ []) → Adds mid new (path_complaints at) → line ≡ text → at ≡ path
    → Adds old new (Complains (text ++ 10 ∷ []) ∷ path_complaints path)
told old mid new line text at path one more e f =
    adds_more old mid new (Complains (text ++ 10 ∷ []) ∷ []) (path_complaints path)
    (subst (λ (line : List ℕ). Adds old mid (Complains (line ++ 10 ∷ []) ∷ [])) e one)
    (subst (λ (p : Option (List ℕ)). Adds mid new (path_complaints p)) f more)

pub returns-in-Ok : goal.returns-in-Ok
returns-in-Ok g c =
    let deeds = g.H.ProgramHost.deeds in
    rw c.in-Ok.is (
      refl,
      told (deeds c.args.host.now) (deeds c.complain_line.new.self) (deeds c.tell_path.new.host)
          c.deref.result.now _ _ (g.F.ProgramFailure.unsaved c.args.failure)
          c.complain_line.ensures c.tell_path.ensures c.deref.ensures
          c.unsaved_path.ensures,
    )

pub returns-in-Err : goal.returns-in-Err
returns-in-Err g c =
    let deeds = g.H.ProgramHost.deeds in
    rw c.in-Err.is (
      c.no_memory.ensures,
      told (deeds c.args.host.now) (deeds c.complain_line-in-Err.new.self)
          (deeds c.tell_path-in-Err.new.host) (codes "fault: memory Memory") (codes "fault: memory Memory") _
          (g.F.ProgramFailure.unsaved c.args.failure) c.complain_line-in-Err.ensures c.tell_path-in-Err.ensures refl
          c.unsaved_path-in-Err.ensures,
    )

-- What the program makes of a frame for its desk.
use Rattle.std.proofs.Common.{◌≡◌, ℕ, true, Some, Option, subst, sym}
use Rattle.std.specs.Prelude.{MatchOption}
use Rattle.logon_desk.specs.Desk.{Desk}
use Rattle.logon_desk_cli.specs.Answered.{AnswersFrame, Begins, IsAnswered, Program, TakesFrame}
use Rattle.logon_desk_cli.specs.Events.{is_for}
use Rattle.logon_desk_cli.specs.declared.frame.Frame.{Frame}

-- A frame that is answered leaves the program as its answer says.
pub answers-frame : (old new : Program) (d after : Desk) (now : ℕ) (frame : Frame) → old.desk ≡ Some d → is_for d frame
    ≡ true
    → IsAnswered d now frame old.reading old.text after new.reading new.text → new.names ≡ old.names → new.desk
    ≡ Some after
    → TakesFrame old now frame true new
answers-frame old new d after now frame there is answered names desk =
    subst (λ (o : Option Desk). MatchOption o (Begins old frame true new) (λ e. AnswersFrame old e now frame true new))
    (sym there)
    (is, names, after, desk, answered)

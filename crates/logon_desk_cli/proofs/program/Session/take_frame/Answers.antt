use Rattle.std.proofs.Common.{◌≡◌, Some, refl, subst, sym, true}
use Rattle.logon_desk_cli.specs.Answered.{Program, TakesFrame}
use Rattle.logon_desk_cli.proofs.Taking.{answers-frame}
use Rattle.logon_desk_cli.proofs.program.Session.take_frame.Goals as goal
use Rattle.logon_desk_cli.proofs.program.Session.take_frame.Goals.{in-User-3, in-Came-3, in-Show-3, in-Keep-3}
use Rattle.logon_desk_cli.proofs.program.Session.take_frame.Goals.{in-Says-3, in-Room-3}

pub returns-in_ok-answer-in-Some : goal.returns-in_ok-answer-in-Some
returns-in_ok-answer-in-Some c =
    let old : Program = record {
      names = c.self.inside.names.items;
      desk = c.self.inside.desk;
      reading =
          c.self.inside.reading.items;
      text = c.self.inside.text;
    } in
    let made : Program = record {
      names = c.self.inside.names.items;
      desk = Some c.answer.new.desk;
      reading =
          c.answer.new.reading.items;
      text = c.answer.new.text;
    } in
    let seen : old ≡ c.args.self.now = (cc) in
    let there : TakesFrame old c.args.now c.args.frame true made =
    answers-frame old made c.in-Some.desk c.answer.new.desk c.args.now c.args.frame (cc) (cc)
    c.in_ok-answer-in-Some.ensures refl refl in
    let from : TakesFrame c.args.self.now c.args.now c.args.frame true made =
    subst (λ (o : Program). TakesFrame o c.args.now c.args.frame true made) seen there in
    let P : Program → Type 0 = λ new. TakesFrame c.args.self.now c.args.now c.args.frame true new in
    elim c.match-frame-3.branch [
      | in-User-3 w ↦ subst P (sym w.self-is) from
      | in-Came-3 w ↦ subst P (sym w.self-is) from
      | in-Show-3 w ↦ subst P (sym w.self-is) from
      | in-Keep-3 w ↦ subst P (sym w.self-is) from
      | in-Says-3 w ↦ subst P (sym w.self-is) from
      | in-Room-3 w ↦ subst P (sym w.self-is) from
    ]

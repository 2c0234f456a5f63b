use Rattle.logon_desk_cli.proofs.Running.{events-of}
use Rattle.logon_desk_cli.proofs.program.apply_event.Goals as goal

pub returns : goal.returns
returns c =
    events-of c.args.desk.now c.make_room_for.new.desk c.give.new.desk c.serve.new.desk c.args.now c.args.frame.now
    c.args.out.now c.make_room_for.new.out c.give.new.out c.serve.new.out
    c.in_ok-make_room_for.ensures.room c.in_ok-give.ensures c.in_ok-serve.ensures

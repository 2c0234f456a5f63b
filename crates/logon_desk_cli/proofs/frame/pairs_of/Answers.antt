use Rattle.std.proofs.Common.{arith}
use Rattle.logon_desk_cli.proofs.Pairs.{pairs-more}
use Rattle.logon_desk_cli.proofs.frame.pairs_of.Goals as goal

pub loop-rest-preserved : goal.loop-rest-preserved
loop-rest-preserved c =
    pairs-more c.args.digits.now c.loop-rest.rest.now c.loop-rest.bytes c.push.new.self c.in_ok-byte_of.field-0
    (omega arith)
    c.in_ok-byte_of.ensures c.in_ok-push.ensures c.loop-rest.invariant

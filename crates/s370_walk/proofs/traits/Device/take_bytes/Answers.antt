use Rattle.s370_walk.proofs.Moved.{one_taken}
use Rattle.s370_walk.proofs.traits.Device.take_bytes.Goals as goal

pub bytes-preserved : goal.bytes-preserved
bytes-preserved g c = one_taken g.Self.Device.machine c.args.self.now c.bytes.self c.take.new.self c.args.from.now
    c.bytes.byte-index c.bytes-test.true c.bytes.invariant c.take.ensures

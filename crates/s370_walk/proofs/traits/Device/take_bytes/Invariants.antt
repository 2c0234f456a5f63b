use Rattle.std.proofs.Common.{◌≡◌, take}
use Rattle.s370_walk.specs.Hardware.{after_taking}
use Rattle.s370_walk.proofs.traits.Device.take_bytes.Given as goal

abbrev pub invariant-bytes : goal.invariant-bytes
invariant-bytes g l = l.self ≡ after_taking g.Self.Device.machine l.fn.self (take l.byte-index l.from)

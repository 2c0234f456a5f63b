use Rattle.std.proofs.Common.{◌≡◌, take}
use Rattle.s370_walk.specs.Hardware.{given, after_giving}
use Rattle.s370_walk.proofs.traits.Device.give_bytes.Given as goal

abbrev pub invariant-bytes : goal.invariant-bytes
invariant-bytes g l = record {
  given : take l.slot-index l.into ≡ given g.Self.Device.machine l.fn.self l.slot-index;
  after : l.self ≡ after_giving g.Self.Device.machine l.fn.self l.slot-index;
}

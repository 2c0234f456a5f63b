use Rattle.std.proofs.Common.{◌≡◌, take}
use Rattle.s370_walk.specs.Hardware.{given, after_giving}
use Rattle.ckd_volume.specs.Unit.{disk_machine}
use Rattle.ckd_volume.proofs.unit.UnitDevice.give_bytes.Given as goal

abbrev pub invariant-bytes : goal.invariant-bytes
invariant-bytes l =
    record {
      given : take l.slot-index l.into ≡ given disk_machine l.fn.self l.slot-index;
      after : l.self ≡ after_giving disk_machine l.fn.self l.slot-index;
    }

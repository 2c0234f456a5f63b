use Rattle.std.proofs.Common.{◌∙◌, ap, sym, arith}
use Rattle.s370_walk.proofs.Moved.{one_given, after_giving-one}
use Rattle.ckd_volume.specs.Unit.{disk_machine}
use Rattle.ckd_volume.proofs.unit.UnitDevice.give_bytes.Goals as goal

pub bytes-preserved : goal.bytes-preserved
bytes-preserved c =
    let i = c.bytes.slot-index in
    record {
      given = one_given disk_machine c.args.self.now c.bytes.self c.bytes.into i c.give.result
          (omega (arith, c.bytes.auto.into, c.bytes-test.true)) c.bytes.invariant.given c.bytes.invariant.after
          c.give.ensures.byte;
      after = c.give.ensures.after ∙ ap (λ x. disk_machine.gave x) c.bytes.invariant.after
          ∙ sym (after_giving-one disk_machine c.args.self.now i);
    }

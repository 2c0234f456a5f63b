use Rattle.std.proofs.Common.{◌∙◌, ap, sym, arith}
use Rattle.s370_walk.proofs.Moved.{one_given, after_giving-one}
use Rattle.s370_walk.proofs.traits.Device.give_bytes.Goals as goal

pub bytes-preserved : goal.bytes-preserved
bytes-preserved g c =
    let machine = g.Self.Device.machine in
    let i = c.bytes.slot-index in
    record {
      given = one_given machine c.args.self.now c.bytes.self c.bytes.into i c.give.result
          (omega (arith, c.bytes.auto.into, c.bytes-test.true)) c.bytes.invariant.given c.bytes.invariant.after
          c.give.ensures.byte;
      after = c.give.ensures.after ∙ ap (λ x. machine.gave x) c.bytes.invariant.after
          ∙ sym (after_giving-one machine c.args.self.now i);
    }

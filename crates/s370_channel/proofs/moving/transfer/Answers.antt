use Rattle.std.proofs.Common.{arith, ◌∙◌, ap, ◌≡◌, inr}
use Rattle.s370_walk.specs.Walk.{Moving, live}
use Rattle.s370_walk.proofs.Reaching.{reach_on}
use Rattle.s370_channel.specs.Progress.{setting}
use Rattle.s370_channel.proofs.Slices.{further_done, reach_done}
use Rattle.s370_channel.proofs.moving.transfer.Goals as goal

pub bytes-preserved : goal.bytes-preserved
bytes-preserved g c =
    let form = live (g.F.WordForm.written c.args.program.now) in
    let h = setting g.D.Device.machine c.args.limits.now in
    let m = g.S.Storage.memory c.bytes.storage in
    let n = g.S.Storage.memory c.move_on.new.storage in
    let before = c.bytes.invariant in
    let on = further_done c.in-Done.is c.in_ok-then.ensures.on in
    let same : c.in-Done.then.word.count ≡ c.bytes.p.word.count = ap (λ w. w.count) on.word in
    record {
      reaches = reach_on form h before.reaches (reach_done form h
          (Moving c.bytes.p m c.bytes.device) n c.move_on.new.device c.in-Done.is c.in_ok-then.ensures.reaches);
      present = g.met.S.Storage.keeps_present _ _ c.in_ok-then.ensures.rest ∙ before.present;
      rest = g.met.S.Storage.keeps_on _ _ _ before.rest c.in_ok-then.ensures.rest;
      started = on.started ∙ before.started;
      step = omega (arith, on.step, before.step);
      less = omega (arith, on.less, before.less);
      within = omega (arith, same, on.count, before.within);
      on = inr (omega (arith, on.step, on.less, on.count, before.less));
    }

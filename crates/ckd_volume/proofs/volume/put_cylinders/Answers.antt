use Rattle.std.proofs.Common.{arith, ap, ◌∙◌, sym, ◌≡◌, ◌<◌, ◌∷◌, length, length-set}
use Rattle.ckd_volume.specs.Volume.{put_back}
use Rattle.ckd_volume.proofs.PutBack.{put_one}
use Rattle.ckd_volume.proofs.volume.put_cylinders.Goals as goal

pub loop-cylinder-preserved : goal.loop-cylinder-preserved
loop-cylinder-preserved c =
    let more : c.loop-cylinder.cylinder-iterator.rest.items ≡ c.in-Some.cylinder ∷ c.next.new.self.rest.items =
    c.in-Some.ensures.steps.0 in
    let lt : c.loop-cylinder.at < length c.loop-cylinder.cylinders = omega
    (arith, c.loop-cylinder.invariant.1, c.loop-cylinder.invariant.2, ap length more, c.requires) in (
      put_one c.loop-cylinder.cylinders c.next.new.self.rest.items c.loop-cylinder.at c.in-Some.cylinder lt
          ∙ ap (put_back c.loop-cylinder.cylinders c.loop-cylinder.at) (sym more)
          ∙ c.loop-cylinder.invariant.0,
      length-set c.loop-cylinder.cylinders c.loop-cylinder.at c.in-Some.cylinder ∙ c.loop-cylinder.invariant.1,
      omega (arith, c.loop-cylinder.invariant.2, ap length more),
    )

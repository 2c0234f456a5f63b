use Rattle.std.proofs.Common.{arith, ap, ◌∙◌, length, ◌≡◌, ◌<◌, ◌++◌, ◌∷◌, [], ◌-◌, ◌+◌, length-append}
use Rattle.ckd_volume.specs.Volume.{blank_cylinders, blank_tracks}
use Rattle.ckd_volume.proofs.Blanks.{cylinders_on}
use Rattle.ckd_volume.proofs.volume.blank_cylinders_of.Goals as goal

pub loop-number-preserved : goal.loop-number-preserved
loop-number-preserved c =
    let lt : c.loop-number.number < c.args.count = omega (arith, c.loop-number-test.true) in
    let more : c.push.new.self.items ≡ c.loop-number.cylinders.items ++ blank_tracks c.loop-number.number 0 19 ∷ []
    = c.in_ok-push.ensures.items ∙ ap (λ x. c.loop-number.cylinders.items ++ x ∷ []) c.in_ok-cylinder.ensures in (
      ap (λ l. l ++ blank_cylinders (c.loop-number.number + 1) (c.args.count - (c.loop-number.number + 1))) more
          ∙ cylinders_on c.loop-number.number c.args.count c.loop-number.cylinders.items lt
          ∙ c.loop-number.invariant.0,
      omega (
        arith,
        ap length more,
        length-append c.loop-number.cylinders.items
            (blank_tracks c.loop-number.number 0 19 ∷ []),
        c.loop-number.invariant.1,
      ),
    )

use Rattle.std.proofs.Common.{◌≡◌, Some, None, length, ap, sym, ◌∙◌, refl}
use Rattle.ckd_volume.specs.Control.{sought}
use Rattle.ckd_volume.specs.Unit.{seek_of}
use Rattle.ckd_volume.proofs.Overlays.{overlaid_long}
use Rattle.ckd_volume.proofs.trial.UnitTrial.seek.Goals as goal

pub returns-in-Some-clause-status : goal.returns-in-Some-clause-status
returns-in-Some-clause-status c =
    let bytes = c.self.inside.panel.bytes in
    let reported : sought (length c.self.inside.cylinders.now) bytes ≡ Some c.in-Some.seek = ap (λ n. sought n bytes)
    (sym refl) ∙ sym c.sought.ensures ∙ c.in-Some.is in
    let found : seek_of c.args.self.now ≡ Some c.in-Some.seek = rw
    (← c.self.view_is, overlaid_long c.self.inside.cylinders.now c.self.inside.copies.items) reported in
    rw found c.end_seek.ensures.status

pub returns-in-Some-clause-after : goal.returns-in-Some-clause-after
returns-in-Some-clause-after c =
    let bytes = c.self.inside.panel.bytes in
    let reported : sought (length c.self.inside.cylinders.now) bytes ≡ Some c.in-Some.seek = ap (λ n. sought n bytes)
    (sym refl) ∙ sym c.sought.ensures ∙ c.in-Some.is in
    let found : seek_of c.args.self.now ≡ Some c.in-Some.seek = rw
    (← c.self.view_is, overlaid_long c.self.inside.cylinders.now c.self.inside.copies.items) reported in
    rw (found, ← c.self.view_is, c.end_seek.ensures.after) refl

pub returns-in-None-clause-status : goal.returns-in-None-clause-status
returns-in-None-clause-status c =
    let bytes = c.self.inside.panel.bytes in
    let reported : sought (length c.self.inside.cylinders.now) bytes ≡ None = ap (λ n. sought n bytes) (sym refl)
    ∙ sym c.sought.ensures ∙ c.in-None.is in
    let found : seek_of c.args.self.now ≡ None = rw (
      ← c.self.view_is,
      overlaid_long c.self.inside.cylinders.now c.self.inside.copies.items,
    ) reported in
    rw found c.fail.ensures.status

pub returns-in-None-clause-after : goal.returns-in-None-clause-after
returns-in-None-clause-after c =
    let bytes = c.self.inside.panel.bytes in
    let reported : sought (length c.self.inside.cylinders.now) bytes ≡ None = ap (λ n. sought n bytes) (sym refl)
    ∙ sym c.sought.ensures ∙ c.in-None.is in
    let found : seek_of c.args.self.now ≡ None = rw (
      ← c.self.view_is,
      overlaid_long c.self.inside.cylinders.now c.self.inside.copies.items,
    ) reported in
    rw (found, ← c.self.view_is, c.fail.ensures.after) refl

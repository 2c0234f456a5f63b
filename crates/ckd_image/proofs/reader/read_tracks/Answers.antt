use Rattle.std.proofs.Common.{◌≡◌, ◌<◌, ◌+◌, ◌*◌, ◌/◌, ◌%◌, length, get_or, subst, ap, ◌∙◌, arith}
use Rattle.ckd_volume.specs.Front.{no_track}
use Rattle.ckd_image.specs.Reading.{all_tracks}
use Rattle.ckd_image.specs.Parts.{IsTrackFault}
use Rattle.ckd_image.specs.declared.faults.ImageError.TheVariants.{BadTrack}
use Rattle.ckd_image.proofs.Volumes.{no_tracks, one_more_track, track_among, wrong_track}
use Rattle.ckd_image.proofs.reader.read_tracks.Goals as goal

pub loop-number-init : goal.loop-number-init
loop-number-init c = no_tracks c.args.volume.now c.args.bytes.now c.requires

pub read_track_of-requires-clause-blank : goal.read_track_of-requires-clause-blank
read_track_of-requires-clause-blank c =
    let k = c.loop-number.number in
    let cs = c.loop-number.volume.cylinders in
    let lt : k / 19 < length cs = omega (
      arith,
      c.loop-number-test.true,
      c.count-number-end.ensures.count,
      c.loop-number.invariant.cylinders,
    ) in
    let at : 19 * (k / 19) + k % 19 ≡ k = omega arith in
    ap (λ t. t.records) (track_among cs (k / 19) (k % 19) c.loop-number.invariant.heads lt (omega arith))
    ∙ (ap (λ i. (get_or (all_tracks cs) i no_track).records) at ∙ c.loop-number.invariant.blank k (omega arith))

pub returns-in-Err-Full-clause-err : goal.returns-in-Err-Full-clause-err
returns-in-Err-Full-clause-err c =
    let k = c.loop-number.number in
    let lt : k < 19 * length c.args.volume.now.cylinders = omega
    (arith, c.loop-number-test.true, c.count-number-end.ensures.count) in
    let at : k ≡ 19 * (k / 19) + k % 19 = omega arith in
    wrong_track c.args.volume.now c.loop-number.volume k c.args.bytes.now c.loop-number.rest.now
    (BadTrack (k / 19) (k % 19)) c.loop-number.invariant lt
    (at, omega arith, subst (IsTrackFault c.loop-number.rest.now) c.in-Err-Full.field-0-is c.in-Err-Full.ensures.err)

pub loop-number-preserved : goal.loop-number-preserved
loop-number-preserved c =
    let k = c.loop-number.number in
    let cs = c.loop-number.volume.cylinders in
    let lt : k / 19 < length cs = omega (
      arith,
      c.loop-number-test.true,
      c.count-number-end.ensures.count,
      c.loop-number.invariant.cylinders,
    ) in
    one_more_track c.args.volume.now c.loop-number.volume c.read_track_of.new.volume k (k / 19)
    (k % 19) c.args.bytes.now c.loop-number.rest.now c.in-Ok.behind.now
    c.loop-number.invariant lt (omega arith) (omega arith) c.in-Ok.ensures.ok

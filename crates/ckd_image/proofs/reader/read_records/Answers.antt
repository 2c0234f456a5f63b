use Rattle.std.proofs.Common.{◌≡◌, ◌+◌, true, false, Result, Ok, Err, OnOk, OnErr, is_ok, subst, sym, ◌∙◌}
use Rattle.std.proofs.lemmas.Bool.{false≢true, true≢false}
use Rattle.ckd_image.specs.Parts.{ReadRecords, record_with}
use Rattle.ckd_image.proofs.Tracks.{tried, passed}
use Rattle.ckd_image.proofs.reader.read_records.Goals as goal
use Rattle.ckd_image.proofs.reader.read_records.Goals.{then-fits, else-fits}

when_ok : {A E P : Type 0} (r : Result A E) → OnOk r P → is_ok r ≡ true → P
when_ok (Ok a) h e = h
when_ok (Err x) h e = absurd (false≢true e)

when_err : {A E P : Type 0} (r : Result A E) → OnErr r P → is_ok r ≡ false → P
when_err (Ok a) h e = absurd (true≢false e)
when_err (Err x) h e = h

pub loop-preserved : goal.loop-preserved
loop-preserved c = elim c.if-fits.branch [
  | then-fits w ↦
      let ok = w.fits-is ∙ w.is_ok-fits.ensures.value in
      tried c.args.track.now c.loop.track c.if-fits.track c.loop.counter c.args.bytes.now c.loop.rest.now
      (subst (λ b. ReadRecords c.args.track.now c.loop.track c.loop.counter c.args.bytes.now b c.loop.rest.now)
      w.if-fits.true c.loop.invariant)
      (record_with c.in_ok-record.record.id c.in_ok-record.record.key.now c.in_ok-record.record.content.now)
      c.in_ok-record.behind.now c.in_ok-record.ensures.some
      c.if-fits.fits (ok ∙ w.push.ensures.cases)
      (λ t. w.track-is ∙ when_ok w.push.result w.push.ensures.ok (sym ok ∙ t))
      (λ f. w.track-is ∙ when_err w.push.result w.push.ensures.err (sym ok ∙ f))
  | else-fits w ↦
      let same = w.fits-is ∙ w.if-fits.false in
      let step = passed c.args.track.now c.loop.track c.loop.counter c.args.bytes.now c.loop.rest.now
      (subst (λ b. ReadRecords c.args.track.now c.loop.track c.loop.counter c.args.bytes.now b c.loop.rest.now)
      w.if-fits.false c.loop.invariant)
      (record_with c.in_ok-record.record.id c.in_ok-record.record.key.now c.in_ok-record.record.content.now)
      c.in_ok-record.behind.now c.in_ok-record.ensures.some in
      subst (λ b. ReadRecords c.args.track.now c.if-fits.track
      (c.loop.counter + 1) c.args.bytes.now b c.in_ok-record.behind.now) (sym same)
      (subst (λ t. ReadRecords c.args.track.now t (c.loop.counter + 1) c.args.bytes.now false c.in_ok-record.behind.now)
      (sym w.track-is) step)
]

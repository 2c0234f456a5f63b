use Rattle.std.proofs.Common.{ℕ, List, inl, inr, refl, subst}
use Rattle.std.proofs.lemmas.Result.{err_from_is_err_and}
use Rattle.ckd_text.specs.Text.{IsRefusal, volume_of}
use Rattle.ckd_text.proofs.Hosts.{stated, unwritten}
use Rattle.ckd_text.proofs.mkvol.make_image.Goals as goal

pub returns-in_err-file-clause-err : goal.returns-in_err-file-clause-err
returns-in_err-file-clause-err g c =
    let p = err_from_is_err_and c.from_residual.result c.from_residual.ensures.1 in
    rw (p.1, p.2) (inl (inl (record {
      fault = c.in_err-file.field-0.0;
      withheld = (c.in_err-file.ensures.err, c.in_err-file.ensures.missed);
      reported = refl;
    })))

pub returns-in_err-text-clause-err : goal.returns-in_err-text-clause-err
returns-in_err-text-clause-err g c =
    let p = err_from_is_err_and c.from_residual-in_err-text.result c.from_residual-in_err-text.ensures.1 in
    rw (p.1, p.2) (inl (inr (inl (record {
      first = c.in_ok-file.file;
      last = c.read_all.new.reader;
      given = (c.in_ok-file.ensures.ok, c.in_ok-file.ensures.opened);
      used = (c.in_err-text.field-0.0, c.in_err-text.ensures.counts, refl);
    }))))

pub returns-in_err-volume-clause-err : goal.returns-in_err-volume-clause-err
returns-in_err-volume-clause-err g c =
    let error = c.in_err-volume.field-0.0 in
    let p = err_from_is_err_and c.from_residual-in_err-volume.result c.from_residual-in_err-volume.ensures.1 in
    rw (p.1, p.2) (inl (inr (inr (record {
      text = c.in_ok-text.text.items;
      read = record {
        first = c.in_ok-file.file;
        last = c.read_all.new.reader;
        given = (c.in_ok-file.ensures.ok, c.in_ok-file.ensures.opened);
        used = (c.in_ok-text.ensures.ok, c.in_ok-text.ensures.end);
      };
      error = error;
      refused = subst (λ (text : List ℕ). IsRefusal (volume_of text) error) c.deref.ensures.value
          c.in_err-volume.ensures.err;
      reported = refl;
    }))))

pub returns-in_err-image-clause-err : goal.returns-in_err-image-clause-err
returns-in_err-image-clause-err g c =
    let p = err_from_is_err_and c.from_residual-in_err-image.result c.from_residual-in_err-image.ensures.1 in
    rw (p.1, p.2) (inr (record {
      volume = c.in_ok-volume.volume;
      between = g.H.ProgramHost.deeds c.open.new.self;
      stated = stated _ _ _ _ _ _ c.in_ok-file.file c.read_all.new.reader c.in_ok-text.text.items c.deref.result.now
          (c.in_ok-file.ensures.ok, c.in_ok-file.ensures.opened) (c.in_ok-text.ensures.ok, c.in_ok-text.ensures.end)
          c.deref.ensures.value
          c.in_ok-volume.ensures.ok;
      failed = inl (record {
        fault = c.in_err-image.field-0.0;
        withheld = c.in_err-image.ensures.err;
        reported = refl;
      });
    }))

pub returns-in_err-write_image-clause-err : goal.returns-in_err-write_image-clause-err
returns-in_err-write_image-clause-err g c =
    let p = err_from_is_err_and c.from_residual-in_err-write_image.result
    c.from_residual-in_err-write_image.ensures.1 in
    rw (p.1, p.2) (inr (record {
      volume = c.in_ok-volume.volume;
      between = g.H.ProgramHost.deeds c.open.new.self;
      stated = stated _ _ _ _ _ _ c.in_ok-file.file c.read_all.new.reader c.in_ok-text.text.items c.deref.result.now
          (c.in_ok-file.ensures.ok, c.in_ok-file.ensures.opened) (c.in_ok-text.ensures.ok, c.in_ok-text.ensures.end)
          c.deref.ensures.value
          c.in_ok-volume.ensures.ok;
      failed = inr (record {
        first = c.in_ok-image.image;
        last = c.write_image.new.writer;
        given = (c.in_ok-image.ensures.ok, c.in_ok-image.ensures.created);
        used = (
          c.in_err-write_image.ensures.err,
          unwritten g.H.Image.HostFile.failures c.in_ok-image.image c.write_image.new.writer
              c.in_err-write_image.field-0.0 c.in_err-write_image.ensures.counts,
        );
      });
    }))

pub returns-clause-ok : goal.returns-clause-ok
returns-clause-ok g c = record {
  volume = c.in_ok-volume.volume;
  between = g.H.ProgramHost.deeds c.open.new.self;
  stated = stated _ _ _ _ _ _ c.in_ok-file.file c.read_all.new.reader c.in_ok-text.text.items c.deref.result.now
      (c.in_ok-file.ensures.ok, c.in_ok-file.ensures.opened) (c.in_ok-text.ensures.ok, c.in_ok-text.ensures.end)
      c.deref.ensures.value
      c.in_ok-volume.ensures.ok;
  written = record {
    first = c.in_ok-image.image;
    last = c.write_image.new.writer;
    given = (c.in_ok-image.ensures.ok, c.in_ok-image.ensures.created);
    used = (c.in_ok-write_image.ensures.ok, c.in_ok-write_image.ensures.flushed);
  };
}

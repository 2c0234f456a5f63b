use Rattle.std.proofs.Common.{◌∙◌, ℕ, List, inl, inr, refl, subst}
use Rattle.std.proofs.lemmas.Result.{err_from_is_err_and}
use Rattle.std.specs.Io.KnownBytes.{Appends}
use Rattle.s370_num.specs.Host.{AppendsFront}
use Rattle.s370_num.specs.declared.host.HostFault.TheVariants as hosts
use Rattle.ckd_image.proofs.Parts.{appended_kept}
use Rattle.ckd_text.proofs.Hosts.{unflushed}
use Rattle.ckd_text.proofs.trackmap.print_map.Goals as goal

pub returns-in_err-file-clause-err : goal.returns-in_err-file-clause-err
returns-in_err-file-clause-err g c =
    let p = err_from_is_err_and c.from_residual.result c.from_residual.ensures.1 in
    rw (p.1, p.2) (inl (inl (record {
      fault = c.in_err-file.field-0.0;
      withheld = (c.in_err-file.ensures.err, c.in_err-file.ensures.missed);
      reported = refl;
    })))

pub returns-in_err-volume-clause-err : goal.returns-in_err-volume-clause-err
returns-in_err-volume-clause-err g c =
    let p = err_from_is_err_and c.from_residual-in_err-volume.result c.from_residual-in_err-volume.ensures.1 in
    rw (p.1, p.2) (inl (inr (record {
      first = c.in_ok-file.file;
      last = c.read_image.new.reader;
      given = (c.in_ok-file.ensures.ok, c.in_ok-file.ensures.opened);
      used = record {
        error = c.in_err-volume.field-0.0;
        read = c.in_err-volume.ensures.reads;
        counted = c.in_err-volume.ensures.counts;
        reported = refl;
      };
    })))

pub returns-in_err-map-clause-err : goal.returns-in_err-map-clause-err
returns-in_err-map-clause-err g c =
    let p = err_from_is_err_and c.from_residual-in_err-map.result c.from_residual-in_err-map.ensures.1 in
    rw (p.1, p.2) (inr (record {
      volume = c.in_ok-volume.volume;
      between = g.H.ProgramHost.deeds c.open.new.self;
      read = record {
        first = c.in_ok-file.file;
        last = c.read_image.new.reader;
        given = (c.in_ok-file.ensures.ok, c.in_ok-file.ensures.opened);
        used = c.in_ok-volume.ensures.reads;
      };
      failed = inl (refl, refl);
    }))

pub returns-in_err-output-clause-err : goal.returns-in_err-output-clause-err
returns-in_err-output-clause-err g c =
    let p = err_from_is_err_and c.from_residual-in_err-output.result c.from_residual-in_err-output.ensures.1 in
    rw (p.1, p.2) (inr (record {
      volume = c.in_ok-volume.volume;
      between = g.H.ProgramHost.deeds c.open.new.self;
      read = record {
        first = c.in_ok-file.file;
        last = c.read_image.new.reader;
        given = (c.in_ok-file.ensures.ok, c.in_ok-file.ensures.opened);
        used = c.in_ok-volume.ensures.reads;
      };
      failed = inr (inl (record {
        fault = hosts.Memory;
        withheld = (refl, c.output.ensures.deeds);
        reported = refl;
      }));
    }))

pub returns-in_err-write_all-clause-err : goal.returns-in_err-write_all-clause-err
returns-in_err-write_all-clause-err g c =
    let contents = g.H.Output.HostWriter.contents in
    let a = contents c.in_ok-output.output in
    let b = contents c.write_all.new.writer in
    let same = c.deref.ensures.value ∙ c.in_ok-map.ensures in
    let p = err_from_is_err_and c.from_residual-in_err-write_all.result c.from_residual-in_err-write_all.ensures.1 in
    rw (p.1, p.2) (inr (record {
      volume = c.in_ok-volume.volume;
      between = g.H.ProgramHost.deeds c.open.new.self;
      read = record {
        first = c.in_ok-file.file;
        last = c.read_image.new.reader;
        given = (c.in_ok-file.ensures.ok, c.in_ok-file.ensures.opened);
        used = c.in_ok-volume.ensures.reads;
      };
      failed = inr (inr (record {
        first = c.in_ok-output.output;
        last = c.write_all.new.writer;
        given = (c.in_ok-output.ensures.ok, c.output.ensures.deeds);
        used = (
          subst (λ (bytes : List ℕ). AppendsFront a b bytes) same c.in_err-write_all.ensures.err,
          (c.in_err-write_all.field-0.0, c.in_err-write_all.ensures.counts, refl),
        );
      }));
    }))

pub returns-in_err-flush-clause-err : goal.returns-in_err-flush-clause-err
returns-in_err-flush-clause-err g c =
    let contents = g.H.Output.HostWriter.contents in
    let count = g.H.Output.HostFile.failures in
    let a = contents c.in_ok-output.output in
    let b = contents c.write_all.new.writer in
    let same = c.deref.ensures.value ∙ c.in_ok-map.ensures in
    let p = err_from_is_err_and c.from_residual-in_err-flush.result c.from_residual-in_err-flush.ensures.1 in
    rw (p.1, p.2) (inr (record {
      volume = c.in_ok-volume.volume;
      between = g.H.ProgramHost.deeds c.open.new.self;
      read = record {
        first = c.in_ok-file.file;
        last = c.read_image.new.reader;
        given = (c.in_ok-file.ensures.ok, c.in_ok-file.ensures.opened);
        used = c.in_ok-volume.ensures.reads;
      };
      failed = inr (inr (record {
        first = c.in_ok-output.output;
        last = c.flush.new.self;
        given = (c.in_ok-output.ensures.ok, c.output.ensures.deeds);
        used = unflushed contents count c.in_ok-output.output c.write_all.new.writer c.flush.new.self _
            c.in_err-flush.field-0.0
            (subst (λ (bytes : List ℕ). Appends a b bytes) same c.in_ok-write_all.ensures.ok)
            c.in_ok-write_all.ensures.counts c.in_err-flush.ensures.bytes c.in_err-flush.ensures.counts;
      }));
    }))

pub returns-clause-ok : goal.returns-clause-ok
returns-clause-ok g c =
    let contents = g.H.Output.HostWriter.contents in
    let a = contents c.in_ok-output.output in
    let b = contents c.write_all.new.writer in
    let d = contents c.flush.new.self in
    let same = c.deref.ensures.value ∙ c.in_ok-map.ensures in
    record {
      volume = c.in_ok-volume.volume;
      between = g.H.ProgramHost.deeds c.open.new.self;
      read = record {
        first = c.in_ok-file.file;
        last = c.read_image.new.reader;
        given = (c.in_ok-file.ensures.ok, c.in_ok-file.ensures.opened);
        used = c.in_ok-volume.ensures.reads;
      };
      printed = record {
        first = c.in_ok-output.output;
        last = c.flush.new.self;
        given = (c.in_ok-output.ensures.ok, c.output.ensures.deeds);
        used = (
          appended_kept a b d _ (subst (λ (bytes : List ℕ). Appends a b bytes) same c.in_ok-write_all.ensures.ok)
              c.in_ok-flush.ensures.bytes,
          c.in_ok-flush.ensures.flushed,
        );
      };
    }

use Rattle.std.proofs.Common.{List, ℕ, subst}
use Rattle.std.specs.Io.KnownBytes.{Appends}
use Rattle.ckd_image.proofs.Parts.{appended_kept}
use Rattle.frame_map.proofs.program.print_map.Goals as goal

pub returns : goal.returns
returns g c =
    let contents = g.H.Output.HostWriter.contents in
    let a = contents c.in_ok-output.output in
    let b = contents c.write_all.new.writer in
    let d = contents c.flush.new.self in
    record {
      text = c.in_ok-map.map.items;
      map = c.in_ok-map.ensures;
      first = c.in_ok-output.output;
      last = c.flush.new.self;
      given = c.in_ok-output.ensures.ok;
      asked = c.output.ensures.deeds;
      written = appended_kept a b d _
          (subst (λ (bytes : List ℕ). Appends a b bytes) c.deref.ensures.value c.in_ok-write_all.ensures.ok)
          c.in_ok-flush.ensures.bytes;
      flushed = c.in_ok-flush.ensures.flushed;
    }

use Rattle.std.proofs.Common.{◌≤◌, length, take, drop, arith, length-drop, ◌∙◌}
use Rattle.std.proofs.Math.Seq.{take-add}
use Rattle.std.proofs.lemmas.List.{take_rest}
use Rattle.std.proofs.KnownBytes.{Appends-trans}
use Rattle.s370_num.proofs.host.write_all.Goals as goal

pub loop-done-preserved : goal.loop-done-preserved
loop-done-preserved g c =
    let contents = g.W.HostWriter.contents in
    let bytes = c.args.bytes.now in
    let done = c.loop-done.done in
    let count = c.in_ok-done.field-0 in
    let rest = take_rest bytes done in
    let bound : count ≤ length (drop done bytes) = rw rest at c.in_ok-done.ensures.bound in
    record {
      within = omega (arith, length-drop done bytes);
      written =
          let taken = rw rest at c.in_ok-done.ensures.bytes in
          rw (take-add done count bytes) (Appends-trans (contents c.args.writer.now) (contents c.loop-done.writer)
          (contents c.write.new.self) (take done bytes) (take count (drop done bytes)) c.loop-done.invariant.written
          taken);
      same = c.in_ok-done.ensures.counts ∙ c.loop-done.invariant.same;
    }

use Rattle.std.proofs.Common.{◌≡◌, ◌≤◌, ◌-◌, length, take}
use Rattle.std.specs.Io.KnownBytes.{Appends}
use Rattle.s370_num.proofs.host.write_all.Given as goal

abbrev pub invariant-loop-done : goal.invariant-loop-done
invariant-loop-done g l = record {
  within : l.done ≤ length l.bytes;
  written : Appends (g.W.HostWriter.contents l.fn.writer) (g.W.HostWriter.contents l.writer) (take l.done l.bytes);
  same : g.W.HostFile.failures l.writer ≡ g.W.HostFile.failures l.fn.writer;
}

abbrev pub decreases-loop-done : goal.decreases-loop-done
decreases-loop-done g l = length l.bytes - l.done

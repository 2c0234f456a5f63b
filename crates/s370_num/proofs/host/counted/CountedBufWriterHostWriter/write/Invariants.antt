use Rattle.std.proofs.Common.{◌≡◌}
use Rattle.std.specs.Io.Buffered.{writer_contents}
use Rattle.std.specs.Io.KnownBytes.{Keeps}
use Rattle.s370_num.proofs.host.counted.CountedBufWriterHostWriter.write.Given as goal

abbrev pub invariant-tries : goal.invariant-tries
invariant-tries g l = record {
  kept : Keeps (writer_contents g.W.Write.contents l.fn.self.file) (writer_contents g.W.Write.contents l.self.file);
  same : l.self.failures ≡ l.fn.self.failures;
}

use Rattle.std.proofs.Common.{◌≡◌}
use Rattle.std.specs.Io.KnownBytes.{Keeps}
use Rattle.s370_num.proofs.host.counted.CountedHostReader.read.Given as goal

abbrev pub invariant-tries : goal.invariant-tries
invariant-tries g l = record {
  kept : Keeps (g.R.Read.remaining l.fn.self.file) (g.R.Read.remaining l.self.file);
  same : l.self.failures ≡ l.fn.self.failures;
}

use Rattle.std.proofs.Common.{◌≡◌, ◌-◌, ◌^◌, vec_len}
use Rattle.std.specs.Io.KnownBytes.{Consumes}
use Rattle.s370_num.proofs.host.read_all.Given as goal

abbrev pub invariant-reads : goal.invariant-reads
invariant-reads g l = record {
  read : Consumes (g.R.HostReader.remaining l.fn.reader) (g.R.HostReader.remaining l.reader) l.all.items;
  same : g.R.HostFile.failures l.reader ≡ g.R.HostFile.failures l.fn.reader;
}

abbrev pub decreases-reads : goal.decreases-reads
decreases-reads g l = 2 ^ 64 - vec_len l.all

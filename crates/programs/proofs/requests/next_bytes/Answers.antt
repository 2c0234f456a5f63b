use Rattle.std.proofs.Common.{◌++◌}
use Rattle.std.proofs.KnownBytes.{Consumes-trans}
use Rattle.s370_num.specs.declared.host.HostFault.TheVariants as hosts
use Rattle.programs.specs.Requests.{FailsToRead, IsShortOf}
use Rattle.programs.proofs.Unreadable.{fails, if_err}
use Rattle.programs.proofs.requests.next_bytes.Goals as goal

pub returns-in_err-extend_from_slice-clause-err : goal.returns-in_err-extend_from_slice-clause-err
returns-in_err-extend_from_slice-clause-err g c =
    let left = g.R.HostReader.remaining in
    let count = g.R.HostFile.failures in
    if_err (FailsToRead (IsShortOf c.args.count) (left c.args.reader.now) (left c.read.new.self)
    (count c.args.reader.now) (count c.read.new.self)) hosts.Memory
    c.from_residual-in_err-extend_from_slice.result c.from_residual-in_err-extend_from_slice.ensures.1
    (fails (IsShortOf c.args.count) (left c.args.reader.now) (left c.read.new.self) (c.reads.bytes.items ++ _) _ _ _
    hosts.Memory
    (Consumes-trans _ _ _ c.reads.bytes.items _ c.reads.invariant.read c.in_ok-got.ensures.bytes.0)
    c.reads.invariant.same c.in_ok-got.ensures.counts)

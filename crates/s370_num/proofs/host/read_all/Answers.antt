use Rattle.std.proofs.Common.{◌++◌, take, Result, Ok, Err}
use Rattle.std.specs.Prelude.{OnErr}
use Rattle.std.proofs.KnownBytes.{Consumes-trans}
use Rattle.s370_num.specs.Host.{ReadsFront}
use Rattle.s370_num.proofs.host.read_all.Goals as goal

-- what holds in any case holds of an error
on_err : {A E : Type 0} (result : Result A E) (P : Type 0) → P → OnErr result P
on_err (Ok value) P holds = tt
on_err (Err error) P holds = holds

pub returns-in_err-extend_from_slice-clause-err : goal.returns-in_err-extend_from_slice-clause-err
returns-in_err-extend_from_slice-clause-err g c =
    let left = g.R.HostReader.remaining in
    let got = take c.in_ok-count.count c.read.new.buf in
    let read : ReadsFront (left c.args.reader.now) (left c.read.new.self) = (
      c.reads.all.items ++ got,
      Consumes-trans (left c.args.reader.now) (left c.reads.reader)
          (left c.read.new.self) c.reads.all.items got c.reads.invariant.read c.in_ok-count.ensures.bytes.0,
    ) in
    on_err _ _ read

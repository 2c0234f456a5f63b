use Rattle.std.proofs.Common.{◌≡◌, ◌++◌, take}
use Rattle.machine_devices.proofs.serve.print_written.Given as goal

-- so many of the lines were printed
abbrev pub invariant-loop-line : goal.invariant-loop-line
invariant-loop-line l = l.machine
    ≡ record l.initial.machine {
      output = l.initial.machine.output ++ take l.line-index l.line-items;
      room = l.machine.room;
    }

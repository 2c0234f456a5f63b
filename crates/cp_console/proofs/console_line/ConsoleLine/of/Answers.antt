use Rattle.std.proofs.Common.{◌≡◌}
use Rattle.cp_console.proofs.ConsoleLines.{taken}
use Rattle.cp_console.proofs.console_line.ConsoleLine.of.Goals as goal

pub returns : goal.returns
returns c = taken c.args.text.now c.copy_from_slice.new.self _ c.min-length.result c.min-length.ensures
    c.copy_from_slice.ensures.after

use Rattle.std.proofs.Common.{arith, sym}
use Rattle.std.proofs.lemmas.Grind.{common_steps}
use Rattle.saved_bytes.specs.Codes.{bytes}
use Rattle.saved_bytes.proofs.Codes.{each_got}
use Rattle.cp_console.proofs.output.ConsoleOutput.save.Goals as goal

pub loop-line-preserved : goal.loop-line-preserved
loop-line-preserved c =
    grind (
      arith,
      common_steps,
      each_got bytes c.loop-line.out.items c.args.self.now.lines c.loop-line.line c.in-Some.text.now
          (sym c.in-Some.ensures),
    )

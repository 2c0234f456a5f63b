use Rattle.std.proofs.Common.{◌≡◌, sym, ◌∙◌, ap, length, ◌==◌}
use Rattle.cp_console.specs.Output.{Printed}
use Rattle.cp_console.proofs.Cuts.{lines_count}
use Rattle.cp_console.proofs.output.ConsoleOutput.is_empty.Goals as goal

pub returns : goal.returns
returns c =
    let i = c.self.inside in
    c.is_empty.ensures ∙ ap (λ n. n == 0)
    (i.ends.ok.0 ∙ sym (lines_count 0 i.text.items i.ends.items) ∙ ap (λ (p : Printed). length p.lines)
    c.self.view_is)

use Rattle.std.proofs.Common.{rules, ◌≡◌, ◌+◌, ◌≤◌, ◌++◌, [], ◌∷◌, sym, ◌∙◌, ap, arith, length}
use Rattle.std.proofs.lemmas.List.{length-append}
use Rattle.cp_console.specs.Output.{Printed}
use Rattle.cp_console.specs.Responses.{text_of}
use Rattle.cp_console.proofs.Cuts.{cut_added, lines_added}
use Rattle.cp_console.proofs.output.ConsoleOutput.print.Goals as goal

pub invariant_of-self : goal.invariant_of-self
invariant_of-self c =
    let i = c.self.inside in
    let line = text_of c.args.response.now in
    let long : length c.add_text.new.text.items ≡ length i.text.items + length line =
    ap length c.add_text.ensures.items ∙ length-append i.text.items line in
    let end : c.len.result ≡ length c.add_text.new.text.items = c.len.ensures ∙ c.add_text.new.text.ok.0 in
    let more : length i.text.items ≤ c.len.result = omega (arith, long, end) in (
      rw (c.push_reserved.ensures.items, ← end)
          (cut_added 0 i.ends.items (length i.text.items) c.len.result more c.self.invariant.0),
      search rules,
      search rules,
    )

pub returns-clause-lines : goal.returns-clause-lines
returns-clause-lines c =
    let i = c.self.inside in
    let line = text_of c.args.response.now in
    let long : length c.add_text.new.text.items ≡ length i.text.items + length line =
    ap length c.add_text.ensures.items ∙ length-append i.text.items line in
    let end : c.len.result ≡ length i.text.items + length line = c.len.ensures ∙ c.add_text.new.text.ok.0 ∙ long in
    rw (c.push_reserved.ensures.items, c.add_text.ensures.items)
    (lines_added 0 i.text.items i.ends.items line c.len.result end c.self.invariant.0 ∙ ap
    (λ (p : Printed). p.lines ++ line ∷ []) c.self.view_is)

use Rattle.std.proofs.Common.{rules, ◌≡◌, ◌+◌, ◌≤◌, ◌++◌, sym, ◌∙◌, ap, arith, length}
use Rattle.std.proofs.lemmas.List.{length-append}
use Rattle.cp_console.proofs.Cuts.{cut_added}
use Rattle.cp_console.proofs.output.ConsoleOutput.add_line.Goals as goal

pub invariant_of-self-2 : goal.invariant_of-self-2
invariant_of-self-2 c =
    let i = c.self.inside in
    let line = c.args.text.now in
    let items : c.extend_from_slice.new.self.items ≡ i.text.items ++ line = c.in_ok-extend_from_slice.ensures.items in
    let ends : c.reserve.new.self.items ≡ i.ends.items = c.in_ok-reserve.ensures.items in
    let long : length c.extend_from_slice.new.self.items ≡ length i.text.items + length line =
    ap length items ∙ length-append i.text.items line in
    let end : c.len.result ≡ length c.extend_from_slice.new.self.items =
    c.len.ensures ∙ c.extend_from_slice.new.self.ok.0 in
    let more : length i.text.items ≤ c.len.result = omega (arith, long, end) in (
      rw (c.push_reserved.ensures.items, ends, ← end)
          (cut_added 0 i.ends.items (length i.text.items) c.len.result more c.self.invariant.0),
      search rules,
      search rules,
    )

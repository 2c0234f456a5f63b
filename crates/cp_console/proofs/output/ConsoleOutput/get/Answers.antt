use Rattle.std.proofs.Common.{◌≡◌, ◌<◌, ◌≤◌, ◌∷◌, ℕ, List, sym, ◌∙◌, ap, subst, arith, length, slice_get}
use Rattle.std.proofs.Common.{slice_index_or, slice_range, Some}
use Rattle.cp_console.specs.Output.{Printed}
use Rattle.cp_console.proofs.Cuts.{cut_at, line_at, no_line_at}
use Rattle.cp_console.proofs.output.ConsoleOutput.get.Goals as goal

pub returns-in_default : goal.returns-in_default
returns-in_default c =
    let i = c.self.inside in
    let gone : length c.deref.result.now ≤ c.args.line = grind (arith, c.in_default.ensures.lookup.0) in
    let past : length i.ends.items ≤ c.args.line =
    subst (λ (l : List ℕ). length l ≤ c.args.line) c.deref.ensures.value gone in
    sym (no_line_at 0 i.text.items i.ends.items c.args.line past) ∙ ap (λ (p : Printed). slice_get p.lines c.args.line)
    c.self.view_is

pub part_of-requires-clause-start : goal.part_of-requires-clause-start
part_of-requires-clause-start c =
    let i = c.self.inside in
    let lt : c.args.line < length c.deref.result.now = grind (arith, c.in-Some.ensures.lookup.0) in
    let inside : c.args.line < length i.ends.items =
    subst (λ (l : List ℕ). c.args.line < length l) c.deref.ensures.value lt in
    let at = cut_at 0 i.ends.items (length i.text.items) c.args.line c.in-Some.end.now inside c.self.invariant.0 in
    let start : c.start_of-start.result ≡ slice_index_or (0 ∷ i.ends.items) c.args.line 0 =
    c.start_of-start.ensures ∙ ap (λ (l : List ℕ). slice_index_or (0 ∷ l) c.args.line 0) c.deref-2.ensures.value in
    let end : c.in-Some.end.now ≡ slice_index_or i.ends.items c.args.line c.in-Some.end.now =
    c.in-Some.ensures.lookup.1 ∙ ap (λ (l : List ℕ). slice_index_or l c.args.line c.in-Some.end.now)
    c.deref.ensures.value in
    omega (arith, start, end, at.0)

pub part_of-requires-clause-end : goal.part_of-requires-clause-end
part_of-requires-clause-end c =
    let i = c.self.inside in
    let lt : c.args.line < length c.deref.result.now = grind (arith, c.in-Some.ensures.lookup.0) in
    let inside : c.args.line < length i.ends.items =
    subst (λ (l : List ℕ). c.args.line < length l) c.deref.ensures.value lt in
    let at = cut_at 0 i.ends.items (length i.text.items) c.args.line c.in-Some.end.now inside c.self.invariant.0 in
    let end : c.in-Some.end.now ≡ slice_index_or i.ends.items c.args.line c.in-Some.end.now =
    c.in-Some.ensures.lookup.1 ∙ ap (λ (l : List ℕ). slice_index_or l c.args.line c.in-Some.end.now)
    c.deref.ensures.value in
    let size : length c.deref-3.result.now ≡ length i.text.items = ap length c.deref-3.ensures.value in
    omega (arith, end, size, at.1)

pub returns : goal.returns
returns c =
    let i = c.self.inside in
    let lt : c.args.line < length c.deref.result.now = grind (arith, c.in-Some.ensures.lookup.0) in
    let inside : c.args.line < length i.ends.items =
    subst (λ (l : List ℕ). c.args.line < length l) c.deref.ensures.value lt in
    let start : c.start_of-start.result ≡ slice_index_or (0 ∷ i.ends.items) c.args.line 0 =
    c.start_of-start.ensures ∙ ap (λ (l : List ℕ). slice_index_or (0 ∷ l) c.args.line 0) c.deref-2.ensures.value in
    let end : c.in-Some.end.now ≡ slice_index_or i.ends.items c.args.line c.in-Some.end.now =
    c.in-Some.ensures.lookup.1 ∙ ap (λ (l : List ℕ). slice_index_or l c.args.line c.in-Some.end.now)
    c.deref.ensures.value in
    ap Some (c.part_of.ensures ∙ ap (λ (l : List ℕ). slice_range l c.start_of-start.result c.in-Some.end.now)
    c.deref-3.ensures.value
    ∙ ap (λ n. slice_range i.text.items n c.in-Some.end.now) start
    ∙ ap (slice_range i.text.items (slice_index_or (0 ∷ i.ends.items) c.args.line 0)) end)
    ∙ sym (line_at 0 i.text.items i.ends.items c.args.line c.in-Some.end.now inside)
    ∙ ap (λ (p : Printed). slice_get p.lines c.args.line) c.self.view_is

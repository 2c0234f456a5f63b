use Rattle.std.proofs.Common.{rules, ◌≡◌, ◌+◌, ◌*◌, ◌/◌, ◌%◌, ◌≤◌, ◌<◌, ◌∙◌, ℕ, List, length, get_or, ap, sym, arith}
use Rattle.std.proofs.lemmas.List.{get_or_read}
use Rattle.std.specs.Prelude.{slice_range}
use Rattle.cp_dat.specs.Sparse.{place_in}
use Rattle.cp_dat.proofs.SparsePages.{length-sparse, part_sparse}
use Rattle.cp_dat.proofs.sparse.SparseBytes.read_in_page.Goals as goal

pub index-requires : goal.index-requires
index-requires c =
    let f = c.self.inside in
    let count : length c.args.self.now ≡ 4096 * length f.places.items =
    ap length (sym c.self.view_is) ∙ length-sparse f.written.items f.places.items in
    omega (arith, count, c.requires.inside, c.requires.some, f.places.ok.0)

pub slice_bounds-copy_from_slice-end : goal.slice_bounds-copy_from_slice-end
slice_bounds-copy_from_slice-end c =
    let f = c.self.inside in
    let count : length c.args.self.now ≡ 4096 * length f.places.items =
    ap length (sym c.self.view_is) ∙ length-sparse f.written.items f.places.items in
    let low : c.args.start / 4096 < length f.places.items =
    omega (arith, count, c.requires.inside, c.requires.some) in
    let place : c.index.result.now ≡ get_or f.places.items (c.args.start / 4096) 0 =
    get_or_read f.places.items _ _ low c.index.ensures 0 in
    let inside = c.self.invariant.inside (c.args.start / 4096) in
    let size : length c.deref.result.now ≡ length f.written.items = ap length c.deref.ensures.value in
    omega (arith, place, inside, c.requires.one_page, size)

pub returns-clause-few : goal.returns-clause-few
returns-clause-few c =
    let f = c.self.inside in
    let count : length c.args.self.now ≡ 4096 * length f.places.items =
    ap length (sym c.self.view_is) ∙ length-sparse f.written.items f.places.items in
    omega (arith, count, c.self.invariant.few)

pub returns-clause-bytes : goal.returns-clause-bytes
returns-clause-bytes c =
    let f = c.self.inside in
    let start = c.args.start in
    let n : ℕ = length c.args.into.now in
    let count : length c.args.self.now ≡ 4096 * length f.places.items =
    ap length (sym c.self.view_is) ∙ length-sparse f.written.items f.places.items in
    let low : start / 4096 < length f.places.items = omega (arith, count, c.requires.inside, c.requires.some) in
    let place : c.index.result.now ≡ get_or f.places.items (start / 4096) 0 =
    get_or_read f.places.items _ _ low c.index.ensures 0 in
    let is : c.index.result.now * 4096 + start % 4096 ≡ place_in f.places.items start =
    ap (λ p. p * 4096 + start % 4096) place in
    let first : ℕ = c.index.result.now * 4096 + start % 4096 in
    let inside = c.self.invariant.inside (start / 4096) in
    c.copy_from_slice.ensures.after ∙ ap (λ xs. slice_range xs first (first + n)) c.deref.ensures.value ∙
    ap (λ p. slice_range f.written.items p (p + n)) is ∙
    part_sparse f.written.items f.places.items start n (omega (arith, count, c.requires.inside)) c.requires.one_page
    (omega (arith, inside, c.requires.one_page)) ∙ ap (λ xs. slice_range xs start (start + n)) c.self.view_is

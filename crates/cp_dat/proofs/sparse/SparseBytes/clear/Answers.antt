use Rattle.std.proofs.Common.{rules, ◌≡◌, ◌+◌, ◌*◌, ◌≤◌, ◌<◌, ◌∙◌, ℕ, List, length, get_or, replicate, ap, sym}
use Rattle.std.proofs.Common.{arith}
use Rattle.std.proofs.lemmas.List.{get_or-take, length-take-le}
use Rattle.std.specs.Vec.{vec_capacity}
use Rattle.cp_dat.specs.Sparse.{sparse_bytes}
use Rattle.cp_dat.proofs.SparsePages.{length-sparse, none_bytes, none_kept}
use Rattle.cp_dat.proofs.sparse.SparseBytes.clear.Goals as goal

pub invariant_of-self : goal.invariant_of-self
invariant_of-self c =
    let f = c.self.inside in
    let places : c.fill.new.self.items ≡ replicate (length f.places.items) 0 = search rules in
    let some = c.self.invariant.inside 0 in
    let kept = c.self.invariant.fits in
    let fits : 4096 * (length f.places.items + 1) ≤ vec_capacity c.truncate.new.self =
    omega (arith, kept, c.truncate.ensures.capacity) in
    rw places
    (none_kept c.truncate.new.self.items (length f.places.items)
    (ap length c.truncate.ensures.items ∙ length-take-le 4096 f.written.items (omega (arith, some)))
    (λ k low. ap (λ xs. get_or xs k 0) c.truncate.ensures.items ∙ get_or-take 4096 f.written.items k 0 low ∙
    c.self.invariant.blank k low) (vec_capacity c.truncate.new.self) c.self.invariant.few fits)

pub returns : goal.returns
returns c =
    let f = c.self.inside in
    let places : c.fill.new.self.items ≡ replicate (length f.places.items) 0 = search rules in
    let some = c.self.invariant.inside 0 in
    let count : length c.args.self.now ≡ 4096 * length f.places.items =
    ap length (sym c.self.view_is) ∙ length-sparse f.written.items f.places.items in
    ap (λ ps. sparse_bytes c.truncate.new.self.items ps) places ∙
    none_bytes c.truncate.new.self.items (length f.places.items)
    (ap length c.truncate.ensures.items ∙ length-take-le 4096 f.written.items (omega (arith, some)))
    (λ k low. ap (λ xs. get_or xs k 0) c.truncate.ensures.items ∙ get_or-take 4096 f.written.items k 0 low ∙
    c.self.invariant.blank k low) ∙ ap (λ n. replicate n 0) (sym count)

use Rattle.std.proofs.Common.{rules, ◌≡◌, ◌+◌, ◌*◌, ◌≤◌, ◌<◌, ◌∙◌, ◌++◌, ℕ, List, length, get_or, replicate, ap, sym}
use Rattle.std.proofs.Common.{arith, subst}
use Rattle.std.proofs.lemmas.List.{get_or-replicate, length-replicate}
use Rattle.std.specs.Vec.{vec_capacity}
use Rattle.cp_dat.specs.Sparse.{IsSparse, sparse_bytes}
use Rattle.cp_dat.proofs.SparsePages.{none_bytes, none_kept}
use Rattle.cp_dat.proofs.sparse.SparseBytes.new.Goals as goal

pub invariant_of-result : goal.invariant_of-result
invariant_of-result c =
    let written : List ℕ = c.extend_from_slice.new.self.items in
    let items : written ≡ replicate 4096 0 =
    c.in_ok-extend_from_slice.ensures.items ∙
    ap (λ (xs : List ℕ). xs ++ replicate 4096 0) c.in_ok-written.ensures.items in
    let places : c.in_ok-places.places.items ≡ replicate c.args.pages 0 = search rules in
    let before = c.in_ok-written.ensures.capacity in
    let after = c.in_ok-extend_from_slice.ensures.capacity in
    let fits : 4096 * (c.args.pages + 1) ≤ vec_capacity c.extend_from_slice.new.self = omega (arith, before, after) in
    let few : c.args.pages ≤ 4294967295 = search rules in
    let room : ℕ = vec_capacity c.extend_from_slice.new.self in
    subst (λ (ps : List ℕ). IsSparse written ps room) (sym places)
    (none_kept written c.args.pages (ap length items ∙ length-replicate {A = ℕ} 4096 0)
    (λ k low. ap (λ xs. get_or xs k 0) items ∙ get_or-replicate 4096 k 0 0 low) room few fits)

pub returns : goal.returns
returns c =
    let written : List ℕ = c.extend_from_slice.new.self.items in
    let items : written ≡ replicate 4096 0 =
    c.in_ok-extend_from_slice.ensures.items ∙
    ap (λ (xs : List ℕ). xs ++ replicate 4096 0) c.in_ok-written.ensures.items in
    let places : c.in_ok-places.places.items ≡ replicate c.args.pages 0 = search rules in
    ap (λ ps. sparse_bytes written ps) places ∙
    none_bytes written c.args.pages (ap length items ∙ length-replicate {A = ℕ} 4096 0)
    (λ k low. ap (λ xs. get_or xs k 0) items ∙ get_or-replicate 4096 k 0 0 low)

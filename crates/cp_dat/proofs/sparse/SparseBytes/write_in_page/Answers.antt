use Rattle.std.proofs.Common.{rules, ◌≡◌, ◌+◌, ◌*◌, ◌/◌, ◌%◌, ◌≤◌, ◌<◌, ◌∙◌, ℕ, List, length, get_or, ap, ap₂, sym}
use Rattle.std.proofs.Common.{arith, subst}
use Rattle.std.proofs.lemmas.List.{get_or_read, with_items_is}
use Rattle.std.specs.Vec.{vec_capacity, with_items}
use Rattle.s370_store.specs.Access.{put}
use Rattle.cp_dat.specs.Sparse.{IsSparse, place_in, sparse_bytes}
use Rattle.cp_dat.proofs.SparsePages.{length-sparse, put_kept, put_sparse}
use Rattle.cp_dat.proofs.sparse.SparseBytes.write_in_page.Goals as goal

pub make_page-requires-clause-inside : goal.make_page-requires-clause-inside
make_page-requires-clause-inside c =
    let f = c.self.inside in
    let count : length c.args.self.now ≡ 4096 * length f.places.items =
    ap length (sym c.self.view_is) ∙ length-sparse f.written.items f.places.items in
    let size : length c.deref_mut.result.now ≡ length f.places.items = ap length c.deref_mut.ensures.value in
    omega (arith, count, size, c.requires.inside, c.requires.some)

pub invariant_of-self : goal.invariant_of-self
invariant_of-self c =
    let f = c.self.inside in
    let start = c.args.start in
    let from : List ℕ = c.args.from.now in
    let made : List ℕ = c.make_page.new.written.items in
    let new : List ℕ = c.make_page.new.places in
    let room : ℕ = vec_capacity c.make_page.new.written in
    let count : length c.args.self.now ≡ 4096 * length f.places.items =
    ap length (sym c.self.view_is) ∙ length-sparse f.written.items f.places.items in
    let size : length c.deref_mut.result.now ≡ length f.places.items = ap length c.deref_mut.ensures.value in
    let places : (with_items f.places new).items ≡ new =
    with_items_is f.places new (c.make_page.ensures.size ∙ c.deref_mut.ensures.len) in
    let low : start / 4096 < length (with_items f.places new).items =
    (let long : length (with_items f.places new).items ≡ length new = ap length places in
    omega (arith, long, c.make_page.ensures.size, size, count, c.requires.inside, c.requires.some)) in
    let place : c.index.result.now ≡ get_or new (start / 4096) 0 =
    get_or_read (with_items f.places new).items _ _ low c.index.ensures 0 ∙ ap (λ ps. get_or ps (start / 4096) 0) places
    in
    let written : (with_items c.make_page.new.written c.put_at.new.bytes).items ≡ c.put_at.new.bytes =
    with_items_is c.make_page.new.written c.put_at.new.bytes (c.put_at.ensures.size ∙ c.deref_mut-2.ensures.len) in
    let put_is : c.put_at.new.bytes ≡ put made (place_in new start) from =
    c.put_at.ensures.bytes ∙
    ap (λ xs. put xs (c.index.result.now * 4096 + start % 4096) from) c.deref_mut-2.ensures.value ∙
    ap (λ p. put made (p * 4096 + start % 4096) from) place in
    subst (λ (ps : List ℕ). IsSparse (with_items c.make_page.new.written c.put_at.new.bytes).items ps room) (sym places)
    (subst (λ (xs : List ℕ). IsSparse xs new room) (sym (written ∙ put_is))
    (put_kept made new from start room c.make_page.ensures.sparse c.make_page.ensures.made c.requires.one_page))

pub returns-clause-few : goal.returns-clause-few
returns-clause-few c =
    let f = c.self.inside in
    let count : length c.args.self.now ≡ 4096 * length f.places.items =
    ap length (sym c.self.view_is) ∙ length-sparse f.written.items f.places.items in
    omega (arith, count, c.self.invariant.few)

pub returns-clause-bytes : goal.returns-clause-bytes
returns-clause-bytes c =
    let f = c.self.inside in
    let start = c.args.start in
    let from : List ℕ = c.args.from.now in
    let made : List ℕ = c.make_page.new.written.items in
    let new : List ℕ = c.make_page.new.places in
    let room : ℕ = vec_capacity c.make_page.new.written in
    let count : length c.args.self.now ≡ 4096 * length f.places.items =
    ap length (sym c.self.view_is) ∙ length-sparse f.written.items f.places.items in
    let size : length c.deref_mut.result.now ≡ length f.places.items = ap length c.deref_mut.ensures.value in
    let places : (with_items f.places new).items ≡ new =
    with_items_is f.places new (c.make_page.ensures.size ∙ c.deref_mut.ensures.len) in
    let low : start / 4096 < length (with_items f.places new).items =
    (let long : length (with_items f.places new).items ≡ length new = ap length places in
    omega (arith, long, c.make_page.ensures.size, size, count, c.requires.inside, c.requires.some)) in
    let place : c.index.result.now ≡ get_or new (start / 4096) 0 =
    get_or_read (with_items f.places new).items _ _ low c.index.ensures 0 ∙ ap (λ ps. get_or ps (start / 4096) 0) places
    in
    let written : (with_items c.make_page.new.written c.put_at.new.bytes).items ≡ c.put_at.new.bytes =
    with_items_is c.make_page.new.written c.put_at.new.bytes (c.put_at.ensures.size ∙ c.deref_mut-2.ensures.len) in
    let put_is : c.put_at.new.bytes ≡ put made (place_in new start) from =
    c.put_at.ensures.bytes ∙
    ap (λ xs. put xs (c.index.result.now * 4096 + start % 4096) from) c.deref_mut-2.ensures.value ∙
    ap (λ p. put made (p * 4096 + start % 4096) from) place in
    let before : sparse_bytes made new ≡ c.args.self.now =
    c.make_page.ensures.bytes ∙ ap (λ ps. sparse_bytes f.written.items ps) c.deref_mut.ensures.value ∙ c.self.view_is in
    ap₂ (λ xs ps. sparse_bytes xs ps) (written ∙ put_is) places ∙
    put_sparse made new from start room c.make_page.ensures.sparse c.make_page.ensures.made c.requires.one_page
    (omega (arith, c.make_page.ensures.size, size, count, c.requires.inside)) ∙ ap (λ xs. put xs start from) before

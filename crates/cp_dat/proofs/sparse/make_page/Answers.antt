use Rattle.std.proofs.Common.{rules, ◌≡◌, ◌++◌, arith, length, replicate, get_or}
use Rattle.std.specs.Vec.{vec_capacity, vec_len}
use Rattle.cp_dat.proofs.SparsePages.{made_kept, made_same, page_fits, place_few}
use Rattle.cp_dat.proofs.sparse.make_page.Goals as goal

pub unreachable-requires : goal.unreachable-requires
unreachable-requires c =
    let none : get_or c.args.places.now c.args.page 0 ≡ 0 = search rules in
    let fits = page_fits c.args.written.now.items c.args.places.now c.args.page (vec_capacity c.args.written.now)
    c.requires.sparse c.requires.inside none in
    let len : vec_len c.args.written.now ≡ length c.args.written.now.items = search rules in
    omega (arith, fits, len, c.in-Err.ensures.full)

pub overflow_cast-places : goal.overflow_cast-places
overflow_cast-places c =
    let none : get_or c.args.places.now c.args.page 0 ≡ 0 = search rules in
    let few = place_few c.args.written.now.items c.args.places.now c.args.page (vec_capacity c.args.written.now)
    c.requires.sparse c.requires.inside none in
    let len : c.len-place.result ≡ length c.args.written.now.items = search rules in
    omega (arith, few, len)

pub returns-clause-sparse : goal.returns-clause-sparse
returns-clause-sparse c =
    let none : get_or c.args.places.now c.args.page 0 ≡ 0 = search rules in
    let len : c.len-place.result ≡ length c.args.written.now.items = search rules in
    let items : c.extend_from_slice.new.self.items ≡ c.args.written.now.items ++ replicate 4096 0 = search rules in
    rw (items, len)
    (made_kept c.args.written.now.items c.args.places.now c.args.page (vec_capacity c.args.written.now)
    c.requires.sparse c.requires.inside none (vec_capacity c.extend_from_slice.new.self) c.in-Ok.ensures.capacity)

pub returns-clause-bytes : goal.returns-clause-bytes
returns-clause-bytes c =
    let none : get_or c.args.places.now c.args.page 0 ≡ 0 = search rules in
    let len : c.len-place.result ≡ length c.args.written.now.items = search rules in
    let items : c.extend_from_slice.new.self.items ≡ c.args.written.now.items ++ replicate 4096 0 = search rules in
    rw (items, len)
    (made_same c.args.written.now.items c.args.places.now c.args.page (vec_capacity c.args.written.now)
    c.requires.sparse c.requires.inside none)

use Rattle.std.proofs.Common.{rules, ◌≡◌, ◌≤◌, ◌%◌, ◌+◌, ◌-◌, ◌∙◌, ◌++◌, ap, arith, length, sym, take-append-drop}
use Rattle.s370_store.specs.Access.{put}
use Rattle.s370_store.proofs.Puts.{length-put, put-nothing}
use Rattle.cp_frames.proofs.Parts.{put_put}
use Rattle.cp_dat.proofs.SparsePages.{none_of}
use Rattle.cp_dat.proofs.sparse.SparseBytes.write.Goals as goal

pub returns-then-is_empty : goal.returns-then-is_empty
returns-then-is_empty c =
    let none : length c.args.from.now ≡ 0 = search rules in
    sym (ap (λ xs. put c.args.self.now c.args.start xs) (none_of c.args.from.now none) ∙
    put-nothing c.args.self.now c.args.start)

pub overflow_add-start : goal.overflow_add-start
overflow_add-start c =
    omega (arith, c.write_in_page-else-from-left.ensures.few, c.requires.inside, c.if-from-left.false)

pub write_in_page-requires-else-from-left-2-clause-inside : goal.write_in_page-requires-else-from-left-2-clause-inside
write_in_page-requires-else-from-left-2-clause-inside c =
    let bytes = c.args.self.now in
    let start = c.args.start in
    let left = 4096 - start % 4096 in
    let more = c.if-from-left.false in
    let inside = c.requires.inside in
    let n : length c.split_at.result.0.now ≡ left = omega (arith, c.split_at.ensures.front_len) in
    let m : length c.split_at.result.1.now ≡ length c.args.from.now - left =
    omega (arith, c.split_at.ensures.back_len) in
    let size : length c.write_in_page-else-from-left.new.self ≡ length bytes =
    ap length c.write_in_page-else-from-left.ensures.bytes ∙
    length-put bytes c.split_at.result.0.now start (omega (arith, n, inside, more)) in
    omega (arith, size, m, inside, more)

pub returns-else-from-left : goal.returns-else-from-left
returns-else-from-left c =
    let bytes = c.args.self.now in
    let start = c.args.start in
    let left = 4096 - start % 4096 in
    let more = c.if-from-left.false in
    let inside = c.requires.inside in
    let n : length c.split_at.result.0.now ≡ left = omega (arith, c.split_at.ensures.front_len) in
    let m : length c.split_at.result.1.now ≡ length c.args.from.now - left =
    omega (arith, c.split_at.ensures.back_len) in
    let fits : start + length c.split_at.result.0.now + length c.split_at.result.1.now ≤ length bytes =
    omega (arith, n, m, inside, more) in
    let whole : c.split_at.result.0.now ++ c.split_at.result.1.now ≡ c.args.from.now =
    rw (c.split_at.ensures.front, c.split_at.ensures.back) (take-append-drop left c.args.from.now) in
    c.write_in_page-else-from-left-2.ensures.bytes
    ∙ ap (λ l. put l (start + left) c.split_at.result.1.now) c.write_in_page-else-from-left.ensures.bytes
    ∙ ap (λ k. put (put bytes start c.split_at.result.0.now) (start + k) c.split_at.result.1.now) (sym n)
    ∙ put_put bytes c.split_at.result.0.now c.split_at.result.1.now start fits
    ∙ ap (λ xs. put bytes start xs) whole

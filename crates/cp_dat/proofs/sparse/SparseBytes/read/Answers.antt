use Rattle.std.proofs.Common.{◌≡◌, ◌%◌, ◌+◌, ◌-◌, ◌∙◌, ap, arith, length}
use Rattle.std.specs.List.{slice_range}
use Rattle.cp_frames.proofs.Parts.{range_range}
use Rattle.cp_dat.proofs.sparse.SparseBytes.read.Goals as goal

pub overflow_add-start : goal.overflow_add-start
overflow_add-start c =
    omega (arith, c.read_in_page-else-into-left.ensures.few, c.requires.inside, c.if-into-left.false)

pub returns-else-into-left : goal.returns-else-into-left
returns-else-into-left c =
    let bytes = c.args.self.now in
    let start = c.args.start in
    let left = 4096 - start % 4096 in
    let more = c.if-into-left.false in
    let n : length c.split_at_mut-first.result.0.now ≡ left = omega (arith, c.split_at_mut-first.ensures.front_len) in
    let m : length c.split_at_mut-first.result.1.now ≡ length c.args.into.now - left =
    omega (arith, c.split_at_mut-first.ensures.back_len) in
    let end : start + left + (length c.args.into.now - left) ≡ start + length c.args.into.now = omega (arith, more) in
    let first : c.read_in_page-else-into-left.new.into ≡ slice_range bytes start (start + left) =
    c.read_in_page-else-into-left.ensures.bytes ∙ ap (λ k. slice_range bytes start (start + k)) n in
    let second : c.read_in_page-else-into-left-2.new.into
    ≡ slice_range bytes (start + left) (start + length c.args.into.now) =
    c.read_in_page-else-into-left-2.ensures.bytes ∙ ap (λ k. slice_range bytes (start + left) (start + left + k)) m ∙
    ap (λ k. slice_range bytes (start + left) k) end in
    rw (first, second) (range_range bytes start (start + left) (start + length c.args.into.now)
    (omega arith) (omega (arith, more)))

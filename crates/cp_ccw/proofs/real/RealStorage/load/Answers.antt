use Rattle.std.proofs.Common.{◌≡◌, ◌%◌, ◌+◌, ◌-◌, ◌∙◌, ap, arith, length, length-append}
use Rattle.std.specs.List.{slice_range}
use Rattle.cp_dat.specs.Lent.{lent_bytes, lent_pool, user_of}
use Rattle.cp_frames.proofs.Parts.{range_range}
use Rattle.cp_ccw.specs.Layout.{framed_bytes}
use Rattle.cp_ccw.specs.Shown.{real_bytes_of}
use Rattle.cp_ccw.specs.Layout.{length-framed}
use Rattle.cp_ccw.proofs.real.RealStorage.load.Goals as goal

pub overflow_add-start : goal.overflow_add-start
overflow_add-start c =
    let r = c.args.self.now in
    let d = r.dat.now in
    let f = length-framed (lent_bytes d) (lent_pool d).supply.owners (user_of d) in
    let a = length-append (framed_bytes (lent_bytes d) (lent_pool d).supply.owners (user_of d)) r.area.now in
    omega (arith, f, a, r.counted, r.few, r.small, c.requires.granted.inside)

pub returns-else-into-left : goal.returns-else-into-left
returns-else-into-left c =
    let bytes = real_bytes_of c.args.self.now in
    let left = 4096 - c.args.start % 4096 in
    let n : length c.split_at_mut-first.result.0.now ≡ left = omega (arith, c.split_at_mut-first.ensures.front_len) in
    let m : length c.split_at_mut-first.result.1.now ≡ length c.args.into.now - left =
    omega (arith, c.split_at_mut-first.ensures.back_len) in
    let end : c.args.start + left + (length c.args.into.now - left) ≡ c.args.start + length c.args.into.now =
    omega arith in
    let first : c.load_part-else-into-left.new.into ≡ slice_range bytes c.args.start (c.args.start + left) =
    c.load_part-else-into-left.ensures ∙ ap (λ k. slice_range bytes c.args.start (c.args.start + k)) n in
    let second : c.load_part-else-into-left-2.new.into
    ≡ slice_range bytes (c.args.start + left) (c.args.start + length c.args.into.now) =
    c.load_part-else-into-left-2.ensures ∙ ap (λ k. slice_range bytes (c.args.start + left) (c.args.start + left + k)) m
    ∙ ap (λ k. slice_range bytes (c.args.start + left) k) end in
    rw (first, second) (range_range bytes c.args.start (c.args.start + left) (c.args.start + length c.args.into.now)
    (omega arith) (omega arith))

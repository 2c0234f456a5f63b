use Rattle.std.proofs.Common.{◌≡◌, ℕ, ◌+◌, List, ◌++◌, length, take, drop, ap, sym, ◌∙◌, arith}
use Rattle.std.specs.List.{slice_range}
use Rattle.std.proofs.lemmas.List.{length-take-le, length-drop}
use Rattle.s370_store.specs.Access.{put}
use Rattle.s370_store.proofs.Copies.{put_high, put_low, range_low, range_high}
use Rattle.s370_store.proofs.place.copy_at.Goals as goal

pub returns-then-from-count-clause-bytes : goal.returns-then-from-count-clause-bytes
returns-then-from-count-clause-bytes c =
    let bytes = c.args.bytes.now in
    let at = c.args.to in
    let low : c.split_at_mut-low.result.0.now ≡ take at bytes = c.split_at_mut-low.ensures.front in
    let high : c.split_at_mut-low.result.1.now ≡ drop at bytes = c.split_at_mut-low.ensures.back in
    let source : slice_range c.split_at_mut-low.result.0.now c.args.from
    (c.args.from + c.args.count) ≡ slice_range bytes c.args.from (c.args.from + c.args.count) =
    ap (λ xs. slice_range xs c.args.from (c.args.from + c.args.count)) low
    ∙ range_low bytes at c.args.from c.args.count c.if-from-count.true in
    let written : c.put_at.new.bytes ≡ put (drop at bytes) 0
    (slice_range bytes c.args.from (c.args.from + c.args.count)) =
    c.put_at.ensures.bytes ∙ ap (λ xs. put xs 0 (slice_range c.split_at_mut-low.result.0.now c.args.from
    (c.args.from + c.args.count))) high ∙ ap (put (drop at bytes) 0) source in
    ap (λ xs. xs ++ c.put_at.new.bytes) low ∙ ap (λ xs. take at bytes ++ xs) written
    ∙ put_high bytes (slice_range bytes c.args.from (c.args.from + c.args.count)) at

pub returns-then-to-count-clause-bytes : goal.returns-then-to-count-clause-bytes
returns-then-to-count-clause-bytes c =
    let bytes = c.args.bytes.now in
    let at = c.args.from in
    let source : List ℕ = slice_range bytes at (at + c.args.count) in
    let low : c.split_at_mut-low-then-to-count.result.0.now ≡ take at bytes =
    c.split_at_mut-low-then-to-count.ensures.front in
    let high : c.split_at_mut-low-then-to-count.result.1.now ≡ drop at bytes =
    c.split_at_mut-low-then-to-count.ensures.back in
    let read : take c.args.count c.split_at_mut-low-then-to-count.result.1.now ≡ source =
    ap (take c.args.count) high ∙ range_high bytes at c.args.count in
    let written : c.put_at-then-to-count.new.bytes ≡ put (take at bytes) c.args.to source =
    c.put_at-then-to-count.ensures.bytes ∙ ap (λ xs. put xs c.args.to
    (take c.args.count c.split_at_mut-low-then-to-count.result.1.now)) low
    ∙ ap (put (take at bytes) c.args.to) read in
    let long : length source ≡ c.args.count =
    sym (ap length (range_high bytes at c.args.count)) ∙ length-take-le c.args.count (drop at bytes)
    (rw length-drop (omega (arith, c.requires.source))) in
    ap (λ xs. xs ++ c.split_at_mut-low-then-to-count.result.1.now) written
    ∙ ap (λ xs. put (take at bytes) c.args.to source ++ xs) high
    ∙ put_low bytes source at c.args.to (omega (arith, long, c.if-to-count.true))

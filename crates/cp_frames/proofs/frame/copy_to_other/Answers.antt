use Rattle.std.proofs.Common.{◌≡◌, ℕ, ◌+◌, ◌<◌, List, [], ◌++◌, length, get_or, take, drop, sym, ◌∙◌, ap, arith}
use Rattle.std.proofs.Math.ListN.{set}
use Rattle.std.specs.List.{slice_range}
use Rattle.s370_store.specs.Access.{put}
use Rattle.cp_frames.proofs.Copied.{set_high, set_low, frame_low, frame_high}
use Rattle.cp_frames.proofs.frame.copy_to_other.Goals as goal

pub returns-then-source-target-clause-made : goal.returns-then-source-target-clause-made
returns-then-source-target-clause-made c =
    let frames : List (List ℕ) = c.args.frames.now in
    let m = c.args.target in
    let low : List (List ℕ) = c.split_at_mut-low.result.0.now in
    let high : List (List ℕ) = c.split_at_mut-low.result.1.now in
    let is_low : low ≡ take m frames = c.split_at_mut-low.ensures.front in
    let is_high : high ≡ drop m frames = c.split_at_mut-low.ensures.back in
    let read : List ℕ → List ℕ = λ xs. slice_range xs c.args.from (c.args.from + c.args.count) in
    let written : c.copy_between.new.target
    ≡ put (get_or frames m []) c.args.to (read (get_or frames c.args.source [])) =
    c.copy_between.ensures.part
    ∙ ap (λ (xs : List ℕ). put xs c.args.to (read (get_or low c.args.source []))) (frame_high frames high m is_high)
    ∙ ap (λ (xs : List ℕ). put (get_or frames m []) c.args.to (read xs))
    (frame_low frames low m c.args.source is_low c.if-source-target.true) in
    ap (λ (xs : List (List ℕ)). xs ++ set high 0 c.copy_between.new.target) is_low
    ∙ ap (λ (xs : List (List ℕ)). take m frames ++ set xs 0 c.copy_between.new.target) is_high
    ∙ set_high frames m c.copy_between.new.target
    ∙ ap (λ (xs : List ℕ). set frames m xs) written

pub returns-else-source-target-clause-made : goal.returns-else-source-target-clause-made
returns-else-source-target-clause-made c =
    let frames : List (List ℕ) = c.args.frames.now in
    let m = c.args.source in
    let low : List (List ℕ) = c.split_at_mut-low-else-source-target.result.0.now in
    let high : List (List ℕ) = c.split_at_mut-low-else-source-target.result.1.now in
    let is_low : low ≡ take m frames = c.split_at_mut-low-else-source-target.ensures.front in
    let is_high : high ≡ drop m frames = c.split_at_mut-low-else-source-target.ensures.back in
    let under : c.args.target < m = omega (arith, c.if-source-target.false, c.requires.apart) in
    let read : List ℕ → List ℕ = λ xs. slice_range xs c.args.from (c.args.from + c.args.count) in
    let made = c.copy_between-else-source-target.new.target in
    let written : made ≡ put (get_or frames c.args.target []) c.args.to (read (get_or frames m [])) =
    c.copy_between-else-source-target.ensures.part
    ∙ ap (λ (xs : List ℕ). put xs c.args.to (read (get_or high 0 [])))
    (frame_low frames low m c.args.target is_low under)
    ∙ ap (λ (xs : List ℕ). put (get_or frames c.args.target []) c.args.to (read xs)) (frame_high frames high m is_high)
    in
    ap (λ (xs : List (List ℕ)). set xs c.args.target made ++ high) is_low
    ∙ ap (λ (xs : List (List ℕ)). set (take m frames) c.args.target made ++ xs) is_high
    ∙ set_low frames m c.args.target made under (omega (arith, c.requires.source))
    ∙ ap (λ (xs : List ℕ). set frames c.args.target xs) written

pub returns-then-source-target-clause-full : goal.returns-then-source-target-clause-full
returns-then-source-target-clause-full c =
    let frames : List (List ℕ) = c.args.frames.now in
    sym (ap (λ (xs : List ℕ). length xs)
    (frame_high frames c.split_at_mut-low.result.1.now c.args.target c.split_at_mut-low.ensures.back)) ∙
    c.copy_between.ensures.full

pub returns-then-source-target-clause-full_source : goal.returns-then-source-target-clause-full_source
returns-then-source-target-clause-full_source c =
    let frames : List (List ℕ) = c.args.frames.now in
    sym (ap (λ (xs : List ℕ). length xs)
    (frame_low frames c.split_at_mut-low.result.0.now c.args.target c.args.source c.split_at_mut-low.ensures.front
    c.if-source-target.true)) ∙ c.copy_between.ensures.full_source

pub returns-else-source-target-clause-full : goal.returns-else-source-target-clause-full
returns-else-source-target-clause-full c =
    let frames : List (List ℕ) = c.args.frames.now in
    sym (ap (λ (xs : List ℕ). length xs)
    (frame_low frames c.split_at_mut-low-else-source-target.result.0.now c.args.source c.args.target
    c.split_at_mut-low-else-source-target.ensures.front
    (omega (arith, c.if-source-target.false, c.requires.apart)))) ∙ c.copy_between-else-source-target.ensures.full

pub returns-else-source-target-clause-full_source : goal.returns-else-source-target-clause-full_source
returns-else-source-target-clause-full_source c =
    let frames : List (List ℕ) = c.args.frames.now in
    sym (ap (λ (xs : List ℕ). length xs)
    (frame_high frames c.split_at_mut-low-else-source-target.result.1.now c.args.source
    c.split_at_mut-low-else-source-target.ensures.back)) ∙ c.copy_between-else-source-target.ensures.full_source

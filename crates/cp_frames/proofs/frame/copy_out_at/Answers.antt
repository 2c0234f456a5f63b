use Rattle.std.proofs.Common.{ℕ, ◌+◌, List, length, ◌∙◌, ap}
use Rattle.std.specs.List.{slice_range}
use Rattle.cp_frames.proofs.Flat.{flat_part}
use Rattle.cp_frames.proofs.frame.copy_out_at.Goals as goal

pub returns-clause-part : goal.returns-clause-part
returns-clause-part c =
    let n = length c.args.into.now in
    c.copy_from_slice.ensures.after ∙ ap (λ (flat : List ℕ). slice_range flat c.args.place (c.args.place + n))
    c.as_flattened.ensures.value
    ∙ flat_part c.args.frames.now c.args.place n c.told-frames c.requires.inside c.requires.within

pub returns-clause-full : goal.returns-clause-full
returns-clause-full c = c.told-frames _ c.requires.inside

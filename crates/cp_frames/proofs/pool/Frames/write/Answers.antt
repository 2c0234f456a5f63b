use Rattle.std.proofs.Common.{◌++◌, set}
use Rattle.cp_frames.proofs.Inside.{places_in, owners_in}
use Rattle.cp_frames.proofs.Contents.{sizes_same}
use Rattle.cp_frames.proofs.pool.Frames.write.Goals as goal

pub returns-in-Some-clause-sizes : goal.returns-in-Some-clause-sizes
returns-in-Some-clause-sizes c =
    let f = c.self.inside in
    rw (← c.self.view_is) (sizes_same (set f.frames.items c.in-Some.frame.0 c.copy_from_slice.new.self ++ f.slots.items)
    (places_in f) (owners_in f) f.sizes.items)

pub returns-in-Some-slot_of-clause-sizes : goal.returns-in-Some-slot_of-clause-sizes
returns-in-Some-slot_of-clause-sizes c =
    let f = c.self.inside in
    rw (← c.self.view_is) (sizes_same
    (f.frames.items ++ set f.slots.items c.in-Some-slot_of.slot c.copy_from_slice-in-Some-slot_of.new.self)
    (places_in f) (owners_in f) f.sizes.items)

use Rattle.std.proofs.Common.{◌≡◌, take}
use Rattle.cp_placement.specs.Seating.{AreLawful, seats_of}
use Rattle.cp_placement.proofs.seats.seats_of.Given as goal

abbrev pub invariant-loop-minidisk : goal.invariant-loop-minidisk
invariant-loop-minidisk l = (l.seats.items ≡ seats_of l.volumes (take l.minidisk-index l.minidisks))
    × AreLawful (take l.minidisk-index l.minidisks)

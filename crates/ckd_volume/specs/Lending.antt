-- Lent tracks: what was written through the reference is on the track, and all other tracks stay.
use Rattle.std.specs.Prelude.{ℕ, List, Option, slice_set}
use Rattle.std.specs.Borrow.{Lends, LendsIf, MutBor, Fml}
use Rattle.ckd_track.specs.Track.{TrackFormat}
use Rattle.ckd_track.specs.contracts.track.Track.{the_row as track_row}
use Rattle.ckd_volume.specs.contracts.cylinder.Cylinder.{the_row}

-- a track of a cylinder is borrowed, and the cylinder has what was written to it
abbrev pub LendsTrack : MutBor (List TrackFormat) → ℕ → MutBor TrackFormat → Fml
LendsTrack cylinder head lent =
    Lends the_row track_row cylinder lent (λ written. slice_set cylinder.now head written)

-- the track under a head is borrowed, if there is one
abbrev pub LendsHead : MutBor (List TrackFormat) → ℕ → Option (MutBor TrackFormat) → Fml
LendsHead cylinder head lent =
    LendsIf the_row track_row cylinder lent (λ written. slice_set cylinder.now head written)
    cylinder.now

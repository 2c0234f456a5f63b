-- Commands that move no data of records: Sense, Seek and Set File Mask.
use Rattle.std.specs.Prelude.{ℕ, ◌+◌, ◌*◌, ◌==◌, Bool, nat_lt, nat_le, ◌&&◌, if◌then◌else◌, List}
use Rattle.std.specs.Prelude.{[], ◌∷◌, length, replicate, slice_index, Option, None, Some, bit_and}
use Rattle.s370_walk.specs.declared.parts.Order.{Order}
use Rattle.ckd_volume.specs.declared.parts.PendingCommand.TheVariants as jobs
use Rattle.ckd_volume.specs.declared.parts.Sense.{Sense}
use Rattle.ckd_volume.specs.declared.control.Seek.{Seek}
use Rattle.ckd_volume.specs.Front.{Front}
use Rattle.ckd_volume.specs.Begin.{Begun, gives, takes, rejected, refused, no_status}
use Rattle.ckd_volume.specs.End.{Ended, ends, fails}

-- 04 Sense: only as first command of a program, and with no chaining
abbrev pub sense_bytes : Sense → List ℕ
sense_bytes s = s.first ∷ s.second ∷ replicate 22 0

-- 04 Sense gives the sense bytes
abbrev pub begin_sense : Front → Order → Begun
begin_sense f order =
    if order.first && (bit_and order.flags.bits 0xC0 == 0)
    then gives f no_status (sense_bytes f.sense) else rejected f

-- 07 Seek: file protected where mask bits 3-4 are not 00
abbrev pub begin_seek : Front → Begun
begin_seek f = if bit_and f.mask 0x18 == 0 then takes f 6 jobs.Seek else refused f 0 0x04

-- The place that a seek names: 0000 CCCC HHHH, a track of the disk.
abbrev pub halfword : List ℕ → ℕ → ℕ
halfword bytes k = 256 * slice_index bytes k + slice_index bytes (k + 1)

-- whether six bytes name a track of a disk with this many cylinders
abbrev pub is_seek : ℕ → List ℕ → Bool
is_seek cylinders bytes =
    nat_le 6 (length bytes) && (halfword bytes 0 == 0) && nat_lt (halfword bytes 2) cylinders &&
    nat_lt (halfword bytes 4) 19

-- the track that a seek's argument names
abbrev pub sought : ℕ → List ℕ → Option Seek
sought cylinders bytes =
    if is_seek cylinders bytes
    then Some (record { cylinder = halfword bytes 2; head = halfword bytes 4 }) else None

-- 1F Set File Mask: bits 2, 5, 6 and 7 are zero
abbrev pub mask_set : Front → List ℕ → Ended
mask_set f [] = fails f 0x80 0
mask_set f (b ∷ bs) = if bit_and b 0x27 == 0 then ends (record f { mask = b }) no_status
    else fails f 0x80 0

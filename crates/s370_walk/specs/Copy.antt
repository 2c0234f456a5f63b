-- A copied program, from an address of the guest, and what its run over real addresses says of the
-- guest's own.
use Rattle.std.specs.Prelude.{false, ◌≤◌, ◌-◌, ◌⊎◌, slice_index_or, ℕ, ◌<◌, ◌≡◌, List, length}
use Rattle.std.specs.Prelude.{Option, None}
use Rattle.s370_walk.specs.declared.places.CcwLocation.{CcwLocation}
use Rattle.s370_walk.specs.declared.parts.NextCcw.{NextCcw}
use Rattle.s370_walk.specs.declared.parts.Ending.{Ending}
use Rattle.s370_walk.specs.declared.parts.Ccw.{Ccw}
use Rattle.s370_walk.specs.Tracks.{IsTracked}
use Rattle.s370_store.specs.Memory.{Memory}
use Rattle.s370_walk.specs.Walk.{Form, Setting, Fetching, Over, Reaches}
use Rattle.s370_walk.specs.Renaming.{IsCopy}
use Rattle.s370_walk.specs.WordsFrozen.{words_frozen}
use Rattle.s370_walk.specs.Mapped.{Program, Named, IsMapped, IsKept, copied_form}

-- places past those of the copy stand for addresses at which the guest has no word
abbrev pub past : ℕ → CcwLocation
past a = record { address = a - 0x80000000; continues = false }

-- the guest's address of a place of the copy
abbrev pub guest_of : List CcwLocation → ℕ → ℕ
guest_of places a = (slice_index_or places a (past a)).address

-- a place of the copy, or one past them for an address at which there is no word
abbrev pub IsPlace : List CcwLocation → (ℕ → Option Ccw) → ℕ → Type 0
IsPlace places text a = (a < length places)
    ⊎ ((length places ≤ a) × (text (guest_of places a) ≡ None))

-- a copy of the words that a program can reach, as they were in m0
abbrev pub IsCopyOf : List CcwLocation → Program → Form → Memory → Type 0
IsCopyOf places c form m0 =
    IsCopy (guest_of places) (IsPlace places (form.text m0)) (IsTracked c.lists) (copied_form c)
    (words_frozen form m0)

-- the guest's own frozen walk comes to this end, with this device, and a storage that is this real
-- one's
pub record MeetsFrozen {D : Type 0} (real : ℕ → Option ℕ) (c : Program) (form : Form)
    (h : Setting D) (start : NextCcw)
    (m : Memory) (d : D) (end : Ending) (n' : Memory) (e : D) : Type 0 where
  pub storage : Memory
  pub reaches : Reaches form h (Fetching start m d) (Over end storage e)
  pub mapped : IsMapped real (Named c) storage n'
  pub kept : IsKept real m storage

-- What a channel program needs of storage: the words that it can reach, and where their bytes lie.
use Rattle.std.specs.Prelude.{[], ◌∷◌, ℕ, ◌+◌, ◌*◌, ◌/◌, ◌%◌, ◌<◌, ◌≡◌, ◌==◌, ◌⊎◌, Bool, true}
use Rattle.std.specs.Prelude.{false, Option, Some, is_some}
use Rattle.s370_store.specs.declared.Access.TheVariants.{Fetch}
use Rattle.s370_store.specs.Access.{Touches}
use Rattle.s370_walk.specs.declared.parts.Ccw.{Ccw}
use Rattle.s370_store.specs.Memory.{Memory}
use Rattle.s370_walk.specs.Hardware.{area}
use Rattle.s370_walk.specs.Walk.{is_jump, chains_data, chains_command}
use Rattle.s370_channel.specs.Guest.{guest_text, area_block, block_asks}
use Rattle.s370_walk.specs.declared.places.CcwLocation.{CcwLocation}
use Rattle.s370_walk.specs.Tracks.{has_area}
use Rattle.cp_needs.specs.declared.program.CopyError.{CopyError}
use Rattle.cp_needs.specs.declared.program.CopyError.TheVariants as errors

-- The least set of addresses and roles (true: of a continuation) that has the start and is closed
-- under transfers in channel, and for any other word under the next word where CC or CD is one, and
-- the word after that where CC is one and CD zero.
pub data InProgram (text : ℕ → Option Ccw) (start : ℕ) : ℕ → Bool → Type 0 where
  starts : InProgram text start start false
  jumps : (a : ℕ) (continues : Bool) (w : Ccw) → InProgram text start a continues → text a ≡ Some w
      → is_jump w ≡ true → (w.address % 8 == 0) ≡ true → InProgram text start w.next continues
  continues_at : (a : ℕ) (continues : Bool) (w : Ccw) → InProgram text start a continues
      → text a ≡ Some w → is_jump w ≡ false → chains_data w ≡ true
      → InProgram text start w.next true
  commands_at : (a : ℕ) (continues : Bool) (w : Ccw) → InProgram text start a continues
      → text a ≡ Some w → is_jump w ≡ false → chains_command w ≡ true → chains_data w ≡ false
      → InProgram text start w.next false
  skips_to : (a : ℕ) (continues : Bool) (w : Ccw) → InProgram text start a continues
      → text a ≡ Some w → is_jump w ≡ false → chains_command w ≡ true → chains_data w ≡ false
      → InProgram text start w.skipped false

-- a place whose word the program that starts at an address can reach, in the role of the place
abbrev pub IsReachedPlace : Memory → ℕ → CcwLocation → Type 0
IsReachedPlace m start place = InProgram (guest_text m) start place.address place.continues

-- Word j of a list is used by so many bytes: a byte of its block is counted, and each word before
-- it says an address.
pub record IsUsed (f : ℕ → Option ℕ) (count j : ℕ) : Type 0 where
  pub some : 0 < count
  pub before : (i : ℕ) → i < j → is_some (f i) ≡ true
  pub counted : (first : ℕ) → 0 < j → f 0 ≡ Some first → j * 2048 < first % 2048 + count

-- what word j of a word's list needs
abbrev pub IsEntryPage : Memory → Ccw → ℕ → ℕ → Type 0
IsEntryPage m w j page = Touches (block_asks w j) page
    ⊎ ((a : ℕ) × (area_block m w j ≡ Some a) × (page ≡ a / 4096))

-- a page with a byte of a word's data area, or of the words of its list
pub record IsDataPage (m : Memory) (w : Ccw) (page : ℕ) : Type 0 where
  pub index : ℕ
  pub has : has_area w ≡ true
  pub used : IsUsed (area_block m w) w.count index
  pub touched : IsEntryPage m w index page

-- what one word needs
abbrev pub IsWordPage : Memory → ℕ → ℕ → Type 0
IsWordPage m address page = Touches (area Fetch address 8 ∷ []) page
    ⊎ ((w : Ccw) × (guest_text m address ≡ Some w) × IsDataPage m w page)

-- A page that the program from an address on needs.
pub record IsServed (m : Memory) (start page : ℕ) : Type 0 where
  pub place : CcwLocation
  pub reached : IsReachedPlace m start place
  pub touched : IsWordPage m place.address page

-- a page that is missing, of those that are asked for
abbrev pub IfAbsent : (ℕ → Type 0) → CopyError → Type 0
IfAbsent P errors.Memory = Unit {0}
IfAbsent P (errors.Absent page) = P page.0

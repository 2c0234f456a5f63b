-- What the panel shows of a processor and its storage, and changes there (docs/COMMANDS.md, DISPLAY
-- and STORE).
use Rattle.std.specs.Prelude.{◌≡◌, ℕ, ◌+◌, ◌*◌, ◌/◌, if◌then◌else◌, nat_le, nat_lt, Bool, List, []}
use Rattle.std.specs.Prelude.{◌∷◌, length, slice_index, slice_set, slice_range, Result, Ok, Err, ⊤}
use Rattle.s370_psw.specs.Fields.{fields_of, word_of}
use Rattle.s370_store.specs.Access.{Test, put, IsAbsent, Touches, AreGranted}
use Rattle.s370_store.specs.declared.Page.{Page}
use Rattle.s370_store.specs.declared.Access.TheVariants.{Fetch, Store as StoreAccess}
use Rattle.s370_rows.specs.State.{State}
use Rattle.cp_console.specs.declared.commands.DisplayItem.{DisplayItem}
use Rattle.cp_console.specs.declared.commands.DisplayItem.TheVariants as places
use Rattle.cp_console.specs.declared.commands.Change.{Change}
use Rattle.cp_console.specs.declared.commands.Change.TheVariants as changes
use Rattle.cp_console.specs.declared.responses.Response.{Response}
use Rattle.cp_console.specs.declared.responses.Response.TheVariants as responses

-- ---- DISPLAY

-- what a place holds: the PSW without codes, a register, the key of an address's block, or the
-- sixteen bytes round an address, where they lie in storage
abbrev pub displayed : DisplayItem → State → Response
displayed places.Psw s = responses.Psw (word_of s.cpu.psw 0 0)
displayed (places.General r) s = responses.General r (slice_index s.cpu.general r)
displayed (places.Control r) s = responses.Control r (slice_index s.cpu.control r)
displayed (places.Key a) s =
    if nat_lt a (length s.bytes) then responses.Key a (slice_index s.keys (a / 2048))
    else responses.AddressPastStorage
displayed (places.Storage a) s =
    if nat_le (a / 16 * 16 + 16) (length s.bytes)
    then responses.Storage a (slice_range s.bytes (a / 16 * 16) (a / 16 * 16 + 16))
    else responses.AddressPastStorage

-- the bytes of storage that are shown: a key is none of them
abbrev pub shown : DisplayItem → List Test
shown places.Psw = []
shown (places.General r) = []
shown (places.Control r) = []
shown (places.Key a) = []
shown (places.Storage a) = record { access = Fetch; start = a / 16 * 16; count = 16 } ∷ []

-- ---- STORE

-- whether bytes from an address on lie in storage
abbrev pub lie_in : ℕ → List ℕ → State → Bool
lie_in a bytes s = nat_le (a + length bytes) (length s.bytes)

-- how a change is answered: bytes past the end of storage are not stored
abbrev pub stored : Change → State → Response
stored (changes.Psw word) s = responses.Stored
stored (changes.General r word) s = responses.Stored
stored (changes.Storage a bytes) s = if lie_in a bytes s then responses.Stored
    else responses.AddressPastStorage

-- a processor that was given a PSW, the contents of a register, or bytes of storage, whose keys are
-- not tested
abbrev pub changed : Change → State → State
changed (changes.Psw word) s = record s { cpu = record s.cpu { psw = fields_of word } }
changed (changes.General r word) s =
    record s { cpu = record s.cpu { general = slice_set s.cpu.general r word } }
changed (changes.Storage a bytes) s = if lie_in a bytes s
    then record s { bytes = put s.bytes a bytes } else s

-- the bytes of storage that are changed
abbrev pub touched : Change → List Test
touched (changes.Psw word) = []
touched (changes.General r word) = []
touched (changes.Storage a bytes) =
    record { access = StoreAccess; start = a; count = length bytes } ∷ []

-- ---- what the code may answer

-- the reply; or a page that is to be shown and is not present
abbrev pub Displays : DisplayItem → (ℕ → Bool) → State → Result Response Page → Type 0
Displays place present s (Ok reply) = reply ≡ displayed place s
Displays place present s (Err page) = IsAbsent (length s.bytes) present page.0
    × Touches (shown place) page.0

-- the reply and the change; or, with nothing changed, a page that is to be changed and is not
-- present
abbrev pub Changes : Change → (ℕ → Bool) → State → Result Response Page → State → Type 0
Changes change present old (Ok reply) new = (reply ≡ stored change old) × (new ≡ changed change old)
Changes change present old (Err page) new = (new ≡ old) × IsAbsent (length old.bytes) present page.0
    × Touches (touched change) page.0

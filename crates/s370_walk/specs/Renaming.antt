-- A copied program: its words are at places of their own, each of which stands for an address of
-- the guest.
use Rattle.std.specs.Prelude.{ℕ, ◌≡◌, ◌<◌, ◌%◌, ◌==◌, true, false, Option, None, Some}
use Rattle.s370_walk.specs.declared.parts.Transfer.{Transfer}
use Rattle.s370_walk.specs.declared.parts.NextCcw.{NextCcw}
use Rattle.s370_walk.specs.declared.parts.Position.{Position}
use Rattle.s370_walk.specs.declared.parts.Ending.{Ending}
use Rattle.s370_walk.specs.declared.parts.Ccw.{Ccw}
use Rattle.s370_store.specs.Memory.{Memory}
use Rattle.s370_walk.specs.Walk.{Form, State, Fetching, Moving, Over, is_jump, chains_data}
use Rattle.s370_walk.specs.Walk.{chains_command, moving, stepped}
use Rattle.s370_walk.specs.Stuck.{is_skipped}
use Rattle.s370_walk.specs.Tracks.{has_area}

-- a word of the copy, with the guest's addresses of the words after it
abbrev pub renamed_word : (ℕ → ℕ) → Ccw → Ccw
renamed_word guest w =
    record {
      command = w.command;
      address = w.address;
      flags = w.flags;
      count = w.count;
      next = guest w.next;
      skipped = guest w.skipped;
    }

-- a word of the copy that may be missing, with the guest's addresses
abbrev pub renamed_found : (ℕ → ℕ) → Option Ccw → Option Ccw
renamed_found guest None = None
renamed_found guest (Some w) = Some (renamed_word guest w)

-- the place of a word, by the guest's address
abbrev pub renamed_spot : (ℕ → ℕ) → NextCcw → NextCcw
renamed_spot guest s = record {
  at = guest s.at;
  role = s.role;
  jumped = s.jumped;
  started = s.started;
}

-- a position, by the guest's addresses
abbrev pub renamed_position : (ℕ → ℕ) → Position → Position
renamed_position guest p =
    record {
      at = guest p.at;
      started = p.started;
      word = renamed_word guest p.word;
      count = p.count;
      before = p.before;
      transfer = p.transfer;
    }

-- an ending, by the guest's address of its last word
abbrev pub renamed_ending : (ℕ → ℕ) → Ending → Ending
renamed_ending guest e =
    record { at = guest e.at; unit = e.unit; channel = e.channel; count = e.count }

-- A state of the copy's walk, as a state of the guest's.
abbrev pub renamed : {D : Type 0} → (ℕ → ℕ) → State D → State D
renamed guest (Fetching s m d) = Fetching (renamed_spot guest s) m d
renamed guest (Moving p m d) = Moving (renamed_position guest p) m d
renamed guest (Over e m d) = Over (renamed_ending guest e) m d

-- Where a word leads, the copy has words: a transfer in channel to a doubleword, CD to a
-- continuation, and CC without CD to two commands.
pub record Leads (inside : ℕ → Type 0) (w : Ccw) : Type 0 where
  pub jump : is_jump w ≡ true → (w.address % 8 == 0) ≡ true → inside w.next
  pub data_next : chains_data w ≡ true → inside w.next
  pub command_next : chains_command w ≡ true → chains_data w ≡ false → inside w.next
  pub skipped : chains_command w ≡ true → chains_data w ≡ false → inside w.skipped

-- if there is such a word, the words after it are in the copy
abbrev pub LeadsFrom : (ℕ → Type 0) → Option Ccw → Type 0
LeadsFrom inside None = Unit {0}
LeadsFrom inside (Some w) = Leads inside w

-- At each of its places the copy has the guest's word, and it is closed under where words lead. Its
-- bytes lie where the guest's do, where a byte is moved at a position to which a word's obeying
-- comes: tracks says which those are.
pub record IsCopy (guest : ℕ → ℕ) (inside : ℕ → Type 0) (tracks : Position → Type 0)
    (copied form : Form) : Type 0 where
  pub words : (m : Memory) (a : ℕ) → inside a
      → form.text m (guest a) ≡ renamed_found guest (copied.text m a)
  pub places : (m : Memory) (p : Position) → inside p.at
      → ((n : Memory) → copied.text n p.at ≡ Some p.word) → tracks p
      → 0 < p.count → is_skipped p p.transfer.kind ≡ false
      → form.place m (renamed_position guest p) ≡ copied.place m p
  pub begins : (spot : NextCcw) (started : ℕ) (w : Ccw) (t : Transfer) → has_area w ≡ true
      → tracks (moving spot started w t)
  pub skips : (p : Position) → tracks p → 0 < p.count → is_skipped p p.transfer.kind ≡ true
      → tracks (stepped p p.before)
  pub moves_on : (m : Memory) (p : Position) (a : ℕ) → inside p.at
      → ((n : Memory) → copied.text n p.at ≡ Some p.word)
      → tracks p → 0 < p.count → is_skipped p p.transfer.kind ≡ false
      → copied.place m p ≡ Some a → tracks (stepped p (Some a))
  pub loads : (m : Memory) (p : Position) → form.load m (renamed_position guest p) ≡ copied.load m p
  pub same : (m n : Memory) (a : ℕ) → copied.text m a ≡ copied.text n a
  pub closed : (m : Memory) (a : ℕ) → inside a → LeadsFrom inside (copied.text m a)

-- A position is in the copy where its word is there, and where its obeying comes to it.
pub record IsAt (inside : ℕ → Type 0) (tracks : Position → Type 0) (copied : Form)
    (p : Position) : Type 0 where
  pub there : inside p.at
  pub word : (m : Memory) → copied.text m p.at ≡ Some p.word
  pub leads : Leads inside p.word
  pub tracked : tracks p

-- the state of a walk is at a word of the copy
abbrev pub IsInside : {D : Type 0} → (ℕ → Type 0) → (Position → Type 0) → Form → State D → Type 0
IsInside inside tracks copied (Fetching s m d) = inside s.at
IsInside inside tracks copied (Moving p m d) = IsAt inside tracks copied p
IsInside inside tracks copied (Over e m d) = Unit {0}

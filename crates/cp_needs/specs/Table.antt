-- A copied program: the guest's address and the role of each place, the word that is there, and its
-- list.
use Rattle.std.specs.Prelude.{ℕ, ◌-◌, ◌/◌, ◌%◌, ◌<◌, ◌≤◌, ◌≡◌, ◌==◌, List, [], ◌∷◌, ◌++◌, length}
use Rattle.std.specs.Prelude.{slice_index_or, Option, None, Some, ◌⊎◌, Bool, true, false, ◌||◌}
use Rattle.std.specs.Prelude.{◌&&◌, not, if◌then◌else◌}
use Rattle.std.specs.List.{slice_get}
use Rattle.s370_walk.specs.declared.parts.Ccw.{Ccw}
use Rattle.s370_store.specs.Memory.{Memory}
use Rattle.s370_walk.specs.Walk.{is_jump, chains_data, chains_command}
use Rattle.s370_channel.specs.Guest.{guest_text, area_block}
use Rattle.s370_walk.specs.declared.places.CcwLocation.{CcwLocation}
use Rattle.s370_walk.specs.Renaming.{renamed_found, LeadsFrom}
use Rattle.s370_walk.specs.Mapped.{Program}
use Rattle.s370_walk.specs.Tracks.{has_area, IsListOf}
use Rattle.s370_walk.specs.Copy.{guest_of}
use Rattle.cp_needs.specs.declared.program.Node.{Node}

-- the word of a node that may be missing
abbrev pub word_in : Option Node → Option Ccw
word_in None = None
word_in (Some node) = node.word

-- the entry of a node's list
abbrev pub entry_in : Option Node → ℕ → Option ℕ
entry_in None j = None
entry_in (Some node) j = slice_index_or node.list.items j None

-- the program that the nodes are
abbrev pub program_of : List Node → Program
program_of nodes = record {
  words = λ a. word_in (slice_get nodes a);
  lists = λ a j. entry_in (slice_get nodes a) j;
}

-- a link leads to a place, or to an address past the places
abbrev pub IsLink : List CcwLocation → ℕ → Type 0
IsLink places a = (a < length places) ⊎ (2147483648 ≤ a)

-- the words after a word are places of the table
abbrev pub HasLinks : List CcwLocation → Option Ccw → Type 0
HasLinks places None = Unit {0}
HasLinks places (Some w) = IsLink places w.next × IsLink places w.skipped

-- a place, or an address past the places at which there is no word
abbrev pub IsGood : List CcwLocation → (ℕ → Option Ccw) → ℕ → Type 0
IsGood places text a = (a < length places) ⊎ ((2147483648 ≤ a) × (text (a - 2147483648) ≡ None))

-- what was found at an address is the guest's word there
pub record IsCopied (places : List CcwLocation) (text : ℕ → Option Ccw) (address : ℕ)
    (found : Option Ccw) : Type 0 where
  pub same : text address ≡ renamed_found (guest_of places) found
  pub leads : LeadsFrom (IsGood places text) found
  pub links : HasLinks places found

-- the list of a word that may be missing is the guest's
abbrev pub HasListOf : Memory → Option Ccw → List (Option ℕ) → Type 0
HasListOf m None list = Unit {0}
HasListOf m (Some w) list = has_area w ≡ true
    → IsListOf (λ j. slice_index_or list j None) (area_block m w) w.count

-- a node holds the guest's word at an address, and the list of that word
pub record IsRow (places : List CcwLocation) (m : Memory) (address : ℕ) (node : Node) : Type 0 where
  pub copied : IsCopied places (guest_text m) address node.word
  pub list : HasListOf m node.word node.list.items

-- Each node is the one of its place.
abbrev pub AreRows : List CcwLocation → List Node → Memory → Type 0
AreRows places nodes m = (i : ℕ) (node : Node) → slice_get nodes i ≡ Some node
    → IsRow places m (guest_of places i) node

-- places were added at the end
pub record Grows (old new : List CcwLocation) : Type 0 where
  pub rest : List CcwLocation
  pub is : new ≡ old ++ rest

-- a place is added, if at all, only where a word leads there
abbrev pub IsFollowed : Bool → CcwLocation → List CcwLocation → List CcwLocation → Type 0
IsFollowed leads place old new = (new ≡ old) ⊎ ((leads ≡ true) × (new ≡ old ++ place ∷ []))

-- A link that was made: where the word leads on, it is good.
pub record IsLinked (places : List CcwLocation) (text : ℕ → Option Ccw) (leads : Bool)
    (address number : ℕ) : Type 0 where
  pub link : IsLink places number
  pub same : guest_of places number ≡ address
  pub good : leads ≡ true → IsGood places text number

-- where a word leads
abbrev pub leads_next : Ccw → Bool
leads_next w = if is_jump w then (w.address % 8 == 0) else (chains_data w || chains_command w)

-- whether the next word continues this one's data area: a transfer in channel, which may itself are
-- in such a place, leaves it as it is
abbrev pub role_after : Ccw → Bool → Bool
role_after w continues = if is_jump w then continues else chains_data w

-- whether a word may lead to the word after the next one
abbrev pub leads_skipped : Ccw → Bool
leads_skipped w = not (is_jump w) && (chains_command w && not (chains_data w))

-- the flags of a transfer in channel are cleared
pub record IsJumpPlain (w : Ccw) : Type 0 where
  pub chained : is_jump w ≡ true → chains_data w ≡ false
  pub commands : is_jump w ≡ true → chains_command w ≡ false

-- Lists of addresses.
-- the first words of a list
pub record IsPart (list : List (Option ℕ)) (f : ℕ → Option ℕ) : Type 0 where
  pub same : (i : ℕ) → i < length list → slice_index_or list i None ≡ f i

-- each address of a list that lies in storage lies on a page that is present
abbrev pub IsPresent : ℕ → (ℕ → Bool) → Option ℕ → Type 0
IsPresent size present None = Unit {0}
IsPresent size present (Some a) = a < size → present (a / 4096) ≡ true

-- each address of a list that lies in storage is on a present page
abbrev pub AllPresent : ℕ → (ℕ → Bool) → List (Option ℕ) → Type 0
AllPresent size present list = (j a : ℕ) → slice_index_or list j None ≡ Some a → a < size
    → present (a / 4096) ≡ true

-- the lists of all nodes
pub record AreHeldRows (nodes : List Node) (size : ℕ) (present : ℕ → Bool) : Type 0 where
  pub held : (i : ℕ) (node : Node) → slice_get nodes i ≡ Some node
      → AllPresent size present node.list.items

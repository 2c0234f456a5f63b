-- What is brought for a channel program: the pages that its walk touches.
use Rattle.std.specs.Prelude.{ℕ, ◌*◌, ◌≡◌, ◌<◌, ◌⊎◌, Bool, true, List, [], ◌∷◌}
use Rattle.s370_walk.specs.declared.parts.Order.{Order}
use Rattle.s370_store.specs.Memory.{Memory}
use Rattle.s370_walk.specs.Hardware.{Machine}
use Rattle.s370_walk.specs.Short.{IsShort}
use Rattle.s370_walk.specs.Stuck.{IsAsked}
use Rattle.s370_walk.specs.Walk.{Setting, State, Over, Written, Reaches, live, order_of, start_spot}
use Rattle.s370_channel.specs.declared.running.ChannelError.{ChannelError}
use Rattle.s370_channel.specs.declared.running.ChannelError.TheVariants as errors
use Rattle.s370_channel.specs.declared.supplied.Advance.{Advance}
use Rattle.s370_channel.specs.declared.supplied.Advance.TheVariants as gones
use Rattle.s370_channel.specs.declared.supplied.Shortage.{Shortage}
use Rattle.s370_channel.specs.declared.supplied.Shortage.TheVariants as lacks
use Rattle.s370_channel.specs.Halts.{IsReady, place_weight, stands}
use Rattle.s370_channel.specs.declared.running.Place.{Place}
use Rattle.s370_channel.specs.Loading.{implied_word, loading, loading_limits}
use Rattle.s370_channel.specs.Progress.{setting}

-- each page is such
abbrev pub AllSuch : (ℕ → Type 0) → List ℕ → Type 0
AllSuch is_such [] = Unit {0}
AllSuch is_such (page ∷ pages) = is_such page × AllSuch is_such pages

-- each page of each unit
abbrev pub EachSuch : (ℕ → Type 0) → List (List ℕ) → Type 0
EachSuch is_such [] = Unit {0}
EachSuch is_such (pages ∷ units) = AllSuch is_such pages × EachSuch is_such units

-- the walk comes to a step that reads or writes a byte of the page, or fetches one to find out what
-- or where
pub record IsTouched {D : Type 0} (w : Written) (h : Setting D) (from : State D)
    (page : ℕ) : Type 0 where
  pub state : State D
  pub comes : Reaches (live w) h from state
  pub asked : IsAsked w h.machine state page

-- memory was refused, at a command that needs it
abbrev pub IsOutOfMemory : {D : Type 0} → Written → Setting D → (D → Order → Bool) → State D
    → ChannelError → Type 0
IsOutOfMemory w h needs from errors.Memory = IsShort (live w) h needs from
IsOutOfMemory w h needs from (errors.Absent page) = ⊥

-- the same of the program of an initial program loading
abbrev pub IsLoadingOut : {D : Type 0} → Written → Machine D → (D → Order → Bool) → Memory → D
    → ChannelError → Type 0
IsLoadingOut w machine needs m d errors.Memory =
    (needs d (order_of 0 (start_spot 0) implied_word) ≡ true)
    ⊎ IsShort (live w) (setting machine loading_limits) needs (loading machine m d)
IsLoadingOut w machine needs m d (errors.Absent page) = ⊥

-- ---- a step for which pages are brought

-- the state of the walk to which a step leads
abbrev pub gone_state : {D : Type 0} → Advance → Memory → D → State D
gone_state (gones.Finished ending) m d = Over ending m d
gone_state (gones.Further place) m d = stands place m d

-- it is farther than it was
abbrev pub IsFarther : ℕ → Place → Advance → Type 0
IsFarther limit old (gones.Finished ending) = Unit {0}
IsFarther limit old (gones.Further place) = IsReady place
    × (place_weight limit place < place_weight limit old)

-- why it is not: memory was refused, or there is no room for a page that the step asks for
abbrev pub IsLack : {D : Type 0} → Written → Setting D → (D → Order → Bool) → State D → ℕ
    → (ℕ → Type 0) → Shortage → Type 0
IsLack w h needs from size IsShortOf lacks.Memory = IsShort (live w) h needs from
IsLack w h needs from size IsShortOf lacks.Room = (page : ℕ) × (page * 4096 < size) × IsShortOf page

-- pages of a storage of this size that the step asks for, at most nine
pub record IsAskedFor {D : Type 0} (w : Written) (machine : Machine D) (state : State D) (size : ℕ)
    (pages : List ℕ) : Type 0 where
  pub all : AllSuch (IsAsked w machine state) pages
  pub inside : AllSuch (λ page. page * 4096 < size) pages

-- Where a run halts for want of a page, and how it goes on from there.
use Rattle.std.specs.Prelude.{ℕ, ◌+◌, ◌-◌, ◌*◌, ◌^◌, ◌≡◌, ◌<◌, ◌≤◌, ◌⊎◌, Bool, true, None, Some}
use Rattle.s370_store.specs.Access.{IsAbsent}
use Rattle.s370_walk.specs.declared.parts.Order.{Order}
use Rattle.s370_walk.specs.declared.parts.Position.{Position}
use Rattle.s370_walk.specs.declared.parts.NextCcw.{NextCcw}
use Rattle.s370_walk.specs.declared.parts.Ccw.{Ccw}
use Rattle.s370_store.specs.Memory.{Memory}
use Rattle.s370_walk.specs.Hardware.{Machine}
use Rattle.s370_walk.specs.Short.{IsShort}
use Rattle.s370_walk.specs.Stuck.{IsAsked, size_in}
use Rattle.s370_walk.specs.Walk.{Setting, State, Fetching, Moving, Written, Reaches, entered, live}
use Rattle.s370_walk.specs.Walk.{order_of, start_spot}
use Rattle.s370_channel.specs.declared.moving.MissingPage.{MissingPage}
use Rattle.s370_channel.specs.declared.running.ChannelError.{ChannelError}
use Rattle.s370_channel.specs.declared.running.ChannelError.TheVariants as errors
use Rattle.s370_channel.specs.declared.running.Place.{Place}
use Rattle.s370_channel.specs.declared.running.Place.TheVariants.{Next, Within}
use Rattle.s370_channel.specs.declared.running.RunStop.{RunStop}
use Rattle.s370_channel.specs.declared.running.RunStop.TheVariants as halts
use Rattle.s370_channel.specs.Progress.{rest_of, setting, weight}
use Rattle.s370_channel.specs.Loading.{implied_word, loading, loading_limits}

-- the next step needs a page that is not present
pub record Lacks {D : Type 0} (w : Written) (machine : Machine D) (present : ℕ → Bool)
    (state : State D) (page : ℕ) : Type 0 where
  pub asked : IsAsked w machine state page
  pub away : IsAbsent (size_in state) present page

-- ---- within a word

-- the walk comes to a byte of the word, and its step lacks the page
pub record HaltsIn {D : Type 0} (w : Written) (h : Setting D) (present : ℕ → Bool) (from : State D)
    (m : Memory) (d : D) (lacking : MissingPage) : Type 0 where
  pub comes : Reaches (live w) h from (Moving lacking.position m d)
  pub lacks : Lacks w h.machine present (Moving lacking.position m d) lacking.page.0
  pub some : 0 < lacking.position.count
  pub within : lacking.position.count ≤ lacking.position.word.count

-- no byte was moved and nothing has changed, or fewer are left of those that the device said
pub record HasMovedTo {D : Type 0} (old : Position) (m : Memory) (d : D) (new : Position)
    (m' : Memory) (d' : D) : Type 0 where
  pub started : new.started ≡ old.started
  pub on : ((new ≡ old) × (m' ≡ m) × (d' ≡ d)) ⊎ (new.transfer.left < old.transfer.left)

-- ---- anywhere

-- the state of the walk at a place
abbrev pub stands : {D : Type 0} → Place → Memory → D → State D
stands (Next spot) m d = Fetching spot m d
stands (Within p) m d = Moving p m d

-- a place within a word has at least one byte left, and no more than the word counts
abbrev pub IsReady : Place → Type 0
IsReady (Next spot) = Unit {0}
IsReady (Within p) = (0 < p.count) × (p.count ≤ p.word.count)

-- how much may still be done
abbrev pub place_weight : ℕ → Place → ℕ
place_weight limit (Next spot) = 2 * weight limit spot + 1
place_weight limit (Within p) = 2 * ((limit - p.started) * 2 ^ 34 + rest_of (Some p.transfer))

-- nothing was done, or less is left to do
abbrev pub HasGone : {D : Type 0} → ℕ → Place → Memory → D → Place → Memory → D → Type 0
HasGone limit old m d new m' d' = ((new ≡ old) × (m' ≡ m) × (d' ≡ d))
    ⊎ (place_weight limit new < place_weight limit old)

-- the walk comes to a place, and the step there lacks the page
pub record HaltsAt {D : Type 0} (w : Written) (h : Setting D) (present : ℕ → Bool) (from : State D)
    (m : Memory) (d : D) (page : ℕ) (place : Place) : Type 0 where
  pub comes : Reaches (live w) h from (stands place m d)
  pub lacks : Lacks w h.machine present (stands place m d) page
  pub ready : IsReady place

-- why a run halts: at a command that needs memory, or for want of a page
abbrev pub MatchHalt : {D : Type 0} → Written → Setting D → (D → Order → Bool) → (ℕ → Bool)
    → State D → Memory → D → RunStop → Type 0
MatchHalt w h needs present from m d halts.Memory = IsShort (live w) h needs from
MatchHalt w h needs present from m d (halts.Absent page place) =
    HaltsAt w h present from m d page.0 place

-- the same at a command that it starts
abbrev pub MatchHaltBegun : {D : Type 0} → Written → Setting D → (D → Order → Bool) → (ℕ → Bool)
    → NextCcw → Ccw → Memory → D → Memory → D → RunStop → Type 0
MatchHaltBegun w h needs present spot word m d m' d' halts.Memory =
    needs d (order_of h.prefix spot word) ≡ true
MatchHaltBegun w h needs present spot word m d m' d' (halts.Absent page place) =
    HaltsAt w h present (entered h spot word None m d) m' d' page.0 place

-- the same of the program of an initial program loading
abbrev pub MatchHaltLoading : {D : Type 0} → Written → Machine D → (D → Order → Bool) → (ℕ → Bool)
    → Memory → D → Memory → D → RunStop → Type 0
MatchHaltLoading w machine needs present m d m' d' halts.Memory =
    (needs d (order_of 0 (start_spot 0) implied_word) ≡ true)
    ⊎ IsShort (live w) (setting machine loading_limits) needs (loading machine m d)
MatchHaltLoading w machine needs present m d m' d' (halts.Absent page place) =
    HaltsAt w (setting machine loading_limits) present (loading machine m d) m' d' page.0 place

-- how far it has come from a place
abbrev pub HaltsOn : {D : Type 0} → ℕ → Place → Memory → D → Memory → D → RunStop → Type 0
HaltsOn limit old m d m' d' halts.Memory = Unit {0}
HaltsOn limit old m d m' d' (halts.Absent page place) = HasGone limit old m d place m' d'

-- farther than the word at which it began
abbrev pub HaltsBeyond : ℕ → NextCcw → RunStop → Type 0
HaltsBeyond limit spot halts.Memory = Unit {0}
HaltsBeyond limit spot (halts.Absent page place) =
    place_weight limit place < place_weight limit (Next spot)

-- what is reported of it
abbrev pub error_of : RunStop → ChannelError
error_of halts.Memory = errors.Memory
error_of (halts.Absent page place) = errors.Absent page

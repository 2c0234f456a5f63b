-- If a run halts, and how far it has come.
use Rattle.std.specs.Prelude.{ℕ, ◌+◌, ◌-◌, ◌*◌, ◌^◌, ◌≡◌, ◌<◌, ◌≤◌, ◌⊎◌, Bool, Result, Ok, Err, IfErr, Some, length}
use Rattle.std.proofs.Common.{arith, inl, inr, subst, ap, ◌∙◌, sym}
use Rattle.s370_store.specs.Access.{IsAbsent, Touches}
use Rattle.s370_walk.specs.declared.parts.Ending.{Ending}
use Rattle.s370_walk.specs.declared.parts.Order.{Order}
use Rattle.s370_walk.specs.declared.parts.Position.{Position}
use Rattle.s370_walk.specs.declared.parts.NextCcw.{NextCcw}
use Rattle.s370_walk.specs.declared.parts.Transfer.{Transfer}
use Rattle.s370_store.specs.Memory.{Memory}
use Rattle.s370_walk.specs.Hardware.{Machine}
use Rattle.s370_walk.specs.Stuck.{IsStuck}
use Rattle.s370_walk.specs.Walk.{Setting, State, Fetching, Written, Reaches, live, next}
use Rattle.s370_walk.proofs.Reaching.{reach_here, reach_on, reach_from, short_on}
use Rattle.s370_channel.specs.declared.moving.MissingPage.{MissingPage}
use Rattle.s370_channel.specs.declared.running.Place.{Place}
use Rattle.s370_channel.specs.declared.running.Place.TheVariants.{Next, Within}
use Rattle.s370_channel.specs.declared.running.RunStop.{RunStop}
use Rattle.s370_channel.specs.declared.running.RunStop.TheVariants as halts
use Rattle.s370_channel.specs.Halts.{HaltsIn, HasMovedTo, HaltsAt, HasGone, HaltsOn, HaltsBeyond, MatchHalt, error_of}
use Rattle.s370_channel.specs.Halts.{place_weight, stands, MatchHaltLoading}
use Rattle.s370_channel.specs.Loading.{MatchLoading, loading, loading_limits}
use Rattle.s370_channel.specs.Progress.{MatchStuck, rest_of, setting, weight}

-- ---- where it halts

-- a word that is not there
pub lacks_word : {D : Type 0} {w : Written} {h : Setting D} {present : ℕ
    → Bool} {spot : NextCcw} {m : Memory} {d : D} {page : ℕ} → IsAbsent (length m.bytes) present page
    → Touches (w.word_asks spot.at) page → HaltsAt w h present (Fetching spot m d) m d page (Next spot)
lacks_word {w = w} {h = h} {spot = spot} {m = m} {d = d} away asked =
    record {
      comes = reach_here (live w) h (Fetching spot m d);
      lacks = record { asked = asked; away = away };
      ready = tt;
    }

-- a byte of a word that is not there
pub halts_within : {D : Type 0} {w : Written} {h : Setting D} {present : ℕ
    → Bool} {from : State D} {m : Memory} {d : D} {lacking : MissingPage} → HaltsIn w h present from m d lacking
    → HaltsAt w h present from m d lacking.page.0 (Within lacking.position)
halts_within a = record { comes = a.comes; lacks = a.lacks; ready = (a.some, a.within) }

-- the same one step before
pub halts_from : {D : Type 0} {w : Written} {h : Setting D} {present : ℕ
    → Bool} {r s : State D} {m : Memory} {d : D} {lacking : MissingPage} → next (live w) h r ≡ s
    → HaltsIn w h present s m d lacking → HaltsAt w h present r m d lacking.page.0 (Within lacking.position)
halts_from {w = w} {h = h} e a = record { comes = reach_from e a.comes; lacks = a.lacks; ready = (a.some, a.within) }

-- what a walk comes to, halts later
pub halts_later : {D : Type 0} {w : Written} {h : Setting D} {present later : ℕ
    → Bool} {r s : State D} {m : Memory} {d : D} {page : ℕ} {place : Place} → Reaches (live w) h r s → later ≡ present
    → HaltsAt w h later s m d page place → HaltsAt w h present r m d page place
halts_later {w = w} {h = h} {s = s} {m = m} {d = d} {page = page} {place = place} a e b =
    let P : (ℕ → Bool) → Type 0 = λ f. HaltsAt w h f s m d page place in
    let c = subst P e b in
    record { comes = reach_on (live w) h a c.comes; lacks = c.lacks; ready = c.ready }

-- A run that stops from a later state stops alike from an earlier one.
pub match_halts_later : {D : Type 0} (w : Written) (h : Setting D) (needs : D → Order → Bool) {present later : ℕ
    → Bool} {r s : State D} (m : Memory) (d : D) (halt : RunStop) → Reaches (live w) h r s → later ≡ present
    → MatchHalt w h needs later s m d halt → MatchHalt w h needs present r m d halt
match_halts_later w h needs m d halts.Memory a e b = short_on a b
match_halts_later w h needs m d (halts.Absent page place) a e b = halts_later a e b

pub halts_stuck : {D : Type 0} {w : Written} {h : Setting D} {present : ℕ
    → Bool} {from : State D} {m : Memory} {d : D} {page : ℕ} {place : Place} → HaltsAt w h present from m d page place
    → IsStuck w h present from page
halts_stuck {m = m} {d = d} {place = place} a = record {
  state = stands place m d;
  comes = a.comes;
  asked = a.lacks.asked;
  away = a.lacks.away;
}

-- the same as it is reported
pub halts_told : {D : Type 0} (w : Written) (h : Setting D) (needs : D → Order → Bool) (present : ℕ → Bool)
    (from : State D) (m : Memory) (d : D) (halt : RunStop) → MatchHalt w h needs present from m d halt
    → MatchStuck w h needs present from (error_of halt)
halts_told w h needs present from m d halts.Memory a = a
halts_told w h needs present from m d (halts.Absent page place) a = halts_stuck a

-- ---- how far it has come

-- less is left of the same command
fewer : (limit : ℕ) (old new : Position) → new.started ≡ old.started → new.transfer.left < old.transfer.left
    → place_weight limit (Within new) < place_weight limit (Within old)
fewer limit old new e less = rw e (omega arith)

pub gone_within : {D : Type 0} (limit : ℕ) {old new : Position} {m m' : Memory} {d d' : D}
    → HasMovedTo old m d new m' d' → HasGone limit (Within old) m d (Within new) m' d'
gone_within limit {old = old} {new = new} a =
    elim a.on [
      | inl same ↦ inl (ap Within same.0, same.1, same.2)
      | inr less ↦ inr (fewer limit old new a.started less)
    ]

no_heavier : {D : Type 0} (limit : ℕ) {old new : Position} {m m' : Memory} {d d' : D} → HasMovedTo old m d new m' d'
    → place_weight limit (Within new) ≤ place_weight limit (Within old)
no_heavier limit {old = old} {new = new} a =
    elim a.on [
      | inl same ↦ rw same.0 (omega arith)
      | inr less ↦ (let f = fewer limit old new a.started less in omega (arith, f))
    ]

-- what a command leads to, from the word on that it is in
pub beyond_command : {D : Type 0} (limit : ℕ) (spot : NextCcw) {old new : Position} {m m' : Memory} {d d' : D}
    → spot.started < limit → old.started ≡ spot.started + 1 → old.transfer.left < 2 ^ 32 → HasMovedTo old m d new m' d'
    → place_weight limit (Within new) < place_weight limit (Next spot)
unfolding weight
beyond_command limit spot {old = old} {new = new} lt e few a =
    let n = no_heavier limit a in
    let o : place_weight limit (Within old) < place_weight limit (Next spot) = rw e (omega arith) in
    omega (arith, n, o)

pub beyond_continued : {D : Type 0} (limit : ℕ) (spot : NextCcw)
    (t : Transfer) {old new : Position} {m m' : Memory} {d d' : D} → spot.role ≡ Some t → old.started ≡ spot.started
    → old.transfer ≡ t → HasMovedTo old m d new m' d' → place_weight limit (Within new) < place_weight limit (Next spot)
unfolding weight
beyond_continued limit spot t {old = old} {new = new} role e same a =
    let n = no_heavier limit a in
    let o : place_weight limit (Within old) < place_weight limit (Next spot) = rw (role, e, same) (omega arith) in
    omega (arith, n, o)

pub on_beyond : {D : Type 0} (limit : ℕ) (spot : NextCcw) (m m' : Memory) (d d' : D) (halt : RunStop)
    → HaltsBeyond limit spot halt → HaltsOn limit (Next spot) m d m' d' halt
on_beyond limit spot m m' d d' halts.Memory a = tt
on_beyond limit spot m m' d d' (halts.Absent page place) a = inr a

-- a word is the one at which a run began, or a lighter one
abbrev pub IsSameOrLighter : {D : Type 0} → ℕ → NextCcw → Memory → D → NextCcw → Memory → D → Type 0
IsSameOrLighter limit old m d new m' d' = ((new ≡ old) × (m' ≡ m) × (d' ≡ d)) ⊎ (weight limit new < weight limit old)

pub lighter_still : {D : Type 0} (limit : ℕ) (old new then : NextCcw) (m m' : Memory) (d d' : D)
    → IsSameOrLighter limit old m d new m' d' → weight limit then < weight limit new
    → weight limit then < weight limit old
lighter_still limit old new then m m' d d' a less =
    elim a [
      | inl same ↦ subst (λ (s : NextCcw). weight limit then < weight limit s) same.0 less
      | inr lighter ↦ omega (arith, lighter, less)
    ]

gone_still : {D : Type 0} (limit : ℕ) (old : NextCcw) (m : Memory) (d : D) (new : NextCcw) (n : Memory) (e : D)
    (place : Place) (m' : Memory) (d' : D) → IsSameOrLighter limit old m d new n e
    → HasGone limit (Next new) n e place m' d' → HasGone limit (Next old) m d place m' d'
gone_still limit old m d new n e place m' d' (inl same) (inl still) = inl (
  still.0 ∙ ap Next same.0,
  still.1
      ∙ same.1,
  still.2 ∙ same.2,
)
gone_still limit old m d new n e place m' d' (inl same) (inr less) = inr
    (subst (λ (s : NextCcw). place_weight limit place < place_weight limit (Next s)) same.0 less)
gone_still limit old m d new n e place m' d' (inr lighter) (inl still) = inr
    (let o : place_weight limit (Next new) < place_weight limit (Next old) = omega (arith, lighter) in
    subst (λ (x : Place). place_weight limit x < place_weight limit (Next old)) (sym still.0) o)
gone_still limit old m d new n e place m' d' (inr lighter) (inr less) = inr (omega (arith, lighter, less))

-- A program that goes on no heavier stops where it would have stopped before.
pub on_still : {D : Type 0} (limit : ℕ) (old : NextCcw) (m : Memory) (d : D) (new : NextCcw) (n : Memory) (e : D)
    (m' : Memory) (d' : D) (halt : RunStop) → IsSameOrLighter limit old m d new n e
    → HaltsOn limit (Next new) n e m' d' halt → HaltsOn limit (Next old) m d m' d' halt
on_still limit old m d new n e m' d' halts.Memory a b = tt
on_still limit old m d new n e m' d' (halts.Absent page place) a b = gone_still limit old m d new n e place m' d' a b

-- the walk has come from a word that was being obeyed to a lighter one
pub on_after : {D : Type 0} (limit : ℕ) (old : Position) (m : Memory) (d : D) (new : NextCcw) (n : Memory) (e : D)
    (m' : Memory) (d' : D) (halt : RunStop) → weight limit new < (limit - old.started) * 2 ^ 34 + rest_of
    (Some old.transfer) → HaltsOn limit (Next new) n e m' d' halt → HaltsOn limit (Within old) m d m' d' halt
on_after limit old m d new n e m' d' halts.Memory less a = tt
on_after limit old m d new n e m' d' (halts.Absent page place) less (inl same) =
    inr (let o : place_weight limit (Next new) < place_weight limit (Within old) = omega (arith, less) in
    subst (λ (x : Place). place_weight limit x < place_weight limit (Within old)) (sym same.0) o)
on_after limit old m d new n e m' d' (halts.Absent page place) less (inr lighter) =
    inr (let o : place_weight limit (Next new) < place_weight limit (Within old) = omega (arith, less) in
    omega (arith, lighter, o))

-- What a run that stopped matches from a later state it matches from an earlier one.
pub then_halts : {D : Type 0} (w : Written) (h : Setting D) (needs : D → Order → Bool) {present later : ℕ
    → Bool} {r s : State D} (m : Memory) (d : D) (result : Result Ending RunStop) → Reaches (live w) h r s
    → later ≡ present → IfErr result (MatchHalt w h needs later s m d)
    → IfErr result (MatchHalt w h needs present r m d)
then_halts w h needs m d (Ok ending) a e b = tt
then_halts w h needs m d (Err halt) a e b = match_halts_later w h needs m d halt a e b

-- ---- a loading

-- A loading that stops from a later state stops alike from its beginning.
pub loading_halts : {D : Type 0} (w : Written) (machine : Machine D) (needs : D → Order → Bool) {present later : ℕ
    → Bool} (m : Memory) (d : D) {s : State D} (m' : Memory) (d' : D) (result : Result Ending RunStop)
    → Reaches (live w) (setting machine loading_limits) (loading machine m d) s → later ≡ present
    → IfErr result (MatchHalt w (setting machine loading_limits) needs later s m' d')
    → IfErr result (MatchHaltLoading w machine needs present m d m' d')
loading_halts w machine needs m d m' d' (Ok ending) a e b = tt
loading_halts w machine needs m d m' d' (Err halts.Memory) a e b = inr (short_on a b)
loading_halts w machine needs m d m' d' (Err (halts.Absent page place)) a e b = halts_later a e b

-- A loading that stops reports the error that the stop stands for.
pub loading_told : {D : Type 0} (w : Written) (machine : Machine D) (needs : D → Order → Bool) (present : ℕ → Bool)
    (m : Memory) (d : D) (m' : Memory) (d' : D) (halt : RunStop)
    → MatchHaltLoading w machine needs present m d m' d' halt → MatchLoading w machine needs present m d (error_of halt)
loading_told w machine needs present m d m' d' halts.Memory a = a
loading_told w machine needs present m d m' d' (halts.Absent page place) a = halts_stuck a

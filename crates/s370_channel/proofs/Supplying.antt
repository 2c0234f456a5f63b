-- A run for which pages are brought goes on where it was.
use Rattle.std.specs.Prelude.{ℕ, ◌≡◌, ◌<◌, Bool, List, [], ◌∷◌, ◌++◌, Result, Ok, Err, IfErr, length}
use Rattle.std.proofs.Common.{inl, inr, subst, ◌∙◌, refl}
use Rattle.s370_store.specs.Access.{IsAbsent}
use Rattle.s370_walk.specs.declared.parts.Ending.{Ending}
use Rattle.s370_walk.specs.declared.parts.Order.{Order}
use Rattle.s370_store.specs.Memory.{Memory}
use Rattle.s370_walk.specs.Hardware.{Machine}
use Rattle.s370_walk.specs.Stuck.{IsAsked, size_in}
use Rattle.s370_walk.specs.Walk.{Setting, State, Written, Over, Reaches, live}
use Rattle.s370_walk.proofs.Reaching.{reach_on, short_on}
use Rattle.s370_channel.specs.declared.running.ChannelError.{ChannelError}
use Rattle.s370_channel.specs.declared.running.ChannelError.TheVariants as errors
use Rattle.s370_channel.specs.declared.running.Place.{Place}
use Rattle.s370_channel.specs.declared.running.Place.TheVariants.{Next, Within}
use Rattle.s370_channel.specs.declared.supplied.Advance.{Advance}
use Rattle.s370_channel.specs.declared.supplied.Advance.TheVariants as gones
use Rattle.s370_channel.specs.declared.supplied.Shortage.{Shortage}
use Rattle.s370_channel.specs.Halts.{HaltsAt, HasGone, IsReady, place_weight, stands}
use Rattle.s370_channel.specs.Loading.{loading, loading_limits}
use Rattle.s370_channel.specs.Progress.{setting}
use Rattle.s370_channel.specs.Supplied.{AllSuch, EachSuch, IsFarther, IsLoadingOut, IsOutOfMemory, IsTouched}
use Rattle.s370_channel.specs.Supplied.{gone_state}

size_stands : {D : Type 0} (place : Place) (m : Memory) (d : D) → size_in (stands place m d) ≡ length m.bytes
size_stands (Next spot) m d = refl
size_stands (Within p) m d = refl

-- the page is one of the storage
pub away_at : {D : Type 0} {w : Written} {h : Setting D} {present : ℕ
    → Bool} {from : State D} {m : Memory} {d : D} {page : ℕ} {place : Place} → HaltsAt w h present from m d page place
    → IsAbsent (length m.bytes) present page
away_at {present = present} {m = m} {d = d} {page = page} {place = place} a = subst (λ (n : ℕ). IsAbsent n present page)
    (size_stands place m d) a.lacks.away

-- If a run halts at a place no lighter than that at which it began, it is that place, nothing has changed, and the page
-- is asked for there.
pub halts_still : {D : Type 0} {w : Written} {h : Setting D} {present : ℕ
    → Bool} {from : State D} {m' : Memory} {d' : D} {page : ℕ} {place : Place} (limit : ℕ) (begun : Place)
    (m m0 : Memory) (d d0 : D) → HaltsAt w h present from m' d' page place → HasGone limit begun m d place m' d'
    → (place_weight limit place < place_weight limit begun → ⊥) → m ≡ m0 → d ≡ d0
    → (m' ≡ m0) × (d' ≡ d0) × IsAsked w h.machine (stands begun m0 d0) page
halts_still {D = D} {w = w} {h = h} {m' = m'} {d' = d'} {page = page} {place = place} limit begun m m0 d d0 a
    (inl same) not_less em ed =
    let eqm : m' ≡ m0 = same.1 ∙ em in
    let eqd : d' ≡ d0 = same.2 ∙ ed in
    let one = subst (λ (x : Place). IsAsked w h.machine (stands x m' d') page) same.0 a.lacks.asked in
    let two = subst (λ (x : Memory). IsAsked w h.machine (stands begun x d') page) eqm one in
    (eqm, eqd, subst (λ (x : D). IsAsked w h.machine (stands begun m0 x) page) eqd two)
halts_still limit begun m m0 d d0 a (inr less) not_less em ed = absurd (not_less less)

-- What holds of an error that was found holds of the same error by another name.
pub lack_is : {A : Type 0} (P : Shortage → Type 0) (r : Result A Shortage) (l k : Shortage) → r ≡ Err l → l ≡ k
    → IfErr r P → P k
lack_is {A = A} P r l k e is h = let Q : Result A Shortage → Type 0 = λ x. IfErr x P in subst P is (subst Q e h)

-- ---- one unit after another

-- Pages that a later state asks for are touched by the program.
pub all_touched : {D : Type 0} (w : Written) (h : Setting D) (from state : State D) (pages : List ℕ)
    → Reaches (live w) h from state → AllSuch (IsAsked w h.machine state) pages → AllSuch (IsTouched w h from) pages
all_touched w h from state [] comes all = tt
all_touched w h from state (page ∷ pages) comes all = (
  record { state = state; comes = comes; asked = all.0 },
  all_touched w h from state pages comes all.1,
)

all_before : {D : Type 0} (w : Written) (h : Setting D) (from later : State D) (pages : List ℕ)
    → Reaches (live w) h from later → AllSuch (IsTouched w h later) pages → AllSuch (IsTouched w h from) pages
all_before w h from later [] comes all = tt
all_before w h from later (page ∷ pages) comes all =
    let t = all.0 in (
      record { state = t.state; comes = reach_on (live w) h comes t.comes; asked = t.asked },
      all_before w h from later pages comes all.1,
    )

-- Pages that are touched from a later state are touched from an earlier one.
pub each_before : {D : Type 0} (w : Written) (h : Setting D) (from later : State D) (units : List (List ℕ))
    → Reaches (live w) h from later → EachSuch (IsTouched w h later) units → EachSuch (IsTouched w h from) units
each_before w h from later [] comes each = tt
each_before w h from later (pages ∷ units) comes each = (
  all_before w h from later pages comes each.0,
  each_before w h from later units comes each.1,
)

-- One more unit of such pages makes all units such.
pub each_more : (is_such : ℕ → Type 0) (units : List (List ℕ)) (pages : List ℕ) → EachSuch is_such units
    → AllSuch is_such pages → EachSuch is_such (units ++ (pages ∷ []))
each_more is_such [] pages each all = (all, tt)
each_more is_such (first ∷ units) pages each all = (each.0, each_more is_such units pages each.1 all)

-- A run that is out of memory from a later state is so from an earlier one.
pub memory_on : {D : Type 0} (w : Written) (h : Setting D) (needs : D → Order → Bool) (r s : State D)
    (error : ChannelError) → Reaches (live w) h r s → IsOutOfMemory w h needs s error → IsOutOfMemory w h needs r error
memory_on w h needs r s errors.Memory a b = short_on a b
memory_on w h needs r s (errors.Absent page) a b = b

-- An advance that finishes comes to the end of the program.
pub reach_finished : {D : Type 0} (w : Written) (h : Setting D) (s : State D) (m : Memory) (d : D) (gone : Advance)
    (ending : Ending) → gone ≡ gones.Finished ending → Reaches (live w) h s (gone_state gone m d)
    → Reaches (live w) h s (Over ending m d)
reach_finished w h s m d gone ending e a = subst (λ (x : Advance). Reaches (live w) h s (gone_state x m d)) e a

-- An advance that goes further comes to the state at the new place.
pub reach_further : {D : Type 0} (w : Written) (h : Setting D) (s : State D) (m : Memory) (d : D) (gone : Advance)
    (place : Place) → gone ≡ gones.Further place → Reaches (live w) h s (gone_state gone m d)
    → Reaches (live w) h s (stands place m d)
reach_further w h s m d gone place e a = subst (λ (x : Advance). Reaches (live w) h s (gone_state x m d)) e a

-- An advance that goes further is at a place that is ready and nearer to the end.
pub is_further : (limit : ℕ) (old : Place) (gone : Advance) (place : Place) → gone ≡ gones.Further place
    → IsFarther limit old gone → IsReady place × (place_weight limit place < place_weight limit old)
is_further limit old gone place e a = subst (IsFarther limit old) e a

-- A loading that is out of memory from a later state is so from its beginning.
pub loading_out : {D : Type 0} (w : Written) (machine : Machine D) (needs : D → Order → Bool) (m : Memory) (d : D)
    (s : State D) (result : Result Ending ChannelError) → Reaches (live w) (setting machine loading_limits)
    (loading machine m d) s → IfErr result (IsOutOfMemory w (setting machine loading_limits) needs s)
    → IfErr result (IsLoadingOut w machine needs m d)
loading_out w machine needs m d s (Ok ending) a b = tt
loading_out w machine needs m d s (Err errors.Memory) a b = inr (short_on a b)
loading_out w machine needs m d s (Err (errors.Absent page)) a b = b

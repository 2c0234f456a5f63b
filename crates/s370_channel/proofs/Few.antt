-- Pages that a step asks for, each of them once: a few.
use Rattle.std.proofs.Common.{◌≡◌, ℕ, zero, suc, ◌+◌, ◌*◌, ◌/◌, ◌<◌, ◌≤◌, ◌⊎◌, Bool, true, false, List, [], ◌∷◌, ◌++◌}
use Rattle.std.proofs.Common.{length, get_or, Option, None, Some, refl, sym, ◌∙◌, subst, arith, inl, inr}
use Rattle.std.specs.Prelude.{Contains, if◌then◌else◌}
use Rattle.std.proofs.lemmas.List.{length-append}
use Rattle.std.proofs.lemmas.List.Elements.{Contains-append_cases}
use Rattle.s370_store.specs.Access.{Test, Touches}
use Rattle.s370_store.specs.declared.Access.TheVariants.{Fetch}
use Rattle.s370_walk.specs.Blocks.{begins_block, block_number}
use Rattle.s370_walk.specs.Hardware.{Machine, area}
use Rattle.s370_walk.specs.Stuck.{IsAsked, byte_asks, place_asks}
use Rattle.s370_walk.specs.Walk.{State, Fetching, Moving, Over, index_of, is_indirect, place_in}
use Rattle.s370_channel.specs.Guest.{guest_written, later as later_place}
use Rattle.s370_channel.specs.Supplied.{AllSuch}

-- no page is in the list twice
abbrev pub AreDistinct : List ℕ → Type 0
AreDistinct [] = Unit {0}
AreDistinct (page ∷ pages) = (Contains pages page → ⊥) × AreDistinct pages

later : (x : ℕ) (xs : List ℕ) (page : ℕ) → Contains xs page → Contains (x ∷ xs) page
later x xs page (k, less, same) = (suc k, omega arith, same)

only : (page other : ℕ) → Contains (page ∷ []) other → page ≡ other
only page other (zero, less, same) = same
only page other (suc k, less, same) = absurd (omega arith)

-- a page that is in the list is such
pub listed : (is_such : ℕ → Type 0) (pages : List ℕ) (page : ℕ) → AllSuch is_such pages → Contains pages page
    → is_such page
listed is_such [] page all at = absurd (omega (arith, at.1))
listed is_such (p ∷ pages) page all (zero, less, same) = subst is_such same all.0
listed is_such (p ∷ pages) page all (suc k, less, same) = listed is_such pages page all.1 (k, omega arith, same)

-- a page more, which is not in the list
pub distinct_more : (pages : List ℕ) (page : ℕ) → AreDistinct pages → (Contains pages page → ⊥)
    → AreDistinct (pages ++ (page ∷ []))
distinct_more [] page d new = (λ at. absurd (omega (arith, at.1)), tt)
distinct_more (p ∷ pages) page d new =
    let apart : Contains (pages ++ (page ∷ [])) p → ⊥ = λ at. elim (Contains-append_cases pages (page ∷ []) p at) [
      | inl early ↦ d.0 early
      | inr late ↦ new (0, omega arith, sym (only page p late))
    ] in
    (apart, distinct_more pages page d.1 (λ at. new (later p pages page at)))

-- one more of them
pub such_more : (is_such : ℕ → Type 0) (pages : List ℕ) (page : ℕ) → AllSuch is_such pages → is_such page
    → AllSuch is_such (pages ++ (page ∷ []))
such_more is_such [] page all one = (one, tt)
such_more is_such (p ∷ pages) page all one = (all.0, such_more is_such pages page all.1 one)

-- ---- a list without what is at one place

abbrev dropped : ℕ → List ℕ → List ℕ
dropped k [] = []
dropped zero (y ∷ ys) = ys
dropped (suc k) (y ∷ ys) = y ∷ dropped k ys

length-dropped : (k : ℕ) (ys : List ℕ) → k < length ys → length (dropped k ys) + 1 ≡ length ys
length-dropped k [] less = absurd (omega arith)
length-dropped zero (y ∷ ys) less = omega arith
length-dropped (suc k) (y ∷ ys) less = let rest = length-dropped k ys (omega arith) in omega arith

kept : (k : ℕ) (ys : List ℕ) (x page : ℕ) → get_or ys k x ≡ x → (page ≡ x → ⊥) → Contains ys page
    → Contains (dropped k ys) page
kept k [] x page e other at = absurd (omega (arith, at.1))
kept zero (y ∷ ys) x page e other (zero, less, same) = absurd (other (sym same ∙ e))
kept zero (y ∷ ys) x page e other (suc j, less, same) = (j, omega arith, same)
kept (suc k) (y ∷ ys) x page e other (zero, less, same) = (0, omega arith, same)
kept (suc k) (y ∷ ys) x page e other (suc j, less, same) = (let rest = kept k ys x page e other
    (j, omega arith, same) in (suc rest.0, omega (arith, rest.1), rest.2))

-- pages of which none is there twice are no more than those among which they are
few_of : (xs ys : List ℕ) → AreDistinct xs → ((page : ℕ) → Contains xs page → Contains ys page) → length xs ≤ length ys
few_of [] ys d among = omega arith
few_of (x ∷ xs) ys d among =
    let at = among x (0, omega arith, refl) in
    let rest = dropped at.0 ys in
    let others : (page : ℕ) → Contains xs page → Contains rest page = λ page h. kept at.0 ys x page at.2
    (λ e. d.0 (subst (λ (p : ℕ). Contains xs p) e h)) (among page (later x xs page h)) in
    omega (arith, few_of xs rest d.1 others, length-dropped at.0 ys at.1)

-- ---- the pages of short ranges

abbrev pages_of : List Test → List ℕ
pages_of [] = []
pages_of (t ∷ ts) = (t.start / 4096) ∷ ((t.start / 4096 + 1) ∷ pages_of ts)

abbrev AreShort : List Test → Type 0
AreShort [] = Unit {0}
AreShort (t ∷ ts) = (t.count ≤ 4096) × AreShort ts

one_of_two : (start k page : ℕ) → k < 4096 → page ≡ (start + k) / 4096 → (start / 4096 ≡ page)
    ⊎ (start / 4096 + 1 ≡ page)
one_of_two start k page less e = grind arith

touched_among : (ts : List Test) (page : ℕ) → AreShort ts → Touches ts page → Contains (pages_of ts) page
touched_among [] page short t = absurd t
touched_among (t ∷ ts) page short (inl (k, less, e)) =
    elim (one_of_two t.start k page (omega (arith, short.0, less)) e) [
      | inl first ↦ (0, omega arith, first)
      | inr second ↦ (1, omega arith, second)
    ]
touched_among (t ∷ ts) page short (inr rest) =
    let at = touched_among ts page short.1 rest in
    let next : ℕ = t.start / 4096 + 1 in
    later _ (next ∷ pages_of ts) page (later next (pages_of ts) page at)

length-pages : (ts : List Test) → length (pages_of ts) ≡ 2 * length ts
length-pages [] = refl
length-pages (t ∷ ts) = let rest = length-pages ts in omega (arith, rest)

contains_left : (xs ys : List ℕ) (page : ℕ) → Contains xs page → Contains (xs ++ ys) page
contains_left [] ys page at = absurd (omega (arith, at.1))
contains_left (x ∷ xs) ys page (zero, less, same) = (0, omega arith, same)
contains_left (x ∷ xs) ys page (suc k, less, same) = later x (xs ++ ys) page
    (contains_left xs ys page (k, omega arith, same))

contains_right : (xs ys : List ℕ) (page : ℕ) → Contains ys page → Contains (xs ++ ys) page
contains_right [] ys page at = at
contains_right (x ∷ xs) ys page at = later x (xs ++ ys) page (contains_right xs ys page at)

-- ---- what a step asks for

-- at most one range, of at most 4096 bytes
pub record AsksOne (ts : List Test) : Type 0 where
  pub few : length ts ≤ 1
  pub short : AreShort ts

block_asks_one : (b : Bool) (at : ℕ) → AsksOne (if b then area Fetch at 4 ∷ [] else [])
block_asks_one true at = record { few = omega arith; short = (omega arith, tt) }
block_asks_one false at = record { few = omega arith; short = tt }

place_asks_one : (b c : Bool) (at : ℕ) → AsksOne (if b then (if c then area Fetch at 4 ∷ [] else []) else [])
place_asks_one true c at = block_asks_one c at
place_asks_one false c at = record { few = omega arith; short = tt }

byte_asks_one : (at : Option ℕ) → AsksOne (byte_asks at)
byte_asks_one None = record { few = omega arith; short = tt }
byte_asks_one (Some a) = record { few = omega arith; short = (omega arith, tt) }

at_most : (ts us : List Test) (pages : List ℕ) → AsksOne ts → AsksOne us → AreDistinct pages
    → ((page : ℕ) → Contains pages page → Touches ts page ⊎ Touches us page) → length pages ≤ 9
at_most ts us pages a b d among =
    let all : (page : ℕ) → Contains pages page → Contains (pages_of ts ++ pages_of us) page = λ page h. elim
    (among page h) [
      | inl one ↦ contains_left (pages_of ts) (pages_of us) page (touched_among ts page a.short one)
      | inr other ↦ contains_right (pages_of ts) (pages_of us) page (touched_among us page b.short other)
    ] in
    let few = few_of pages (pages_of ts ++ pages_of us) d all in
    omega (arith, few, length-append (pages_of ts) (pages_of us), length-pages ts, length-pages us, a.few, b.few)

-- At most nine pages are asked for in one step of a program.
pub nine_asked : {D : Type 0} (machine : Machine D) (state : State D) (pages : List ℕ) → AreDistinct pages
    → AllSuch (IsAsked guest_written machine state) pages → length pages ≤ 9
nine_asked machine (Fetching spot m d) pages distinct all =
    at_most (area Fetch spot.at 8 ∷ []) [] pages (record { few = omega arith; short = (omega arith, tt) })
    (record { few = omega arith; short = tt }) distinct (λ page h. inl
    (listed (IsAsked guest_written machine (Fetching spot m d)) pages page all h))
nine_asked machine (Moving p m d) pages distinct all =
    at_most (place_asks guest_written p) (byte_asks (place_in guest_written m p)) pages
    (place_asks_one (begins_block p.before) (is_indirect p.word)
    (later_place p.word.address (4 * block_number (index_of p))))
    (byte_asks_one (place_in guest_written m p)) distinct (λ page h.
    (listed (IsAsked guest_written machine (Moving p m d)) pages page all h).1)
nine_asked machine (Over e m d) [] distinct all = omega arith
nine_asked machine (Over e m d) (page ∷ pages) distinct all = absurd all.0

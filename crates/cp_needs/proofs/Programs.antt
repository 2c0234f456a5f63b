-- What a whole program needs.
use Rattle.std.specs.Prelude.{ℕ, ◌+◌, ◌-◌, ◌*◌, ◌/◌, ◌%◌, ◌<◌, ◌≤◌, ◌≡◌, ◌⊎◌, Bool, true, false, IfNone, IfSome, List}
use Rattle.std.specs.Prelude.{[], ◌++◌, Option, None, Some, length, slice_index, refl, if◌then◌else◌}
use Rattle.std.proofs.Common.{subst, ◌∙◌, ap, arith, inl, inr, length-append}
use Rattle.std.proofs.lemmas.List.{get_or_append_left, get_or-append_right}
use Rattle.s370_store.specs.declared.Page.{Page}
use Rattle.std.specs.List.{slice_range}
use Rattle.s370_store.specs.Access.{IsAbsent}
use Rattle.s370_channel.specs.Words.{ccw_of}
use Rattle.s370_channel.specs.Guest.{guest_text, word_at}
use Rattle.s370_walk.specs.declared.parts.Ccw.{Ccw}
use Rattle.s370_store.specs.Memory.{Memory}
use Rattle.s370_walk.specs.Hardware.{is_in}
use Rattle.cp_needs.specs.Closure.{InProgram, starts, jumps, continues_at, commands_at, skips_to}
use Rattle.cp_needs.proofs.Tables.{skipped_even, text_even}
use Rattle.cp_needs.specs.Needs.{IsDataByte, IsHeld, IsProgramPage, IsReached, IsTextByte}
use Rattle.cp_needs.proofs.Keeping.{in_fits}
use Rattle.cp_needs.specs.Words.{AreSteps, AreWords, IsAmong, IsFollowed, IsPageAt, IsStep, IsVisited}
use Rattle.cp_needs.proofs.Finding.{among_more, reached_on, visited_more}

abbrev pub AreReached : Memory → ℕ → List ℕ → Type 0
AreReached m start words = (i : ℕ) → i < length words → IsReached m start (slice_index words i)

abbrev pub AreVisited : Memory → (ℕ → Bool) → ℕ → List ℕ → ℕ → Type 0
AreVisited m present most words done = (i : ℕ) → i < done → IsVisited m present most words (slice_index words i)

before_or : (i n : ℕ) → (i < n) ⊎ (n ≤ i)
before_or i n = grind arith

before_last : (i n : ℕ) → i < n + 1 → (i < n) ⊎ (i ≡ n)
before_last i n lt = grind arith

-- the start is the first that is found
pub reached_first : (m : Memory) (start : ℕ) (old new : List ℕ) → old ≡ [] → IsFollowed true start old new
    → AreReached m start new
reached_first m start old new none (inl e) = rw (e, none) (λ i lt. (let no : ⊥ = omega (arith, lt) in absurd no))
reached_first m start old new none (inr (on, e)) =
    rw (e, none) (λ i lt. (let zero_is : i ≡ 0 = omega (arith, lt) in rw zero_is (false, starts)))

pub reached_steps : (m : Memory) (start address : ℕ) (old new : List ℕ) → AreSteps m address old new
    → IsReached m start address → AreReached m start old → AreReached m start new
reached_steps m start address old new s from reached = rw s.is (λ i lt. by_place i lt (before_or i (length old)))
  where
    by_place : (i : ℕ) → i < length (old ++ s.rest) → (i < length old) ⊎ (length old ≤ i)
        → IsReached m start (slice_index (old ++ s.rest) i)
    by_place i lt (inl before) = rw (get_or_append_left old s.rest 0 i before) (reached i before)
    by_place i lt (inr after) =
        let long = length-append old s.rest in
        rw (get_or-append_right old s.rest (length old) i 0 refl after)
        (reached_on m start address (slice_index s.rest (i - length old)) from
        (s.steps (i - length old) (omega (arith, lt, after, long))))

-- One more word that was visited makes one more of all.
pub visited_steps : (m : Memory) (present : ℕ → Bool) (most address done : ℕ) (old new : List ℕ)
    → AreSteps m address old new → done < length old → slice_index old done ≡ address
    → AreVisited m present most old done → IsVisited m present most new address
    → AreVisited m present most new (done + 1)
visited_steps m present most address done old new s lt at visited here = λ i low. by_place i (before_last i done low)
  where
    by_place : (i : ℕ) → (i < done) ⊎ (i ≡ done) → IsVisited m present most new (slice_index new i)
    by_place i (inl before) =
        let inside : i < length old = omega (arith, before, lt) in
        let same : slice_index new i ≡ slice_index old i =
        ap (λ l. slice_index l i) s.is ∙ get_or_append_left old s.rest 0 i inside in
        let still : IsVisited m present most new (slice_index old i) =
        rw s.is (visited_more m present most old s.rest (slice_index old i) (visited i before)) in
        rw same still
    by_place i (inr is) =
        let same : slice_index new i ≡ address =
        ap (λ k. slice_index new k) is ∙ ap (λ l. slice_index l done) s.is ∙ get_or_append_left old s.rest 0 done lt
        ∙ at in
        rw same here

pub among_steps : (m : Memory) (address a : ℕ) (old new : List ℕ) → AreSteps m address old new → IsAmong old a
    → IsAmong new a
among_steps m address a old new s among = rw s.is (among_more old s.rest a among)

-- a page of a word that the program can reach, which is away, is one that it needs
pub needed_page : (m : Memory) (start address page : ℕ) (present : ℕ → Bool) → IsReached m start address
    → IsPageAt m address page → IsAbsent (length m.bytes) present page → IsProgramPage m start page
needed_page m start address page present reached (a, needed, at) away =
    record { address = address; reached = reached; byte = a; needed = needed; at = at; inside = away.inside }

-- A word that is read lies in storage.
pub word_fits : (m : Memory) (a : ℕ) (w : Ccw) → guest_text m a ≡ Some w → a + 8 ≤ length m.bytes
word_fits m a w text = by_in (is_in m a 8) refl text
  where
    by_in : (b : Bool) → is_in m a 8 ≡ b
        → (if b then Some (word_at a (ccw_of (slice_range m.bytes a (a + 8)))) else None) ≡ Some w
        → a + 8 ≤ length m.bytes
    by_in true is e = in_fits m a 8 (omega arith) is
    by_in false is e = cc

-- the page of a byte of a doubleword is the doubleword's own
pub own_low : (address k byte page size : ℕ) → address % 8 ≡ 0 → k < 8 → byte ≡ address + k → page ≡ byte / 4096
    → page * 4096 < size → address / 4096 * 4096 < size
own_low address k byte page size even lt is at low =
    let same : page ≡ address / 4096 = omega (arith, even, lt, is, at) in
    omega (arith, same, low)

-- the program reaches doublewords alone
pub reached_even : (m : Memory) (start : ℕ) → start % 8 ≡ 0 → (a : ℕ) (continues : Bool)
    → InProgram (guest_text m) start a continues → a % 8 ≡ 0
reached_even m start even _ _ starts = even
reached_even m start even _ _ (jumps from role w reached text is on) =
    text_even m from w text (reached_even m start even from role reached) (rw is on)
reached_even m start even _ _ (continues_at from role w reached text is more) =
    text_even m from w text (reached_even m start even from role reached) (rw (is, more) refl)
reached_even m start even _ _ (commands_at from role w reached text is command more) =
    text_even m from w text (reached_even m start even from role reached) (rw (is, more) command)
reached_even m start even _ _ (skips_to from role w reached text is command more) =
    skipped_even m from w text (reached_even m start even from role reached)

module _ (m : Memory) (start : ℕ) (present : ℕ → Bool) (most : ℕ) (words : List ℕ) (even : start % 8 ≡ 0)
    (room : most ≡ (length m.bytes + 4095) / 4096 * 512)
    (visited : AreVisited m present most words (length words)) (first : start / 8 < most → IsAmong words start) where
  within : (a : ℕ) → a / 4096 * 4096 < length m.bytes → a / 8 < most
  within a low = omega (arith, low, room)

  closed_at : (from to : ℕ) → IsAmong words from → IsStep m from to → to / 4096 * 4096 < length m.bytes
      → IsAmong words to
  closed_at from to (i, lt, is) step low = (let v = visited i lt in v.closed to (rw is step) (within to low))

  page_inside : (a : ℕ) (w : Ccw) → guest_text m a ≡ Some w → a / 4096 * 4096 < length m.bytes
  page_inside a w text = (let fits = word_fits m a w text in omega (arith, fits))

  all_among : (a : ℕ) (continues : Bool) → InProgram (guest_text m) start a continues → a / 4096 * 4096 < length m.bytes
      → IsAmong words a
  all_among _ _ starts low = first (within start low)
  all_among _ _ (jumps from role w reached text is on) low =
      closed_at from w.next (all_among from role reached (page_inside from w text))
      (record { word = w; text = text; leads = inl (rw is on, refl) }) low
  all_among _ _ (continues_at from role w reached text is more) low =
      closed_at from w.next (all_among from role reached (page_inside from w text))
      (record { word = w; text = text; leads = inl (rw (is, more) refl, refl) }) low
  all_among _ _ (commands_at from role w reached text is command more) low =
      closed_at from w.next (all_among from role reached (page_inside from w text))
      (record { word = w; text = text; leads = inl (rw (is, more) command, refl) }) low
  all_among _ _ (skips_to from role w reached text is command more) low =
      closed_at from w.skipped (all_among from role reached (page_inside from w text))
      (record { word = w; text = text; leads = inr (rw (is, more, command) refl, refl) }) low

  pub words_all : AreReached m start words → AreWords m start words
  words_all reached = record { reached = reached; all = λ address there low. all_among address there.0 there.1 low }

  pub words_held : IsHeld m start present
  words_held page p = at_word (all_among p.address p.reached.0 p.reached.1 (own_page p.needed))
    where
      own_page : IsTextByte m p.address p.byte ⊎ IsDataByte m p.address p.byte
          → p.address / 4096 * 4096 < length m.bytes
      own_page (inl (inl (k, lt, is))) =
          own_low p.address k p.byte page (length m.bytes) (reached_even m start even p.address p.reached.0 p.reached.1)
          lt is p.at p.inside
      own_page (inl (inr (w, text, byte))) = page_inside p.address w text
      own_page (inr (w, text, byte)) = page_inside p.address w text

      at_word : IsAmong words p.address → present page ≡ true
      at_word (i, lt, is) = (let v = visited i lt in v.held page (rw is (p.byte, p.needed, p.at)) p.inside)

-- The list of words never becomes shorter.
pub steps_length : (m : Memory) (address : ℕ) (old new : List ℕ) → AreSteps m address old new → length old ≤ length new
steps_length m address old new s = (let long = length-append old s.rest in rw s.is (omega (arith, long)))

-- ---- What a call says

-- What holds if no page is absent holds when none is.
pub none_of : {P : Type 0} (o : Option Page) → o ≡ None → IfNone o P → P
none_of None e p = p
none_of (Some page) e p = cc

pub some_of : (P : Page → Type 0) (o : Option Page) (page : Page) → o ≡ Some page → IfSome o P → P page
some_of P None page e p = cc
some_of P (Some other) page e p = (let same : other ≡ page = cc in subst P same p)

-- Words that were visited stay so under an equal bound.
pub visited_size : (m : Memory) (present : ℕ → Bool) (old new : ℕ) (words : List ℕ) (done : ℕ) → new ≡ old
    → AreVisited m present old words done → AreVisited m present new words done
visited_size m present old new words done e visited = rw e visited

-- The first word is among those that were found.
pub first_size : (m : Memory) (old new start address : ℕ) (words more : List ℕ) → new ≡ old
    → AreSteps m address words more → (start / 8 < old → IsAmong words start) → start / 8 < new → IsAmong more start
first_size m old new start address words more e steps first low =
    among_steps m address start words more steps (first (rw e at low))

-- A page that a reached word needs is one that the program needs.
pub needed_at : (m : Memory) (start : ℕ) (words : List ℕ) (i address : ℕ) (present : ℕ → Bool) (o : Option Page)
    (page : Page) → o ≡ Some page → AreReached m start words → i < length words → address ≡ slice_index words i
    → IfSome o (λ page. IsPageAt m address page.0) → IfSome o (λ page. IsAbsent (length m.bytes) present page.0)
    → IsProgramPage m start page.0
needed_at m start words i address present o page is reached lt at asked away =
    needed_page m start address page.0 present (rw at (reached i lt))
    (some_of (λ x. IsPageAt m address x.0) o page is asked)
    (some_of (λ x. IsAbsent (length m.bytes) present x.0) o page is away)

-- Words that a reached word leads to are reached.
pub reached_at : (m : Memory) (start : ℕ) (words : List ℕ) (i address : ℕ) (new : List ℕ) → i < length words
    → address ≡ slice_index words i → AreSteps m address words new → AreReached m start words → AreReached m start new
reached_at m start words i address new lt at steps reached =
    reached_steps m start address words new steps (rw at (reached i lt)) reached

-- Lemmas of specs/Words.
use Rattle.std.specs.Prelude.{ℕ, zero, suc, ◌+◌, ◌/◌, ◌%◌, ◌<◌, ◌≡◌, ◌⊎◌, Bool, true, false, ◌&&◌, ◌||◌, not, ◌==◌}
use Rattle.std.specs.Prelude.{IfNone, IfSome, List, [], ◌∷◌, ◌++◌, Option, None, Some, length, slice_index, refl}
use Rattle.std.specs.Prelude.{if◌then◌else◌}
use Rattle.std.proofs.Common.{sym, subst, ◌∙◌, ap, arith, inl, inr, append_assoc, length-append}
use Rattle.std.proofs.lemmas.List.{append-nil, get_or_append_left}
use Rattle.s370_store.specs.declared.Page.{Page}
use Rattle.s370_channel.specs.Guest.{guest_text}
use Rattle.s370_walk.specs.declared.parts.Ccw.{Ccw}
use Rattle.s370_store.specs.Memory.{Memory}
use Rattle.s370_walk.specs.Walk.{chains_command, chains_data, is_jump}
use Rattle.s370_walk.specs.Renaming.{Leads}
use Rattle.cp_needs.specs.Table.{leads_next, leads_skipped}
use Rattle.cp_needs.specs.Needs.{IsReached}
use Rattle.cp_needs.proofs.Walking.{leads_of}
use Rattle.cp_needs.specs.Areas.{IsAreaByte, IsListByte}
use Rattle.cp_needs.specs.Words.{AreSteps, IsAmong, IsAreaPage, IsFollowed, IsPresent, IsPageAt, IsStep, IsVisited}

-- ---- What is found stays found

-- A word that was found stays found when more are.
pub among_more : (old rest : List ℕ) (a : ℕ) → IsAmong old a → IsAmong (old ++ rest) a
among_more old rest a (i, lt, is) =
    (i, (let long = length-append old rest in omega (arith, lt, long)), get_or_append_left old rest 0 i lt ∙ is)

among_on : (leads : Bool) (address a : ℕ) (old new : List ℕ) → IsFollowed leads address old new → IsAmong old a
    → IsAmong new a
among_on leads address a old new (inl same) among = rw same among
among_on leads address a old new (inr (leads_on, is)) among = rw is (among_more old (address ∷ []) a among)

-- A word that was visited stays visited when more are.
pub visited_more : (m : Memory) (present : ℕ → Bool) (most : ℕ) (old rest : List ℕ) (a : ℕ)
    → IsVisited m present most old a → IsVisited m present most (old ++ rest) a
visited_more m present most old rest a v =
    record { held = v.held; closed = λ to step low. among_more old rest to (v.closed to step low) }

-- ---- One word

-- its list and its area are pages of the word
pub area_at : (m : Memory) (address : ℕ) (w : Ccw) (page : ℕ) → guest_text m address ≡ Some w → IsAreaPage m w page
    → IsPageAt m address page
area_at m address w page text (a, inl byte, at) = (a, inl (inr (w, text, byte)), at)
area_at m address w page text (a, inr byte, at) = (a, inr (w, text, byte), at)

-- A page of a word's area is a page of the word.
pub asked_at : (m : Memory) (address : ℕ) (w : Ccw) (o : Option Page) → guest_text m address ≡ Some w
    → IfSome o (λ page. IsAreaPage m w page.0) → IfSome o (λ page. IsPageAt m address page.0)
asked_at m address w None text asked = tt
asked_at m address w (Some page) text asked = area_at m address w page.0 text asked

-- The words that follow one are those that it leads to.
pub steps_of : (m : Memory) (address : ℕ) (w : Ccw) (o : Option Page) (old mid new : List ℕ)
    → guest_text m address ≡ Some w → IsFollowed (leads_next w) w.next old mid
    → IsFollowed (leads_skipped w) w.skipped mid new
    → IfNone o (AreSteps m address old new)
steps_of m address w (Some page) old mid new text first second = tt
steps_of m address w None old mid new text first second = by_first first second
  where
    none : (xs : List ℕ) → xs ≡ xs ++ []
    none xs = sym (append-nil xs)

    no_step : (i : ℕ) → i < length {A = ℕ} [] → IsStep m address (slice_index [] i)
    no_step i lt = (let no : ⊥ = omega (arith, lt) in absurd no)

    next_step : leads_next w ≡ true → IsStep m address w.next
    next_step leads = record { word = w; text = text; leads = inl (leads, refl) }

    skipped_step : leads_skipped w ≡ true → IsStep m address w.skipped
    skipped_step leads = record { word = w; text = text; leads = inr (leads, refl) }

    one : (a : ℕ) → IsStep m address a → (i : ℕ) → i < length (a ∷ []) → IsStep m address (slice_index (a ∷ []) i)
    one a step zero lt = step
    one a step (suc i) lt = (let no : ⊥ = omega (arith, lt) in absurd no)

    two : (a b : ℕ) → IsStep m address a → IsStep m address b → (i : ℕ) → i < length (a ∷ b ∷ [])
        → IsStep m address (slice_index (a ∷ b ∷ []) i)
    two a b x y zero lt = x
    two a b x y (suc i) lt = one b y i (omega (arith, lt))

    by_first : IsFollowed (leads_next w) w.next old mid → IsFollowed (leads_skipped w) w.skipped mid new
        → AreSteps m address old new
    by_first (inl e) (inl f) = record { rest = []; is = f ∙ e ∙ none old; steps = no_step }
    by_first (inl e) (inr (leads, f)) =
        record {
          rest = w.skipped ∷ [];
          is = f ∙ ap (λ l. l ++ w.skipped ∷ []) e;
          steps = one w.skipped (skipped_step leads);
        }
    by_first (inr (leads, e)) (inl f) = record { rest = w.next ∷ []; is = f ∙ e; steps = one w.next (next_step leads) }
    by_first (inr (leads, e)) (inr (over, f)) =
        record {
          rest = w.next ∷ w.skipped ∷ [];
          is = f ∙ ap (λ l. l ++ w.skipped ∷ []) e ∙ append_assoc old (w.next ∷ []) (w.skipped ∷ []);
          steps = two w.next w.skipped (next_step leads) (skipped_step over);
        }

-- A word that is read is one word alone.
pub word_same : (o : Option Ccw) (v w : Ccw) → o ≡ Some v → o ≡ Some w → v ≡ w
word_same o v w e f = cc

none_word : (o : Option Ccw) (w : Ccw) → o ≡ None → o ≡ Some w → ⊥
none_word o w e f = cc

-- the pages of the doubleword itself
word_page : (size : ℕ) (present : ℕ → Bool) (address k page : ℕ) → address % 8 ≡ 0 → k < 8 → page ≡ (address + k) / 4096
    → IsPresent size present (address / 4096) → IsPresent size present page
word_page size present address k page even lt at here =
    (let same : page ≡ address / 4096 = omega (arith, even, lt, at) in rw same here)

-- A word whose pages are present, and after which its successors are found, is visited.
pub visited_word : (m : Memory) (present : ℕ → Bool) (most address : ℕ) (w : Ccw) (o : Option Page) (mid new : List ℕ)
    → address % 8 ≡ 0 → guest_text m address ≡ Some w → IsPresent (length m.bytes) present (address / 4096)
    → IfNone o ((page : ℕ) → IsAreaPage m w page → IsPresent (length m.bytes) present page)
    → (leads_next w ≡ true → w.next / 8 < most → IsAmong mid w.next)
    → (leads_skipped w ≡ true → w.skipped / 8 < most → IsAmong new w.skipped)
    → IsFollowed (leads_skipped w) w.skipped mid new
    → IfNone o (IsVisited m present most new address)
visited_word m present most address w (Some page) mid new even text here area first second on = tt
visited_word m present most address w None mid new even text here area first second on =
    record { held = held; closed = λ to step low. closed to step low step.leads }
  where
    held : (page : ℕ) → IsPageAt m address page → IsPresent (length m.bytes) present page
    held page (a, inl (inl (k, lt, is)), at) =
        word_page (length m.bytes) present address k page even lt (at ∙ ap (λ x. x / 4096) is) here
    held page (a, inl (inr (v, found, byte)), at) =
        (let same = word_same (guest_text m address) v w found text in area page
        (a, inl (subst (λ x. IsListByte m x a) same byte), at))
    held page (a, inr (v, found, byte), at) =
        (let same = word_same (guest_text m address) v w found text in area page
        (a, inr (subst (λ x. IsAreaByte m x a) same byte), at))

    closed : (to : ℕ) (step : IsStep m address to) → to / 8 < most
        → ((leads_next step.word ≡ true) × (to ≡ step.word.next))
        ⊎ ((leads_skipped step.word ≡ true) × (to ≡ step.word.skipped)) → IsAmong new to
    closed to step low (inl (leads, is)) =
        let same : step.word ≡ w = word_same (guest_text m address) step.word w step.text text in
        let there : to ≡ w.next = is ∙ ap (λ (x : Ccw). x.next) same in
        rw there (among_on (leads_skipped w) w.skipped w.next mid new on
        (first (sym (ap leads_next same) ∙ leads) (rw there at low)))
    closed to step low (inr (leads, is)) =
        let same : step.word ≡ w = word_same (guest_text m address) step.word w step.text text in
        let there : to ≡ w.skipped = is ∙ ap (λ (x : Ccw). x.skipped) same in
        rw there (second (sym (ap leads_skipped same) ∙ leads) (rw there at low))

-- where no word is
pub visited_none : (m : Memory) (present : ℕ → Bool) (most address : ℕ) (words : List ℕ) → address % 8 ≡ 0
    → guest_text m address ≡ None → IsPresent (length m.bytes) present (address / 4096)
    → IsVisited m present most words address
visited_none m present most address words even text here =
    record { held = held; closed = λ to step low. absurd (none_word (guest_text m address) step.word text step.text) }
  where
    held : (page : ℕ) → IsPageAt m address page → IsPresent (length m.bytes) present page
    held page (a, inl (inl (k, lt, is)), at) =
        word_page (length m.bytes) present address k page even lt (at ∙ ap (λ x. x / 4096) is) here
    held page (a, inl (inr (v, found, byte)), at) = absurd (none_word (guest_text m address) v text found)
    held page (a, inr (v, found, byte), at) = absurd (none_word (guest_text m address) v text found)

pub steps_none : (m : Memory) (address : ℕ) (words : List ℕ) → AreSteps m address words words
steps_none m address words =
    record { rest = []; is = sym (append-nil words); steps = λ i lt. (let no : ⊥ = omega (arith, lt) in absurd no) }

-- ---- A whole program

-- a word may lead where the program can then come
pub reached_on : (m : Memory) (start from to : ℕ) → IsReached m start from → IsStep m from to → IsReached m start to
reached_on m start from to reached step = by_leads step.leads
  where
    leads : Leads (IsReached m start) step.word
    leads = leads_of m start from step.word reached step.text

    by_jump : (goes even more command : Bool) → (is_jump step.word ≡ goes) → (step.word.address % 8 == 0) ≡ even
        → chains_data step.word ≡ more → chains_command step.word ≡ command
        → (if goes then even else (more || command)) ≡ true → IsReached m start step.word.next
    by_jump true even more command j e d c is = leads.jump j (e ∙ is)
    by_jump false even true command j e d c is = leads.data_next d
    by_jump false even false true j e d c is = leads.command_next c d
    by_jump false even false false j e d c is = cc

    by_skip : (goes more command : Bool) → chains_data step.word ≡ more → chains_command step.word ≡ command
        → (not goes && (command && not more)) ≡ true → IsReached m start step.word.skipped
    by_skip false false true d c is = leads.skipped c d
    by_skip true more command d c is = cc
    by_skip false true true d c is = cc
    by_skip false more false d c is = cc

    by_leads : ((leads_next step.word ≡ true) × (to ≡ step.word.next))
        ⊎ ((leads_skipped step.word ≡ true) × (to ≡ step.word.skipped)) → IsReached m start to
    by_leads (inl (on, is)) =
        rw is (by_jump (is_jump step.word) (step.word.address % 8 == 0) (chains_data step.word)
        (chains_command step.word) refl refl refl refl on)
    by_leads (inr (on, is)) =
        rw is (by_skip (is_jump step.word) (chains_data step.word) (chains_command step.word) refl refl on)

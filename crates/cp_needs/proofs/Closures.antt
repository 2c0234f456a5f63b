-- Lemmas of specs/Closure.
use Rattle.std.specs.Prelude.{List, [], ◌∷◌, ℕ, ◌+◌, ◌/◌, ◌%◌, ◌<◌, ◌≡◌, ◌==◌, Bool, true, false, ◌||◌, ◌&&◌, not}
use Rattle.std.specs.Prelude.{Option, None, Some, is_some, refl, if◌then◌else◌}
use Rattle.std.specs.List.{All}
use Rattle.s370_store.specs.declared.Access.TheVariants.{Fetch}
use Rattle.s370_store.specs.Access.{Touches, IsAbsent}
use Rattle.s370_walk.specs.declared.parts.Ccw.{Ccw}
use Rattle.s370_store.specs.Memory.{Memory}
use Rattle.s370_walk.specs.Hardware.{area}
use Rattle.s370_walk.specs.Walk.{is_jump, chains_command, chains_data}
use Rattle.s370_channel.specs.Guest.{area_block, guest_text}
use Rattle.s370_walk.specs.declared.places.CcwLocation.{CcwLocation}
use Rattle.s370_walk.specs.Tracks.{has_area}
use Rattle.std.specs.Prelude.{◌≤◌, ◌-◌, ◌≢◌, ◌++◌, length, slice_index_or}
use Rattle.std.proofs.Common.{sym, ◌∙◌, ap, arith, inl, inr, length-append}
use Rattle.std.proofs.Math.Seq.{get_or-append_seam}
use Rattle.std.proofs.lemmas.List.{get_or_append_left}
use Rattle.std.proofs.lemmas.List.Elements.{All-nil, All-push}
use Rattle.cp_needs.specs.declared.program.CopyError.{CopyError}
use Rattle.cp_needs.specs.declared.program.CopyError.TheVariants as errors
use Rattle.cp_needs.specs.Table.{IsFollowed, IsPart, leads_next, leads_skipped, role_after}
use Rattle.cp_needs.proofs.Tables.{at_or_before}
use Rattle.cp_needs.specs.Closure.{InProgram, starts, jumps, continues_at, commands_at, skips_to, IsReachedPlace}
use Rattle.cp_needs.specs.Closure.{IsDataPage, IsServed, IfAbsent, IsWordPage, IsEntryPage}

pub entry_page : (m : Memory) (w : Ccw) (a page : ℕ) (j : ℕ) → area_block m w j ≡ Some a
    → Touches (area Fetch a 1 ∷ []) page → IsEntryPage m w j page
entry_page m w a page j is (inl (k, lt, at)) = (let same : page ≡ a / 4096 = omega (arith, lt, at) in inr (a, is, same))
entry_page m w a page j is (inr none) = absurd none

pub first_page : (m : Memory) (w : Ccw) (page : ℕ) → has_area w ≡ true → w.count ≢ 0 → IsEntryPage m w 0 page
    → IsDataPage m w page
first_page m w page has some touched =
    record {
      index = 0;
      has = has;
      used = record {
        some = omega (arith, some);
        before = λ i lt. (let no : ⊥ = omega (arith, lt) in absurd no);
        counted = λ first lt e. (let no : ⊥ = omega (arith, lt) in absurd no);
      };
      touched = touched;
    }

pub later_page : (m : Memory) (w : Ccw) (list : List (Option ℕ)) (start page j : ℕ) → has_area w ≡ true → w.count ≢ 0
    → IsPart list (area_block m w) → ((i : ℕ) → i < length list → is_some (slice_index_or list i None) ≡ true)
    → slice_index_or list 0 None ≡ Some start → 0 < length list → j ≡ length list
    → j ≤ (start % 2048 + (w.count - 1)) / 2048 → IsEntryPage m w j page → IsDataPage m w page
later_page m w list start page j has some part begun first long at last touched =
    record {
      index = j;
      has = has;
      used =
          record {
            some = omega (arith, some);
            before = λ i lt. (let here : i < length list = omega (arith, lt, at) in sym (ap is_some (part.same i here))
                ∙ begun i here);
            counted = λ one lt e. (let same : one ≡ start = same_start one start (sym e ∙ sym (part.same 0 long)
                ∙ first) in rw same (omega (arith, last, some)));
          };
      touched = touched;
    }
  where
    same_start : (r s : ℕ) → Some r ≡ Some s → r ≡ s
    same_start r s e = cc

-- Entries that were begun stay begun when one more is appended.
pub begun_on : (list new : List (Option ℕ)) (o : Option ℕ) → new ≡ list ++ o ∷ []
    → ((i : ℕ) → i < length list → is_some (slice_index_or list i None) ≡ true) → is_some o ≡ true → (i : ℕ)
    → i < length new → is_some (slice_index_or new i None) ≡ true
begun_on list new o is begun some = rw is (λ i lt. elim (at_or_before i (length list)
    (let k = length-append list (o ∷ []) in omega (arith, lt, k))) [
      | inl before ↦ rw (get_or_append_left list (o ∷ []) None i before) (begun i before)
      | inr at ↦ rw (at, get_or-append_seam list o [] None) some
    ])

-- ---- What the program can reach

module _ (m : Memory) (start : ℕ) (place : CcwLocation) (w : Ccw) (text : guest_text m place.address ≡ Some w)
    (reached : IsReachedPlace m start place) where
  pub next_reached : (next : CcwLocation) → next.address ≡ w.next → next.continues ≡ role_after w place.continues
      → leads_next w ≡ true → IsReachedPlace m start next
  next_reached next at role leads = rw (at, role) (by_jump (is_jump w) (chains_data w)
      (chains_command w) refl refl refl leads)
    where
      by_jump : (goes more command : Bool) → is_jump w ≡ goes → chains_data w ≡ more → chains_command w ≡ command
          → (if goes then (w.address % 8 == 0) else (more || command)) ≡ true
          → InProgram (guest_text m) start w.next (if goes then place.continues else more)
      by_jump true more command j d c even = jumps place.address place.continues w reached text j even
      by_jump false true command j d c on = continues_at place.address place.continues w reached text j d
      by_jump false false true j d c on = commands_at place.address place.continues w reached text j c d
      by_jump false false false j d c on = cc

  pub skipped_reached : leads_skipped w ≡ true → IsReachedPlace m start
      (record { address = w.skipped; continues = false })
  skipped_reached leads = by_jump (is_jump w) (chains_command w) (chains_data w) refl refl refl leads
    where
      by_jump : (goes command more : Bool) → is_jump w ≡ goes → chains_command w ≡ command → chains_data w ≡ more
          → (not goes && (command && not more)) ≡ true → InProgram (guest_text m) start w.skipped false
      by_jump false true false j c d on = skips_to place.address place.continues w reached text j c d
      by_jump false true true j c d on = cc
      by_jump false false more j c d on = cc
      by_jump true command more j c d on = cc

-- where a word leads there, each place that is added is reached
pub followed_reached : (m : Memory) (start : ℕ) (leads : Bool) (place : CcwLocation) (old new : List CcwLocation)
    → IsFollowed leads place old new → (leads ≡ true → IsReachedPlace m start place) → All (IsReachedPlace m start) old
    → All (IsReachedPlace m start) new
followed_reached m start leads place old new (inl same) there all = rw same all
followed_reached m start leads place old new (inr (on, is)) there all = rw is
    (All-push (IsReachedPlace m start) old place all (there on))

-- The first place is reached from the start of the program.
pub first_reached : (m : Memory) (start : ℕ) (old new : List CcwLocation) → old ≡ []
    → IsFollowed true (record { address = start; continues = false }) old new → All (IsReachedPlace m start) new
first_reached m start old new none followed = followed_reached m start true _ old new followed (λ e. starts)
    (rw none (All-nil (IsReachedPlace m start)))

-- A page that is absent at a place that was reached is one that the program needs.
pub absent_served : (m : Memory) (size : ℕ) (present : ℕ → Bool) (start : ℕ) (place : CcwLocation) (e : CopyError)
    → IsReachedPlace m start place → IfAbsent (λ page. IsAbsent size present page × IsWordPage m place.address page) e
    → IfAbsent (λ page. IsAbsent size present page × IsServed m start page) e
absent_served m size present start place errors.Memory reached x = tt
absent_served m size present start place (errors.Absent page) reached x =
    (x.0, record { place = place; reached = reached; touched = x.1 })

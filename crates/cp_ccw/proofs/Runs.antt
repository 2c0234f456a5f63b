-- A run over real storage is the guest's own.
use Rattle.std.specs.Prelude.{◌≡◌, ℕ, ◌%◌, ◌≤◌, List, [], length, Option, None, Some, refl}
use Rattle.std.proofs.Common.{ap, sym, ◌∙◌, ap₂, subst, arith, get_or, ext_get_or}
use Rattle.s370_walk.specs.declared.parts.Ccw.{Ccw}
use Rattle.s370_walk.specs.declared.parts.Ending.{Ending}
use Rattle.s370_walk.specs.declared.parts.Order.{Order}
use Rattle.std.specs.Prelude.{Bool}
use Rattle.s370_store.specs.Memory.{Memory, memory_of}
use Rattle.s370_walk.specs.Walk.{Form, Written, Setting, live, Fetching, Over, Reaches, start_spot}
use Rattle.s370_channel.specs.Progress.{MatchStuck}
use Rattle.s370_channel.specs.Guest.{guest_text, guest_written}
use Rattle.s370_channel.specs.declared.running.ChannelError.{ChannelError}
use Rattle.s370_channel.specs.declared.running.ChannelError.TheVariants as errors
use Rattle.s370_walk.specs.Stuck.{IsStuck}
use Rattle.s370_walk.specs.declared.places.CcwLocation.{CcwLocation}
use Rattle.s370_walk.specs.WordsFrozen.{words_frozen}
use Rattle.s370_walk.specs.Frozen.{IsSteady}
use Rattle.s370_walk.specs.Renaming.{renamed_ending}
use Rattle.s370_walk.specs.Mapped.{Named, IsMapped, IsKept}
use Rattle.s370_walk.specs.Copy.{guest_of, IsPlace, MeetsFrozen}
use Rattle.s370_walk.specs.Unstuck.{real_written}
use Rattle.s370_walk.proofs.Copies.{frozen_end, steady_end}
use Rattle.s370_walk.proofs.NeverStuck.{never_stuck}
use Rattle.cp_needs.specs.declared.program.Node.{Node}
use Rattle.cp_dat.specs.Lent.{lent_bytes, lent_keys, lent_pool, user_of, lent_memory}
use Rattle.cp_ccw.specs.declared.real.Real.{Real}
use Rattle.std.specs.Prelude.{◌/◌}
use Rattle.cp_frames.specs.Layout.{FrameSupply, is_there}
use Rattle.cp_dat.specs.declared.dat.Dat.{Dat}
use Rattle.cp_dat.specs.Lent.{KeepsRest}
use Rattle.s370_walk.specs.Mapped.{real_place}
use Rattle.cp_ccw.specs.Layout.{real_in}
use Rattle.cp_ccw.specs.Shown.{real_bytes_of, real_keys_of, is_real_page_of, KeepsReal, same_real}
use Rattle.cp_ccw.specs.Mapped.{IsLent}
use Rattle.cp_ccw.proofs.Lending.{lent, lent_mapped, lent_present}
use Rattle.cp_ccw.specs.Translated.{table_written, IsTranslatedFor}

abbrev written_by : (ℕ → Option Ccw) → (ℕ → ℕ → Option ℕ) → Written
written_by words lists =
    record {
      text = λ _ a. words a;
      block = λ _ p number. lists p.at number;
      word_asks = λ a. [];
      block_asks = λ p number. [];
    }

pub few_frames : (r : Real) → length (lent_pool r.dat.now).supply.owners ≤ 4096
few_frames r = let counted = r.counted in let few = r.few in omega (arith, counted, few)

-- a user's storage is whole pages
pub whole_in : (r : Real) → length (lent_bytes r.dat.now) % 4096 ≡ 0
whole_in r = let sized = r.dat.now.sized in let whole = r.dat.now.whole in omega (arith, sized, whole)

-- A storage of a user has fewer than 2^32 bytes.
pub short_in : (r : Real) → length (lent_bytes r.dat.now) ≤ 4294967295
short_in r = r.short

abbrev pub shown : Real → Memory
shown r = memory_of (real_bytes_of r) (real_keys_of r)

pub lent_in : (r : Real) → length (lent_bytes r.dat.now) ≤ 4294967295
    → IsLent (lent_bytes r.dat.now) (lent_keys r.dat.now) r.area.now (lent_pool r.dat.now).supply.owners
    (user_of r.dat.now)
lent_in r small = lent (lent_bytes r.dat.now) (lent_keys r.dat.now) r.area.now (lent_pool r.dat.now).supply.owners
    (user_of r.dat.now) small (few_frames r)

module _ {D : Type 0} (h : Setting D) (places : List CcwLocation) (nodes : List Node) (start : ℕ) (m0 : Memory)
    (r : Real)
    (d : D) (t : IsTranslatedFor r.dat.now places nodes m0) (small : length (lent_bytes r.dat.now) ≤ 4294967295)
    (whole : length (lent_bytes r.dat.now) % 4096 ≡ 0) where
  written_is : table_written nodes ≡ real_written (real_in r.dat.now) t.guests
  written_is = λ i. written_by (λ a. t.words a i) (λ a j. t.reals a j i)

  mapped : IsMapped (real_in r.dat.now) (Named t.guests) (lent_memory r.dat.now) (shown r)
  mapped = lent_mapped (lent_bytes r.dat.now) (lent_keys r.dat.now) r.area.now (lent_pool r.dat.now).supply.owners
      (user_of r.dat.now) t.guests small (few_frames r) whole t.held

  pub never_absent : (needs : D → Order → Bool) (error : ChannelError)
      → MatchStuck (table_written nodes) h needs (is_real_page_of r) (Fetching (start_spot start) (shown r) d) error
      → error ≡ errors.Memory
  never_absent needs errors.Memory stuck = refl
  never_absent needs (errors.Absent page) stuck =
      absurd (never_stuck (real_in r.dat.now) t.guests h (is_real_page_of r) (start_spot start) (lent_memory r.dat.now)
      (shown r) d page.0 (lent_in r small).paged mapped
      (lent_present (lent_bytes r.dat.now) (lent_pool r.dat.now).supply.owners (user_of r.dat.now))
      (subst (λ (w : Written). IsStuck w h (is_real_page_of r) (Fetching (start_spot start) (shown r) d) page.0)
      written_is stuck))

  module _ (s : Real) (kept : KeepsReal r s) where
    small_after : length (lent_bytes s.dat.now) ≤ 4294967295
    small_after = let size = kept.lent.rest.same_size in omega (arith, size, small)

    same_byte : (x : Memory) (a : ℕ) → IsMapped (real_in r.dat.now) (Named t.guests) x (shown s)
        → IsKept (real_in r.dat.now) (lent_memory r.dat.now) x → (o : Option ℕ) → real_in r.dat.now a ≡ o
        → get_or x.bytes a 0 ≡ get_or (lent_bytes s.dat.now) a 0
    same_byte x a map k None none = k.bytes a none ∙ sym (kept.away a none)
    same_byte x a map k (Some place) is =
        map.bytes a place is ∙ sym
        ((lent_in s small_after).bytes a place (same_real r.dat.now s.dat.now kept.lent.rest a ∙ is))

    same_storage : (x : Memory) → IsMapped (real_in r.dat.now) (Named t.guests) x (shown s)
        → IsKept (real_in r.dat.now) (lent_memory r.dat.now) x → x ≡ lent_memory s.dat.now
    same_storage x map k = ap₂ memory_of
        (ext_get_or 0 x.bytes (lent_bytes s.dat.now) (k.size ∙ sym kept.lent.rest.same_size)
        (λ a lt. same_byte x a map k (real_in r.dat.now a) refl)) (k.keys ∙ sym kept.lent.keys)

    at_end : (form : Form) (e : D) (end : Ending) (at : ℕ) → at ≡ guest_of places end.at
        → MeetsFrozen (real_in r.dat.now) t.guests form h (start_spot (guest_of places start)) (lent_memory r.dat.now) d
        (renamed_ending (guest_of places) end) (shown s) e
        → Reaches form h (Fetching (start_spot (guest_of places start)) (lent_memory r.dat.now) d)
        (Over (record { at = at; unit = end.unit; channel = end.channel; count = end.count })
        (lent_memory s.dat.now) e)
    at_end form e end at is met =
        subst (λ (k : ℕ). Reaches form h (Fetching (start_spot (guest_of places start)) (lent_memory r.dat.now) d)
        (Over (record { at = k; unit = end.unit; channel = end.channel; count = end.count }) (lent_memory s.dat.now)
        e)) (sym is)
        (subst (λ (x : Memory). Reaches form h (Fetching (start_spot (guest_of places start)) (lent_memory r.dat.now) d)
        (Over (renamed_ending (guest_of places) end) x e)) (same_storage met.storage met.mapped met.kept)
        met.reaches)

    real_reach : (e : D) (end : Ending)
        → Reaches (live (table_written nodes)) h (Fetching (start_spot start) (shown r) d) (Over end (shown s) e)
        → Reaches (live (real_written (real_in r.dat.now) t.guests)) h (Fetching (start_spot start) (shown r) d)
        (Over end (shown s) e)
    real_reach e end to = subst
        (λ (w : Written). Reaches (live w) h (Fetching (start_spot start) (shown r) d) (Over end (shown s) e))
        written_is to

    pub frozen_run : (e : D) (end : Ending) (at : ℕ) → at ≡ guest_of places end.at
        → IsPlace places (guest_text m0) start
        → Reaches (live (table_written nodes)) h (Fetching (start_spot start) (shown r) d) (Over end (shown s) e)
        → Reaches (words_frozen (live guest_written) m0) h
        (Fetching (start_spot (guest_of places start)) (lent_memory r.dat.now) d)
        (Over (record { at = at; unit = end.unit; channel = end.channel; count = end.count })
        (lent_memory s.dat.now) e)
    frozen_run e end at is there to = at_end (words_frozen (live guest_written) m0) e end at is
        (frozen_end (real_in r.dat.now) t.guests places (live guest_written) m0 h (start_spot start)
        (lent_memory r.dat.now) (shown r) d e end (shown s) t.copy there (lent_in r small).paged mapped
        (real_reach e end to))

    pub steady_run : (e : D) (end : Ending) (at : ℕ) → at ≡ guest_of places end.at
        → IsPlace places (guest_text m0) start
        → Reaches (live (table_written nodes)) h (Fetching (start_spot start) (shown r) d) (Over end (shown s) e)
        → IsSteady (live guest_written) h m0 (Fetching (start_spot (guest_of places start)) (lent_memory r.dat.now) d)
        → Reaches (live guest_written) h (Fetching (start_spot (guest_of places start)) (lent_memory r.dat.now) d)
        (Over (record { at = at; unit = end.unit; channel = end.channel; count = end.count })
        (lent_memory s.dat.now) e)
    steady_run e end at is there to steady = at_end (live guest_written) e end at is
        (steady_end (real_in r.dat.now) t.guests places (live guest_written) m0 h (start_spot start)
        (lent_memory r.dat.now) (shown r) d e end (shown s) t.copy there (lent_in r small).paged mapped
        (real_reach e end to) steady)

same_place : (f g : ℕ → Option ℕ) → ((a : ℕ) → f a ≡ g a) → (o : Option ℕ) → real_place f o ≡ real_place g o
same_place f g same None = refl
same_place f g same (Some a) = same a

same_there : (old new : Dat) → KeepsRest old new → (page : ℕ)
    → is_there (lent_pool new).supply.owners (user_of new) page
    ≡ is_there (lent_pool old).supply.owners (user_of old) page
same_there old new kept page =
    ap (λ (o : FrameSupply). is_there o.owners (user_of new) page) kept.same_supply ∙ ap
    (λ u. is_there (lent_pool old).supply.owners u page) kept.same_user

-- a run leaves a program that is as well translated for what it leaves
pub kept_translated : (r s : Real) (places : List CcwLocation) (nodes : List Node) (m0 : Memory) → KeepsReal r s
    → IsTranslatedFor r.dat.now places nodes m0 → IsTranslatedFor s.dat.now places nodes m0
kept_translated r s places nodes m0 kept t = record {
  guests = t.guests;
  copy = t.copy;
  words = t.words;
  reals = λ a j. t.reals a j ∙ same_place (real_in r.dat.now) (real_in s.dat.now)
      (λ k. sym (same_real r.dat.now s.dat.now kept.lent.rest k)) (t.guests.lists a j);
  held = λ a named low. (let size = kept.lent.rest.same_size in same_there r.dat.now s.dat.now kept.lent.rest (a / 4096)
      ∙ t.held a named (omega (arith, size, low)));
}

-- What a storage keeps of the words of a program.
use Rattle.std.specs.Prelude.{ℕ, zero, suc, ◌+◌, ◌-◌, ◌*◌, ◌<◌, ◌≤◌, ◌≡◌, Bool, true, false, if◌then◌else◌, List, []}
use Rattle.std.specs.Prelude.{◌∷◌, length, slice_range, slice_index, take, drop, Option, None, Some, refl}
use Rattle.std.specs.Int.{w32, from_be_bytes}
use Rattle.std.proofs.Common.{ap, ◌∙◌, sym, subst, inl, inr, arith, is_none}
use Rattle.std.proofs.Math.Seq.{drop-cons}
use Rattle.s370_store.specs.declared.Access.TheVariants.{Fetch}
use Rattle.s370_store.proofs.Puts.{length-put}
use Rattle.s370_store.proofs.Verdicts.{fits}
use Rattle.s370_channel.specs.Words.{ccw_of}
use Rattle.s370_channel.specs.Guest.{guest_text, area_block, later, list_of, list_word, said_by, word_at}
use Rattle.s370_walk.specs.declared.parts.Ccw.{Ccw}
use Rattle.s370_walk.specs.Blocks.{block_number, straight}
use Rattle.s370_store.specs.Memory.{Memory}
use Rattle.s370_walk.specs.Hardware.{area, fault_of, is_in, put_byte}
use Rattle.s370_walk.specs.Walk.{is_indirect}
use Rattle.s370_walk.proofs.Mapping.{get_other}
use Rattle.s370_walk.specs.Tracks.{has_area}
use Rattle.cp_needs.specs.Areas.{IsBegun}
use Rattle.s370_store.specs.Access.{is_passed, is_permitted, is_permitted_from}
use Rattle.cp_needs.specs.Kept.{IsKept}
use Rattle.cp_needs.specs.Needs.{IsReached, IsTextByte}

-- Memory keeps itself as it began.
pub kept_first : (m0 : Memory) (start : ℕ) → IsKept m0 start m0
kept_first m0 start = record { size = refl; text = λ address a reached byte. refl }

slice-more : (bytes : List ℕ) (a n : ℕ) → a < length bytes
    → slice_range bytes a (a + suc n) ≡ slice_index bytes a ∷ slice_range bytes (a + 1) (a + 1 + n)
slice-more bytes a n lt =
    let one : a + suc n - a ≡ suc n = omega arith in
    let two : a + 1 + n - (a + 1) ≡ n = omega arith in
    let three : a + 1 ≡ suc a = omega arith in
    ap (λ k. take k (drop a bytes)) one ∙ ap (take (suc n)) (drop-cons bytes a 0 lt) ∙ ap
    (λ k. slice_index bytes a ∷ take n (drop k bytes)) (sym three) ∙ ap
    (λ k. slice_index bytes a ∷ take k (drop (a + 1) bytes)) (sym two)

slice-none : (bytes : List ℕ) (a : ℕ) → slice_range bytes a (a + 0) ≡ []
slice-none bytes a = let none : a + 0 - a ≡ 0 = omega arith in ap (λ k. take k (drop a bytes)) none

-- slices are the same where their bytes are
slices_same : (xs ys : List ℕ) (n a : ℕ) → length xs ≡ length ys → a + n ≤ length ys
    → ((k : ℕ) → k < n → slice_index xs (a + k) ≡ slice_index ys (a + k))
    → slice_range xs a (a + n) ≡ slice_range ys a (a + n)
slices_same xs ys zero a long inside same = slice-none xs a ∙ sym (slice-none ys a)
slices_same xs ys (suc n) a long inside same =
    let here : a + 0 ≡ a = omega arith in
    let first : slice_index xs a ≡ slice_index ys a = rw here at (same 0 (omega arith)) in
    let rest = slices_same xs ys n (a + 1) long (omega (arith, inside))
    (λ k lt. (let on : a + 1 + k ≡ a + (k + 1) = omega arith in rw on (same (k + 1) (omega (arith, lt))))) in
    slice-more xs a n (omega (arith, inside, long)) ∙ ap (λ x. x ∷ slice_range xs (a + 1) (a + 1 + n)) first ∙ ap
    (λ l. slice_index ys a ∷ l) rest ∙ sym (slice-more ys a n (omega (arith, inside)))

-- the key zero passes each block
pub permitted_zero : (keys : List ℕ) (start n : ℕ) → is_permitted_from keys 0 Fetch start n ≡ true
unfolding is_passed
permitted_zero keys start zero = refl
permitted_zero keys start (suc n) = permitted_zero keys start n

-- a range lies in one storage as in another of that size
in_same : (m0 : Memory) (start : ℕ) (m : Memory) (a n : ℕ) → IsKept m0 start m → is_in m a n ≡ is_in m0 a n
unfolding is_permitted
in_same m0 start m a n kept = rw (kept.size, permitted_zero m.keys a n, permitted_zero m0.keys a n) refl

-- A range in storage ends within it.
pub in_fits : (m : Memory) (a n : ℕ) → 0 < n → is_in m a n ≡ true → a + n ≤ length m.bytes
in_fits m a n some e = fits (length m.bytes) m.keys 0 Fetch a n (none_is (fault_of m 0 (area Fetch a n)) e) some
  where
    none_is : {A : Type 0} (o : Option A) → is_none o ≡ true → o ≡ None
    none_is None e = refl
    none_is (Some x) e = cc

-- a word that the program can reach
pub kept_word : (m0 : Memory) (start : ℕ) (m : Memory) (address : ℕ) → IsKept m0 start m → IsReached m0 start address
    → guest_text m address ≡ guest_text m0 address
kept_word m0 start m address kept reached = by_in (is_in m0 address 8) refl (in_same m0 start m address 8 kept)
  where
    by_in : (b : Bool) → is_in m0 address 8 ≡ b → is_in m address 8 ≡ is_in m0 address 8
        → guest_text m address ≡ guest_text m0 address
    by_in true is e =
        let bytes = slices_same m.bytes m0.bytes 8 address kept.size (in_fits m0 address 8 (omega arith) is)
        (λ k lt. kept.text address (address + k) reached (inl (k, lt, refl))) in
        rw (e, is) (ap (λ l. Some (word_at address (ccw_of l))) bytes)
    by_in false is e = rw (e, is) refl

-- a word of the list of such a word
pub kept_block : (m0 : Memory) (start : ℕ) (m : Memory) (address : ℕ) (w : Ccw) (byte : ℕ) → IsKept m0 start m
    → IsReached m0 start address → guest_text m0 address ≡ Some w
    → has_area w ≡ true → byte < w.count → IsBegun (area_block m0 w) byte
    → area_block m w (block_number byte) ≡ area_block m0 w (block_number byte)
kept_block m0 start m address w byte kept reached text has counted begun = by_list (is_indirect w) refl
  where
    at : ℕ
    at = later w.address (4 * block_number byte)

    by_in : (b : Bool) → is_in m0 at 4 ≡ b → is_in m at 4 ≡ is_in m0 at 4 → is_indirect w ≡ true
        → list_word m at ≡ list_word m0 at
    by_in true is e listed =
        let bytes = slices_same m.bytes m0.bytes 4 at kept.size (in_fits m0 at 4 (omega arith) is)
        (λ k lt. kept.text address (at + k) reached
        (inr (
          w,
          text,
          record {
            byte = byte;
            has = has;
            counted = counted;
            begun = begun;
            listed = listed;
            part = k;
            within = lt;
            at = refl;
          },
        ))) in
        rw (e, is) (ap (λ l. Some (from_be_bytes w32 l)) bytes)
    by_in false is e listed = rw (e, is) refl

    by_list : (b : Bool) → is_indirect w ≡ b
        → (if b then list_of m w.address (block_number byte) else straight w.address (block_number byte))
        ≡ (if b then list_of m0 w.address (block_number byte) else straight w.address (block_number byte))
    by_list true e = ap (said_by (block_number byte)) (by_in (is_in m0 at 4) refl (in_same m0 start m at 4 kept) e)
    by_list false e = refl

-- a byte that is none of theirs may be stored
pub kept_put : (m0 : Memory) (start : ℕ) (m : Memory) (a b : ℕ) → IsKept m0 start m → a < length m.bytes
    → ((address : ℕ) → IsReached m0 start address → IsTextByte m0 address a → ⊥) → IsKept m0 start (put_byte m a b)
kept_put m0 start m a b kept lt apart =
    record {
      size = length-put m.bytes (b ∷ []) a (omega (arith, lt)) ∙ kept.size;
      text = λ address c reached byte.
          get_other m.bytes a b c lt (λ same. apart address reached (subst (λ x. IsTextByte m0 address x) same byte)) ∙
          kept.text address c reached byte;
    }

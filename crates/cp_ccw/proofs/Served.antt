-- A page that the copy asks for is one that the program needs.
use Rattle.std.specs.Prelude.{ℕ, zero, suc, ◌+◌, ◌-◌, ◌*◌, ◌/◌, ◌%◌, ◌^◌, ◌<◌, ◌≡◌, ◌==◌, Bool, true, false, ◌&&◌, ◌||◌}
use Rattle.std.specs.Prelude.{nat_lt, if◌then◌else◌, length, Option, None, Some, is_some, refl}
use Rattle.std.specs.List.{slice_range}
use Rattle.std.proofs.Common.{◌∙◌, sym, subst, inl, inr, arith}
use Rattle.std.proofs.lemmas.Bool.{true≢false}
use Rattle.std.proofs.lemmas.Bool.Decides.{nat_tests}
use Rattle.s370_store.specs.Access.{IsAbsent}
use Rattle.s370_channel.specs.Guest.{area_block, guest_text, list_of, list_word, later, said_by, word_at}
use Rattle.s370_channel.specs.Words.{ccw_of}
use Rattle.s370_walk.specs.declared.parts.Ccw.{Ccw}
use Rattle.s370_walk.specs.Blocks.{block_number, straight}
use Rattle.s370_store.specs.Memory.{Memory}
use Rattle.s370_walk.specs.Hardware.{is_in}
use Rattle.s370_walk.specs.Walk.{is_indirect}
use Rattle.cp_needs.specs.Closure.{IsDataPage, IsEntryPage, IsServed, IsUsed, IsWordPage}
use Rattle.cp_needs.proofs.Tables.{area_aligned}
use Rattle.cp_needs.specs.Areas.{IsBegun}
use Rattle.cp_needs.specs.Needs.{IsHeld, IsProgramPage}
use Rattle.cp_needs.specs.Words.{IsAreaPage, IsPageAt}
use Rattle.cp_needs.proofs.Blocks.{asked_of, begun_first, begun_on}
use Rattle.cp_needs.proofs.Finding.{area_at}
use Rattle.cp_needs.proofs.Programs.{needed_page}

-- the address of a word has 24 bits
address_low : (m : Memory) (a : ℕ) (w : Ccw) → guest_text m a ≡ Some w → w.address < 2 ^ 24
address_low m a w = by_in (is_in m a 8)
  where
    by_in : (b : Bool) → (if b then Some (word_at a (ccw_of (slice_range m.bytes a (a + 8)))) else None) ≡ Some w
        → w.address < 2 ^ 24
    by_in true e = (let same : word_at a (ccw_of (slice_range m.bytes a (a + 8)))
        ≡ w = cc in subst (λ (v : Ccw). v.address < 2 ^ 24) same (omega arith))
    by_in false e = cc

-- what is said of a block is an address
block_low : (m : Memory) (w : Ccw) (j a : ℕ) → w.address < 2 ^ 24 → area_block m w j ≡ Some a → a < 2 ^ 32
block_low m w j a low = by_list (is_indirect w)
  where
    by_said : (v : ℕ) (fits whole : Bool) → nat_lt v (2 ^ 24) ≡ fits → (if fits && whole then Some v else None) ≡ Some a
        → a < 2 ^ 32
    by_said v true true is e =
        (let same : v ≡ a = cc in let fits : v < 2 ^ 24 = grind (arith, nat_tests) in omega (arith, same, fits))
    by_said v true false is e = cc
    by_said v false whole is e = cc

    by_value : (o : Option ℕ) → said_by j o ≡ Some a → a < 2 ^ 32
    by_value None e = cc
    by_value (Some v) e = by_said v (nat_lt v (2 ^ 24)) (j == 0 || v % 2048 == 0) refl e

    by_block : (v : ℕ) (first fits : Bool) → nat_lt v (2 ^ 32) ≡ fits
        → (if first then Some w.address else if fits then Some v else None) ≡ Some a → a < 2 ^ 32
    by_block v true fits is e = (let same : w.address ≡ a = cc in omega (arith, same, low))
    by_block v false true is e =
        (let same : v ≡ a = cc in let fits : v < 2 ^ 32 = grind (arith, nat_tests) in omega (arith, same, fits))
    by_block v false false is e = cc

    by_list : (b : Bool) → (if b then list_of m w.address j else straight w.address j) ≡ Some a → a < 2 ^ 32
    by_list true e = by_value (list_word m (later w.address (4 * j))) e
    by_list false e = by_block ((w.address / 2048 + j) * 2048) (j == 0)
        (nat_lt ((w.address / 2048 + j) * 2048) (2 ^ 32)) refl e

some_of : (o : Option ℕ) → is_some o ≡ true → (a : ℕ) × (o ≡ Some a)
some_of None e = cc
some_of (Some a) e = (a, refl)

-- the byte of an area with which a block after the first begins has its number
number_at : (first j : ℕ) → block_number (suc j * 2048 - first % 2048) ≡ suc j
number_at first j = omega arith

-- Each block of an area is begun, where the list says an address for each before it.
module _ (m : Memory) (w : Ccw) (low : w.address < 2 ^ 24) (first : ℕ) (is : area_block m w 0 ≡ Some first) where
  block_begun : (j : ℕ) → ((i : ℕ) → i < suc j → is_some (area_block m w i) ≡ true)
      → IsBegun (area_block m w) (suc j * 2048 - first % 2048)
  block_begun zero before =
      let next : 0 + (2048 - first % 2048) ≡ 1 * 2048 - first % 2048 = omega arith in
      subst (IsBegun (area_block m w)) next
      (begun_on (area_block m w) 0 first (2048 - first % 2048) (begun_first (area_block m w)) is
      (block_low m w 0 first low is) (omega arith) (omega arith))
  block_begun (suc j) before =
      by_start (block_begun j (λ i lt. before i (omega (arith, lt))))
      (some_of (area_block m w (suc j)) (before (suc j) (omega arith)))
    where
      by_start : IsBegun (area_block m w) (suc j * 2048 - first % 2048) → (a : ℕ) × (area_block m w (suc j) ≡ Some a)
          → IsBegun (area_block m w) (suc (suc j) * 2048 - first % 2048)
      by_start begun (start, said) =
          let even : start % 2048 ≡ 0 = area_aligned m w (suc j) start (omega arith) said in
          let here : area_block m w (block_number (suc j * 2048 - first % 2048)) ≡ Some start =
          rw (number_at first j) said in
          let next : suc j * 2048 - first % 2048 + 2048 ≡ suc (suc j) * 2048 - first % 2048 = omega arith in
          subst (IsBegun (area_block m w)) next
          (begun_on (area_block m w) (suc j * 2048 - first % 2048) start 2048 begun here
          (block_low m w (suc j) start low said) (omega arith) (omega (arith, even)))

-- A byte that is counted begins a block of a number.
record IsFirstOf (m : Memory) (w : Ccw) (number : ℕ) : Type 0 where
  byte : ℕ
  counted : byte < w.count
  begun : IsBegun (area_block m w) byte
  is : block_number byte ≡ number

used_begun : (m : Memory) (w : Ccw) (number : ℕ) → w.address < 2 ^ 24 → IsUsed (area_block m w) w.count number
    → IsFirstOf m w number
used_begun m w zero low used = record { byte = 0; counted = used.some; begun = begun_first (area_block m w); is = refl }
used_begun m w (suc j) low used = by_first (some_of (area_block m w 0) (used.before 0 (omega arith)))
  where
    by_first : (a : ℕ) × (area_block m w 0 ≡ Some a) → IsFirstOf m w (suc j)
    by_first (first, is) =
        let counted = used.counted first (omega arith) is in
        record {
          byte = suc j * 2048 - first % 2048;
          counted = omega (arith, counted);
          begun = block_begun m w low first is j used.before;
          is = number_at first j;
        }

data_page : (m : Memory) (w : Ccw) (page : ℕ) → w.address < 2 ^ 24 → IsDataPage m w page → IsAreaPage m w page
data_page m w page low asked =
    let b = used_begun m w asked.index low asked.used in
    asked_of m w b.byte page asked.has b.counted b.begun
    (subst (λ (number : ℕ). IsEntryPage m w number page) (sym b.is) asked.touched)

word_page : (m : Memory) (address page : ℕ) → IsWordPage m address page → IsPageAt m address page
word_page m address page (inl (inl (k, lt, at))) = (address + k, inl (inl (k, lt, refl)), at)
word_page m address page (inl (inr none)) = absurd none
word_page m address page (inr (w, text, asked)) =
    area_at m address w page text (data_page m w page (address_low m address w text) asked)

-- where the pages that the program needs are held, the copy asks for none
pub none_is_served : (m : Memory) (start page : ℕ) (present : ℕ → Bool) → IsHeld m start present
    → IsAbsent (length m.bytes) present page → IsServed m start page → ⊥
none_is_served m start page present held away served =
    let needed : IsProgramPage m start page =
    needed_page m start served.place.address page present (served.place.continues, served.reached)
    (word_page m served.place.address page served.touched) away in
    true≢false (sym (held page needed) ∙ away.away)

-- Storages as bytes: the bytes of each page, and those of a storage, are of one alone.
use Rattle.std.specs.Prelude.{ℕ, zero, suc, ◌+◌, ◌-◌, ◌*◌, ◌/◌, ◌%◌, ◌<◌, ◌≤◌, ◌≡◌, ◌==◌, ◌&&◌, refl, Bool, true, false}
use Rattle.std.specs.Prelude.{List, [], ◌∷◌, ◌++◌, length, take, drop, replicate, get_or}
use Rattle.std.proofs.Common.{sym, ◌∙◌, ap, arith, append_assoc, length-drop}
use Rattle.std.proofs.Math.Decide.{dec_lt}
use Rattle.std.proofs.lemmas.List.{drop-drop, drop_all, get_or-drop, get_or-take, get_or_past, length-take}
use Rattle.std.proofs.lemmas.List.{take-append-drop}
use Rattle.std.proofs.lemmas.Bool.Decides.{nat_tests}
use Rattle.saved_bytes.specs.Codes.{number, Same, IsCode}
use Rattle.saved_bytes.proofs.Codes.{bytes_code, first, number_code}
use Rattle.cp_frames.specs.Layout.{IsZeroPage}
use Rattle.cp_frames.specs.Saved.{is_zero, packed, packed_if, pages_bytes, storage_bytes}

-- ---- a page

both_true : (a b : Bool) → (a && b) ≡ true → (a ≡ true) × (b ≡ true)
both_true true b e = (refl, e)
both_true false b e = absurd (grind (arith, e))

zeros_are : (page : List ℕ) → is_zero page ≡ true → page ≡ replicate (length page) 0
zeros_are [] e = refl
zeros_are (byte ∷ page) e =
    let both = both_true (byte == 0) (is_zero page) e in
    let first : byte ≡ 0 = grind (arith, nat_tests, both.0) in
    ap (λ b. b ∷ page) first ∙ ap (λ l. 0 ∷ l) (zeros_are page both.1)

are_zeros : (page : List ℕ) → ((i : ℕ) → get_or page i 0 ≡ 0) → is_zero page ≡ true
are_zeros [] zeros = refl
are_zeros (byte ∷ page) zeros =
    let first : (byte == 0) ≡ true = ap (λ b. b == 0) (zeros 0) in
    let rest = are_zeros page (λ i. zeros (suc i)) in
    ap (λ b. b && is_zero page) first ∙ rest

same_long : (a b x y : List ℕ) → length a ≡ length b → a ++ x ≡ b ++ y → Same a b x y
same_long a b x y long e =
    bytes_code a b x y (append_assoc (number (length a)) a x ∙ ap (λ n. number n ++ (a ++ x)) long ∙ ap
    (λ l. number (length b) ++ l) e ∙ sym (append_assoc (number (length b)) b y))

packed_cases : (s t : Bool) (a b x y : List ℕ) → is_zero a ≡ s → is_zero b ≡ t → length a ≡ length b
    → packed_if s a ++ x ≡ packed_if t b ++ y → Same a b x y
packed_cases true true a b x y p q long e = record {
  this = zeros_are a p ∙ ap (λ n. replicate n 0) long ∙ sym (zeros_are b q);
  rest = ap (λ l. drop 1 l) e;
}
packed_cases true false a b x y p q long e = absurd (omega (arith, ap (λ l. get_or l 0 0) e))
packed_cases false true a b x y p q long e = absurd (omega (arith, ap (λ l. get_or l 0 0) e))
packed_cases false false a b x y p q long e = same_long a b x y long (ap (λ l. drop 1 l) e)

packed_same : (a b x y : List ℕ) → length a ≡ length b → packed a ++ x ≡ packed b ++ y → Same a b x y
packed_same a b x y long e = packed_cases (is_zero a) (is_zero b) a b x y refl refl long e

-- ---- a storage

pages_same : (pages : ℕ) (a b x y : List ℕ) → length a ≡ length b → pages_bytes pages a ++ x ≡ pages_bytes pages b ++ y
    → Same a b x y
pages_same zero a b x y long e = same_long a b x y long e
pages_same (suc pages) a b x y long e =
    let front : length (take 4096 a) ≡ length (take 4096 b) = rw (length-take, length-take, long) refl in
    let behind : length (drop 4096 a) ≡ length (drop 4096 b) = rw (length-drop, length-drop, long) refl in
    let p = pages_bytes pages (drop 4096 a) in
    let q = pages_bytes pages (drop 4096 b) in
    let one = packed_same (take 4096 a) (take 4096 b) (p ++ x) (q ++ y) front
    (sym (append_assoc (packed (take 4096 a)) p x) ∙ e ∙ append_assoc (packed (take 4096 b)) q y) in
    let others = pages_same pages (drop 4096 a) (drop 4096 b) x y behind one.rest in
    record {
      this = sym (take-append-drop 4096 a) ∙ ap (λ l. l ++ drop 4096 a) one.this ∙ ap (λ l. take 4096 b ++ l)
          others.this ∙ take-append-drop 4096 b;
      rest = others.rest;
    }

-- The bytes of a storage are a code: it is read back, whatever follows it.
pub storage_code : IsCode storage_bytes
storage_code a b x y e =
    let long = first number number_code (length a) (length b) (pages_bytes (length a / 4096) a)
    (pages_bytes (length b / 4096) b) x y e in
    pages_same (length a / 4096) a b x y long.this (long.rest ∙ ap (λ n. pages_bytes (n / 4096) b ++ y) (sym long.this))

-- ---- a storage that is written page by page

-- One more page is appended to the bytes of a storage.
pub pages_on : (out storage : List ℕ) (pages page : ℕ) → page < pages →
    (out ++ packed (take 4096 (drop (page * 4096) storage)))
    ++ pages_bytes (pages - (page + 1)) (drop ((page + 1) * 4096) storage)
    ≡ out ++ pages_bytes (pages - page) (drop (page * 4096) storage)
pages_on out storage pages page lt =
    let one = packed (take 4096 (drop (page * 4096) storage)) in
    let left : pages - page ≡ suc (pages - (page + 1)) = omega arith in
    let at : page * 4096 + 4096 ≡ (page + 1) * 4096 = omega arith in
    let next : drop 4096 (drop (page * 4096) storage) ≡ drop ((page + 1) * 4096) storage =
    drop-drop 4096 (page * 4096) storage ∙ ap (λ n. drop n storage) at in
    append_assoc out one (pages_bytes (pages - (page + 1)) (drop ((page + 1) * 4096) storage))
    ∙ ap (λ l. out ++ l) (ap (λ l. one ++ pages_bytes (pages - (page + 1)) l) (sym next) ∙ ap
    (λ n. pages_bytes n (drop (page * 4096) storage)) (sym left))

-- After the last page the bytes of a storage are all there.
pub pages_done : (storage : List ℕ) (pages page : ℕ) → length storage / 4096 ≡ pages → length storage % 4096 ≡ 0
    → pages ≤ page →
    pages_bytes (pages - page) (drop (page * 4096) storage) ≡ []
pages_done storage pages page count whole le =
    let none : pages - page ≡ 0 = omega arith in
    ap (λ n. pages_bytes n (drop (page * 4096) storage)) none ∙ drop_all (page * 4096) storage
    (omega (arith, count, whole))

-- A page of zeros is packed as one flag.
pub zero_packed : (storage : List ℕ) (page : ℕ) → IsZeroPage storage page
    → packed (take 4096 (drop (page * 4096) storage)) ≡ 0 ∷ []
zero_packed storage page zeros =
    let content = take 4096 (drop (page * 4096) storage) in
    let each : (i : ℕ) → get_or content i 0 ≡ 0 = (λ i. elim (dec_lt i 4096) [
      | yes lt ↦ get_or-take 4096 (drop (page * 4096) storage) i 0 lt ∙ get_or-drop (page * 4096) storage i 0 ∙ zeros
          (page * 4096 + i) (omega arith)
      | no past ↦ get_or_past content i 0 (omega (arith, length-take 4096 (drop (page * 4096) storage)))
    ]) in
    ap (λ s. packed_if s content) (are_zeros content each)

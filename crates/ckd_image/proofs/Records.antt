-- Laws of records that are read: what is whole, and what is cut.
use Rattle.std.specs.Prelude.{ℕ, ◌+◌, ◌-◌, ◌*◌, ◌/◌, ◌%◌, ◌≡◌, ◌<◌, ◌≤◌, refl, List, [], ◌∷◌, ◌++◌, length, take, drop}
use Rattle.std.specs.Prelude.{get_or, replicate}
use Rattle.std.proofs.Common.{sym, ◌∙◌, ap, arith, append_assoc, append-nil, length-append, length-drop, subst}
use Rattle.std.proofs.Common.{take-append-drop, length-take-le, drop-drop}
use Rattle.std.proofs.lemmas.List.{length-replicate}
use Rattle.byteorder.specs.Endian.{big_number}
use Rattle.ckd_image.specs.Image.{record_bytes}
use Rattle.ckd_image.specs.Reading.{IsSpelledRecord}
use Rattle.ckd_image.specs.Parts.{BeginsRecord, IsCutRecord, record_with}

-- the first eight bytes, one by one
pub eight : (l : List ℕ) → 8 ≤ length l → l ≡ get_or l 0 0 ∷ get_or l 1 0 ∷ get_or l 2 0 ∷ get_or l 3 0 ∷ get_or l 4 0 ∷
    get_or l 5 0 ∷ get_or l 6 0 ∷ get_or l 7 0 ∷ drop 8 l
eight [] le = absurd (omega arith)
eight (a ∷ []) le = absurd (omega arith)
eight (a ∷ b ∷ []) le = absurd (omega arith)
eight (a ∷ b ∷ c ∷ []) le = absurd (omega arith)
eight (a ∷ b ∷ c ∷ d ∷ []) le = absurd (omega arith)
eight (a ∷ b ∷ c ∷ d ∷ e ∷ []) le = absurd (omega arith)
eight (a ∷ b ∷ c ∷ d ∷ e ∷ k ∷ []) le = absurd (omega arith)
eight (a ∷ b ∷ c ∷ d ∷ e ∷ k ∷ h ∷ []) le = absurd (omega arith)
eight (a ∷ b ∷ c ∷ d ∷ e ∷ k ∷ h ∷ m ∷ t) le = refl

-- the length of the data that a count says
pub word_at : (l : List ℕ) → 8 ≤ length l → big_number 2 (take 2 (drop 6 l)) ≡ 256 * get_or l 6 0 + get_or l 7 0
word_at l le = subst (λ x. big_number 2 (take 2 (drop 6 x)) ≡ 256 * get_or l 6 0 + get_or l 7 0) (sym (eight l le))
    (omega arith)

-- a count, and as many bytes as it says
pub begins : (a b c d e k h m : ℕ) (t key content rest : List ℕ) → k < 256 → h < 256 → m < 256
    → length key ≡ k → length content ≡ 256 * h + m → t ≡ (key ++ content) ++ rest
    → BeginsRecord (a ∷ b ∷ c ∷ d ∷ e ∷ k ∷ h ∷ m ∷ t) (record_with (a ∷ b ∷ c ∷ d ∷ e ∷ []) key content) rest
begins a b c d e k h m t key content rest kl hl ml ek ec et =
    let high : h ≡ length content / 256 = omega (arith, ec, ml) in
    let low : m ≡ length content % 256 = omega (arith, ec, ml) in
    record {
      spelled = record { id = refl; key = omega (arith, ek, kl); content = omega (arith, ec, hl, ml) };
      whole = ap (λ n. a ∷ b ∷ c ∷ d ∷ e ∷ n ∷ h ∷ m ∷ t) (sym ek)
          ∙ ap (λ n. a ∷ b ∷ c ∷ d ∷ e ∷ length key ∷ n ∷ m ∷ t) high
          ∙ ap (λ n. a ∷ b ∷ c ∷ d ∷ e ∷ length key ∷ length content / 256 ∷ n ∷ t) low
          ∙ ap (λ l. a ∷ b ∷ c ∷ d ∷ e ∷ length key ∷ length content / 256 ∷ length content % 256 ∷ l) et;
    }

-- the bytes after a count that has so many and more
pub split_body : (t : List ℕ) (k n : ℕ) → k + n ≤ length t → (t ≡ (take k t ++ take n (drop k t)) ++ drop (k + n) t)
    × (length (take k t) ≡ k) × (length (take n (drop k t)) ≡ n)
split_body t k n le = (
  sym (append_assoc (take k t) (take n (drop k t)) (drop (k + n) t)
      ∙ ap (λ l. take k t ++ (take n (drop k t) ++ l)) (sym (drop-drop n k t))
      ∙ ap (λ l. take k t ++ l) (take-append-drop n (drop k t))
      ∙ take-append-drop k t),
  length-take-le k t (omega arith),
  length-take-le n (drop k t) (omega (arith, length-drop k t)),
)

-- fewer bytes than the count says: zeros would make them a record
pub cut_body : (a b c d e k h m : ℕ) (t : List ℕ) → k < 256 → h < 256 → m < 256 → length t < k + (256 * h + m)
    → IsCutRecord (a ∷ b ∷ c ∷ d ∷ e ∷ k ∷ h ∷ m ∷ t)
cut_body a b c d e k h m t kl hl ml lt =
    let missing = k + (256 * h + m) - length t in
    let zeros : List ℕ = replicate missing 0 in
    let body : List ℕ = t ++ zeros in
    let long : length body ≡ k + (256 * h + m) = length-append t zeros
    ∙ ap (λ n. length t + n) (length-replicate {A = ℕ} missing 0) ∙ omega arith in
    let key : length (take k body) ≡ k = length-take-le k body (omega (arith, long)) in
    let content : length (drop k body) ≡ 256 * h + m = omega (arith, length-drop k body, long) in
    let whole : body ≡ (take k body ++ drop k body) ++ [] = sym (append-nil (take k body ++ drop k body)
    ∙ take-append-drop k body) in
    let there = begins a b c d e k h m body (take k body) (drop k body) [] kl hl ml key content whole in
    record {
      there = record_with (a ∷ b ∷ c ∷ d ∷ e ∷ []) (take k body) (drop k body);
      more = zeros;
      spelled = there.spelled;
      some = omega (arith, length-replicate {A = ℕ} missing 0);
      whole = there.whole ∙ append-nil (record_bytes (record_with (a ∷ b ∷ c ∷ d ∷ e ∷ []) (take k body)
          (drop k body)));
    }

five : (a b c d e : ℕ) → IsSpelledRecord (record_with (a ∷ b ∷ c ∷ d ∷ e ∷ []) [] [])
five a b c d e = record { id = refl; key = omega arith; content = omega arith }

-- fewer bytes than a count has
pub cut_count : (l : List ℕ) → ((i : ℕ) → get_or l i 0 < 256) → length l < 8 → IsCutRecord l
cut_count [] small lt = record {
  there = record_with (0 ∷ 0 ∷ 0 ∷ 0 ∷ 0 ∷ []) [] [];
  more = 0 ∷ 0 ∷ 0 ∷ 0 ∷ 0 ∷ 0 ∷ 0 ∷ 0 ∷ [];
  spelled = five 0 0 0 0 0;
  some = omega arith;
  whole = refl;
}
cut_count (a ∷ []) small lt = record {
  there = record_with (a ∷ 0 ∷ 0 ∷ 0 ∷ 0 ∷ []) [] [];
  more = 0 ∷ 0 ∷ 0 ∷ 0 ∷ 0 ∷ 0 ∷ 0 ∷ [];
  spelled = five a 0 0 0 0;
  some = omega arith;
  whole = refl;
}
cut_count (a ∷ b ∷ []) small lt = record {
  there = record_with (a ∷ b ∷ 0 ∷ 0 ∷ 0 ∷ []) [] [];
  more = 0 ∷ 0 ∷ 0 ∷ 0 ∷ 0 ∷ 0 ∷ [];
  spelled = five a b 0 0 0;
  some = omega arith;
  whole = refl;
}
cut_count (a ∷ b ∷ c ∷ []) small lt = record {
  there = record_with (a ∷ b ∷ c ∷ 0 ∷ 0 ∷ []) [] [];
  more = 0 ∷ 0 ∷ 0 ∷ 0 ∷ 0 ∷ [];
  spelled = five a b c 0 0;
  some = omega arith;
  whole = refl;
}
cut_count (a ∷ b ∷ c ∷ d ∷ []) small lt = record {
  there = record_with (a ∷ b ∷ c ∷ d ∷ 0 ∷ []) [] [];
  more = 0 ∷ 0 ∷ 0 ∷ 0 ∷ [];
  spelled = five a b c d 0;
  some = omega arith;
  whole = refl;
}
cut_count (a ∷ b ∷ c ∷ d ∷ e ∷ []) small lt = record {
  there = record_with (a ∷ b ∷ c ∷ d ∷ e ∷ []) [] [];
  more = 0 ∷ 0 ∷ 0 ∷ [];
  spelled = five a b c d e;
  some = omega arith;
  whole = refl;
}
cut_count (a ∷ b ∷ c ∷ d ∷ e ∷ k ∷ []) small lt = counted a b c d e k 0 (small 5) (omega arith)
  where
    counted : (a b c d e k h : ℕ) → k < 256 → h < 256 → IsCutRecord (a ∷ b ∷ c ∷ d ∷ e ∷ k ∷ [])
    counted a b c d e k h kl hl =
        let there = begins a b c d e k 0 0 (replicate k 0) (replicate k 0) [] [] kl (omega arith) (omega arith)
        (length-replicate {A = ℕ} k 0) refl (sym (append-nil (replicate k 0 ++ []) ∙ append-nil (replicate k 0))) in
        record {
          there = record_with (a ∷ b ∷ c ∷ d ∷ e ∷ []) (replicate k 0) [];
          more = 0 ∷ 0 ∷ replicate k 0;
          spelled = there.spelled;
          some = omega arith;
          whole = there.whole ∙ append-nil (record_bytes (record_with (a ∷ b ∷ c ∷ d ∷ e ∷ []) (replicate k 0) []));
        }
cut_count (a ∷ b ∷ c ∷ d ∷ e ∷ k ∷ h ∷ []) small lt = sized a b c d e k h (small 5) (small 6)
  where
    sized : (a b c d e k h : ℕ) → k < 256 → h < 256 → IsCutRecord (a ∷ b ∷ c ∷ d ∷ e ∷ k ∷ h ∷ [])
    sized a b c d e k h kl hl =
        let long : length {A = ℕ} (replicate (256 * h) 0) ≡ 256 * h + 0 = length-replicate {A = ℕ} (256 * h) 0
        ∙ omega arith in
        let there : BeginsRecord (a ∷ b ∷ c ∷ d ∷ e ∷ k ∷ h ∷ 0 ∷ (replicate k 0 ++ replicate (256 * h) 0))
        (record_with (a ∷ b ∷ c ∷ d ∷ e ∷ []) (replicate k 0) (replicate (256 * h) 0)) [] = begins a b c d e k h 0
        (replicate k 0 ++ replicate (256 * h) 0) (replicate k 0) (replicate (256 * h) 0) [] kl hl (omega arith)
        (length-replicate {A = ℕ} k 0) long (sym (append-nil (replicate k 0 ++ replicate (256 * h) 0))) in
        record {
          there = record_with (a ∷ b ∷ c ∷ d ∷ e ∷ []) (replicate k 0) (replicate (256 * h) 0);
          more = 0 ∷ (replicate k 0 ++ replicate (256 * h) 0);
          spelled = there.spelled;
          some = omega arith;
          whole = there.whole ∙ append-nil (record_bytes (record_with (a ∷ b ∷ c ∷ d ∷ e ∷ []) (replicate k 0)
              (replicate (256 * h) 0)));
        }
cut_count (a ∷ b ∷ c ∷ d ∷ e ∷ k ∷ h ∷ m ∷ t) small lt = absurd (omega arith)

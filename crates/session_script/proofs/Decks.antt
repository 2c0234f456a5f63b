-- A deck's lines, card by card, and a card, column by column.
use Rattle.std.proofs.Common.{◌≡◌, ℕ, zero, suc, ◌+◌, ◌-◌, ◌<◌, ◌≤◌, ◌⊎◌, inl, inr, min, List, [], ◌∷◌, ◌++◌, length}
use Rattle.std.proofs.Common.{map, take, set, get_or, replicate, ap, sym, ◌∙◌, subst, append_assoc, append-nil, arith}
use Rattle.std.proofs.lemmas.List.{length-map, length-take-le, take-append-le, take-replicate, take_more, get_or-map}
use Rattle.std.proofs.Math.Seq.{set-append_seam, take-append-add, take-length}
use Rattle.session_script.specs.Cards.{blank, card_of, punched}

-- the first lines, by the first of them
pub take_line : (n : ℕ) (line : List ℕ) (lines : List (List ℕ)) → 0 < n
    → take n (line ∷ lines) ≡ line ∷ take (n - 1) lines
take_line zero line lines h = absurd (omega arith)
take_line (suc n) line lines h =
    let same : n ≡ suc n - 1 = omega arith in
    ap (λ (m : ℕ). line ∷ take m lines) same

-- a card more
pub card_more : (cards all lines : List (List ℕ)) (n : ℕ) (line : List ℕ) → 0 < n
    → cards ++ map card_of (take n (line ∷ lines)) ≡ all → (cards ++ card_of line ∷ []) ++ map card_of
    (take (n - 1) lines) ≡ all
card_more cards all lines n line h so_far =
    let first : take n (line ∷ lines) ≡ line ∷ take (n - 1) lines = take_line n line lines h in
    append_assoc cards (card_of line ∷ []) (map card_of (take (n - 1) lines))
    ∙ (ap (λ (l : List (List ℕ)). cards ++ map card_of l) (sym first) ∙ so_far)

-- a column more
punch_one : (xs card : List ℕ) (b n i d : ℕ) → i < length xs → i < n → card ≡ take i xs ++ replicate (n - i) b
    → set card i (get_or xs i d) ≡ take (i + 1) xs ++ replicate (n - (i + 1)) b
punch_one xs card b n i d h k so_far =
    let rest = replicate (n - (i + 1)) b in
    let v = get_or xs i d in
    let left : n - i ≡ suc (n - (i + 1)) = omega arith in
    let blanks : replicate (n - i) b ≡ b ∷ rest = ap (λ (m : ℕ). replicate m b) left in
    let below : i ≤ length xs = omega arith in
    let card_is : card ≡ take i xs ++ b ∷ rest = so_far ∙ ap (λ (l : List ℕ). take i xs ++ l) blanks in
    let seam : set (take i xs ++ b ∷ rest) i v ≡ take i xs ++ v ∷ rest = subst
    (λ (m : ℕ). set (take i xs ++ b ∷ rest) m v ≡ take i xs ++ v ∷ rest) (length-take-le i xs below)
    (set-append_seam (take i xs) b rest v) in
    ap (λ (l : List ℕ). set l i v) card_is ∙ (seam ∙ (sym (append_assoc (take i xs) (v ∷ []) rest)
    ∙ ap (λ (l : List ℕ). l ++ rest) (sym (take_more xs i d h))))

-- One more column of a card is punched with the next byte of the line.
pub punch_more : (line card : List ℕ) (n i d v : ℕ) → i < length line → i < n
    → card ≡ take i (map punched line) ++ replicate (n - i) blank → v ≡ punched (get_or line i d)
    → set card i v ≡ take (i + 1) (map punched line) ++ replicate (n - (i + 1)) blank
punch_more line card n i d v h k so_far is =
    let inside : i < length (map punched line) = rw length-map h in
    let same : v ≡ get_or (map punched line) i d = is ∙ sym (get_or-map punched line i d d h) in
    ap (λ (w : ℕ). set card i w) same ∙ punch_one (map punched line) card blank n i d inside k so_far

-- all columns
lesser : (a b i : ℕ) → i ≡ min a b → (i ≡ b) ⊎ (i ≡ a)
lesser a b i h = grind arith

-- A card that is filled has the line's bytes, and blanks after them.
pub filled : (xs : List ℕ) (b n i : ℕ) → i ≡ min (length xs) n
    → take i xs ++ replicate (n - i) b ≡ take n (xs ++ replicate n b)
filled xs b n i h = elim (lesser (length xs) n i h) [
  | inl k ↦
      let there : n ≤ length xs = omega arith in
      let none : n - i ≡ 0 = omega arith in
      let blanks : replicate (n - i) b ≡ [] = ap (λ (m : ℕ). replicate m b) none in
      ap (λ (l : List ℕ). take i xs ++ l) blanks ∙ (append-nil (take i xs)
      ∙ (ap (λ (m : ℕ). take m xs) k ∙ sym (take-append-le n xs (replicate n b) there)))
  | inr k ↦
      let sum : length xs + (n - i) ≡ n = omega arith in
      let few : n - i ≤ n = omega arith in
      let front : take i xs ≡ xs = ap (λ (m : ℕ). take m xs) k ∙ take-length xs in
      let whole : take n (xs ++ replicate n b) ≡ xs ++ replicate (n - i) b =
      subst (λ (m : ℕ). take m (xs ++ replicate n b) ≡ xs ++ replicate (n - i) b) sum
      (take-append-add xs (replicate n b) (n - i) ∙ ap (λ (l : List ℕ). xs ++ l) (take-replicate (n - i) n b few)) in
      ap (λ (l : List ℕ). l ++ replicate (n - i) b) front ∙ sym whole
]

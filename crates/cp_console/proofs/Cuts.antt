-- Lines that are one after the other in a text.
use Rattle.std.specs.Prelude.{ℕ, zero, suc, ◌+◌, ◌-◌, ◌≡◌, ◌≤◌, ◌<◌, refl, List, [], ◌∷◌, ◌++◌, length, take, drop}
use Rattle.std.specs.Prelude.{slice_range, slice_get, slice_index_or, Some, None}
use Rattle.std.proofs.Common.{sym, ◌∙◌, ap, arith}
use Rattle.std.proofs.Math.Seq.{drop-append_seam}
use Rattle.std.proofs.lemmas.List.{append-nil, drop-append-le, length-drop, take-append-le, take_all}
use Rattle.cp_console.specs.Output.{IsCut, lines_from}

-- There are as many lines as ends of lines.
pub lines_count : (start : ℕ) (text ends : List ℕ) → length (lines_from start text ends) ≡ length ends
lines_count start text [] = refl
lines_count start text (end ∷ ends) = ap suc (lines_count end text ends)

pub cut_whole : (start : ℕ) (ends : List ℕ) (size : ℕ) → IsCut start ends size → start ≤ size
cut_whole start [] size cut = omega (arith, cut)
cut_whole start (end ∷ ends) size cut = omega (arith, cut.0, cut_whole end ends size cut.1)

-- a line that is added goes on where the text ended
pub cut_added : (start : ℕ) (ends : List ℕ) (size end : ℕ) → size ≤ end → IsCut start ends size
    → IsCut start (ends ++ end ∷ []) end
cut_added start [] size end more cut = (omega (arith, cut), refl)
cut_added start (e ∷ ends) size end more cut = (cut.0, cut_added e ends size end more cut.1)

range_same : (text line : List ℕ) (start end : ℕ) → start ≤ end → end ≤ length text
    → slice_range (text ++ line) start end ≡ slice_range text start end
range_same text line start end up inside =
    ap (take (end - start)) (drop-append-le start text line (omega (arith, up, inside)))
    ∙ take-append-le (end - start) (drop start text) line (omega (arith, up, inside, length-drop start text))

range_added : (text line : List ℕ) (start end : ℕ) → start ≡ length text → end ≡ length text + length line
    → slice_range (text ++ line) start end ≡ line
range_added text line start end is ends =
    ap (λ n. take (end - n) (drop n (text ++ line))) is
    ∙ (ap (take (end - length text)) (drop-append_seam text line)
    ∙ (ap (λ n. take n line) (let many : end - length text ≡ length line = omega (arith, ends) in many) ∙ take_all
    (length line) line (omega arith)))

-- A line that is added is the last of the lines.
pub lines_added : (start : ℕ) (text ends line : List ℕ) (end : ℕ) → end ≡ length text + length line
    → IsCut start ends (length text)
    → lines_from start (text ++ line) (ends ++ end ∷ []) ≡ lines_from start text ends ++ line ∷ []
lines_added start text [] line end is cut = ap (λ l. l ∷ []) (range_added text line start end cut is)
lines_added start text (e ∷ ends) line end is cut =
    ap (λ l. l ∷ lines_from e (text ++ line) (ends ++ end ∷ []))
    (range_same text line start e cut.0 (cut_whole e ends (length text) cut.1))
    ∙ ap (λ l. slice_range text start e ∷ l) (lines_added e text ends line end is cut.1)

-- a line begins where the one before it ends
pub line_at : (start : ℕ) (text ends : List ℕ) (i d : ℕ) → i < length ends
    → slice_get (lines_from start text ends) i
    ≡ Some (slice_range text (slice_index_or (start ∷ ends) i 0) (slice_index_or ends i d))
line_at start text [] i d inside = absurd (omega (arith, inside))
line_at start text (end ∷ ends) zero d inside = refl
line_at start text (end ∷ ends) (suc i) d inside = line_at end text ends i d (omega (arith, inside))

-- Past the last end there is no line.
pub no_line_at : (start : ℕ) (text ends : List ℕ) (i : ℕ) → length ends ≤ i
    → slice_get (lines_from start text ends) i ≡ None
no_line_at start text [] i past = refl
no_line_at start text (end ∷ ends) zero past = absurd (omega (arith, past))
no_line_at start text (end ∷ ends) (suc i) past = no_line_at end text ends i (omega (arith, past))

-- Each line lies between its end and the one before it.
pub cut_at : (start : ℕ) (ends : List ℕ) (size i d : ℕ) → i < length ends → IsCut start ends size
    → (slice_index_or (start ∷ ends) i 0 ≤ slice_index_or ends i d) × (slice_index_or ends i d ≤ size)
cut_at start [] size i d inside cut = absurd (omega (arith, inside))
cut_at start (end ∷ ends) size zero d inside cut = (cut.0, cut_whole end ends size cut.1)
cut_at start (end ∷ ends) size (suc i) d inside cut = cut_at end ends size i d (omega (arith, inside)) cut.1

-- Lines that are ended one after another.
use Rattle.std.proofs.Common.{◌≡◌, ◌≢◌, ℕ, suc, false, eqb, arith, All, List, [], ◌∷◌, ◌++◌, refl, ap, sym, ◌∙◌}
use Rattle.std.proofs.Common.{append_assoc}
use Rattle.std.specs.List.{onto_first}
use Rattle.std.proofs.lemmas.Bool.Decides.{nat_tests}
use Rattle.text_words.specs.Lines.{lines_of}
use Rattle.sessions.specs.Transcript.{CutsBack, HasNoEnd, ended}

-- Lines that are ended are ended together.
pub ended_append : (xs ys : List (List ℕ)) → ended (xs ++ ys) ≡ ended xs ++ ended ys
ended_append [] ys = refl
ended_append (x ∷ xs) ys =
    ap (λ (l : List ℕ). x ++ 10 ∷ l) (ended_append xs ys) ∙ sym (append_assoc x (10 ∷ ended xs) (ended ys))

-- lines of four kinds, one after another
pub four_ended : (ps qs rs ts : List (List ℕ)) (none one two three four : List ℕ) → none ≡ [] → one ≡ none ++ ended ps
    → two ≡ one ++ ended qs → three ≡ two ++ ended rs → four ≡ three ++ ended ts → four ≡ ended (ps ++ qs ++ rs ++ ts)
four_ended ps qs rs ts none one two three four n a b c d =
    let first : one ≡ ended ps = a ∙ ap (λ (t : List ℕ). t ++ ended ps) n in
    let second : two ≡ ended (ps ++ qs) = b ∙ (ap (λ (t : List ℕ). t ++ ended qs) first ∙ sym (ended_append ps qs)) in
    let third : three ≡ ended ((ps ++ qs) ++ rs) =
    c ∙ (ap (λ (t : List ℕ). t ++ ended rs) second ∙ sym (ended_append (ps ++ qs) rs)) in
    let fourth : four ≡ ended (((ps ++ qs) ++ rs) ++ ts) =
    d ∙ (ap (λ (t : List ℕ). t ++ ended ts) third ∙ sym (ended_append ((ps ++ qs) ++ rs) ts)) in
    fourth

is_no_end : (c : ℕ) → c ≢ 10 → eqb c 10 ≡ false
is_no_end c h = grind (arith, nat_tests)

first_of : {X : Type 0} (P : X → Type 0) (x : X) (xs : List X) → All P (x ∷ xs) → P x
first_of P x xs h = h 0 x (omega arith)

others_of : {X : Type 0} (P : X → Type 0) (x : X) (xs : List X) → All P (x ∷ xs) → All P xs
others_of P x xs h = λ k d less. h (suc k) d (omega (arith, less))

line_back : (line rest : List ℕ) → HasNoEnd line → lines_of (line ++ 10 ∷ rest) ≡ line ∷ lines_of rest
line_back [] rest h = refl
line_back (c ∷ cs) rest h =
    rw (is_no_end c (first_of (λ c. c ≢ 10) c cs h))
    (ap (onto_first c) (line_back cs rest (others_of (λ c. c ≢ 10) c cs h)))

-- The text of lines is cut into the same lines.
pub cuts_back : CutsBack
cuts_back [] h = refl
cuts_back (line ∷ lines) h =
    line_back line (ended lines) (first_of HasNoEnd line lines h) ∙ ap (λ (ls : List (List ℕ)). line ∷ ls)
    (cuts_back lines (others_of HasNoEnd line lines h))

-- A line by its first word, where any number of blanks separates words.
use Rattle.std.proofs.Common.{◌≡◌, ℕ, Bool, true, false, cond, not, eqb, List, [], ◌∷◌, length, Option, Some, None}
use Rattle.std.proofs.Common.{refl, sym, ap, ◌∙◌, arith}
use Rattle.std.specs.List.{filter, onto_first, slice_split}
use Rattle.std.specs.Option.{unwrap_or}
use Rattle.std.proofs.lemmas.Bool.Decides.{nat_tests}
use Rattle.text_words.specs.Words.{after_word, unindented, word_of, words_of}

unindented_on : (c : ℕ) (cs : List ℕ) (b : Bool) → eqb c 32 ≡ b → words_of cs ≡ words_of (unindented cs)
    → words_of (c ∷ cs) ≡ words_of (cond b (unindented cs) (c ∷ cs))
unindented_on c cs true e h = rw e h
unindented_on c cs false e h = refl

-- the blanks before the first word part nothing
words_unindented : (line : List ℕ) → words_of line ≡ words_of (unindented line)
words_unindented [] = refl
words_unindented (c ∷ cs) = unindented_on c cs (eqb c 32) refl (words_unindented cs)

first_on : (c d : ℕ) (cs ds : List ℕ) (b : Bool) → eqb c 32 ≡ b → (unindented cs ≡ d ∷ ds → eqb d 32 ≡ false)
    → cond b (unindented cs) (c ∷ cs) ≡ d ∷ ds → eqb d 32 ≡ false
first_on c d cs ds true e hyp h = hyp h
first_on c d cs ds false e hyp h = let same : c ≡ d = cc in rw (← same) e

first_is_no_blank : (line : List ℕ) (d : ℕ) (ds : List ℕ) → unindented line ≡ d ∷ ds → eqb d 32 ≡ false
first_is_no_blank [] d ds h = cc
first_is_no_blank (c ∷ cs) d ds h = first_on c d cs ds (eqb c 32) refl (first_is_no_blank cs d ds) h

-- what blanks separate in what follows a word
abbrev parts_after : Option (List ℕ) → List (List ℕ)
parts_after None = []
parts_after (Some rest) = slice_split (λ c. eqb c 32) rest

split_on : (c : ℕ) (cs : List ℕ) (b : Bool) → eqb c 32 ≡ b → slice_split (λ c. eqb c 32) cs ≡ word_of cs ∷ parts_after
    (after_word cs)
    → slice_split (λ c. eqb c 32) (c ∷ cs) ≡ cond b [] (c ∷ word_of cs) ∷ parts_after (cond b (Some cs) (after_word cs))
split_on c cs true e h = rw e refl
split_on c cs false e h = rw e (ap (onto_first c) h)

split_word : (line : List ℕ) → slice_split (λ c. eqb c 32) line ≡ word_of line ∷ parts_after (after_word line)
split_word [] = refl
split_word (c ∷ cs) = split_on c cs (eqb c 32) refl (split_word cs)

words_after : (o : Option (List ℕ)) → filter (λ word. not (eqb (length word) 0)) (parts_after o) ≡ words_of
    (unwrap_or o [])
words_after None = refl
words_after (Some rest) = refl

some : (c : ℕ) (cs : List ℕ) → eqb (length (c ∷ cs)) 0 ≡ false
some c cs = grind (arith, nat_tests)

-- a word that has a character is kept
kept : (c : ℕ) (cs : List ℕ) (words : List (List ℕ)) → filter (λ word. not (eqb (length word) 0)) ((c ∷ cs) ∷ words) ≡
    (c ∷ cs) ∷ filter (λ word. not (eqb (length word) 0)) words
kept c cs words = rw (some c cs) refl

words_cut : (c : ℕ) (cs : List ℕ) → eqb c 32 ≡ false → words_of (c ∷ cs) ≡ word_of (c ∷ cs) ∷ words_of
    (unwrap_or (after_word (c ∷ cs)) [])
words_cut c cs other =
    ap (filter (λ word. not (eqb (length word) 0))) (split_word (c ∷ cs))
    ∙ (rw other (kept c (word_of cs) (parts_after (after_word cs))
    ∙ ap (λ (l : List (List ℕ)). (c ∷ word_of cs) ∷ l) (words_after (after_word cs))))

-- the first word ends at the first blank after it
pub first_word : (line start word rest : List ℕ) → start ≡ unindented line → eqb (length start) 0 ≡ false
    → word ≡ word_of start → unwrap_or (after_word start) [] ≡ rest
    → words_of line ≡ word ∷ words_of rest
first_word line [] word rest e has w r = cc
first_word line (c ∷ cs) word rest e has w r = words_unindented line ∙ ap words_of (sym e)
    ∙ (rw (w, ← r) (words_cut c cs (first_is_no_blank line c cs (sym e))))

-- a line of blanks has no word
pub no_word : (line start : List ℕ) → start ≡ unindented line → eqb (length start) 0 ≡ true → words_of line ≡ []
no_word line [] e none = words_unindented line ∙ ap words_of (sym e)
no_word line (c ∷ cs) e none = let both : true ≡ false = sym none ∙ some c cs in cc

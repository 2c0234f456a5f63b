-- A line by its first word and what follows, both ways.
use Rattle.std.proofs.Common.{◌≡◌, ℕ, ◌⊎◌, inl, inr, Bool, true, false, cond, eqb, List, [], ◌∷◌, ◌++◌, Some, None}
use Rattle.std.proofs.Common.{refl, ap, arith}
use Rattle.std.proofs.lemmas.Bool.Decides.{nat_tests}
use Rattle.text_words.specs.Words.{NoBlank, word_of, after_word}

-- which of two was chosen
pub chosen : {A : Type 0} (b : Bool) (x y z : A) → cond b x y ≡ z → ((b ≡ true) × (x ≡ z)) ⊎ ((b ≡ false) × (y ≡ z))
chosen true x y z h = inl (refl, h)
chosen false x y z h = inr (refl, h)

whole_on : (c : ℕ) (b : Bool) (w : List ℕ) → eqb c 32 ≡ b → NoBlank w → NoBlank (cond b [] (c ∷ w))
whole_on c true w e h = tt
whole_on c false w e h = (e, h)

-- The first word of a line has no blank.
pub word_whole : (line : List ℕ) → NoBlank (word_of line)
word_whole [] = tt
word_whole (c ∷ cs) = whole_on c (eqb c 32) (word_of cs) refl (word_whole cs)

blank_is : (c : ℕ) → eqb c 32 ≡ true → c ≡ 32
blank_is c h = grind (arith, nat_tests)

parts_on : (c : ℕ) (cs rest w : List ℕ) (b : Bool) → eqb c 32 ≡ b → (after_word cs ≡ Some rest → cs ≡ w ++ 32 ∷ rest)
    → cond b (Some cs) (after_word cs) ≡ Some rest → c ∷ cs ≡ cond b [] (c ∷ w) ++ 32 ∷ rest
parts_on c cs rest w true e hyp h = let here = blank_is c e in let same : cs ≡ rest = cc in rw (here, same) refl
parts_on c cs rest w false e hyp h = ap (λ (l : List ℕ). c ∷ l) (hyp h)

-- a line with a blank is its first word, the blank and what follows
pub parts : (line rest : List ℕ) → after_word line ≡ Some rest → line ≡ word_of line ++ 32 ∷ rest
parts [] rest h = cc
parts (c ∷ cs) rest h = parts_on c cs rest (word_of cs) (eqb c 32) refl (parts cs rest) h

alone_on : (c : ℕ) (cs w : List ℕ) (b : Bool) → (after_word cs ≡ None → w ≡ cs)
    → cond b (Some cs) (after_word cs) ≡ None → cond b [] (c ∷ w) ≡ c ∷ cs
alone_on c cs w true hyp h = cc
alone_on c cs w false hyp h = ap (λ (l : List ℕ). c ∷ l) (hyp h)

-- a line with no blank is its first word
pub alone : (line : List ℕ) → after_word line ≡ None → word_of line ≡ line
alone [] h = refl
alone (c ∷ cs) h = alone_on c cs (word_of cs) (eqb c 32) (alone cs) h

-- A word with a blank after it is read back as the first word.
pub word_again : (word rest : List ℕ) → NoBlank word → word_of (word ++ 32 ∷ rest) ≡ word
word_again [] rest h = refl
word_again (c ∷ cs) rest h = rw h.0 (ap (λ (l : List ℕ). c ∷ l) (word_again cs rest h.1))

-- What follows a word and a blank is read back.
pub after_again : (word rest : List ℕ) → NoBlank word → after_word (word ++ 32 ∷ rest) ≡ Some rest
after_again [] rest h = refl
after_again (c ∷ cs) rest h = rw h.0 (after_again cs rest h.1)

-- A word alone is read back as itself.
pub word_again_alone : (word : List ℕ) → NoBlank word → word_of word ≡ word
word_again_alone [] h = refl
word_again_alone (c ∷ cs) h = rw h.0 (ap (λ (l : List ℕ). c ∷ l) (word_again_alone cs h.1))

-- Nothing follows a word alone.
pub after_again_alone : (word : List ℕ) → NoBlank word → after_word word ≡ None
after_again_alone [] h = refl
after_again_alone (c ∷ cs) h = rw h.0 (after_again_alone cs h.1)

-- A program over real addresses never needs a page that is not present.
use Rattle.std.specs.Prelude.{ℕ, ◌/◌, ◌≡◌, Bool, true, [], Option, Some}
use Rattle.s370_walk.specs.Walk.{Written}
use Rattle.s370_walk.specs.Mapped.{Program, real_place}

-- a program over real addresses fetches no words from storage: they are in its own table
abbrev pub real_written : (ℕ → Option ℕ) → Program → Written
real_written real c =
    record {
      text = λ _ a. c.words a;
      block = λ _ p number. real_place real (c.lists p.at number);
      word_asks = λ a. [];
      block_asks = λ p number. [];
    }

-- the frame of each real address is present
abbrev pub ArePresent : (ℕ → Option ℕ) → (ℕ → Bool) → Type 0
ArePresent real present = (a r : ℕ) → real a ≡ Some r → present (r / 4096) ≡ true

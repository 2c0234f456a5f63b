-- A PSW that is stored and loaded again is the PSW.
use Rattle.std.proofs.Common.{ℕ, ◌^◌, ◌<◌, ◌≤◌, Bool, true, false, ◌∙◌, ap, arith, rules}
use Rattle.std.proofs.lemmas.Nat.{from_be_bytes-to_be_bytes_8}
use Rattle.s370_psw.specs.Fields.{Fields, bit, fields_of, word_of}
use Rattle.s370_psw.specs.Laws.{IsInRange, ReadsBack, LoadsBack}

bit_le : (b : Bool) → bit b ≤ 1
bit_le true = omega arith
bit_le false = omega arith

word_fits : (f : Fields) (code length_code : ℕ) → IsInRange f → code < 2 ^ 16 → length_code < 2 ^ 2
    → word_of f code length_code < 2 ^ 64
word_fits f code length_code range c l =
    omega (arith, bit_le f.extended, bit_le f.machine_check, bit_le f.wait, bit_le f.problem)

reads_back : ReadsBack
reads_back f code length_code range c l = search rules

-- A PSW that is stored and loaded again is the same.
pub loads_back : LoadsBack
loads_back f code length_code range c l =
    ap fields_of (from_be_bytes-to_be_bytes_8 (word_of f code length_code) (word_fits f code length_code range c l))
    ∙ reads_back f code length_code range c l

-- The six characters of a serial number are given back by its word (`impl Model for Volser` cites
-- it).
use Rattle.std.proofs.Common.{◌≡◌, ℕ, ◌-◌, ◌≤◌, true, List, length, take, replicate, refl, ap, ◌∙◌}
use Rattle.std.proofs.Common.{length-append, arith}
use Rattle.std.proofs.lemmas.List.{length-replicate, length-take}
use Rattle.std.proofs.lemmas.Bool.Decides.{nat_tests}
use Rattle.cp_directory.specs.Extents.{is_volser, padded}
use Rattle.cp_directory.specs.declared.extent.Volser.TheInside.{Inside}

is_short : (word : List ℕ) → is_volser word ≡ true → length word ≤ 6
is_short word h = grind (arith, nat_tests)

counted : (bytes : List ℕ) (len : ℕ) → len ≤ 6 → is_volser (take len bytes) ≡ true
    → bytes ≡ padded (take len bytes) → length (take len bytes) ≡ len
counted bytes len short lawful whole =
    let word = take len bytes in
    let few = is_short (take len bytes) lawful in
    let six : length bytes ≡ 6 =
    ap length whole ∙ length-append word (replicate (6 - length word) 32) ∙ omega
    (arith, length-replicate {A = ℕ} (6 - length word) 32, few) in
    omega (arith, length-take len bytes, six)

-- a serial number is made again from its text
pub given_back : (v : Inside)
    → (v.len ≤ 6) × (is_volser (take v.len v.bytes) ≡ true)
    × (v.bytes ≡ padded (take v.len v.bytes))
    → (let w : Inside = record {
      bytes = padded (take v.len v.bytes);
      len = length (take v.len v.bytes);
    } in w ≡ v)
given_back v h = rw (← h.2, counted v.bytes v.len h.0 h.1 h.2) refl

-- The left half of a PSW is its fields, packed.
use Rattle.std.proofs.Common.{◌≡◌, ℕ, ◌+◌, ◌*◌, ◌/◌, ◌%◌, ◌^◌, ◌==◌, sym, ap, ◌∙◌, rules}
use Rattle.s370_psw.specs.Fields.{Fields, bit, left_of}
use Rattle.s370_psw.specs.contracts.psw.Psw.{the_view}
use Rattle.s370_psw.specs.declared.psw.Psw.TheInside.{Inside}

packs_back : (n : ℕ)
    → n / 2 ^ 8 * 2 ^ 8 + n / 2 ^ 4 % 2 ^ 4 * 2 ^ 4 + bit (n / 2 ^ 3 % 2 == 1) * 2 ^ 3
    + bit (n / 2 ^ 2 % 2 == 1) * 2 ^ 2 + bit (n / 2 % 2 == 1) * 2 + bit (n % 2 == 1) ≡ n
packs_back n = search rules

-- what is kept is what the fields say
pub left_is : (p : Inside) (f : Fields) → the_view p ≡ f → p.left ≡ left_of f
left_is p f is = sym (packs_back p.left) ∙ ap left_of is

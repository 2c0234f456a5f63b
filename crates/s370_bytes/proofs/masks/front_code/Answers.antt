use Rattle.std.proofs.Common.{arith, ◌≡◌, ◌<◌, ◌≤◌, zero, suc, ℕ, List, take, get_or, refl, ⊎_elim}
use Rattle.std.proofs.lemmas.List.{get_or-take}
use Rattle.std.proofs.lemmas.Bool.{cases_lt}
use Rattle.std.proofs.lemmas.Bool.Decides.{nat_tests}
use Rattle.s370_bytes.specs.Strings.{number}
use Rattle.s370_bytes.proofs.masks.front_code.Goals as goal

-- none of no bytes is other than zero
none_some : (count : ℕ) (xs : List ℕ) → count ≤ 0 → number (take count xs) ≡ 0
none_some zero xs h = refl
none_some (suc n) xs h = absurd (omega arith)

pub returns : goal.returns
returns c =
    ⊎_elim
    (λ (some : 0 < c.args.count).
    (let e : get_or (take c.args.count c.args.bytes) 0 0 ≡ get_or c.args.bytes 0 0 =
    get_or-take c.args.count c.args.bytes 0 0 some in
    grind (arith, nat_tests)))
    (λ (none : c.args.count ≤ 0).
    (let e : number (take c.args.count c.args.bytes) ≡ 0 = none_some c.args.count c.args.bytes none in
    grind (arith, nat_tests)))
    (cases_lt 0 c.args.count)

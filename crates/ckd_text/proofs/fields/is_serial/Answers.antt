use Rattle.std.proofs.Common.{◌≡◌, ℕ, List, ◌∙◌, refl, rules, tests, arith, eqb, leb, length, false, true, ◌≤◌}
use Rattle.std.specs.List.{list_all}
use Rattle.std.proofs.lemmas.Bool.Decides.{nat_tests}
use Rattle.std.proofs.lemmas.Iterator.{YieldsList-from_slice}
use Rattle.std.proofs.lemmas.Iterator.Search.{all_from_yields_List}
use Rattle.ckd_text.specs.Fields.{is_letter_or_digit, is_serial}
use Rattle.ckd_text.proofs.fields.is_serial.Goals as goal

by_letters : (word : List ℕ) → false ≡ eqb (length word) 0 → length word ≤ 6
    → list_all is_letter_or_digit word ≡ is_serial word
by_letters word e h =
    let least : leb 1 (length word) ≡ true = grind (arith, nat_tests) in
    let most : leb (length word) 6 ≡ true = grind (arith, nat_tests) in
    rw (least, most) refl

pub returns : goal.returns
returns c =
    let letters = all_from_yields_List is_letter_or_digit _ _ c.all.result c.all.ensures.ran
    (YieldsList-from_slice c.args.word.now cc) (λ x b q k. search (rules, tests)) in
    letters ∙ by_letters c.args.word.now c.if-is_empty.ensures c.if-word-gt6.false

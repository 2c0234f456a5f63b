use Rattle.std.proofs.Common.{◌≡◌, ℕ, ◌+◌, ◌<◌, ◌≤◌, true, List, [], ◌∷◌, ◌++◌, length, get_or, take, ap, sym, ◌∙◌}
use Rattle.std.proofs.Common.{arith}
use Rattle.std.proofs.Math.ListN.{set, length-set}
use Rattle.std.proofs.lemmas.List.{take_more, take_more_set}
use Rattle.std.proofs.lemmas.Bool.Decides.{nat_tests}
use Rattle.cp_directory.specs.Names.{is_name}
use Rattle.cp_directory.proofs.name.UserName.new.Goals as goal

-- one character more is copied
copied : (bytes word : List ℕ) (i : ℕ) → i < length bytes → i < length word → take i bytes ≡ take i word
    → take (i + 1) (set bytes i (get_or word i 0)) ≡ take (i + 1) word
copied bytes word i b w h = take_more_set bytes i (get_or word i 0) b ∙ ap (λ (l : List ℕ). l ++ get_or word i 0 ∷ []) h
    ∙ sym (take_more word i 0 w)

is_short : (word : List ℕ) → is_name word ≡ true → length word ≤ 8
is_short word h = grind (arith, nat_tests)

pub loop-i-preserved : goal.loop-i-preserved
loop-i-preserved c =
    let short : length c.args.word.now ≤ 8 = is_short c.args.word.now (sym c.is_name.ensures
    ∙ c.if-not-is_name.false) in
    record {
      whole = omega (arith, length-set {A = ℕ});
      copied = copied c.loop-i.bytes c.args.word.now c.loop-i.i (omega arith) (omega arith) c.loop-i.invariant.copied;
    }

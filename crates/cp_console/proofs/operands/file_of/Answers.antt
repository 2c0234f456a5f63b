use Rattle.std.proofs.Common.{◌≡◌, ◌∙◌, ◌+◌, None, ap, drop, get_or, sym}
use Rattle.std.proofs.lemmas.List.{drop_more}
use Rattle.std.specs.Option.{option_and_then}
use Rattle.text_words.specs.Numbers.{number_from}
use Rattle.cp_console.specs.Operands.{file_of, in_64_bits}
use Rattle.cp_console.proofs.FileNumbers.{refused}
use Rattle.cp_console.proofs.operands.file_of.Goals as goal

pub returns-in_err-number : goal.returns-in_err-number
returns-in_err-number c =
    let number = c.loop-digit.number in
    let digit = get_or c.args.word.now c.loop-digit.digit-index 0 in
    let rest = drop (c.loop-digit.digit-index + 1) c.args.word.now in
    let cut = drop_more c.args.word.now c.loop-digit.digit-index 0 c.loop-digit-test.true in
    let none : file_of c.args.word.now ≡ None =
    c.loop-digit.invariant.so_far ∙ ap (λ digits. option_and_then in_64_bits (number_from number digits)) cut ∙ refused
    number digit rest (sym c.in_err-number.ensures) in
    c.from_residual.ensures ∙ sym none

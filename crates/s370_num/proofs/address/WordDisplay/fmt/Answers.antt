-- Each of the four holes writes two digits.
use Rattle.std.proofs.Common.{◌≡◌, ◌/◌, ◌%◌, ◌^◌, ◌<◌, refl, rules, arith}
use Rattle.std.specs.Fmt.{styled_digits_output}
use Rattle.s370_num.proofs.Text.{word_shown}
use Rattle.s370_num.proofs.address.WordDisplay.fmt.Goals as goal

pub returns-clause-writes : goal.returns-clause-writes
returns-clause-writes g c =
    let n = c.self.inside.bits in
    let small : n < 2 ^ 32 = search rules in
    let highest : n / 16777216 % 256 ≡ n / 16777216 = omega arith in
    let first = styled_digits_output c.in_radix.result c.laid_out.result in
    let second = styled_digits_output c.in_radix-2.result c.laid_out-2.result in
    let third = styled_digits_output c.in_radix-3.result c.laid_out-3.result in
    let fourth = styled_digits_output c.in_radix-4.result c.laid_out-4.result in
    let bytes = c.to_be_bytes.ensures in
    rw (
      word_shown first second third fourth n small (rw (c.laid_out.ensures, c.in_radix.ensures, bytes, highest) refl)
          (rw (c.laid_out-2.ensures, c.in_radix-2.ensures, bytes) refl)
          (rw (c.laid_out-3.ensures, c.in_radix-3.ensures, bytes) refl)
          (rw (c.laid_out-4.ensures, c.in_radix-4.ensures, bytes) refl),
      c.self.view_is,
    ) at c.write.ensures.writes

-- The first hole writes the channel with no padding, the second one the unit as two digits.
use Rattle.std.proofs.Common.{◌≡◌, ◌/◌, ◌%◌, ◌^◌, ◌<◌, refl, rules, arith}
use Rattle.std.specs.Fmt.{digits_output, styled_digits_output}
use Rattle.s370_num.proofs.Text.{device_shown}
use Rattle.s370_num.proofs.address.DevAddrDisplay.fmt.Goals as goal

pub returns-clause-writes : goal.returns-clause-writes
returns-clause-writes g c =
    let n = c.self.inside.value in
    let small : n < 2 ^ 16 = search rules in
    let high : n / 256 % 256 ≡ n / 256 = omega arith in
    let channel = digits_output c.in_radix.result in
    let unit = styled_digits_output c.in_radix-2.result c.laid_out.result in
    rw (
      device_shown channel unit n small (rw (c.in_radix.ensures, c.to_be_bytes.ensures, high) refl)
          (rw (c.laid_out.ensures, c.in_radix-2.ensures, c.to_be_bytes.ensures) refl),
      c.self.view_is,
    ) at c.write.ensures.writes

use Rattle.std.proofs.Common.{◌<◌, true, arith}
use Rattle.std.proofs.lemmas.Fmt.{hex_byte}
use Rattle.sessions.proofs.files.code_text.Goals as goal

pub returns : goal.returns
returns c =
    let small : c.args.code < 256 = omega arith in
    rw (c.laid_out.ensures, c.in_radix.ensures, hex_byte true c.args.code small) at c.format.ensures.ok

-- byteorder sums the eight bytes from the left, and `from_be_bytes` gives the same sum.
use Rattle.std.proofs.Common.{◌∙◌, ap, arith}
use Rattle.s370_psw.specs.Fields.{fields_of}
use Rattle.s370_psw.proofs.psw.Psw.from_bytes.Goals as goal

pub returns : goal.returns
returns c = c.from_word.ensures ∙ ap fields_of (omega arith)

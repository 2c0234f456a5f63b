use Rattle.std.proofs.Common.{refl, arith}
use Rattle.std.specs.Prelude.{unwrap_or}
use Rattle.s370_num.specs.declared.ebcdic.TheConstants.{BYTES}
use Rattle.s370_num.specs.Ebcdic.{alphabet, byte_of}
use Rattle.s370_num.proofs.TableLemmas.{from_table}
use Rattle.s370_num.proofs.ebcdic.byte_or_none.Goals as goal

pub returns : goal.returns
unfolding alphabet
returns c = from_table BYTES (λ character. unwrap_or (byte_of character) 0) refl c.args.character (omega arith)

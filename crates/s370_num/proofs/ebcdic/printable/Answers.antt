use Rattle.std.proofs.Common.{refl, arith, ap, ◌∙◌}
use Rattle.s370_num.specs.declared.ebcdic.TheConstants.{PRINTABLE}
use Rattle.s370_num.specs.Ebcdic.{alphabet, byte_of, printable_of}
use Rattle.s370_num.proofs.TableLemmas.{from_table}
use Rattle.s370_num.proofs.EbcdicLemmas.{byte_of-printable_of}
use Rattle.s370_num.proofs.ebcdic.printable.Goals as goal

pub returns-clause-character : goal.returns-clause-character
unfolding alphabet
returns-clause-character c = from_table PRINTABLE printable_of refl c.args.byte (omega arith)

pub returns-clause-back : goal.returns-clause-back
returns-clause-back c there = ap byte_of (returns-clause-character c) ∙ byte_of-printable_of c.args.byte there

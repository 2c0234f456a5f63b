use Rattle.std.proofs.Common.{◌∙◌, sym}
use Rattle.s370_num.specs.Ebcdic.{byte_of}
use Rattle.s370_num.proofs.EbcdicLemmas.{byte_of-not_zero, byte_of_zero, byte_of_other, printable_of-byte_of}
use Rattle.s370_num.proofs.ebcdic.ebcdic_of.Goals as goal

pub returns-then-byte-eq-NO_BYTE-clause-byte : goal.returns-then-byte-eq-NO_BYTE-clause-byte
returns-then-byte-eq-NO_BYTE-clause-byte c =
    byte_of_zero (byte_of c.args.character) (byte_of-not_zero c.args.character) (sym c.byte_or_none-byte.ensures
    ∙ c.if-byte-eq-NO_BYTE.true)

pub returns-else-byte-eq-NO_BYTE-clause-back : goal.returns-else-byte-eq-NO_BYTE-clause-back
returns-else-byte-eq-NO_BYTE-clause-back c =
    printable_of-byte_of c.args.character _ (sym (byte_of_other
    (byte_of c.args.character) _ c.byte_or_none-byte.ensures c.if-byte-eq-NO_BYTE.false))

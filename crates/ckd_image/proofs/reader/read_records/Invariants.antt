use Rattle.ckd_image.specs.Parts.{ReadRecords}
use Rattle.ckd_image.proofs.reader.read_records.Given as goal

abbrev pub invariant-loop : goal.invariant-loop
invariant-loop l = ReadRecords l.fn.track l.track l.counter l.bytes l.fits l.rest

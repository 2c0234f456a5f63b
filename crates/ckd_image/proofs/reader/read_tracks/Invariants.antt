use Rattle.ckd_image.specs.Parts.{ReadTracks}
use Rattle.ckd_image.proofs.reader.read_tracks.Given as goal

abbrev pub invariant-loop-number : goal.invariant-loop-number
invariant-loop-number l = ReadTracks l.fn.volume l.volume l.number l.bytes l.rest

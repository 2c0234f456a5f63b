use Rattle.std.proofs.Common.{◌≡◌, ◌∷◌, ◌++◌, [], ◌∙◌, Some, sym, length, length-append, arith, ap}
use Rattle.std.specs.Option.{option_map}
use Rattle.cp_console.specs.Operands.{byte_of, bytes_spelled}
use Rattle.cp_console.proofs.Spellings.{spelled_more}
use Rattle.cp_console.proofs.operands.bytes_spelled.Goals as goal

pub pairs-preserved : goal.pairs-preserved
pairs-preserved c =
    let cut : c.pairs.rest.now ≡ c.in-Some.left ∷ c.in-Some.right ∷ c.in-Some.after.now = c.in-Some.ensures.found in
    let read : byte_of c.in-Some.left c.in-Some.right ≡ Some c.in_ok-byte_of.field-0 = sym c.in_ok-byte_of.ensures in
    let whole : bytes_spelled c.args.word.now
    ≡ option_map (λ more. (c.pairs.bytes ++ c.in_ok-byte_of.field-0 ∷ []) ++ more)
    (bytes_spelled c.in-Some.after.now) =
    c.pairs.invariant.so_far ∙ spelled_more c.pairs.bytes c.in-Some.left c.in-Some.right c.in_ok-byte_of.field-0
    c.pairs.rest.now c.in-Some.after.now cut read in
    record {
      so_far = rw c.with-bytes.ensures whole;
      room = rw c.with-bytes.ensures (simp length-append (omega (arith, c.pairs.invariant.room, ap length cut)));
    }

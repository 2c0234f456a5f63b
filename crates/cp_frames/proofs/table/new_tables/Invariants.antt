use Rattle.std.proofs.Common.{◌≡◌, ◌*◌, ◌/◌, ◌%◌, ◌<◌, ℕ, length}
use Rattle.std.specs.Prelude.{slice_index}
use Rattle.cp_frames.specs.Tables.{half_at, first_half}
use Rattle.cp_frames.proofs.table.new_tables.Given as goal

abbrev pub invariant-loop-half : goal.invariant-loop-half
invariant-loop-half l = record {
  size : length l.tables.items ≡ 2304 * length l.sizes;
  halves : (half : ℕ) → half < l.half
      → half_at l.tables.items (half * 2) ≡ first_half (half / 1152) (slice_index l.sizes (half / 1152)) (half % 1152);
}

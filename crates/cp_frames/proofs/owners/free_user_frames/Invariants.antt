use Rattle.std.proofs.Common.{◌≡◌}
use Rattle.cp_frames.specs.Layout.{frame_entry, IsMapped, IsTabled}
use Rattle.cp_frames.proofs.Leaves.{left_by}
use Rattle.cp_frames.proofs.owners.free_user_frames.Given as goal

abbrev pub invariant-loop-page : goal.invariant-loop-page
invariant-loop-page l = record {
  owners : l.owners.items ≡ left_by l.user l.page l.initial.owners.items;
  mapped : IsMapped l.owners.items l.sizes l.tables.items;
  looked : IsTabled frame_entry l.owners.items l.sizes l.lookup.items;
}

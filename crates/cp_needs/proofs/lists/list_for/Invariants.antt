use Rattle.std.proofs.Common.{◌≡◌, ℕ, ◌+◌, ◌-◌, ◌<◌, ◌≤◌, length, vec_len, slice_index_or, None, Some, true}
use Rattle.std.specs.Prelude.{is_some}
use Rattle.s370_channel.specs.Guest.{area_block}
use Rattle.cp_needs.specs.Table.{IsPart, AllPresent}
use Rattle.cp_needs.proofs.lists.list_for.Given as goal

abbrev pub invariant-blocks-2 : goal.invariant-blocks-2
invariant-blocks-2 g l = record {
  part : IsPart l.list.items (area_block (g.S.Storage.memory l.storage) l.word);
  first : slice_index_or l.list.items 0 None ≡ Some l.start;
  begun : (i : ℕ) → i < length l.list.items → is_some (slice_index_or l.list.items i None) ≡ true;
  some : 0 < length l.list.items;
  short : length l.list.items ≤ l.last + 1;
  here : AllPresent (length (g.S.Storage.memory l.storage).bytes) (g.S.Storage.present l.storage) l.list.items;
}

abbrev pub decreases-blocks-2 : goal.decreases-blocks-2
decreases-blocks-2 g l = l.last + 1 - vec_len l.list

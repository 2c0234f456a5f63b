use Rattle.std.proofs.Common.{◌-◌, ◌≡◌, ◌≤◌, ◌<◌}
use Rattle.s370_channel.specs.Guest.{area_block}
use Rattle.cp_needs.specs.Areas.{IsBegun}
use Rattle.cp_needs.specs.Noted.{AreMarked, ArePaged, AreStored}
use Rattle.cp_needs.proofs.Noting.{IsFilledBelow, IsListBelow}
use Rattle.cp_needs.proofs.Paging.{IsAreaBelow}
use Rattle.cp_needs.proofs.notes.note_area.Given as goal

abbrev pub invariant-blocks-2 : goal.invariant-blocks-2
invariant-blocks-2 g l = record {
  counted : l.count ≡ l.word.count;
  within : l.byte ≤ l.count;
  begun : l.byte < l.count → IsBegun (area_block (g.S.Storage.memory l.storage) l.word) l.byte;
  marked : AreMarked (IsListBelow (g.S.Storage.memory l.storage) l.word l.byte) l.initial.notes.text.items
      l.notes.text.items;
  stored : AreStored (IsFilledBelow (g.S.Storage.memory l.storage) l.word l.byte) l.initial.notes.filled.items
      l.notes.filled.items;
  paged : ArePaged (IsAreaBelow (g.S.Storage.memory l.storage) l.word l.byte) l.initial.notes.pages.items
      l.notes.pages.items;
}

abbrev pub decreases-blocks-2 : goal.decreases-blocks-2
decreases-blocks-2 g l = l.count - l.byte

use Rattle.std.proofs.Common.{◌-◌, ◌≡◌, ◌≤◌, ◌<◌}
use Rattle.s370_channel.specs.Guest.{area_block}
use Rattle.cp_needs.specs.Areas.{IsBegun}
use Rattle.cp_needs.proofs.Blocks.{IsDone}
use Rattle.cp_needs.proofs.areas.absent_in_area.Given as goal

abbrev pub invariant-blocks-2 : goal.invariant-blocks-2
invariant-blocks-2 g l = record {
  counted : l.count ≡ l.word.count;
  within : l.byte ≤ l.count;
  begun : l.byte < l.count → IsBegun (area_block (g.S.Storage.memory l.storage) l.word) l.byte;
  done : IsDone (g.S.Storage.memory l.storage) l.word (g.S.Storage.present l.storage) l.byte;
}

abbrev pub decreases-blocks-2 : goal.decreases-blocks-2
decreases-blocks-2 g l = l.count - l.byte

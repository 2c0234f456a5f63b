use Rattle.std.proofs.Common.{◌≡◌, ◌+◌, ◌-◌, ◌*◌, ◌/◌, ◌≤◌, length, vec_len, true}
use Rattle.std.specs.List.{All}
use Rattle.s370_channel.specs.Guest.{guest_text}
use Rattle.cp_needs.specs.Closure.{IsReachedPlace}
use Rattle.cp_needs.specs.Table.{AreRows, AreHeldRows, IsLinked}
use Rattle.cp_needs.specs.Marks.{IsIndexed, unmarked}
use Rattle.cp_needs.proofs.copying.copy.Given as goal

abbrev pub invariant-places : goal.invariant-places
invariant-places g l = record {
  rows : AreRows l.places.items l.nodes.items (g.S.Storage.memory l.storage);
  held : AreHeldRows l.nodes.items (length (g.S.Storage.memory l.storage).bytes) (g.S.Storage.present l.storage);
  reached : All (IsReachedPlace (g.S.Storage.memory l.storage) l.start) l.places.items;
  known : IsIndexed l.places.items l.index;
  few : vec_len l.places + unmarked l.index ≤ 2147483648;
  room : length l.index ≡ length (g.S.Storage.memory l.storage).bytes / 8 * 2;
  behind : vec_len l.nodes ≤ vec_len l.places;
  linked : IsLinked l.places.items (guest_text (g.S.Storage.memory l.storage)) true l.start l.first;
}

abbrev pub decreases-places : goal.decreases-places
decreases-places g l = 2147483649 - vec_len l.nodes

use Rattle.std.proofs.Common.{[]}
use Rattle.cp_needs.specs.Noted.{AreMarked, ArePaged, AreStored, IsDataOf, IsFilledBy, IsTextOf}
use Rattle.cp_needs.proofs.notes.notes_of.Given as goal

abbrev pub invariant-loop-address : goal.invariant-loop-address
invariant-loop-address g l = record {
  marked : AreMarked (IsTextOf (g.S.Storage.memory l.storage) l.words l.address-index) [] l.notes.text.items;
  stored : AreStored (IsFilledBy (g.S.Storage.memory l.storage) l.words l.address-index) [] l.notes.filled.items;
  paged : ArePaged (IsDataOf (g.S.Storage.memory l.storage) l.words l.address-index) [] l.notes.pages.items;
}

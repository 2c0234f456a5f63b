use Rattle.std.proofs.Common.{◌≡◌, ◌+◌, ◌*◌, ◌<◌, ◌≤◌, All, Contains, length, ℕ}
use Rattle.std.specs.Prelude.{slice_index}
use Rattle.cp_needs.specs.declared.kept.WordAt.{WordAt}
use Rattle.cp_needs.specs.Kept.{IsAsItStood, fullword_at}
use Rattle.cp_needs.proofs.kept.fullwords.Given as goal

abbrev pub invariant-loop-number : goal.invariant-loop-number
invariant-loop-number g l = record {
  all : (k : ℕ) → k < l.number-index → slice_index l.numbers k * 4 + 4 ≤ length (g.S.Storage.memory l.storage).bytes
      → Contains l.text.items (fullword_at (g.S.Storage.memory l.storage).bytes (slice_index l.numbers k * 4));
  only : (w : WordAt) → Contains l.text.items w
      → (k : ℕ) × (k < l.number-index)
      × (w ≡ fullword_at (g.S.Storage.memory l.storage).bytes (slice_index l.numbers k * 4));
  stands : All (IsAsItStood (g.S.Storage.memory l.storage).bytes (g.S.Storage.present l.storage)) l.text.items;
}

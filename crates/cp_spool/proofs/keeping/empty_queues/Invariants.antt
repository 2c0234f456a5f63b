use Rattle.std.proofs.Common.{◌≡◌, ℕ, [], map, replicate}
use Rattle.slab.specs.Slab.{Slab}
use Rattle.cp_spool.specs.File.{SpoolFileValue}
use Rattle.cp_spool.specs.Keys.{queue_of, user_files}
use Rattle.cp_spool.specs.Queues.{no_files}
use Rattle.cp_spool.proofs.keeping.empty_queues.Given as goal

abbrev pub invariant-loop-made : goal.invariant-loop-made
invariant-loop-made l =
    ((user : ℕ) → (queue_of l.queues.items user).decks ≡ [])
    × ((user : ℕ) → (queue_of l.queues.items user).punched ≡ [])
    × ((user : ℕ) → (queue_of l.queues.items user).printed ≡ [])
    × ((files : Slab SpoolFileValue) → map (user_files files) l.queues.items ≡ replicate l._made no_files)

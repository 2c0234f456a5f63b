use Rattle.std.proofs.Common.{◌≡◌, drop}
use Rattle.cp_spool.specs.Queues.{files_of, with_files}
use Rattle.cp_spool.proofs.queues.Queues.remove_read.Given as goal

abbrev pub invariant-loop-done : goal.invariant-loop-done
invariant-loop-done l =
    let f = files_of l.initial.self.users l.user in
    l.self.users ≡ with_files l.user (record f { decks = drop l._done f.decks }) l.initial.self.users

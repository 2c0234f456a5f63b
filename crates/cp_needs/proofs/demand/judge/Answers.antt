use Rattle.std.proofs.Common.{ℕ}
use Rattle.std.proofs.lemmas.List.Sorted.{IsNonDecreasingBy-from_sort}
use Rattle.cp_needs.proofs.Clearing.{clash_of, even_at, fixed_of, here_at, ok_of}
use Rattle.cp_needs.proofs.demand.judge.Goals as goal

pub notes_of-requires-clause-even : goal.notes_of-requires-clause-even
notes_of-requires-clause-even g c =
    let m = g.S.Storage.memory c.args.storage.now in
    let found = ok_of _ c.in_ok-words.field-0 c.in-Ok.words c.in-Ok.is c.in_ok-words.ensures.words in
    rw c.deref.ensures.value (even_at m c.args.start c.in-Ok.words.items c.requires.even found)

pub notes_of-requires-clause-here : goal.notes_of-requires-clause-here
notes_of-requires-clause-here g c =
    let m = g.S.Storage.memory c.args.storage.now in
    let found = ok_of _ c.in_ok-words.field-0 c.in-Ok.words c.in-Ok.is c.in_ok-words.ensures.words in
    let held = ok_of _ c.in_ok-words.field-0 c.in-Ok.words c.in-Ok.is c.in_ok-words.ensures.held in
    rw c.deref.ensures.value
    (here_at m c.args.start c.in-Ok.words.items (g.S.Storage.present c.args.storage.now) found held)

pub meet-requires : goal.meet-requires
meet-requires g c = rw c.deref-2.ensures.value
    (IsNonDecreasingBy-from_sort (λ (x : ℕ). x) _ c.sort_unstable.ensures.sorted)

pub returns-clause-fixed : goal.returns-clause-fixed
returns-clause-fixed g c =
    let m = g.S.Storage.memory c.args.storage.now in
    let found = ok_of _ c.in_ok-words.field-0 c.in-Ok.words c.in-Ok.is c.in_ok-words.ensures.words in
    let marked = rw c.deref.ensures.value at c.in_ok-notes.ensures.marked in
    let stored = rw c.deref.ensures.value at c.in_ok-notes.ensures.stored in
    let apart = rw (c.size.ensures.bytes, c.deref-2.ensures.value, c.deref-3.ensures.value) at
    (c.meet.ensures.none c.if-meet.false) in
    fixed_of m c.args.start c.in-Ok.words.items c.requires.even found c.in_ok-notes.notes.text.items _
    c.in_ok-notes.notes.filled.items c.sort_unstable.ensures.permutation marked stored apart

pub returns-clause-noted : goal.returns-clause-noted
returns-clause-noted g c =
    let found = ok_of _ c.in_ok-words.field-0 c.in-Ok.words c.in-Ok.is c.in_ok-words.ensures.words in
    let marked = rw c.deref.ensures.value at c.in_ok-notes.ensures.marked in
    let paged = rw c.deref.ensures.value at c.in_ok-notes.ensures.paged in
    record {
      words = c.in-Ok.words.items;
      of_program = found;
      found = c.in_ok-notes.notes.text.items;
      moved = c.sort_unstable.ensures.permutation;
      marked = marked;
      paged = paged;
    }

pub returns-clause-held : goal.returns-clause-held
returns-clause-held g c = ok_of _ c.in_ok-words.field-0 c.in-Ok.words c.in-Ok.is c.in_ok-words.ensures.held

pub returns-then-meet-clause-open : goal.returns-then-meet-clause-open
returns-then-meet-clause-open g c =
    let m = g.S.Storage.memory c.args.storage.now in
    let found = ok_of _ c.in_ok-words.field-0 c.in-Ok.words c.in-Ok.is c.in_ok-words.ensures.words in
    let marked = rw c.deref.ensures.value at c.in_ok-notes.ensures.marked in
    let stored = rw c.deref.ensures.value at c.in_ok-notes.ensures.stored in
    let met = rw (c.size.ensures.bytes, c.deref-2.ensures.value, c.deref-3.ensures.value) at
    (c.meet.ensures.some c.if-meet.true) in
    clash_of m c.args.start c.in-Ok.words.items c.requires.even found c.in_ok-notes.notes.text.items _
    c.in_ok-notes.notes.filled.items c.sort_unstable.ensures.permutation marked stored met.0 met.1 met.2 met.3

use Rattle.std.proofs.Common.{◌≡◌, [], ℕ, arith, length, refl, subst}
use Rattle.cp_needs.specs.Noted.{AreMarked, ArePaged, IsDataOf, IsTextOf}
use Rattle.cp_needs.proofs.Noting.{filled_by_on, text_on}
use Rattle.cp_needs.proofs.Paging.{data_on}
use Rattle.cp_needs.proofs.notes.notes_of.Goals as goal

pub note_word-requires-clause-here : goal.note_word-requires-clause-here
note_word-requires-clause-here g c = λ page. c.requires.here c.loop-address.address-index page c.loop-address-test.true

pub loop-address-preserved : goal.loop-address-preserved
loop-address-preserved g c =
    let m = g.S.Storage.memory c.args.storage.now in
    record {
      marked = text_on m c.args.words.now c.loop-address.address-index _ _ _ _ refl c.loop-address.invariant.marked
          c.in_ok-note_word.ensures.marked;
      stored = filled_by_on m c.args.words.now c.loop-address.address-index _ _ _ _ refl c.loop-address.invariant.stored
          c.in_ok-note_word.ensures.stored;
      paged = data_on m c.args.words.now c.loop-address.address-index _ _ _ _ refl c.loop-address.invariant.paged
          c.in_ok-note_word.ensures.paged;
    }

pub returns-clause-marked : goal.returns-clause-marked
returns-clause-marked g c =
    let m = g.S.Storage.memory c.args.storage.now in
    let is : c.loop-address.address-index ≡ length c.args.words.now =
    omega (arith, c.loop-address.auto.address-index-end, c.loop-address-test.false) in
    subst (λ (n : ℕ). AreMarked (IsTextOf m c.args.words.now n) [] c.loop-address.notes.text.items) is
    c.loop-address.invariant.marked

pub returns-clause-paged : goal.returns-clause-paged
returns-clause-paged g c =
    let m = g.S.Storage.memory c.args.storage.now in
    let is : c.loop-address.address-index ≡ length c.args.words.now =
    omega (arith, c.loop-address.auto.address-index-end, c.loop-address-test.false) in
    subst (λ (n : ℕ). ArePaged (IsDataOf m c.args.words.now n) [] c.loop-address.notes.pages.items) is
    c.loop-address.invariant.paged

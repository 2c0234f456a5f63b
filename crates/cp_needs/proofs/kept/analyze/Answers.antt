use Rattle.cp_needs.specs.declared.notes.Notes.{Notes}
use Rattle.cp_needs.specs.Judged.{AreNotes}
use Rattle.cp_needs.specs.Needs.{IsHeld}
use Rattle.cp_needs.proofs.Paging.{paged_of, paged_only, so_notes}
use Rattle.cp_needs.proofs.Standing.{noted_granted, text_of, text_only}
use Rattle.cp_needs.proofs.kept.analyze.Goals as goal

pub fullwords-requires : goal.fullwords-requires
fullwords-requires g c =
    let m = g.S.Storage.memory c.args.storage.now in
    let n : AreNotes m c.args.start c.in-Fixed.notes =
    so_notes c.in_ok-page.field-0 c.in-Fixed.notes (AreNotes m c.args.start) c.in-Fixed.is
    c.in_ok-page.ensures.noted in
    let held = so_notes c.in_ok-page.field-0 c.in-Fixed.notes
    (λ (notes : Notes). IsHeld m c.args.start (g.S.Storage.present c.args.storage.now)) c.in-Fixed.is
    c.in_ok-page.ensures.held in
    record {
      here = rw c.deref.ensures.value
          (noted_granted m c.args.start n.words c.requires.even n.of_program n.found c.in-Fixed.notes.text.items n.moved
          n.marked (g.S.Storage.present c.args.storage.now) held);
    }

pub returns-clause-text : goal.returns-clause-text
returns-clause-text g c =
    let m = g.S.Storage.memory c.args.storage.now in
    let n : AreNotes m c.args.start c.in-Fixed.notes =
    so_notes c.in_ok-page.field-0 c.in-Fixed.notes (AreNotes m c.args.start) c.in-Fixed.is
    c.in_ok-page.ensures.noted in
    let each = rw c.deref.ensures.value at c.in_ok-text.ensures.all in
    text_of m c.args.start n.words c.requires.even n.of_program n.found c.in-Fixed.notes.text.items n.moved n.marked
    c.in_ok-text.text.items c.requires.whole each

pub returns-clause-only : goal.returns-clause-only
returns-clause-only g c =
    let m = g.S.Storage.memory c.args.storage.now in
    let n : AreNotes m c.args.start c.in-Fixed.notes =
    so_notes c.in_ok-page.field-0 c.in-Fixed.notes (AreNotes m c.args.start) c.in-Fixed.is
    c.in_ok-page.ensures.noted in
    let each = rw c.deref.ensures.value at c.in_ok-text.ensures.only in
    text_only m c.args.start n.words c.requires.even n.of_program n.found c.in-Fixed.notes.text.items n.moved n.marked
    c.in_ok-text.text.items each

pub returns-clause-pages : goal.returns-clause-pages
returns-clause-pages g c =
    let m = g.S.Storage.memory c.args.storage.now in
    let n : AreNotes m c.args.start c.in-Fixed.notes =
    so_notes c.in_ok-page.field-0 c.in-Fixed.notes (AreNotes m c.args.start) c.in-Fixed.is
    c.in_ok-page.ensures.noted in
    paged_of m c.args.start n.words n.of_program c.in-Fixed.notes.pages.items n.paged

pub returns-clause-pages_only : goal.returns-clause-pages_only
returns-clause-pages_only g c =
    let m = g.S.Storage.memory c.args.storage.now in
    let n : AreNotes m c.args.start c.in-Fixed.notes =
    so_notes c.in_ok-page.field-0 c.in-Fixed.notes (AreNotes m c.args.start) c.in-Fixed.is
    c.in_ok-page.ensures.noted in
    paged_only m c.args.start n.words n.of_program c.in-Fixed.notes.pages.items n.paged

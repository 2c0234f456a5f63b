use Rattle.std.proofs.Common.{◌≡◌, ◌∙◌, sym, Some, None}
use Rattle.s370_channel.specs.Guest.{guest_text}
use Rattle.cp_needs.proofs.Finding.{area_at}
use Rattle.cp_needs.proofs.Noting.{filled_word, on_ok, own_marked, text_alone, text_marked}
use Rattle.cp_needs.proofs.Paging.{data_nowhere, data_word}
use Rattle.cp_needs.proofs.notes.note_word.Goals as goal

pub note_area-requires : goal.note_area-requires
note_area-requires g c =
    let m = g.S.Storage.memory c.args.storage.now in
    let text : guest_text m c.args.address ≡ Some c.in-Some.word = sym c.in-Ok.ensures.word ∙ c.in-Some.is in
    record { here = λ page needed. c.requires.here page (area_at m c.args.address c.in-Some.word page text needed) }

pub returns-in-Some-clause-marked : goal.returns-in-Some-clause-marked
returns-in-Some-clause-marked g c =
    let m = g.S.Storage.memory c.args.storage.now in
    let text : guest_text m c.args.address ≡ Some c.in-Some.word = sym c.in-Ok.ensures.word ∙ c.in-Some.is in
    let own = own_marked c.args.address _ _ _ c.requires.even c.in_ok-push.ensures.items c.in_ok-push-2.ensures.items in
    on_ok c.note_area.result c.note_area.ensures.marked
    (λ list. text_marked m c.args.address c.in-Some.word _ _ _ text own list)

pub returns-in-Some-clause-stored : goal.returns-in-Some-clause-stored
returns-in-Some-clause-stored g c =
    let m = g.S.Storage.memory c.args.storage.now in
    let text : guest_text m c.args.address ≡ Some c.in-Some.word = sym c.in-Ok.ensures.word ∙ c.in-Some.is in
    on_ok c.note_area.result c.note_area.ensures.stored
    (λ area. filled_word m c.args.address c.in-Some.word _ _ text area)

pub returns-in-None-clause-marked : goal.returns-in-None-clause-marked
returns-in-None-clause-marked g c =
    let m = g.S.Storage.memory c.args.storage.now in
    let none : guest_text m c.args.address ≡ None = sym c.in-Ok.ensures.word ∙ c.in-None.is in
    text_alone m c.args.address _ _ none
    (own_marked c.args.address _ _ _ c.requires.even c.in_ok-push.ensures.items c.in_ok-push-2.ensures.items)

pub returns-in-Some-clause-paged : goal.returns-in-Some-clause-paged
returns-in-Some-clause-paged g c =
    let m = g.S.Storage.memory c.args.storage.now in
    let text : guest_text m c.args.address ≡ Some c.in-Some.word = sym c.in-Ok.ensures.word ∙ c.in-Some.is in
    on_ok c.note_area.result c.note_area.ensures.paged (λ area. data_word m c.args.address c.in-Some.word _ _ text area)

pub returns-in-None-clause-paged : goal.returns-in-None-clause-paged
returns-in-None-clause-paged g c =
    let m = g.S.Storage.memory c.args.storage.now in
    data_nowhere m c.args.address _ (sym c.in-Ok.ensures.word ∙ c.in-None.is)

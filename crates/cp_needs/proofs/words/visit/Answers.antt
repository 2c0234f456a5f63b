use Rattle.std.proofs.Common.{◌≡◌, ◌∙◌, sym, Some}
use Rattle.s370_channel.specs.Guest.{guest_text}
use Rattle.cp_needs.proofs.Finding.{asked_at, steps_of, visited_word}
use Rattle.cp_needs.proofs.words.visit.Goals as goal

pub returns-clause-asked : goal.returns-clause-asked
returns-clause-asked g c =
    let m = g.S.Storage.memory c.args.storage.now in
    let text : guest_text m c.args.address ≡ Some c.in-Some-found.word =
    sym c.in-Ok.ensures.word ∙ c.in-Some-found.is in
    asked_at m c.args.address c.in-Some-found.word c.absent_in_area.result text c.absent_in_area.ensures.asked

pub returns-clause-steps : goal.returns-clause-steps
returns-clause-steps g c =
    let m = g.S.Storage.memory c.args.storage.now in
    let text : guest_text m c.args.address ≡ Some c.in-Some-found.word =
    sym c.in-Ok.ensures.word ∙ c.in-Some-found.is in
    steps_of m c.args.address c.in-Some-found.word c.absent_in_area.result _ c.follow.new.words.items _ text
    (rw c.leads_on.ensures at c.in_ok-follow.ensures.words) (rw c.may_skip.ensures at c.in_ok-follow-2.ensures.words)

pub returns-clause-visited : goal.returns-clause-visited
returns-clause-visited g c =
    let m = g.S.Storage.memory c.args.storage.now in
    let text : guest_text m c.args.address ≡ Some c.in-Some-found.word =
    sym c.in-Ok.ensures.word ∙ c.in-Some-found.is in
    visited_word m (g.S.Storage.present c.args.storage.now) _ c.args.address c.in-Some-found.word
    c.absent_in_area.result c.follow.new.words.items _ c.requires.even text c.in_default.ensures.present
    c.absent_in_area.ensures.present
    (rw (c.leads_on.ensures, ← c.in_ok-follow-2.ensures.size) at c.in_ok-follow.ensures.found)
    (rw c.may_skip.ensures at c.in_ok-follow-2.ensures.found)
    (rw c.may_skip.ensures at c.in_ok-follow-2.ensures.words)

use Rattle.std.proofs.Common.{◌≡◌, ◌∙◌, Bool, List, ap, false, length, rules}
use Rattle.std.specs.Prelude.{replicate}
use Rattle.std.proofs.lemmas.List.{length-replicate}
use Rattle.cp_trial.proofs.Flagging.{all_flagged, only_flagged}
use Rattle.cp_trial.proofs.flags.flags_of.Goals as goal

pub returns-clause-all : goal.returns-clause-all
returns-clause-all c = λ m start page size texts paged it.
    (let none : c.in_ok-flags.flags.items ≡ replicate c.args.count false = search rules in
    let long : length c.in_ok-flags.flags.items ≡ c.args.count =
    ap (λ (flags : List Bool). length flags) none ∙ length-replicate c.args.count false in
    all_flagged m start c.args.count size c.args.text.now c.args.pages.now c.in_ok-flags.flags.items
    c.mark_words.new.wanted.items c.mark_pages.new.wanted.items c.mark_words.ensures c.mark_pages.ensures none long
    page texts paged it)

pub returns-clause-only : goal.returns-clause-only
returns-clause-only c = λ m start page size texts paged it.
    (let none : c.in_ok-flags.flags.items ≡ replicate c.args.count false = search rules in
    let long : length c.in_ok-flags.flags.items ≡ c.args.count =
    ap (λ (flags : List Bool). length flags) none ∙ length-replicate c.args.count false in
    only_flagged m start c.args.count size c.args.text.now c.args.pages.now c.in_ok-flags.flags.items
    c.mark_words.new.wanted.items c.mark_pages.new.wanted.items c.mark_words.ensures c.mark_pages.ensures none long
    page texts paged it)

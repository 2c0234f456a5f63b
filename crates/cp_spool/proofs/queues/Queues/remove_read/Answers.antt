use Rattle.std.proofs.Common.{◌≡◌, ℕ, List, drop, ◌∙◌, ap, arith}
use Rattle.unit_record.specs.Reader.{DeckValue}
use Rattle.cp_spool.specs.Queues.{UserFiles, files_of, with_files, with_place, without_first, read_on}
use Rattle.cp_spool.proofs.Again.{changed_again, drop_one_more}
use Rattle.cp_spool.proofs.queues.Queues.remove_read.Goals as goal

pub loop-done-preserved : goal.loop-done-preserved
loop-done-preserved c =
    let users = c.args.self.now.users in
    let first = files_of users c.args.user in
    let before : UserFiles = record first { decks = drop c.loop-done._done first.decks } in
    c.end_deck.ensures
    ∙ ap (λ (us : List UserFiles). with_files c.args.user (without_first (files_of us c.args.user)) us)
    c.loop-done.invariant
    ∙ changed_again users c.args.user before without_first
    ∙ ap (λ (ds : List DeckValue). let f : UserFiles = record first { decks = ds } in with_files c.args.user f users)
    (drop_one_more c.loop-done._done first.decks)

pub returns : goal.returns
returns c =
    let users = c.args.self.now.users in
    let first = files_of users c.args.user in
    let before : UserFiles = record first { decks = drop c.loop-done._done first.decks } in
    let all : c.loop-done._done ≡ c.args.progress.ended =
    omega (arith, c.loop-done.auto._done-end, c.loop-done-test.false) in
    c.set_place.ensures
    ∙ ap (λ (us : List UserFiles).
    with_files c.args.user (with_place c.args.progress.place (files_of us c.args.user)) us) c.loop-done.invariant
    ∙ changed_again users c.args.user before (with_place c.args.progress.place)
    ∙ ap (λ (n : ℕ). with_files c.args.user (read_on n c.args.progress.place first) users) all

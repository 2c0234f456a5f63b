use Rattle.std.proofs.Common.{◌≡◌, List, inl, map, None, Option, Some, refl, subst, sym, ◌∙◌, ap}
use Rattle.std.specs.Prelude.{slice_get}
use Rattle.std.specs.List.{list_any}
use Rattle.std.specs.Option.{option_map}
use Rattle.std.proofs.lemmas.Option.{slice_get-map}
use Rattle.unit_record.specs.Output.{FileValue}
use Rattle.cp_spool.specs.Forgotten.{IsGone, LosesAtMost, has_key, without_punched}
use Rattle.cp_spool.specs.Keys.{QueueKeys, closed_at, queue_of, user_files}
use Rattle.cp_spool.specs.Queues.{QueuesValue, UserFiles, files_of}
use Rattle.cp_spool.proofs.Forgotten.{gone_forgotten, punched_forgotten, sound_forgotten}
use Rattle.cp_spool.proofs.Moves.{files_there}
use Rattle.cp_spool.proofs.queues.Queues.forget_punched.Goals as goal

pub returns-then-index-len-clause-lost : goal.returns-then-index-len-clause-lost
returns-then-index-len-clause-lost c = inl refl

pub returns-in_default-clause-lost : goal.returns-in_default-clause-lost
returns-in_default-clause-lost c = inl refl

pub returns-in_default-clause-gone : goal.returns-in_default-clause-gone
returns-in_default-clause-gone c =
    let files = c.self.inside.files in
    let queues = c.self.inside.users.items in
    let keys = (queue_of queues c.args.user).punched in
    let none : slice_get keys c.args.index ≡ None =
    ap (λ (qs : List QueueKeys). slice_get (queue_of qs c.args.user).punched c.args.index) (sym c.deref.ensures.value)
    ∙ ap (λ (q : QueueKeys). slice_get q.punched c.args.index) (sym c.queue_at.ensures)
    ∙ sym c.in_default.ensures.value in
    let seen : slice_get (files_of c.args.self.now.users c.args.user).punched c.args.index ≡ None =
    ap (λ (v : QueuesValue). slice_get (files_of v.users c.args.user).punched c.args.index) (sym c.self.view_is)
    ∙ ap (λ (f : UserFiles). slice_get f.punched c.args.index) (files_there files queues c.args.user)
    ∙ slice_get-map (closed_at files) keys c.args.index ∙ ap (option_map (closed_at files)) none in
    subst (λ (o : Option FileValue). IsGone c.args.self.now.users o) (sym seen) tt

pub invariant_of-self : goal.invariant_of-self
invariant_of-self c =
    let queues = c.self.inside.users.items in
    let items = λ (qs : List QueueKeys). list_any (has_key c.in-Some.key) qs in
    let same = ap items c.deref-in-Some.ensures.value in
    sound_forgotten c.self.inside.files c.forget_file.new.files queues c.in-Some.key
    (λ waits. c.forget_file.ensures.waiting (same ∙ waits)) (λ not. c.forget_file.ensures.others (same ∙ not))
    (λ not. c.forget_file.ensures.here (same ∙ not)) c.self.invariant

pub returns-in-Some-clause-lost : goal.returns-in-Some-clause-lost
returns-in-Some-clause-lost c =
    let files' = c.forget_file.new.files in
    let queues = c.self.inside.users.items in
    let keys = (queue_of queues c.args.user).punched in
    let items = λ (qs : List QueueKeys). list_any (has_key c.in-Some.key) qs in
    let same = ap items c.deref-in-Some.ensures.value in
    let at : slice_get keys c.args.index ≡ Some c.in-Some.key =
    ap (λ (qs : List QueueKeys). slice_get (queue_of qs c.args.user).punched c.args.index) (sym c.deref.ensures.value)
    ∙ ap (λ (q : QueueKeys). slice_get q.punched c.args.index) (sym c.queue_at.ensures) ∙ sym c.in-Some.ensures.value in
    let lost = punched_forgotten c.self.inside.files files' queues c.in-Some.key
    (λ waits. c.forget_file.ensures.waiting (same ∙ waits)) (λ not. c.forget_file.ensures.others (same ∙ not))
    (λ not. c.forget_file.ensures.here (same ∙ not)) c.self.invariant.1 c.args.user c.args.index at in
    subst (λ (users : List UserFiles).
    LosesAtMost c.args.user (without_punched c.args.index) users (map (user_files files') queues))
    (ap (λ (v : QueuesValue). v.users) c.self.view_is) lost

pub returns-in-Some-clause-gone : goal.returns-in-Some-clause-gone
returns-in-Some-clause-gone c =
    let files' = c.forget_file.new.files in
    let queues = c.self.inside.users.items in
    let keys = (queue_of queues c.args.user).punched in
    let items = λ (qs : List QueueKeys). list_any (has_key c.in-Some.key) qs in
    let same = ap items c.deref-in-Some.ensures.value in
    let at : slice_get keys c.args.index ≡ Some c.in-Some.key =
    ap (λ (qs : List QueueKeys). slice_get (queue_of qs c.args.user).punched c.args.index) (sym c.deref.ensures.value)
    ∙ ap (λ (q : QueueKeys). slice_get q.punched c.args.index) (sym c.queue_at.ensures) ∙ sym c.in-Some.ensures.value in
    let gone = gone_forgotten c.self.inside.files files' queues c.in-Some.key
    (λ waits. c.forget_file.ensures.waiting (same ∙ waits)) (λ not. c.forget_file.ensures.others (same ∙ not))
    (λ not. c.forget_file.ensures.here (same ∙ not)) keys c.args.index at in
    subst (λ (f : UserFiles). IsGone (map (user_files files') queues) (slice_get f.punched c.args.index))
    (sym (files_there files' queues c.args.user)) gone

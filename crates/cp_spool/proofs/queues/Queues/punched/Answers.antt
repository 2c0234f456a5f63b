use Rattle.std.proofs.Common.{◌≡◌, ◌<◌, List, length, subst, sym, ◌∙◌, ap, Some, None}
use Rattle.std.specs.Prelude.{slice_get}
use Rattle.std.specs.Option.{option_map}
use Rattle.cp_spool.specs.File.{SpoolFileValue, closed_file}
use Rattle.cp_spool.specs.Keys.{QueueKeys, queue_of}
use Rattle.cp_spool.specs.Queues.{QueuesValue, files_of}
use Rattle.cp_spool.proofs.Moves.{punched_found, punched_none}
use Rattle.cp_spool.proofs.queues.Queues.punched.Goals as goal

pub returns-in-Some : goal.returns-in-Some
returns-in-Some c =
    let queues = c.self.inside.users.items in
    let is = c.queue_at.ensures ∙ ap (λ (qs : List QueueKeys). queue_of qs c.args.user) c.deref.ensures.value in
    let found : slice_get (queue_of queues c.args.user).punched c.args.index ≡ Some c.in-Some.key =
    ap (λ (q : QueueKeys). slice_get q.punched c.args.index) (sym is) ∙ sym c.punched.ensures.value ∙ c.in-Some.is
    in
    let inside : c.args.index < length (queue_of queues c.args.user).punched =
    subst (λ (q : QueueKeys). c.args.index < length q.punched) is c.in-Some.ensures.inside in
    ap (λ o. option_map closed_file o) c.get.ensures
    ∙ punched_found c.self.inside.files queues c.args.user c.args.index c.in-Some.key c.self.invariant inside found
    ∙ ap (λ (v : QueuesValue). slice_get ((files_of v.users c.args.user).punched) c.args.index) c.self.view_is

pub returns-in-None : goal.returns-in-None
returns-in-None c =
    let queues = c.self.inside.users.items in
    let is = c.queue_at.ensures ∙ ap (λ (qs : List QueueKeys). queue_of qs c.args.user) c.deref.ensures.value in
    let none : slice_get (queue_of queues c.args.user).punched c.args.index ≡ None =
    ap (λ (q : QueueKeys). slice_get q.punched c.args.index) (sym is) ∙ sym c.punched.ensures.value ∙ c.in-None.is
    in
    punched_none c.self.inside.files queues c.args.user c.args.index none
    ∙ ap (λ (v : QueuesValue). slice_get ((files_of v.users c.args.user).punched) c.args.index) c.self.view_is

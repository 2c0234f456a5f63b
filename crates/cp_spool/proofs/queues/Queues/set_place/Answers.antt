use Rattle.std.proofs.Common.{◌<◌, List, length, map, subst, sym, ◌∙◌, ap, arith}
use Rattle.cp_spool.specs.Keys.{IsSound, QueueKeys, user_files}
use Rattle.cp_spool.specs.Queues.{QueuesValue, files_of, with_files, with_place}
use Rattle.cp_spool.proofs.Moves.{placed_sound, users_placed}
use Rattle.cp_spool.proofs.queues.Queues.set_place.Goals as goal

pub invariant_of-self : goal.invariant_of-self
invariant_of-self c =
    let queues = c.self.inside.users.items in
    let user : c.args.user < length queues = omega arith in
    subst (λ (qs : List QueueKeys). IsSound c.self.inside.files qs) (sym c.place_reader.ensures)
    (placed_sound c.self.inside.files queues c.args.user c.args.place user c.self.invariant)

pub returns-then-index-len : goal.returns-then-index-len
returns-then-index-len c =
    let files = c.self.inside.files in
    let queues = c.self.inside.users.items in
    ap (λ (qs : List QueueKeys). map (user_files files) qs) c.place_reader.ensures
    ∙ users_placed files queues c.args.user c.args.place
    ∙ ap (λ (v : QueuesValue). with_files c.args.user (with_place c.args.place (files_of v.users c.args.user)) v.users)
    c.self.view_is

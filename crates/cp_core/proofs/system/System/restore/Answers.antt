use Rattle.std.proofs.Common.{◌≡◌, ◌∙◌, ap, arith, map, List}
use Rattle.std.specs.Vec.{with_items}
use Rattle.std.proofs.lemmas.List.{with_items_is}
use Rattle.cp_core.specs.Saved.{base_of}
use Rattle.cp_core.specs.UserMachines.{SeatParts}
use Rattle.cp_core.proofs.Restored.{base_restored, owners_restored, system_restored}
use Rattle.cp_core.proofs.system.System.restore.Goals as goal

pub invariant_of-result : goal.invariant_of-result
invariant_of-result c =
    let s = c.self.inside in
    let seats' = (with_items s.users c.restore_users.new.users).items in
    let whole : seats' ≡ c.restore_users.new.users =
    with_items_is s.users c.restore_users.new.users
    (omega (arith, c.restore_users.auto.users, c.deref_mut.ensures.len)) in
    let same : map base_of seats' ≡ map base_of s.users.items =
    ap (λ (us : List SeatParts). map base_of us) whole ∙ c.in_ok-restore_users.ensures.bases ∙ ap
    (λ (us : List SeatParts). map base_of us) c.deref_mut.ensures.value in (
      system_restored s.queues c.restore_users.new.queues s.users.items seats' same s.volumes c.in_ok-volumes.volumes
          s.frames c.restore.new.self s.directory c.in_ok-volumes.ensures.alike c.in_ok-volumes.ensures.there
          c.in_ok-restore.ensures.sizes c.in_ok-restore.ensures.pins c.in_ok-restore.ensures.frames c.self.invariant.0,
      owners_restored s.queues c.restore_users.new.queues s.users.items seats' same c.self.invariant.1
          c.in_ok-restore_users.ensures.queues,
    )

pub returns : goal.returns
returns c =
    let s = c.self.inside in
    let seats' = (with_items s.users c.restore_users.new.users).items in
    let whole : seats' ≡ c.restore_users.new.users =
    with_items_is s.users c.restore_users.new.users
    (omega (arith, c.restore_users.auto.users, c.deref_mut.ensures.len)) in
    let same : map base_of seats' ≡ map base_of s.users.items =
    ap (λ (us : List SeatParts). map base_of us) whole ∙ c.in_ok-restore_users.ensures.bases ∙ ap
    (λ (us : List SeatParts). map base_of us) c.deref_mut.ensures.value in
    base_restored s.queues c.restore_users.new.queues s.users.items seats' same s.volumes c.in_ok-volumes.volumes
    s.frames c.restore.new.self s.directory s.files.items c.in_ok-files.files.items s.is_spent
    c.in_ok-is_spent.is_spent c.args.self c.in_ok-restore.ensures.sizes c.self.invariant.0.whole
    c.in_ok-volumes.ensures.alike c.self.view_is

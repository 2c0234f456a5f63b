use Rattle.std.proofs.Common.{◌≡◌, ◌∙◌, List, ap, arith, map, refl, subst, sym}
use Rattle.std.specs.Vec.{with_items}
use Rattle.std.proofs.lemmas.List.{with_items_is}
use Rattle.cp_core.specs.Forgotten.{forgotten, seat_unprinted}
use Rattle.cp_core.specs.Saved.{base_of}
use Rattle.cp_core.specs.System.{SystemView}
use Rattle.cp_core.specs.UserMachines.{SeatParts, seats_on}
use Rattle.cp_core.proofs.Forgotten.{bases_kept, seen_forgotten}
use Rattle.cp_core.proofs.Restored.{alike_same, owners_restored, system_restored}
use Rattle.cp_core.proofs.Systems.{seen}
use Rattle.cp_core.proofs.system.System.forget_printed.Goals as goal

pub invariant_of-self : goal.invariant_of-self
invariant_of-self c =
    let s = c.self.inside in
    let seats' = (with_items s.users c.forget_each.new.users).items in
    let whole : seats' ≡ c.forget_each.new.users = with_items_is s.users c.forget_each.new.users (omega
    (arith, c.forget_each.auto.users, c.deref_mut.ensures.len)) in
    let left : seats' ≡ map seat_unprinted s.users.items =
    whole ∙ c.forget_each.ensures ∙ ap (λ (us : List SeatParts). map seat_unprinted us) c.deref_mut.ensures.value in
    let same : map base_of seats' ≡ map base_of s.users.items =
    ap (λ (us : List SeatParts). map base_of us) left ∙ bases_kept s.users.items in (
      system_restored s.queues s.queues s.users.items seats' same s.volumes s.volumes s.frames s.frames s.directory
          (alike_same s.volumes) c.self.invariant.0.there refl refl refl c.self.invariant.0,
      owners_restored s.queues s.queues s.users.items seats' same c.self.invariant.1 refl,
    )

pub returns : goal.returns
returns c =
    let s = c.self.inside in
    let seats' = (with_items s.users c.forget_each.new.users).items in
    let whole : seats' ≡ c.forget_each.new.users = with_items_is s.users c.forget_each.new.users (omega
    (arith, c.forget_each.auto.users, c.deref_mut.ensures.len)) in
    let left : seats' ≡ map seat_unprinted s.users.items =
    whole ∙ c.forget_each.ensures ∙ ap (λ (us : List SeatParts). map seat_unprinted us) c.deref_mut.ensures.value in
    ap (λ (us : List SeatParts). seen (seats_on s.queues us) s.volumes s.frames.storages s.directory s.frames.supply
    s.files.items s.is_spent) left
    ∙ seen_forgotten s.queues s.users.items s.volumes s.frames.storages s.directory s.frames.supply s.files.items
    s.is_spent
    ∙ ap forgotten c.self.view_is

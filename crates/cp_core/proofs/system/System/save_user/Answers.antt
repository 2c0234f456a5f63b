use Rattle.std.proofs.Common.{◌≡◌, ◌<◌, ◌++◌, ◌∙◌, ℕ, List, ap, append_assoc, arith, get_or, length, refl, subst}
use Rattle.cp_frames.specs.Layout.{bytes_of}
use Rattle.cp_frames.specs.Saved.{storage_bytes, supply_bytes}
use Rattle.cp_core.specs.Saved.{saved_user, user_bytes, user_part_bytes}
use Rattle.cp_core.specs.System.{SystemView}
use Rattle.cp_core.specs.UserMachines.{seats_on}
use Rattle.cp_core.proofs.Owned.{length-seats}
use Rattle.cp_core.proofs.SystemCodes.{user_saved_is}
use Rattle.cp_core.proofs.Systems.{has_seat, on_ok}
use Rattle.cp_core.proofs.system.System.save_user.Goals as goal

pub index-requires-2 : goal.index-requires-2
index-requires-2 c =
    let s = c.self.inside in
    let inside = has_seat (seats_on s.queues s.users.items) s.volumes s.frames.storages s.directory
    c.args.self.now.users c.args.user c.self.invariant.0.whole (ap (λ (v : SystemView). v.users) c.self.view_is)
    c.requires in
    omega (arith, inside, s.users.ok.0, length-seats s.queues s.users.items, c.index.ensures.value)

pub returns : goal.returns
returns c =
    let s = c.self.inside in
    let out = c.args.out.now.items in
    let user = c.args.user in
    let inside = has_seat (seats_on s.queues s.users.items) s.volumes s.frames.storages s.directory
    c.args.self.now.users user c.self.invariant.0.whole (ap (λ (v : SystemView). v.users) c.self.view_is) c.requires in
    let within : user < length s.users.items = omega (arith, inside, length-seats s.queues s.users.items) in
    let seat = c.index-2.result.now in
    let here : seat ≡ get_or s.users.items user seat =
    subst (λ (n : ℕ). seat ≡ get_or s.users.items n seat) c.index.ensures.value c.index-2.ensures in
    let u = user_bytes (saved_user s.queues seat) in
    let p = supply_bytes s.frames.supply in
    let m = storage_bytes (bytes_of s.frames user) in
    let one : c.save.new.out.items ≡ out ++ u = c.in_ok-save.ensures in
    let two : c.save_supply.new.out.items ≡ (out ++ u) ++ p =
    c.in_ok-save_supply.ensures ∙ ap (λ (l : List ℕ). l ++ p) one in
    on_ok c.save_storage.result _ _
    (λ last. (
      user_part_bytes s.frames user (saved_user s.queues seat),
      user_saved_is s.queues s.users.items s.volumes s.frames s.directory s.files.items s.is_spent c.args.self.now user
          seat (user_part_bytes s.frames user (saved_user s.queues seat)) c.self.view_is within here refl,
      last ∙ ap (λ (l : List ℕ). l ++ m) two ∙ append_assoc (out ++ u) p m ∙ append_assoc out u (p ++ m),
    ))
    c.save_storage.ensures

use Rattle.std.proofs.Common.{rules, ◌≡◌, ◌∙◌, ℕ, List, subst}
use Rattle.cp_frames.specs.Layout.{Pool, bytes_of}
use Rattle.cp_dat.specs.Lent.{lent_keys, lent_pool, user_of}
use Rattle.cp_core.specs.Lending.{seat_of}
use Rattle.cp_core.specs.UserMachines.{seat_on, user_with}
use Rattle.cp_core.proofs.work.with_storage.Goals as goal

pub returns-clause-does : goal.returns-clause-does
returns-clause-does g c =
    let made = c.new-storage.result in
    let lent = c.work.new.lent in
    let left = c.work.new.storage in
    let user = c.args.shared.now.user in
    let before : user_of made ≡ user = c.new-storage.ensures.user in
    let after : user_of left ≡ user = c.work.ensures.kept.same_user ∙ before in
    let Done : Pool → List ℕ → ℕ → ℕ → Type 0 =
    λ pool keys b a. g.W.UserOp.Does c.args.work.now c.args.shared.now.directory.now b
    (user_with (seat_on c.args.shared.now.queues.now
    (seat_of c.args.machine.now c.args.devices.now c.args.minidisks.now.items keys c.args.reuse.now))
    c.args.shared.now.volumes.now (bytes_of pool b)) pool.supply
    c.work.result (user_with (seat_on lent.queues.now
    (seat_of lent.machine.now lent.devices.now lent.minidisks.now.items (lent_keys left) lent.reuse.now))
    lent.volumes.now (bytes_of (lent_pool left) a)) (lent_pool left).supply in
    let first : Done (lent_pool made) (lent_keys made) (user_of made) (user_of left) = c.work.ensures.does in
    let second : Done (lent_pool made) (lent_keys made) user (user_of left) =
    subst (λ (u : ℕ). Done (lent_pool made) (lent_keys made) u (user_of left)) before first in
    let third : Done (lent_pool made) (lent_keys made) user user =
    subst (λ (u : ℕ). Done (lent_pool made) (lent_keys made) user u) after second in
    let fourth : Done c.args.shared.now.frames.now (lent_keys made) user user =
    subst (λ (pool : Pool). Done pool (lent_keys made) user user) c.new-storage.ensures.frames third in
    let fifth : Done c.args.shared.now.frames.now c.args.keys.now user user =
    subst (λ (keys : List ℕ). Done c.args.shared.now.frames.now keys user user) c.new-storage.ensures.keys fourth
    in
    search rules

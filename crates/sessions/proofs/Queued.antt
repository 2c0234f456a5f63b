-- The queue of a session has those who are on, each once, at its beginning and whatever is done.
use Rattle.std.proofs.Common.{◌≡◌, ◌+◌, ◌<◌, ◌≤◌, ◌&&◌, ◌||◌, ◌⊎◌, inl, inr, ℕ, zero, suc, Bool, true, false, eqb}
use Rattle.std.proofs.Common.{List, [], ◌∷◌, ◌++◌}
use Rattle.std.proofs.Common.{length, Some, None, refl, ap, sym, ◌∙◌, subst, arith}
use Rattle.std.specs.Prelude.{nat_lt}
use Rattle.std.specs.List.{list_any}
use Rattle.std.proofs.lemmas.Bool.{cases_lt}
use Rattle.std.proofs.lemmas.Bool.Decides.{eqb_tells, nat_tests}
use Rattle.cp_dispatch.specs.Policy.{HasJust, IsFairPolicy, same_user}
use Rattle.cp_dispatch.specs.Turns.{StandsWithin}
use Rattle.cp_dispatch.proofs.Who.{Tells, came, dealt, nobody, stays, went}
use Rattle.session_script.specs.Script.{Run, Serve}
use Rattle.sessions.specs.Fair.{HasDealt, StaysReady, slices}
use Rattle.sessions.specs.Installed.{Installation, Installed}
use Rattle.sessions.specs.Queued.{BeginsWithWhoIsOn, KeepsWhoIsOn, QueueIsWhoIsOn, SlicesReachAll, TurnsItsOwn}
use Rattle.sessions.specs.Schedule.{Act, Applies, AreDone, Entry, Answered, Dealt, Idle, IsDone, Passed, Scene, Serves}
use Rattle.sessions.specs.Schedule.{Slices, first_queue, is_user_on, queue_with, ready_in, slice_units, user_said}
use Rattle.sessions.proofs.Fair.{slices_are_fair}
use Rattle.sessions.proofs.Queues.{off_past}

-- ---- a user who comes or goes

both : (was is : ℕ → Bool) (user : ℕ) (b : Bool) → was user ≡ b → is user ≡ b
    → ((u : ℕ) → (u ≡ user → ⊥) → is u ≡ was u) → (u : ℕ) → is u ≡ was u
both was is user b before after others u = elim (eqb_tells u user) [
  | inl same ↦ ap is same.1 ∙ (after ∙ sym (ap was same.1 ∙ before))
  | inr not ↦ others u not.1
]

turned : (was is : ℕ → Bool) (user : ℕ) (queue : List ℕ) (a b : Bool) → was user ≡ a → is user ≡ b
    → ((u : ℕ) → (u ≡ user → ⊥) → is u ≡ was u) → HasJust same_user was queue
    → HasJust same_user is (queue_with user a b queue)
turned was is user queue false false before after others h =
    stays same_user eqb_tells was is queue (both was is user false before after others) h
turned was is user queue false true before after others h =
    came same_user eqb_tells was is user queue after others h
turned was is user queue true false before after others h = went same_user eqb_tells was is user queue after others h
turned was is user queue true true before after others h =
    stays same_user eqb_tells was is queue (both was is user true before after others) h

-- ---- at first

-- who is on, of the first users
abbrev on_below : Installed → ℕ → ℕ → Bool
on_below s n user = is_user_on s user && nat_lt user n

and_left : (b c : Bool) → c ≡ true → (b && c) ≡ b
and_left true c e = e
and_left false c e = refl

and_none : (b c : Bool) → c ≡ false → (b && c) ≡ false
and_none true c e = e
and_none false c e = refl

first_on : (s : Installed) (n : ℕ) → HasJust same_user (on_below s n) (first_queue s n)
first_on s zero = nobody same_user eqb_tells (on_below s 0)
    (λ user. and_none (is_user_on s user) (nat_lt user 0) (grind (arith, nat_tests)))
first_on s (suc n) =
    let less : nat_lt n (suc n) ≡ true = grind (arith, nat_tests) in
    let past : nat_lt n n ≡ false = grind (arith, nat_tests) in
    turned (on_below s n) (on_below s (suc n)) n (first_queue s n) false (is_user_on s n)
    (and_none (is_user_on s n) (nat_lt n n) past) (and_left (is_user_on s n) (nat_lt n (suc n)) less)
    (λ u other. (let same : nat_lt u (suc n) ≡ nat_lt u n = grind (arith, nat_tests) in
    ap (λ (b : Bool). is_user_on s u && b) same))
    (first_on s n)

-- A session begins with those who are on in its queue.
pub begins : BeginsWithWhoIsOn
begins s many = record {
  machines = many;
  on = stays same_user eqb_tells (on_below s (length s.users)) (is_user_on s) (first_queue s (length s.users))
      (λ user. elim (cases_lt user (length s.users)) [
        | inl less ↦ (let is : nat_lt user (length s.users) ≡ true = grind (arith, nat_tests) in
            sym (and_left (is_user_on s user) (nat_lt user (length s.users)) is))
        | inr past ↦ (let off = off_past s user (omega (arith, many, past)) in
            let is : nat_lt user (length s.users) ≡ false = grind (arith, nat_tests) in
            off ∙ sym (and_none (is_user_on s user) (nat_lt user (length s.users)) is))
      ])
      (first_on s (length s.users));
}

-- ---- whatever is done

module _ {W : Type 0} (i : Installation W) (law : TurnsItsOwn i) where
  -- a queue that is right stays so where nobody is turned on or off
  same_on : (old new : W) (queue : List ℕ) → length (i.seen new).users ≡ length (i.seen old).users
      → length (i.seen new).machines ≡ length (i.seen old).machines
      → ((user : ℕ) → is_user_on (i.seen new) user ≡ is_user_on (i.seen old) user)
      → QueueIsWhoIsOn (i.seen old) queue → QueueIsWhoIsOn (i.seen new) queue
  same_on old new queue users machines same h = record {
    machines = machines ∙ (h.machines ∙ sym users);
    on = stays same_user eqb_tells (is_user_on (i.seen old)) (is_user_on (i.seen new)) queue same h.on;
  }

  one_step : (act : Act) (entry : Entry W) (old new : Scene W) → IsDone i act entry old new
      → QueueIsWhoIsOn (i.seen old.world) old.lines.users → QueueIsWhoIsOn (i.seen new.world) new.lines.users
  one_step (Applies said) (Answered step) old new d h =
      let user = user_said said in
      let was = is_user_on (i.seen old.world) in
      let is = is_user_on (i.seen step.left) in
      let many = law.users old.world said step.reply step.left d.happened in
      let queue = queue_with user (was user) (is user) old.lines.users in
      let whole : QueueIsWhoIsOn (i.seen step.left) queue = record {
        machines = many.1 ∙ (h.machines ∙ sym many.0);
        on = turned was is user old.lines.users (was user) (is user) refl refl
            (law.others old.world said step.reply step.left d.happened) h.on;
      } in
      subst (λ (s : Scene W). QueueIsWhoIsOn (i.seen s.world) s.lines.users) (sym d.left) whole
  one_step (Applies said) (Dealt step) old new d h = absurd d
  one_step (Applies said) Passed old new d h = absurd d
  one_step (Applies said) Idle old new d h = absurd d
  one_step Slices (Answered step) old new d h = absurd d
  one_step Slices (Dealt step) old new d h =
      let many = law.users old.world (Run d.user slice_units) step.reply step.left d.happened in
      let moved : QueueIsWhoIsOn (i.seen old.world) d.queue = record {
        machines = h.machines;
        on = dealt same_user eqb_tells (is_user_on (i.seen old.world)) (ready_in (i.seen old.world)) old.lines.users
            (Some d.user) d.queue d.dealt h.on;
      } in
      let whole = same_on old.world step.left d.queue many.0 many.1
      (law.runs old.world d.user slice_units step.reply step.left d.happened) moved in
      subst (λ (s : Scene W). QueueIsWhoIsOn (i.seen s.world) s.lines.users) (sym d.left) whole
  one_step Slices Passed old new d h =
      subst (λ (s : Scene W). QueueIsWhoIsOn (i.seen s.world) s.lines.users) (sym d.left) h
  one_step Slices Idle old new d h = absurd d
  one_step Serves (Answered step) old new d h = absurd d
  one_step Serves (Dealt step) old new d h =
      let p = d.program in
      let many = law.users old.world (Serve p.user p.device) step.reply step.left d.happened in
      let whole = same_on old.world step.left old.lines.users many.0 many.1
      (law.serves old.world p.user p.device step.reply step.left d.happened) h in
      subst (λ (s : Scene W). QueueIsWhoIsOn (i.seen s.world) s.lines.users) (sym d.left) whole
  one_step Serves Passed old new d h =
      subst (λ (s : Scene W). QueueIsWhoIsOn (i.seen s.world) s.lines.users) (sym d.left) h
  one_step Serves Idle old new d h =
      subst (λ (s : Scene W). QueueIsWhoIsOn (i.seen s.world) s.lines.users) (sym d.left) h

  -- Whatever is done, those who are on are in the queue.
  pub keeps : KeepsWhoIsOn i
  keeps [] old new [] d h =
      subst (λ (s : Scene W). QueueIsWhoIsOn (i.seen s.world) s.lines.users) (sym d) h
  keeps [] old new (entry ∷ entries) d h = absurd d
  keeps (act ∷ all) old new [] d h = absurd d
  keeps (act ∷ all) old new (entry ∷ entries) d h =
      keeps all d.0 new entries d.2 (one_step act entry old d.0 d.1 h)

-- ---- slices

rest_of : (a b : Bool) → a ≡ false → (a || b) ≡ true → b ≡ true
rest_of true b none e = absurd (cc)
rest_of false b none e = e

stands : {X : Type 0} (same : X → X → Bool) → Tells same → (one : X) (queue : List X)
    → list_any (same one) queue ≡ true → StandsWithin one queue (length queue)
stands same tells one [] e = absurd (cc)
stands {X} same tells one (x ∷ queue) e = elim (tells one x) [
  | inl is ↦ record {
    before = [];
    after = queue;
    split = ap (λ (y : X). y ∷ queue) (sym is.1);
    near = omega arith;
  }
  | inr not ↦ (let rest : list_any (same one) queue ≡ true =
      rest_of (same one x) (list_any (same one) queue) not.0 e in
      let s = stands same tells one queue rest in
      record {
        before = x ∷ s.before;
        after = s.after;
        split = ap (λ (l : List X). x ∷ l) s.split;
        near = omega (arith, s.near);
      })
]

-- Whoever is in a line has fewer before him than there are.
pub stands_within : {X : Type 0} (same : X → X → Bool) → Tells same → (one : X) (queue : List X) (bound : ℕ)
    → list_any (same one) queue ≡ true → length queue ≤ bound → StandsWithin one queue bound
stands_within same tells one queue bound e enough =
    let here = stands same tells one queue e in
    record { before = here.before; after = here.after; split = here.split; near = omega (arith, here.near, enough) }

-- Of as many slices as users are on, each who stays ready has one.
pub slices_reach_all : IsFairPolicy → {W : Type 0} (i : Installation W) → SlicesReachAll i
slices_reach_all fair i user all old new entries done queue on ready enough =
    slices_are_fair fair i user all old new entries done ready
    (stands_within same_user eqb_tells user old.lines.users (slices all) (queue.on.who user ∙ on) enough)

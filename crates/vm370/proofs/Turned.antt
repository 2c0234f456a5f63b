-- Events of a system turn no machine on or off but that of the user whom they name, and only by a line; and they
-- start no device but that user's.
use Rattle.std.proofs.Common.{◌≡◌, ◌∙◌, ◌==◌, inl, inr, ℕ, Bool, true, false, List, [], ◌∷◌, ◌++◌, Option, Some}
use Rattle.std.proofs.Common.{None, ap, refl, sym, subst}
use Rattle.std.proofs.Common.{length, map}
use Rattle.std.specs.Prelude.{if◌then◌else◌}
use Rattle.std.proofs.lemmas.Bool.Decides.{eqb_tells}
use Rattle.s370_channel.specs.Reading.{as_reached}
use Rattle.cp_core.specs.Local.{Step as SystemStep, comes_to, coming, local, local_event, own_part, run_of, serve_of}
use Rattle.cp_core.specs.System.{SystemView, user_at}
use Rattle.cp_directory.specs.Users.{DirectoryUser}
use Rattle.machine_devices.specs.Events.{user_of}
use Rattle.machine_devices.specs.Life.{Event as Local, Units, Serve as Serves, Line as Types, Tick, Deck, Message, Purge}
use Rattle.machine_devices.specs.Turned.{HasNoLine, OnlyLinesTurn}
use Rattle.machine_devices.specs.Working.{AreDeliveries, DeliveriesChangeNone, StartsAreNumbered}
use Rattle.machine_devices.specs.UserDirectory.{is_logged_on}
use Rattle.machine_devices.specs.declared.event.Event.{Event}
use Rattle.machine_devices.specs.declared.event.Event.TheVariants as events
use Rattle.machine_devices.specs.declared.reply.Delivered.{Delivered}
use Rattle.machine_devices.specs.declared.reply.Delivery.{Delivery}
use Rattle.machine_devices.specs.declared.reply.Delivery.TheVariants as deliveries
use Rattle.machine_devices.specs.declared.reply.Ended.{Ended}
use Rattle.machine_devices.specs.declared.reply.Ended.TheVariants.{Ran, Served, Done, FramesOut}
use Rattle.machine_devices.specs.declared.reply.Reply.{Reply}
use Rattle.machine_panel.specs.declared.machine.Mode.{Mode}
use Rattle.machine_panel.specs.declared.machine.Mode.TheVariants.{Off, Stopped, Running}
use Rattle.session_script.specs.Script.{EventValue, Run, Serve}
use Rattle.sessions.specs.Installed.{as_said}
use Rattle.sessions.specs.Queued.{StartsItsOwn, TurnsItsOwn}
use Rattle.sessions.specs.Schedule.{is_on, is_user_on, user_said}
use Rattle.sessions.proofs.Told.{user_same}
use Rattle.vm370.specs.Goes.{HasHappened, known_user, known_users, seen_in, system_goes}

-- ---- what is no line

no_line_more : (one other : List Local) → HasNoLine one → HasNoLine other → HasNoLine (one ++ other)
no_line_more [] other h g = g
no_line_more (Units count ∷ one) other h g = no_line_more one other h g
no_line_more (Serves device ∷ one) other h g = no_line_more one other h g
no_line_more (Types world typed ∷ one) other h g = absurd h
no_line_more (Tick ∷ one) other h g = no_line_more one other h g
no_line_more (Deck deck ∷ one) other h g = no_line_more one other h g
no_line_more (Message text ∷ one) other h g = no_line_more one other h g
no_line_more (Purge id ∷ one) other h g = no_line_more one other h g

no_line_if : (b : Bool) (events : List Local) → HasNoLine events → HasNoLine (if b then events else [])
no_line_if true events h = h
no_line_if false events h = tt

delivers_no_line : (old : SystemView) (step : SystemStep) (what : Delivery) → HasNoLine (coming old step what ∷ [])
delivers_no_line old step (deliveries.Deck number) = tt
delivers_no_line old step (deliveries.Message line) = tt

comes_no_line : (user : ℕ) (old : SystemView) (step : SystemStep) (delivered : Option Delivered)
    → HasNoLine (comes_to user old step delivered)
comes_no_line user old step None = tt
comes_no_line user old step (Some delivered) =
    no_line_if (delivered.to == user) (coming old step delivered.what ∷ []) (delivers_no_line old step delivered.what)

run_no_line : (units : ℕ) (ended : Ended) → HasNoLine (run_of units ended)
run_no_line units (Ran ran) = tt
run_no_line units (Served done) = tt
run_no_line units Done = tt
run_no_line units FramesOut = tt

serve_no_line : (device : ℕ) (ended : Ended) → HasNoLine (serve_of device ended)
serve_no_line device (Served done) = tt
serve_no_line device (Ran ran) = tt
serve_no_line device Done = tt
serve_no_line device FramesOut = tt

-- ---- who is on

on_same : (mode : Mode) → is_on mode ≡ is_logged_on mode
on_same Off = refl
on_same Stopped = refl
on_same Running = refl

module _ (law : OnlyLinesTurn) where
  -- a user whose own part has no line is on if he was
  stays_on : (old new : SystemView) (said : EventValue) (reply : Reply) (h : HasHappened old said reply new) (user : ℕ)
      → HasNoLine (own_part user old (record { event = h.event; reply = reply; seen = new }))
      → is_user_on (seen_in new) user ≡ is_user_on (seen_in old) user
  stays_on old new said reply h user none =
      let step : SystemStep = record { event = h.event; reply = reply; seen = new } in
      let lives = h.step.replied.applied user in
      let same = law as_reached (local user old step) (user_at old user) (user_at new user)
      (no_line_more (own_part user old step) (comes_to user old step reply.delivered) none
      (comes_no_line user old step reply.delivered)) lives in
      on_same (user_at new user).machine.mode ∙ (same ∙ sym (on_same (user_at old user).machine.mode))

  no_part : (b : Bool) (events : List Local) → b ≡ false → HasNoLine (if b then events else [])
  no_part true events e = absurd (cc)
  no_part false events e = tt

  others_stay : (old : SystemView) (said : EventValue) (reply : Reply) (new : SystemView)
      → HasHappened old said reply new → (user : ℕ) → (user ≡ user_said said → ⊥)
      → is_user_on (seen_in new) user ≡ is_user_on (seen_in old) user
  others_stay old said reply new h user other =
      let named : user_of h.event ≡ user_said said = user_same h.event ∙ ap user_said h.named in
      let apart : (user_of h.event == user) ≡ false = elim (eqb_tells (user_of h.event) user) [
        | inl same ↦ absurd (other (sym same.1 ∙ named))
        | inr not ↦ not.0
      ] in
      stays_on old new said reply h user
      (no_part (user_of h.event == user) (local_event old h.event reply.ended) apart)

  run_part : (old : SystemView) (event : Event) (one units : ℕ) (ended : Ended) → as_said event ≡ Run one units
      → HasNoLine (local_event old event ended)
  run_part old (events.Run user asked) one units ended e = run_no_line asked ended
  run_part old (events.Line user typed) one units ended e = absurd (cc)
  run_part old (events.Tick user) one units ended e = absurd (cc)
  run_part old (events.Serve user device) one units ended e = absurd (cc)
  run_part old (events.Deck user cards) one units ended e = absurd (cc)
  run_part old (events.Transfer user id to) one units ended e = absurd (cc)

  serve_part : (old : SystemView) (event : Event) (one device : ℕ) (ended : Ended) → as_said event ≡ Serve one device
      → HasNoLine (local_event old event ended)
  serve_part old (events.Run user asked) one device ended e = absurd (cc)
  serve_part old (events.Line user typed) one device ended e = absurd (cc)
  serve_part old (events.Tick user) one device ended e = absurd (cc)
  serve_part old (events.Serve user served) one device ended e = serve_no_line served ended
  serve_part old (events.Deck user cards) one device ended e = absurd (cc)
  serve_part old (events.Transfer user id to) one device ended e = absurd (cc)

  many : (users others : List DirectoryUser) → others ≡ users
      → length (map known_user others) ≡ length (map known_user users)
  many users others e = ap (λ (us : List DirectoryUser). length (map known_user us)) e

  -- Events of a system turn no machine on or off but their own user's.
  pub turns_its_own : TurnsItsOwn system_goes
  turns_its_own = record {
    users = λ old said reply new h. (many old.directory new.directory h.step.directory, h.step.users);
    others = others_stay;
    runs = λ old one units reply new h user. stays_on old new (Run one units) reply h user
        (no_line_if (user_of h.event == user) (local_event old h.event reply.ended)
        (run_part old h.event one units reply.ended h.named));
    serves = λ old one device reply new h user. stays_on old new (Serve one device) reply h user
        (no_line_if (user_of h.event == user) (local_event old h.event reply.ended)
        (serve_part old h.event one device reply.ended h.named));
  }

-- ---- devices

deliveries_if : (b : Bool) (events : List Local) → AreDeliveries events → AreDeliveries (if b then events else [])
deliveries_if true events h = h
deliveries_if false events h = tt

delivers : (old : SystemView) (step : SystemStep) (what : Delivery) → AreDeliveries (coming old step what ∷ [])
delivers old step (deliveries.Deck number) = tt
delivers old step (deliveries.Message line) = tt

comes_delivered : (user : ℕ) (old : SystemView) (step : SystemStep) (delivered : Option Delivered)
    → AreDeliveries (comes_to user old step delivered)
comes_delivered user old step None = tt
comes_delivered user old step (Some delivered) =
    deliveries_if (delivered.to == user) (coming old step delivered.what ∷ []) (delivers old step delivered.what)

others_part : (b : Bool) (events more : List Local) → b ≡ false → AreDeliveries more
    → AreDeliveries ((if b then events else []) ++ more)
others_part true events more e h = absurd (cc)
others_part false events more e h = h

-- Events of a system start no device but their own user's.
pub starts_its_own : StartsAreNumbered → DeliveriesChangeNone → StartsItsOwn system_goes
starts_its_own numbered none = record {
  users = λ old said reply new h. ap known_users h.step.directory;
  others = λ old said reply new h user other.
      (let step : SystemStep = record { event = h.event; reply = reply; seen = new } in
      let named : user_of h.event ≡ user_said said = user_same h.event ∙ ap user_said h.named in
      let apart : (user_of h.event == user) ≡ false = elim (eqb_tells (user_of h.event) user) [
        | inl same ↦ absurd (other (sym same.1 ∙ named))
        | inr not ↦ not.0
      ] in
      none as_reached (local user old step) (user_at old user) (user_at new user)
      (others_part (user_of h.event == user) (local_event old h.event reply.ended)
      (comes_to user old step reply.delivered) apart (comes_delivered user old step reply.delivered))
      (h.step.replied.applied user));
  own = λ old said reply new h.
      (let step : SystemStep = record { event = h.event; reply = reply; seen = new } in
      let user = user_said said in
      numbered as_reached (local user old step) (user_at old user) (user_at new user) (h.step.replied.applied user));
}

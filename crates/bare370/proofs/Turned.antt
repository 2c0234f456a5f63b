-- Events of a single machine turn it on or off only by a line, and number what they start.
use Rattle.std.proofs.Common.{◌≡◌, ◌∙◌, ℕ, zero, suc, List, [], ◌∷◌, ap, refl, sym}
use Rattle.s370_channel.specs.Reading.{as_reached}
use Rattle.s370_subchannels.specs.Subchannels.{next_start}
use Rattle.bare_installation.specs.Bare.{Bare, bare}
use Rattle.bare_installation.specs.Life.{EachIsLife, IsApplied, IsDone, IsRun, IsService}
use Rattle.bare_installation.specs.Life.{own as own_events}
use Rattle.machine_devices.specs.Events.{user_of}
use Rattle.machine_devices.specs.Life.{Units, Serve as Serves, Lives}
use Rattle.machine_devices.specs.Turned.{OnlyLinesTurn}
use Rattle.machine_devices.specs.UserDirectory.{is_logged_on}
use Rattle.machine_devices.specs.Working.{AllWorkSince, StartsAreNumbered}
use Rattle.machine_devices.specs.declared.event.Event.{Event}
use Rattle.machine_devices.specs.declared.event.Event.TheVariants as events
use Rattle.machine_devices.specs.declared.reply.Ended.{Ended}
use Rattle.machine_devices.specs.declared.reply.Ended.TheVariants.{Ran, Served, Done, FramesOut}
use Rattle.machine_devices.specs.declared.reply.Reply.{Reply}
use Rattle.machine_panel.specs.Run.{MachineRun}
use Rattle.machine_panel.specs.declared.machine.Mode.{Mode}
use Rattle.machine_panel.specs.declared.machine.Mode.TheVariants.{Off, Stopped, Running}
use Rattle.session_script.specs.Script.{EventValue, Run, Serve}
use Rattle.sessions.specs.Installed.{as_said, subchannels_at}
use Rattle.sessions.specs.Queued.{StartsItsOwn, TurnsItsOwn}
use Rattle.sessions.specs.Schedule.{is_on, is_user_on, user_said}
use Rattle.sessions.proofs.Told.{user_same}
use Rattle.bare370.specs.Goes.{Alone, HasHappened, machine_goes, own, seen_in}

on_same : (mode : Mode) → is_on mode ≡ is_logged_on mode
on_same Off = refl
on_same Stopped = refl
on_same Running = refl

others_stay : (old : Alone) (said : EventValue) (reply : Reply) (new : Alone) → HasHappened old said reply new
    → (user : ℕ) → (user ≡ user_said said → ⊥) → is_user_on (seen_in new) user ≡ is_user_on (seen_in old) user
others_stay old said reply new h zero other =
    absurd (other (sym h.own ∙ (user_same h.event ∙ ap user_said h.named)))
others_stay old said reply new h (suc user) other = refl

module _ (law : OnlyLinesTurn) where
  ran_on : (units : ℕ) (old : Bare) (reply : Reply) (ended : Ended) (new : Bare) → IsRun units old reply ended new
      → is_on new.equipped.machine.mode ≡ is_on old.equipped.machine.mode
  ran_on units old reply (Ran ran) new h =
      on_same new.equipped.machine.mode
      ∙ (law as_reached (Units units ∷ []) old.equipped new.equipped tt
      (new.equipped, (sym (ap (λ (r : MachineRun). r.machine) h.0), h.1, h.2), refl)
      ∙ sym (on_same old.equipped.machine.mode))
  ran_on units old reply (Served done) new h = absurd h
  ran_on units old reply Done new h = absurd h
  ran_on units old reply FramesOut new h = absurd h

  served_on : (device : ℕ) (old : Bare) (reply : Reply) (ended : Ended) (new : Bare)
      → IsService device old reply ended new → is_on new.equipped.machine.mode ≡ is_on old.equipped.machine.mode
  served_on device old reply (Served done) new h =
      on_same new.equipped.machine.mode
      ∙ (law as_reached (Serves device ∷ []) old.equipped new.equipped tt (new.equipped, (done, h.0), refl)
      ∙ sym (on_same old.equipped.machine.mode))
  served_on device old reply (Ran ran) new h = absurd h
  served_on device old reply Done new h = absurd h
  served_on device old reply FramesOut new h = absurd h

  run_event : (event : Event) (one units : ℕ) (old : Bare) (reply : Reply) (new : Bare) → as_said event ≡ Run one units
      → IsDone old event reply new → is_on new.equipped.machine.mode ≡ is_on old.equipped.machine.mode
  run_event (events.Run user asked) one units old reply new e h = ran_on asked old reply reply.ended new h
  run_event (events.Line user typed) one units old reply new e h = absurd (cc)
  run_event (events.Tick user) one units old reply new e h = absurd (cc)
  run_event (events.Serve user device) one units old reply new e h = absurd (cc)
  run_event (events.Deck user cards) one units old reply new e h = absurd (cc)
  run_event (events.Transfer user id to) one units old reply new e h = absurd (cc)

  serve_event : (event : Event) (one device : ℕ) (old : Bare) (reply : Reply) (new : Bare)
      → as_said event ≡ Serve one device → IsDone old event reply new
      → is_on new.equipped.machine.mode ≡ is_on old.equipped.machine.mode
  serve_event (events.Run user asked) one device old reply new e h = absurd (cc)
  serve_event (events.Line user typed) one device old reply new e h = absurd (cc)
  serve_event (events.Tick user) one device old reply new e h = absurd (cc)
  serve_event (events.Serve user served) one device old reply new e h = served_on served old reply reply.ended new h
  serve_event (events.Deck user cards) one device old reply new e h = absurd (cc)
  serve_event (events.Transfer user id to) one device old reply new e h = absurd (cc)

  at_all : (old new : Alone) → is_on new.machine.equipped.machine.mode ≡ is_on old.machine.equipped.machine.mode
      → (user : ℕ) → is_user_on (seen_in new) user ≡ is_user_on (seen_in old) user
  at_all old new e zero = e
  at_all old new e (suc user) = refl

  -- Events of a single machine turn it on or off only by a line.
  pub turns_its_own : TurnsItsOwn machine_goes
  turns_its_own = record {
    users = λ old said reply new h. (refl, refl);
    others = others_stay;
    runs = λ old one units reply new h. at_all old new
        (run_event h.event one units old.machine reply new.machine h.named h.applied.does);
    serves = λ old one device reply new h. at_all old new
        (serve_event h.event one device old.machine reply new.machine h.named h.applied.does);
  }

-- ---- devices

-- what an event does is a life of its own
once : EachIsLife → (old new : Bare) (event : Event) (reply : Reply) → IsApplied old event reply new
    → Lives as_reached (own_events old (record { event = event; reply = reply; left = new } ∷ [])) old.equipped
    new.equipped
once law old new event reply h = law old new (record { event = event; reply = reply; left = new } ∷ []) (h, refl)

numbered_at : EachIsLife → StartsAreNumbered → (old new : Alone) (event : Event) (reply : Reply)
    → IsApplied old.machine event reply new.machine → (user : ℕ) → user ≡ own →
    AllWorkSince (next_start (subchannels_at (seen_in old) user)) (subchannels_at (seen_in old) user)
    (subchannels_at (seen_in new) user)
numbered_at life law old new event reply h zero e =
    law as_reached (own_events old.machine (record { event = event; reply = reply; left = new.machine } ∷ []))
    old.machine.equipped new.machine.equipped (once life old.machine new.machine event reply h)
numbered_at life law old new event reply h (suc user) e = absurd (cc)

no_other : (old new : Alone) (user : ℕ) → (user ≡ own → ⊥)
    → subchannels_at (seen_in new) user ≡ subchannels_at (seen_in old) user
no_other old new zero other = absurd (other refl)
no_other old new (suc user) other = refl

named_own : (said : EventValue) (event : Event) → user_of event ≡ own → as_said event ≡ said → user_said said ≡ own
named_own said event e named = sym (user_same event ∙ ap user_said named) ∙ e

-- A single machine starts no device but its own.
pub starts_its_own : EachIsLife → StartsAreNumbered → StartsItsOwn machine_goes
starts_its_own life law = record {
  users = λ old said reply new h.
      ap (λ (addresses : List ℕ). record { name = bare; devices = addresses } ∷ []) h.addresses;
  others = λ old said reply new h user other. no_other old new user
      (λ e. other (e ∙ sym (named_own said h.event h.own h.named)));
  own = λ old said reply new h. numbered_at life law old new h.event reply h.applied (user_said said)
      (named_own said h.event h.own h.named);
}

-- Lines that the console has printed before, and entries of closed files that were written, do not
-- matter to what an event leaves of a machine.
use Rattle.std.specs.Prelude.{◌≡◌, ℕ, List}
use Rattle.machine_devices.specs.Forgotten.{equipped_having_printed, unprinted}
use Rattle.machine_devices.specs.Written.{Lost, equipped_having}
use Rattle.machine_devices.specs.declared.reply.Reply.{Reply}
use Rattle.bare_installation.specs.Bare.{Bare}
use Rattle.bare_installation.specs.Life.{IsApplied}
use Rattle.machine_devices.specs.declared.event.Event.{Event}

-- the machine that has printed these lines before its own, and whose closed files have the entries
-- that they have lost
abbrev pub bare_with : List (List ℕ) → Lost → Bare → Bare
bare_with lines lost b =
    record b { equipped = equipped_having_printed lines (equipped_having lost b.equipped) }

-- the machine that has printed nothing
abbrev pub forgotten : Bare → Bare
forgotten b = record b { equipped = unprinted b.equipped }

-- one machine goes on as another: all is the same, but it has lines and entries that are gone of
-- the other
pub record GoesOnAs (one other : Bare) : Type 0 where
  pub lines : List (List ℕ)
  pub lost : Lost
  pub same : one ≡ bare_with lines lost other

-- to go on as another is to be it, or to go on as one that does; and an event leaves of this
-- machine what it leaves of the other, with the same reply and with what is gone of that
pub record EventsGoOn : Type 0 where
  pub reflexive : (one : Bare) → GoesOnAs one one
  pub transitive : (one other last : Bare) → GoesOnAs one other → GoesOnAs other last
      → GoesOnAs one last
  pub events : (one other new : Bare) (event : Event) (reply : Reply)
      (same : GoesOnAs one other) → IsApplied other event reply new
      → IsApplied one event reply (bare_with same.lines same.lost new)
  pub forgets : (one : Bare) → GoesOnAs one (forgotten one)

-- Where memory may be refused, and what is left then.
use Rattle.std.specs.Prelude.{◌≡◌, ℕ, ◌<◌, ◌==◌, ◌&&◌, Bool, true, false, length, IsSome}
use Rattle.s370_subchannels.specs.Programs.{program_of}
use Rattle.machine_devices.specs.Comes.{LineMay, is_cut}
use Rattle.machine_devices.specs.Lines.{requested}
use Rattle.machine_devices.specs.Spooling.{deck_queued}
use Rattle.cp_core.specs.Keeps.{IsNoneKept}
use Rattle.cp_core.specs.Room.{LineHadFrames, ServeHadFrames}
use Rattle.cp_core.specs.Supply.{IsSuppliedInPart}
use Rattle.cp_core.specs.System.{SystemView, kept_at, machine_at, user_at, world_of}
use Rattle.machine_devices.specs.declared.event.Event.{Event}
use Rattle.machine_devices.specs.declared.event.Event.TheVariants.{Run, Line, Tick, Deck, Serve}
use Rattle.machine_devices.specs.declared.event.Event.TheVariants.{Transfer}

-- the events that may take memory: such lines of a machine with devices, decks, also one that is
-- moved, and a device that is served and works on a program, but for a minidisk's that is kept and
-- may run again
abbrev pub MayTakeMemory : SystemView → Event → Type 0
MayTakeMemory old (Run user asked) = ⊥
MayTakeMemory old (Line user typed) = LineMay (world_of old user) typed.now (user_at old user)
MayTakeMemory old (Tick user) = ⊥
MayTakeMemory old (Deck user cards) = 0 < length cards.now
MayTakeMemory old (Transfer user id to) = IsSome (deck_queued (user_at old user).devices id)
MayTakeMemory old (Serve user device) =
    IsSome (program_of device (machine_at old user).core.subchannels)
    × IsNoneKept device user (user_at old user) old.supply (kept_at old user)

-- a user whose own line is one of those, or whose device is served: nothing is said of his machine
-- then
abbrev pub is_cut_short : SystemView → Event → ℕ → Bool
is_cut_short old (Line named typed) user =
    (named == user) && is_cut (requested typed.now (user_at old named))
is_cut_short old (Run named asked) user = false
is_cut_short old (Tick named) user = false
is_cut_short old (Deck named cards) user = false
is_cut_short old (Transfer named id to) user = false
is_cut_short old (Serve named device) user = named == user

-- memory was refused to a serve or an IPL with room for the pages that it needs: one that has none
-- is out of frames
abbrev pub HadRoomFor : SystemView → Event → SystemView → Type 0
HadRoomFor old (Line user typed) new =
    LineHadFrames typed.now user (user_at old user) old.supply new.supply
HadRoomFor old (Serve user device) new =
    ServeHadFrames device user (user_at old user) old.supply new.supply
HadRoomFor old (Run user asked) new = Unit {0}
HadRoomFor old (Tick user) new = Unit {0}
HadRoomFor old (Deck user cards) new = Unit {0}
HadRoomFor old (Transfer user id to) new = Unit {0}

-- what is left where memory was refused: pages have come and left as the event lets them, and each
-- user is as he was, but for one whose own line closes files or is an IPL, or whose device is
-- served
pub record IsCutShort (old : SystemView) (event : Event) (new : SystemView) : Type 0 where
  pub may : MayTakeMemory old event
  pub roomy : HadRoomFor old event new
  pub supplied : IsSuppliedInPart old event new
  pub others : (user : ℕ) → is_cut_short old event user ≡ false
      → user_at new user ≡ user_at old user

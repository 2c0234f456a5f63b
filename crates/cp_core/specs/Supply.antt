-- What an event does to the frames and slots in which users' pages are. How pages come for units is
-- said by cp_dat/specs/Supplied.antt.
use Rattle.std.specs.Prelude.{◌≡◌, ℕ, ◌*◌, ◌<◌, ◌≤◌, ◌⊎◌, All, length, IsSome, Bool, true, false}
use Rattle.std.specs.Prelude.{List, [], ◌∷◌}
use Rattle.std.specs.List.{concat}
use Rattle.s370_channel.specs.Supplied.{EachSuch}
use Rattle.s370_intr.specs.Run.{AllNeeded, EachBrings}
use Rattle.s370_intr.specs.Laws.{begun}
use Rattle.cp_frames.specs.Layout.{FrameSupply, cleared_of, is_there}
use Rattle.cp_dat.specs.Copies.{times_in}
use Rattle.cp_dat.specs.Supplied.{HasSuch, IsBetweenUnits, IsBroughtInUnits}
use Rattle.machine_channels.specs.Channels.{load_times, serve_times}
use Rattle.machine_panel.specs.Machine.{Machine}
use Rattle.machine_devices.specs.Requests.{switches}
use Rattle.machine_panel.specs.Tick.{TickNeeds}
use Rattle.machine_devices.specs.Events.{user_of}
use Rattle.cp_core.specs.System.{SystemView, machine_at, user_at}
use Rattle.machine_devices.specs.Lines.{requested}
use Rattle.machine_devices.specs.Comes.{is_ipl}
use Rattle.cp_core.specs.Wants.{DeviceNeeds, LineWants}
use Rattle.machine_devices.specs.declared.reply.Ended.{Ended}
use Rattle.machine_devices.specs.declared.reply.Ended.TheVariants.{Ran, Served, Done, FramesOut}
use Rattle.machine_devices.specs.declared.event.Event.{Event}
use Rattle.machine_devices.specs.declared.event.Event.TheVariants.{Run, Line, Tick, Deck, Serve}
use Rattle.machine_devices.specs.declared.event.Event.TheVariants.{Transfer}

-- ---- no room

-- every slot is taken, and the page is in none
abbrev pub HasNoSlot : FrameSupply → ℕ → ℕ → Type 0
HasNoSlot supply user page = All IsSome supply.slots × (is_there supply.slots user page ≡ false)

-- every frame has a page of this user that is needed
abbrev pub NeedsAll : FrameSupply → ℕ → (ℕ → Type 0) → Type 0
NeedsAll supply user needs = (frame : ℕ) → frame < length supply.owners
    → HasSuch user needs supply.owners frame

-- there is no room for a page of a user of whom a line needs these: it is in no frame, and every
-- frame is taken; and there is no slot for what it would take the place of, or each frame has a
-- page that is needed too
pub record IsShort (supply : FrameSupply) (user : ℕ) (needs : ℕ → Type 0) (page : ℕ) : Type 0 where
  pub absent : is_there supply.owners user page ≡ false
  pub full : All IsSome supply.owners
  pub stuck : HasNoSlot supply user page ⊎ NeedsAll supply user needs

-- ---- pages that leave

-- the user's pages have left their frames and slots, and no other page has; the frames keep their
-- order
pub record IsGivenBack (user : ℕ) (old new : FrameSupply) : Type 0 where
  pub owners : new.owners ≡ cleared_of user old.owners
  pub slots : new.slots ≡ cleared_of user old.slots
  pub gone : (page : ℕ) → is_there new.owners user page ≡ false
  pub gone_slots : (page : ℕ) → is_there new.slots user page ≡ false
  pub order : new.order ≡ old.order
  pub page_ins : new.page_ins ≡ old.page_ins

-- whether an event switches a machine on or off, which gives back all the user's pages
abbrev pub gives_back : SystemView → Event → Bool
gives_back old (Run user asked) = false
gives_back old (Line user typed) = switches (requested typed.now (user_at old user))
gives_back old (Tick user) = false
gives_back old (Deck user cards) = false
gives_back old (Serve user device) = false
gives_back old (Transfer user id to) = false

-- ---- pages that come

-- the pages that a run brings
abbrev pub RunBrings : Machine → Ended → List (List ℕ) → Type 0
RunBrings m (Ran ran) units =
    EachBrings m.core 0 units × (length units ≤ begun ran.units ran.reason)
    × (length (concat units) ≤ 9 * begun ran.units ran.reason)
RunBrings m (Served done) units = ⊥
RunBrings m Done units = ⊥
RunBrings m FramesOut units = ⊥

-- there is one unit, and it needs all that it brings
abbrev pub OneBrings : (ℕ → Type 0) → List (List ℕ) → Type 0
OneBrings needs units = (pages : List ℕ) × (units ≡ pages ∷ []) × AllNeeded needs pages

-- the units bring what is needed, each page at most so often
pub record AreNeeded (needs : ℕ → Type 0) (most : ℕ) (units : List (List ℕ)) : Type 0 where
  pub such : EachSuch needs units
  pub often : (page : ℕ) → times_in page units ≤ most

-- a line brings as one unit what it needs, but that a loading brings it in units, each page at most
-- four times
abbrev pub LineBrings : Bool → (ℕ → Type 0) → List (List ℕ) → Type 0
LineBrings true needs units = AreNeeded needs load_times units
LineBrings false needs units = OneBrings needs units

-- what the units of an event may bring: each unit of a run, and the one that lacked a page, nine
-- pages that it needs; a line those of the bytes that it shows or changes, and of a loading page 0
-- and those that its program touches, each at most four times; a tick the page of the timer, of a
-- machine that runs; a deck that comes or is moved none; a serve those that the program of the
-- device needs, each at most twice
abbrev pub MayBring : SystemView → Event → Ended → List (List ℕ) → Type 0
MayBring old (Run user asked) ended units = RunBrings (machine_at old user) ended units
MayBring old (Line user typed) ended units =
    LineBrings (is_ipl (requested typed.now (user_at old user)))
    (LineWants typed.now (user_at old user)) units
MayBring old (Tick user) ended units = OneBrings (TickNeeds (machine_at old user)) units
    × (length (concat units) ≤ 1)
MayBring old (Deck user cards) ended units = units ≡ []
MayBring old (Transfer user id to) ended units = units ≡ []
MayBring old (Serve user device) ended units =
    AreNeeded (DeviceNeeds device (user_at old user)) serve_times units

-- pages came as an event's units may bring them, and no others
abbrev pub IsBroughtBy : SystemView → Event → Ended → SystemView → Type 0
IsBroughtBy old event ended new =
    (units : List (List ℕ)) × IsBroughtInUnits (user_of event) units old.supply new.supply
    × MayBring old event ended units

-- ---- an event

-- no frame is pinned before or after an event; where the user's machine is switched on or off, all
-- his pages are given back, and else only pages that its units need are brought
pub record IsSupplied (old : SystemView) (event : Event) (ended : Ended)
    (new : SystemView) : Type 0 where
  pub between_before : IsBetweenUnits old.supply
  pub between : IsBetweenUnits new.supply
  pub given_back : gives_back old event ≡ true → IsGivenBack (user_of event) old.supply new.supply
  pub brought : gives_back old event ≡ false → IsBroughtBy old event ended new

-- the same where memory was refused, which may be before all pages are given back
pub record IsSuppliedInPart (old : SystemView) (event : Event) (new : SystemView) : Type 0 where
  pub between_before : IsBetweenUnits old.supply
  pub between : IsBetweenUnits new.supply
  pub given_back : gives_back old event ≡ true
      → IsGivenBack (user_of event) old.supply new.supply ⊎ (new.supply ≡ old.supply)
  pub brought : gives_back old event ≡ false → IsBroughtBy old event Done new

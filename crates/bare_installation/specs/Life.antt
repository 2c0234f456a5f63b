-- What an event does to a machine with its devices, and how its life is made of what happens to it
-- alone.
use Rattle.std.specs.Prelude.{ℕ, ◌≡◌, ◌<◌, ◌-◌, true, List, [], ◌∷◌, ◌++◌, length, None, IsSome}
use Rattle.s370_channel.specs.declared.running.ChannelError.TheVariants as errors
use Rattle.s370_channel.specs.Reading.{as_reached}
use Rattle.machine_panel.specs.Run.{notice_of, run}
use Rattle.machine_panel.specs.Tick.{ticked}
use Rattle.machine_devices.specs.Comes.{LineMay}
use Rattle.machine_devices.specs.Attention.{AttentionAgrees}
use Rattle.machine_devices.specs.Coming.{comes_by_line, comes_by_transfer, comes_from_operator}
use Rattle.machine_devices.specs.Coming.{coming_of}
use Rattle.machine_devices.specs.declared.reply.UserResponse.TheVariants.{Nothing}
use Rattle.machine_devices.specs.declared.reply.Delivery.{Delivery}
use Rattle.machine_devices.specs.declared.reply.Ended.{Ended}
use Rattle.machine_devices.specs.declared.reply.Ended.TheVariants.{Ran, Served, Done}
use Rattle.machine_devices.specs.declared.reply.Reply.{Reply}
use Rattle.machine_devices.specs.Life.{Event as Local, Units, Serve as Serves, Line as Types}
use Rattle.machine_devices.specs.Life.{Tick as Ticks, Purge as Purges, Lives}
use Rattle.machine_devices.specs.Notes.{next_file}
use Rattle.machine_devices.specs.Replies.{given, moved, saying}
use Rattle.machine_devices.specs.Spooling.{deck_queued}
use Rattle.machine_devices.specs.Serve.{IsServedAt}
use Rattle.machine_devices.specs.Stopped.{StopsAt}
use Rattle.machine_devices.specs.declared.event.Event.{Event}
use Rattle.machine_devices.specs.declared.event.Event.TheVariants as events
use Rattle.bare_installation.specs.Bare.{Bare, IsTyped, with_deck, with_deck_moved, world_of}

-- ---- what an event leaves, and what is reported

-- a run of the machine, and its reply
abbrev pub IsRun : ℕ → Bare → Reply → Ended → Bare → Type 0
IsRun count old reply (Ran ran) new =
    (run count old.equipped.machine
    ≡ record {
      machine = new.equipped.machine;
      units = ran.units;
      reason = ran.reason;
      notice = notice_of ran.reason;
    })
    × (new.equipped.devices ≡ old.equipped.devices)
    × (new.equipped.disks ≡ old.equipped.disks)
    × (new.files ≡ old.files)
    × (reply.said ≡ saying (notice_of ran.reason))
    × (reply.delivered ≡ None)
IsRun count old reply other new = ⊥

-- a typed line, and its reply
abbrev pub IsAnswer : List ℕ → Bare → Reply → Ended → Bare → Type 0
IsAnswer typed old reply Done new = IsTyped typed old reply new
IsAnswer typed old reply other new = ⊥

-- a serve of a device, and its reply
abbrev pub IsService : ℕ → Bare → Reply → Ended → Bare → Type 0
IsService device old reply (Served done) new =
    IsServedAt as_reached device old.equipped done new.equipped × (new.files ≡ old.files)
    × (reply.said ≡ Nothing) × (reply.delivered ≡ None)
IsService device old reply other new = ⊥

-- a tick of the interval timer, and its reply
abbrev pub IsTicked : Bare → Reply → Ended → Bare → Type 0
IsTicked old reply Done new =
    (new.equipped.machine ≡ ticked old.equipped.machine)
    × (new.equipped.devices ≡ old.equipped.devices)
    × (new.equipped.disks ≡ old.equipped.disks)
    × (new.files ≡ old.files)
    × (reply.said ≡ Nothing)
    × (reply.delivered ≡ None)
IsTicked old reply other new = ⊥

-- a deck for the reader, and its reply
abbrev pub IsGiven : List (List ℕ) → Bare → Reply → Ended → Bare → Type 0
IsGiven cards old reply Done new =
    (new ≡ with_deck cards old) × (reply.said ≡ Nothing)
    × (reply.delivered ≡ given 0 (next_file old.files) cards)
IsGiven cards old reply other new = ⊥

-- a deck that is moved, and its reply
abbrev pub IsMoved : ℕ → Bare → Reply → Ended → Bare → Type 0
IsMoved id old reply Done new =
    (new ≡ with_deck_moved id old) × (reply.said ≡ Nothing)
    × (reply.delivered ≡ moved 0 (next_file old.files) (deck_queued old.equipped.devices id))
IsMoved id old reply other new = ⊥

-- each event ends in its own way
abbrev pub IsDone : Bare → Event → Reply → Bare → Type 0
IsDone old (events.Run user count) reply new = IsRun count old reply reply.ended new
IsDone old (events.Line user typed) reply new = IsAnswer typed.now old reply reply.ended new
IsDone old (events.Serve user device) reply new = IsService device old reply reply.ended new
IsDone old (events.Tick user) reply new = IsTicked old reply reply.ended new
IsDone old (events.Deck user cards) reply new = IsGiven cards.now old reply reply.ended new
IsDone old (events.Transfer user id to) reply new = IsMoved id old reply reply.ended new

-- and the reply says how many lines have joined the console
pub record IsApplied (old : Bare) (event : Event) (reply : Reply) (new : Bare) : Type 0 where
  pub does : IsDone old event reply new
  pub lines : reply.lines ≡ length new.equipped.machine.output - length old.equipped.machine.output

-- ---- where memory may be refused

-- the device of this address has a program that comes to a command that needs memory, or a
-- console's finishes lines to be printed
abbrev pub LacksMemory : ℕ → Bare → Type 0
LacksMemory device old = StopsAt as_reached (λ page. true) device old.equipped errors.Memory

-- a run and a tick take no memory; a line takes some only where one to a machine with devices may,
-- cards where there are any, and a deck that is moved where it is queued
abbrev pub MayLackMemory : Bare → Event → Type 0
MayLackMemory old (events.Run user count) = ⊥
MayLackMemory old (events.Line user typed) =
    LineMay (world_of old) typed.now old.equipped
MayLackMemory old (events.Serve user device) = LacksMemory device old
MayLackMemory old (events.Tick user) = ⊥
MayLackMemory old (events.Deck user cards) = 0 < length cards.now
MayLackMemory old (events.Transfer user id to) = IsSome (deck_queued old.equipped.devices id)

-- ---- one event after another

-- an event, its reply, and the machine that it leaves
pub record Step : Type 0 where
  pub event : Event
  pub reply : Reply
  pub left : Bare

-- one step after another leads from the first machine to the last
abbrev pub IsHistory : Bare → List Step → Bare → Type 0
IsHistory first [] last = last ≡ first
IsHistory first (step ∷ steps) last = IsApplied first step.event step.reply step.left
    × IsHistory step.left steps last

-- ---- what happens to the machine with devices alone: the event, and then what comes to its own
-- user by it

-- of a deck only that it comes
abbrev pub happens : Bare → Event → List Local
happens old (events.Run user count) = Units count ∷ []
happens old (events.Line user typed) = Types (world_of old) typed.now ∷ []
happens old (events.Serve user device) = Serves device ∷ []
happens old (events.Tick user) = Ticks ∷ []
happens old (events.Deck user cards) = []
happens old (events.Transfer user id to) = Purges id ∷ []

-- the file that the punch closed is the first after those of before
abbrev pub coming : Bare → Event → Bare → Delivery → Local
coming old (events.Line user typed) left =
    comes_by_line 0 (length old.equipped.devices.punched) left.equipped
coming old (events.Deck user cards) left = comes_from_operator cards.now
coming old (events.Run user count) left = comes_from_operator []
coming old (events.Serve user device) left = comes_from_operator []
coming old (events.Tick user) left = comes_from_operator []
coming old (events.Transfer user id to) left = comes_by_transfer id old.equipped

-- the events of the machine itself, in order
abbrev pub own : Bare → List Step → List Local
own first [] = []
own first (step ∷ steps) =
    (happens first step.event ++ coming_of (coming first step.event step.left) step.reply.delivered)
    ++ own step.left steps

-- whatever happened: the machine with its devices is what its own events leave, in order
abbrev pub EachIsLife : Type 0
EachIsLife = (first last : Bare) (steps : List Step) → IsHistory first steps last →
    Lives as_reached (own first steps) first.equipped last.equipped

-- ---- attention

-- whatever happened to a machine in which attention agreed with the lines that wait: it agrees
abbrev pub AttentionAgreesThroughout : Type 0
AttentionAgreesThroughout = (first last : Bare) (steps : List Step) →
    AttentionAgrees first.equipped → IsHistory first steps last → AttentionAgrees last.equipped

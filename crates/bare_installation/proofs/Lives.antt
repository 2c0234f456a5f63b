-- The life of a machine with its devices, event by event.
use Rattle.std.proofs.Common.{◌≡◌, ℕ, List, [], ◌∷◌, ◌++◌, length, Option, Some, None, refl, sym, ◌∙◌, ap, subst}
use Rattle.std.specs.Prelude.{slice_get}
use Rattle.unit_record.specs.declared.reader.Sender.TheVariants as senders
use Rattle.unit_record.specs.Output.{FileValue}
use Rattle.s370_channel.specs.Reading.{as_reached}
use Rattle.cp_spool.specs.Queues.{cards_of}
use Rattle.machine_panel.specs.Run.{MachineRun}
use Rattle.machine_devices.specs.declared.reply.Delivered.{Delivered}
use Rattle.machine_devices.specs.declared.reply.Delivery.{Delivery}
use Rattle.machine_devices.specs.declared.reply.Delivery.TheVariants as deliveries
use Rattle.machine_devices.specs.declared.reply.Ended.{Ended}
use Rattle.machine_devices.specs.declared.reply.Ended.TheVariants.{Ran, Served, Done, FramesOut}
use Rattle.machine_devices.specs.declared.reply.Reply.{Reply}
use Rattle.machine_devices.specs.Coming.{comes_by_line, comes_by_transfer, comes_from_operator, coming_of}
use Rattle.machine_devices.specs.Equipped.{Equipped}
use Rattle.machine_devices.specs.Life.{Event as Local, Units, Serve as Serves, Line as Types, Tick as Ticks}
use Rattle.machine_devices.specs.Life.{Deck as Gets, Purge as Purges, Leaves, Lives}
use Rattle.machine_devices.specs.Notes.{next_file}
use Rattle.machine_devices.specs.Replies.{moved}
use Rattle.machine_devices.specs.Spooling.{deck_queued, renumbered, with_deck_purged, with_deck_queued}
use Rattle.machine_devices.proofs.Moved.{none_purged}
use Rattle.unit_record.specs.Reader.{DeckValue}
use Rattle.machine_devices.specs.declared.event.Event.{Event}
use Rattle.machine_devices.specs.declared.event.Event.TheVariants as events
use Rattle.bare_installation.specs.Bare.{Bare, IsTyped, deck_moved_on, world_of}
use Rattle.bare_installation.specs.Life.{AttentionAgreesThroughout, EachIsLife, IsDone, IsAnswer, IsGiven, IsMoved}
use Rattle.bare_installation.specs.Life.{IsRun}
use Rattle.bare_installation.specs.Life.{IsService, IsTicked, coming, happens, own}
use Rattle.machine_devices.proofs.Attention.{goes_on_agreeing}

-- events and then more events
lives_on : (es fs : List Local) (a b c : Equipped) → Lives as_reached es a b → Lives as_reached fs b c
    → Lives as_reached (es ++ fs) a c
lives_on [] fs a b c h g = subst (λ (e : Equipped). Lives as_reached fs e c) h g
lives_on (e ∷ es) fs a b c h g = (h.0, h.1, lives_on es fs h.0 b c h.2 g)

-- one event, by which nothing is delivered
alone : (e : Local) (c : Delivery → Local) (d : Option Delivered) (a b : Equipped) → d ≡ None → Leaves as_reached e a b
    → Lives as_reached (e ∷ [] ++ coming_of c d) a b
alone e c d a b none h =
    subst (λ (x : Option Delivered). Lives as_reached (e ∷ [] ++ coming_of c x) a b) (sym none) (b, h, refl)

-- ---- what comes leaves the punch

punch_kept : (index : ℕ) (e : Equipped) (what : Delivery) (old new : Equipped)
    → Leaves as_reached (comes_by_line 0 index e what) old new → new.devices.punched ≡ old.devices.punched
punch_kept index e (deliveries.Deck number) old new h = ap (λ (x : Equipped). x.devices.punched) h
punch_kept index e (deliveries.Message line) old new h = ap (λ (x : Equipped). x.devices.punched) h

deck_from : ℕ → ℕ → List FileValue → Local
deck_from index number files =
    Gets (record { label = number; sender = senders.User 0; cards = cards_of (slice_get files index) })

comes_same : (index : ℕ) (e e' : Equipped) (what : Delivery) → e.devices.punched ≡ e'.devices.punched
    → comes_by_line 0 index e what ≡ comes_by_line 0 index e' what
unfolding deck_from
comes_same index e e' (deliveries.Deck number) same = ap (deck_from index number) same
comes_same index e e' (deliveries.Message line) same = refl

paged_in : (index : ℕ) (d : Option Delivered) (a b : Equipped)
    → Lives as_reached (coming_of (comes_by_line 0 index a) d) a b
    → Lives as_reached (coming_of (comes_by_line 0 index b) d) a b
paged_in index None a b h = h
paged_in index (Some d) a b h =
    let stays : b.devices.punched ≡ a.devices.punched =
    ap (λ (e : Equipped). e.devices.punched) h.2 ∙ punch_kept index a d.what a h.0 h.1 in
    (h.0, subst (λ (l : Local). Leaves as_reached l a h.0) (comes_same index a b d.what (sym stays)) h.1, h.2)

-- ---- one event

abbrev Once : Bare → Event → Reply → Bare → Type 0
Once old event reply new =
    Lives as_reached (happens old event ++ coming_of (coming old event new) reply.delivered) old.equipped new.equipped

run_once : (user count : ℕ) (old new : Bare) (reply : Reply) (ended : Ended) → IsRun count old reply ended new
    → Once old (events.Run user count) reply new
run_once user count old new reply (Ran ran) h =
    alone (Units count) (comes_from_operator []) reply.delivered old.equipped new.equipped h.5
    (sym (ap (λ (r : MachineRun). r.machine) h.0), h.1, h.2)
run_once user count old new reply (Served done) h = absurd h
run_once user count old new reply Done h = absurd h
run_once user count old new reply FramesOut h = absurd h

serve_once : (user device : ℕ) (old new : Bare) (reply : Reply) (ended : Ended) → IsService device old reply ended new
    → Once old (events.Serve user device) reply new
serve_once user device old new reply (Served done) h =
    alone (Serves device) (comes_from_operator []) reply.delivered old.equipped new.equipped h.3 (done, h.0)
serve_once user device old new reply (Ran ran) h = absurd h
serve_once user device old new reply Done h = absurd h
serve_once user device old new reply FramesOut h = absurd h

tick_once : (user : ℕ) (old new : Bare) (reply : Reply) (ended : Ended) → IsTicked old reply ended new
    → Once old (events.Tick user) reply new
tick_once user old new reply Done h =
    alone Ticks (comes_from_operator []) reply.delivered old.equipped new.equipped h.5 (h.0, h.1, h.2)
tick_once user old new reply (Ran ran) h = absurd h
tick_once user old new reply (Served done) h = absurd h
tick_once user old new reply FramesOut h = absurd h

line_lives : (typed : List ℕ) (old new : Bare) (reply : Reply) → IsTyped typed old reply new
    → Lives as_reached (Types (world_of old) typed ∷ []
    ++ coming_of (comes_by_line 0 (length old.equipped.devices.punched) new.equipped) reply.delivered) old.equipped
    new.equipped
line_lives typed old new reply h = (
  h.tells.answered,
  (h.tells.reported, h.tells.line),
  paged_in (length old.equipped.devices.punched) reply.delivered h.tells.answered new.equipped h.come,
)

line_once : (typed : List ℕ) (old new : Bare) (reply : Reply) (ended : Ended) → IsAnswer typed old reply ended new
    → Lives as_reached (Types (world_of old) typed ∷ []
    ++ coming_of (comes_by_line 0 (length old.equipped.devices.punched) new.equipped) reply.delivered) old.equipped
    new.equipped
line_once typed old new reply Done h = line_lives typed old new reply h
line_once typed old new reply (Ran ran) h = absurd h
line_once typed old new reply (Served done) h = absurd h
line_once typed old new reply FramesOut h = absurd h

deck_once : (cards : List (List ℕ)) (old new : Bare) (reply : Reply) (ended : Ended) → IsGiven cards old reply ended new
    → Lives as_reached ([] ++ coming_of (comes_from_operator cards) reply.delivered) old.equipped new.equipped
deck_once [] old new reply Done h =
    subst (λ (x : Option Delivered). Lives as_reached (coming_of (comes_from_operator []) x) old.equipped new.equipped)
    (sym h.2) (ap (λ (i : Bare). i.equipped) h.0)
deck_once (card ∷ cards) old new reply Done h =
    subst (λ (x : Option Delivered).
    Lives as_reached (coming_of (comes_from_operator (card ∷ cards)) x) old.equipped new.equipped) (sym h.2)
    (new.equipped, ap (λ (i : Bare). i.equipped) h.0, refl)
deck_once cards old new reply (Ran ran) h = absurd h
deck_once cards old new reply (Served done) h = absurd h
deck_once cards old new reply FramesOut h = absurd h

-- the deck of this number is withdrawn, and what is moved of it comes
moved_on : (id : ℕ) (found : Option DeckValue) (old : Bare) → deck_queued old.equipped.devices id ≡ found
    → Lives as_reached (Purges id ∷ [] ++ coming_of (comes_by_transfer id old.equipped)
    (moved 0 (next_file old.files) found)) old.equipped (deck_moved_on id found old).equipped
moved_on id None old is = (old.equipped, none_purged id old.equipped is, refl)
moved_on id (Some deck) old is =
    let middle : Equipped = record old.equipped { devices = with_deck_purged old.equipped.devices id } in
    let last = (deck_moved_on id (Some deck) old).equipped in
    let queued = (λ (o : Option DeckValue).
    record middle { devices = with_deck_queued middle.devices (renumbered (next_file old.files) o) }) in
    (middle, refl, (last, ap queued (sym is), refl))

transfer_once : (user id to : ℕ) (old new : Bare) (reply : Reply) (ended : Ended) → IsMoved id old reply ended new
    → Once old (events.Transfer user id to) reply new
transfer_once user id to old new reply Done h =
    let found = deck_queued old.equipped.devices id in
    subst (λ (x : Option Delivered). Lives as_reached (Purges id ∷ []
    ++ coming_of (comes_by_transfer id old.equipped) x) old.equipped new.equipped) (sym h.2)
    (subst (λ (b : Bare). Lives as_reached (Purges id ∷ [] ++ coming_of (comes_by_transfer id old.equipped)
    (moved 0 (next_file old.files) found)) old.equipped b.equipped) (sym h.0) (moved_on id found old refl))
transfer_once user id to old new reply (Ran ran) h = absurd h
transfer_once user id to old new reply (Served done) h = absurd h
transfer_once user id to old new reply FramesOut h = absurd h

once : (old new : Bare) (event : Event) (reply : Reply) → IsDone old event reply new → Once old event reply new
once old new (events.Run user count) reply h = run_once user count old new reply reply.ended h
once old new (events.Line user typed) reply h = line_once typed.now old new reply reply.ended h
once old new (events.Serve user device) reply h = serve_once user device old new reply reply.ended h
once old new (events.Tick user) reply h = tick_once user old new reply reply.ended h
once old new (events.Deck user cards) reply h = deck_once cards.now old new reply reply.ended h
once old new (events.Transfer user id to) reply h = transfer_once user id to old new reply reply.ended h

-- Each event is a step of the machine's life.
pub each : EachIsLife
each first last [] h = ap (λ (i : Bare). i.equipped) h
each first last (step ∷ steps) h =
    lives_on (happens first step.event ++ coming_of (coming first step.event step.left) step.reply.delivered)
    (own step.left steps) first.equipped step.left.equipped last.equipped
    (once first step.left step.event step.reply h.0.does) (each step.left last steps h.1)

-- and so attention agrees
pub throughout : AttentionAgreesThroughout
throughout first last steps agrees h =
    goes_on_agreeing as_reached (own first steps) first.equipped last.equipped agrees (each first last steps h)

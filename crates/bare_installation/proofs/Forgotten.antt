-- Lines that were printed before, and entries of closed files, do not matter to a single machine.
use Rattle.std.specs.Prelude.{◌-◌}
use Rattle.std.proofs.Common.{◌≡◌, ◌∙◌, ℕ, List, [], ◌∷◌, ◌++◌}
use Rattle.std.proofs.Common.{Option, Some}
use Rattle.std.proofs.Common.{None, ap, append_assoc, append-nil, arith, length, length-append, refl, subst, sym}
use Rattle.s370_channel.specs.Reading.{as_reached}
use Rattle.unit_record.specs.declared.reader.Sender.TheVariants as senders
use Rattle.unit_record.specs.Output.{FileValue}
use Rattle.unit_record.specs.Reader.{DeckValue}
use Rattle.cp_spool.specs.Queues.{cards_of}
use Rattle.machine_panel.specs.Forgotten.{run_having_printed}
use Rattle.machine_panel.proofs.Forgotten.{do_not_matter}
use Rattle.machine_panel.specs.Machine.{Machine}
use Rattle.machine_devices.specs.Coming.{comes_by_line, coming_of}
use Rattle.machine_devices.specs.Devices.{DevicesValue}
use Rattle.machine_devices.specs.Equipped.{Equipped}
use Rattle.machine_devices.specs.Forgotten.{equipped_having_printed}
use Rattle.machine_devices.specs.Life.{Deck as Gets, Event as Local, Line as Types, Lives}
use Rattle.machine_devices.specs.Spooling.{deck_punched, deck_queued}
use Rattle.machine_devices.specs.Written.{AreClosedAfter, Lost, devices_having, equipped_having}
use Rattle.machine_devices.specs.Written.{with_entries}
use Rattle.machine_devices.specs.declared.files.FileNote.{FileNote}
use Rattle.machine_devices.specs.declared.reply.Delivered.{Delivered}
use Rattle.machine_devices.specs.declared.reply.Delivery.{Delivery}
use Rattle.machine_devices.specs.declared.reply.Delivery.TheVariants as deliveries
use Rattle.machine_devices.specs.declared.reply.Ended.{Ended}
use Rattle.machine_devices.specs.declared.reply.Ended.TheVariants.{Ran, Served, Done, FramesOut}
use Rattle.machine_devices.specs.declared.reply.Reply.{Reply}
use Rattle.machine_devices.specs.Notes.{closed_by, next_file}
use Rattle.machine_devices.specs.Replies.{delivered_by}
use Rattle.machine_devices.proofs.Forgotten as printed
use Rattle.machine_devices.proofs.Lost.{found_after, lost_twice, with_none, with_twice}
use Rattle.machine_devices.proofs.Written as written
use Rattle.machine_devices.proofs.Written.{leaves_stay, length_with}
use Rattle.bare_installation.specs.Bare.{Bare, IsTyped, deck_moved_on, with_deck, world_of}
use Rattle.bare_installation.specs.Forgotten.{EventsGoOn, GoesOnAs, bare_with, forgotten}
use Rattle.bare_installation.specs.Life.{IsAnswer, IsApplied, IsDone, IsGiven, IsMoved, IsRun, IsService, IsTicked}
use Rattle.machine_devices.specs.declared.event.Event.{Event}
use Rattle.machine_devices.specs.declared.event.Event.TheVariants as events

module _ (gone : List (List ℕ)) (lost : Lost) where
  abbrev having : Equipped → Equipped
  having e = equipped_having_printed gone (equipped_having lost e)

  abbrev wide : Bare → Bare
  wide b = bare_with gone lost b

  run_so : (count : ℕ) (old new : Bare) (reply : Reply) (ended : Ended) → IsRun count old reply ended new
      → IsRun count (wide old) reply ended (wide new)
  run_so count old new reply (Ran ran) h = (
    (do_not_matter gone old.equipped.machine).runs count ∙ ap (run_having_printed gone) h.0,
    ap (devices_having lost) h.1,
    h.2,
    h.3,
    h.4,
    h.5,
  )
  run_so count old new reply (Served done) h = absurd h
  run_so count old new reply Done h = absurd h
  run_so count old new reply FramesOut h = absurd h

  -- a deck that a line has punched is the same
  comes_same : (old answered : Equipped) (what : Delivery)
      → AreClosedAfter old.devices.punched answered.devices.punched
      → comes_by_line 0 (length (having old).devices.punched) (having answered) what
      ≡ comes_by_line 0 (length old.devices.punched) answered what
  comes_same old answered (deliveries.Message line) stay = refl
  comes_same old answered (deliveries.Deck number) stay =
      ap (λ (index : ℕ). Gets (deck_punched (having answered).devices index number (senders.User 0)))
      (length_with lost.punched old.devices.punched)
      ∙ ap (λ (file : Option FileValue).
      let d : DeckValue = record { label = number; sender = senders.User 0; cards = cards_of file } in Gets d)
      (found_after lost.punched old.devices.punched answered.devices.punched stay)

  coming_same : (old answered : Equipped) (delivered : Option Delivered)
      → AreClosedAfter old.devices.punched answered.devices.punched
      → coming_of (comes_by_line 0 (length (having old).devices.punched) (having answered)) delivered
      ≡ coming_of (comes_by_line 0 (length old.devices.punched) answered) delivered
  coming_same old answered None stay = refl
  coming_same old answered (Some delivered) stay =
      ap (λ (event : Local). event ∷ []) (comes_same old answered delivered.what stay)

  closed_same : (e f : Equipped) → closed_by 0 e f ≡ closed_by 0 (having e) (having f)
  closed_same e f =
      rw (
        length_with lost.punched e.devices.punched,
        length_with lost.printed e.devices.printed,
        length_with lost.punched f.devices.punched,
        length_with lost.printed f.devices.printed,
      ) refl

  typed_so : (typed : List ℕ) (old : Bare) (reply : Reply) (new : Bare) → IsTyped typed old reply new
      → IsTyped typed (wide old) reply (wide new)
  typed_so typed old reply new h =
      let e = old.equipped in
      let answered = h.tells.answered in
      let coming = coming_of (comes_by_line 0 (length e.devices.punched) answered) reply.delivered in
      let stay = (leaves_stay as_reached (Types (world_of old) typed) e answered (h.tells.reported, h.tells.line)).0 in
      let lived = printed.lives gone as_reached coming (equipped_having lost answered)
      (equipped_having lost new.equipped) (written.lives lost as_reached coming answered new.equipped h.come) in
      let number = next_file old.files in
      let before = length e.devices.punched in
      let reported = h.tells.reported in
      let same = ap (λ (count : ℕ). delivered_by 1 number count reported (having answered))
      (length_with lost.punched e.devices.punched)
      ∙ printed.delivered_so gone 1 number before reported (equipped_having lost answered)
      ∙ written.delivered_so lost 1 number before reported answered in
      record {
        tells = record {
          reported = reported;
          answered = having answered;
          line = printed.line_so gone (world_of old) typed (equipped_having lost e) reported
              (equipped_having lost answered)
              (written.line_so lost (world_of old) typed e reported answered h.tells.line);
          said = h.tells.said;
          delivered = h.tells.delivered ∙ sym same;
        };
        come = subst (λ (events : List Local). Lives as_reached events (having answered)
            (having new.equipped)) (sym (coming_same e answered reply.delivered stay)) lived;
        files = h.files ∙ ap (λ (notes : List FileNote). old.files ++ notes) (closed_same e answered);
      }

  answer_so : (typed : List ℕ) (old new : Bare) (reply : Reply) (ended : Ended) → IsAnswer typed old reply ended new
      → IsAnswer typed (wide old) reply ended (wide new)
  answer_so typed old new reply Done h = typed_so typed old reply new h
  answer_so typed old new reply (Ran ran) h = absurd h
  answer_so typed old new reply (Served done) h = absurd h
  answer_so typed old new reply FramesOut h = absurd h

  service_so : (device : ℕ) (old new : Bare) (reply : Reply) (ended : Ended) → IsService device old reply ended new
      → IsService device (wide old) reply ended (wide new)
  service_so device old new reply (Served done) h = (
    printed.served_so gone as_reached device (equipped_having lost old.equipped) done
        (equipped_having lost new.equipped)
        (written.served_so lost as_reached device old.equipped done new.equipped h.0),
    h.1,
    h.2,
    h.3,
  )
  service_so device old new reply (Ran ran) h = absurd h
  service_so device old new reply Done h = absurd h
  service_so device old new reply FramesOut h = absurd h

  tick_so : (old new : Bare) (reply : Reply) (ended : Ended) → IsTicked old reply ended new
      → IsTicked (wide old) reply ended (wide new)
  tick_so old new reply Done h =
      let longer = λ (m : Machine). let x : Machine = record m { output = gone ++ m.output } in x in (
        ap longer h.0 ∙ sym (do_not_matter gone old.equipped.machine).ticks,
        ap (devices_having lost) h.1,
        h.2,
        h.3,
        h.4,
        h.5,
      )
  tick_so old new reply (Ran ran) h = absurd h
  tick_so old new reply (Served done) h = absurd h
  tick_so old new reply FramesOut h = absurd h

  deck_so : (cards : List (List ℕ)) (b : Bare) → wide (with_deck cards b) ≡ with_deck cards (wide b)
  deck_so [] b = refl
  deck_so (card ∷ cards) b = refl

  given_so : (cards : List (List ℕ)) (old new : Bare) (reply : Reply) (ended : Ended)
      → IsGiven cards old reply ended new
      → IsGiven cards (wide old) reply ended (wide new)
  given_so cards old new reply Done h = (ap wide h.0 ∙ deck_so cards old, h.1, h.2)
  given_so cards old new reply (Ran ran) h = absurd h
  given_so cards old new reply (Served done) h = absurd h
  given_so cards old new reply FramesOut h = absurd h

  moved_so : (id : ℕ) (found : Option DeckValue) (b : Bare)
      → wide (deck_moved_on id found b) ≡ deck_moved_on id found (wide b)
  moved_so id None b = refl
  moved_so id (Some deck) b = refl

  transfer_so : (id : ℕ) (old new : Bare) (reply : Reply) (ended : Ended) → IsMoved id old reply ended new
      → IsMoved id (wide old) reply ended (wide new)
  transfer_so id old new reply Done h =
      (ap wide h.0 ∙ moved_so id (deck_queued old.equipped.devices id) old, h.1, h.2)
  transfer_so id old new reply (Ran ran) h = absurd h
  transfer_so id old new reply (Served done) h = absurd h
  transfer_so id old new reply FramesOut h = absurd h

  done_so : (event : Event) (old new : Bare) (reply : Reply) → IsDone old event reply new
      → IsDone (wide old) event reply (wide new)
  done_so (events.Run user count) old new reply h = run_so count old new reply reply.ended h
  done_so (events.Line user typed) old new reply h = answer_so typed.now old new reply reply.ended h
  done_so (events.Serve user device) old new reply h = service_so device old new reply reply.ended h
  done_so (events.Tick user) old new reply h = tick_so old new reply reply.ended h
  done_so (events.Deck user cards) old new reply h = given_so cards.now old new reply reply.ended h
  done_so (events.Transfer user id to) old new reply h = transfer_so id old new reply reply.ended h

  applied_so : (old new : Bare) (event : Event) (reply : Reply) → IsApplied old event reply new
      → IsApplied (wide old) event reply (wide new)
  applied_so old new event reply h =
      let before = length-append gone old.equipped.machine.output in
      let after = length-append gone new.equipped.machine.output in
      record { does = done_so event old new reply h.does; lines = omega (arith, h.lines, before, after) }

-- ---- one machine goes on as another

-- the machine with its devices, with these lines and closed files
abbrev at_machine : Bare → List (List ℕ) → List FileValue → List FileValue → Bare
at_machine b lines punched printed =
    let e : Equipped = record b.equipped {
      machine = record b.equipped.machine { output = lines };
      devices = record b.equipped.devices { punched = punched; printed = printed };
    } in
    record b { equipped = e }

abbrev nothing : Lost
nothing = record { punched = []; printed = [] }

none_lost : (b : Bare) (lines : List (List ℕ)) → (let d = b.equipped.devices in
    at_machine b lines d.punched d.printed
    ≡ at_machine b lines (with_entries [] d.punched) (with_entries [] d.printed))
none_lost b lines =
    let d = b.equipped.devices in
    ap (λ (files : List FileValue). at_machine b lines files d.printed) (sym (with_none d.punched))
    ∙ ap (λ (files : List FileValue). at_machine b lines (with_entries [] d.punched) files) (sym (with_none d.printed))

abbrev both_of : Lost → Lost → Lost
both_of first second = record {
  punched = lost_twice first.punched second.punched;
  printed = lost_twice first.printed second.printed;
}

with_both : (lines more : List (List ℕ)) (first second : Lost) (b : Bare)
    → bare_with lines first (bare_with more second b) ≡ bare_with (lines ++ more) (both_of first second) b
with_both lines more first second b =
    let d = b.equipped.devices in
    let output = lines ++ (more ++ b.equipped.machine.output) in
    let printed = with_entries first.printed (with_entries second.printed d.printed) in
    let both = both_of first second in
    ap (λ (files : List FileValue). at_machine b output files printed)
    (with_twice d.punched first.punched second.punched)
    ∙ ap (λ (files : List FileValue). at_machine b output (with_entries both.punched d.punched) files)
    (with_twice d.printed first.printed second.printed)
    ∙ ap (λ (all : List (List ℕ)). at_machine b all (with_entries both.punched d.punched)
    (with_entries both.printed d.printed)) (sym (append_assoc lines more b.equipped.machine.output))

-- Lines that were printed before, and entries of closed files, do not matter to what an event leaves.
pub events_go_on : EventsGoOn
events_go_on = record {
  reflexive = λ one. record { lines = []; lost = nothing; same = none_lost one one.equipped.machine.output };
  transitive = λ one other last h k. record {
    lines = h.lines ++ k.lines;
    lost = both_of h.lost k.lost;
    same = h.same ∙ ap (bare_with h.lines h.lost) k.same ∙ with_both h.lines k.lines h.lost k.lost last;
  };
  events = λ one other new event reply same is.
      subst (λ (b : Bare). IsApplied b event reply (bare_with same.lines same.lost new)) (sym same.same)
      (applied_so same.lines same.lost other new event reply is);
  forgets = λ one. record {
    lines = one.equipped.machine.output;
    lost = nothing;
    same = none_lost one one.equipped.machine.output
        ∙ (let d = one.equipped.devices in
        ap (λ (lines : List (List ℕ)). at_machine one lines (with_entries [] d.punched) (with_entries [] d.printed))
        (sym (append-nil one.equipped.machine.output)));
  };
}

-- What goes on as a machine goes on as one that is the same.
pub on_same : (first one other : Bare) → one ≡ other → GoesOnAs first other → GoesOnAs first one
on_same first one other same on = subst (λ (b : Bare). GoesOnAs first b) (sym same) on

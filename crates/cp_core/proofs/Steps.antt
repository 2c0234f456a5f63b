-- What each event leaves is a step: to every user, as the reply says, and of the frames.
use Rattle.std.proofs.Common.{◌≡◌, ◌∙◌, ◌⊎◌, ℕ, ◌+◌, ◌-◌, ◌<◌, ◌==◌, ◌&&◌, Bool, true, false, List, [], ◌∷◌, ◌++◌}
use Rattle.std.proofs.Common.{length, get_or, set, Option, Some, None, Result, Ok, Err, refl, sym, ap, subst, inl, inr}
use Rattle.std.proofs.Common.{arith, nat_lt}
use Rattle.std.specs.Prelude.{◌||◌, slice_get, if◌then◌else◌, IfErr, OnErr}
use Rattle.std.specs.Borrow.{Bor}
use Rattle.std.proofs.lemmas.Bool.{false≢true}
use Rattle.std.proofs.lemmas.Bool.Decides.{nat_tests}
use Rattle.std.proofs.lemmas.List.{append-nil, length-set}
use Rattle.s370_store.specs.declared.supply.FramesOut.{FramesOut as NoRoom}
use Rattle.s370_channel.specs.Reading.{as_reached}
use Rattle.s370_intr.specs.declared.next.Reason.{Reason}
use Rattle.s370_intr.specs.declared.next.Reason.TheVariants.{Stopped, Count, EcMode, Wait, DisabledWait}
use Rattle.s370_intr.specs.declared.next.Reason.TheVariants.{FramesOut as RunFramesOut}
use Rattle.s370_intr.specs.declared.run.Ran.{Ran as RanUnits}
use Rattle.unit_record.specs.declared.reader.Sender.TheVariants as senders
use Rattle.unit_record.specs.Output.{FileValue}
use Rattle.cp_console.specs.declared.responses.Response.{Response}
use Rattle.cp_frames.specs.Layout.{FrameSupply}
use Rattle.cp_dat.specs.Lent.{set_own}
use Rattle.cp_dat.specs.Supplied.{IsBetweenUnits, IsBroughtFor, IsBroughtInUnits}
use Rattle.machine_panel.specs.declared.line.LineError.{LineError}
use Rattle.machine_panel.specs.declared.line.LineError.TheVariants as errors
use Rattle.machine_panel.specs.declared.machine.Mode.{Mode}
use Rattle.machine_panel.specs.declared.machine.Mode.TheVariants as modes
use Rattle.machine_panel.specs.Machine.{Machine}
use Rattle.machine_panel.specs.Run.{MachineRun, TellsRun, notice_of, run}
use Rattle.machine_panel.specs.Tick.{ticked, ticked_in}
use Rattle.machine_devices.specs.declared.line.LineOutcome.{LineOutcome}
use Rattle.machine_devices.specs.declared.reply.UserResponse.{UserResponse}
use Rattle.machine_devices.specs.declared.reply.UserResponse.TheVariants.{Nothing}
use Rattle.machine_devices.specs.declared.files.FileKind.TheVariants as kinds
use Rattle.machine_devices.specs.Devices.{DevicesValue}
use Rattle.machine_devices.specs.Equipped.{Equipped, nobody}
use Rattle.machine_devices.specs.UserDirectory.{UserDirectory}
use Rattle.machine_devices.specs.Life.{Event as Local, Units, Serve as Serves, Line as Types, Tick as Ticks}
use Rattle.machine_devices.specs.Life.{Deck as Gets, Purge as Purges, Leaves, Lives}
use Rattle.machine_devices.specs.Lines.{files_closed, requested}
use Rattle.cp_spool.specs.Queues.{cards_of}
use Rattle.machine_devices.specs.Comes.{NeedsMemory, closes, is_cut, is_ipl}
use Rattle.cp_core.specs.Come.{HasReceived}
use Rattle.machine_devices.specs.Coming.{comes_by_line, comes_from_operator}
use Rattle.machine_devices.specs.Spooling.{deck_queued, renumbered, with_deck_purged, with_deck_queued}
use Rattle.machine_devices.proofs.Moved.{none_purged, purged_first, queued_index}
use Rattle.unit_record.specs.Reader.{DeckValue, queued_at}
use Rattle.machine_devices.specs.Notes.{closed_by, next_file, note_where, noted, stands_in}
use Rattle.cp_core.specs.Histories.{IsReplied}
use Rattle.cp_core.specs.Local.{Step, coming, run_of, units_of}
use Rattle.cp_core.specs.Keeps.{ServeKeeps}
use Rattle.cp_core.specs.Memory.{IsCutShort}
use Rattle.machine_devices.specs.declared.request.Request.{Request}
use Rattle.machine_devices.specs.Replies.{silent}
use Rattle.cp_core.specs.Supply.{IsGivenBack}
use Rattle.cp_core.specs.System.{SystemView, kept_at, logged_on_of, machine_at, user_at, world_among, world_of}
use Rattle.machine_devices.specs.Notes.{deck_noted, move_noted}
use Rattle.machine_devices.specs.Replies.{delivered_by, given, moved, said_to_line, saying}
use Rattle.cp_core.specs.UserOp.{HasRun, HasServed, HasTicked, HasTyped, HasWithdrawn}
use Rattle.machine_devices.specs.declared.reply.Delivered.{Delivered}
use Rattle.machine_devices.specs.declared.reply.Delivery.{Delivery}
use Rattle.machine_devices.specs.declared.reply.Delivery.TheVariants as deliveries
use Rattle.machine_devices.specs.declared.reply.Ended.TheVariants.{Ran, Served, Done, FramesOut}
use Rattle.machine_devices.specs.declared.event.Event.TheVariants.{Run, Line, Tick, Deck, Serve}
use Rattle.machine_devices.specs.declared.event.Event.TheVariants.{Transfer}
use Rattle.machine_devices.specs.declared.reply.Reply.{Reply}
use Rattle.machine_devices.specs.declared.files.FileNote.{FileNote}
use Rattle.machine_devices.proofs.Answered.{follow_may, follow_same, line_stands, load_needs_none}
use Rattle.cp_core.proofs.Kept.{nine_each}
use Rattle.cp_core.proofs.Led.{come_led, led_alone, lives_on, others_stay, printer_stays, punch_stays, stays_each}
use Rattle.cp_core.proofs.Reused.{none_kept}
use Rattle.cp_core.proofs.Switches.{switch_wants_none}

-- a work on one user's machine changes him and the frames alone
abbrev pub IsLent : SystemView → ℕ → SystemView → Type 0
IsLent old user new = new
    ≡ record old {
      users = set old.users user (user_at new user);
      supply = new.supply;
      volumes = new.volumes;
      kept = new.kept;
    }

-- where nothing happened to him, nothing but the frames has changed
unchanged : (old new : SystemView) (user : ℕ) → IsLent old user new → user_at new user ≡ user_at old user
    → new ≡ record old { supply = new.supply; volumes = new.volumes; kept = new.kept }
unchanged old new user lent same =
    lent ∙ ap (λ (us : List Equipped).
    record old { users = us; supply = new.supply; volumes = new.volumes; kept = new.kept })
    (ap (set old.users user) same ∙ sym (set_own old.users user nobody))

same_lines : (a b : Equipped) → a.machine.output ≡ b.machine.output
    → 0 ≡ length a.machine.output - length b.machine.output
same_lines a b same = omega (arith, ap (λ (lines : List (List ℕ)). length lines) same)

-- to each user a step is his own part of it alone, where nothing comes of it
alone : (old new : SystemView) (user : ℕ) (events : List Local) → IsLent old user new
    → Lives as_reached events (user_at old user) (user_at new user) → (u : ℕ)
    → Lives as_reached ((if user == u then events else []) ++ []) (user_at old u) (user_at new u)
alone old new user events lent lives u =
    subst (λ (es : List Local). Lives as_reached es (user_at old u) (user_at new u))
    (sym (append-nil (if user == u then events else [])))
    (led_alone user events old.users new.users (ap (λ (s : SystemView). s.users) lent) lives u)

-- ---- a run

run_is : (asked units : ℕ) (reason : Reason) (notice : Option Response) (old new : Machine) (is_short : ℕ → Type 0)
    → TellsRun asked old (record { machine = new; units = units; reason = reason; notice = notice }) is_short
    → (run (units_of asked (record { units = units; reason = reason })) old).machine ≡ new
run_is asked units RunFramesOut notice old new is_short h = ap (λ (r : MachineRun). r.machine) h.done
run_is asked units Stopped notice old new is_short h = ap (λ (r : MachineRun). r.machine) h
run_is asked units Count notice old new is_short h = ap (λ (r : MachineRun). r.machine) h
run_is asked units EcMode notice old new is_short h = ap (λ (r : MachineRun). r.machine) h
run_is asked units Wait notice old new is_short h = ap (λ (r : MachineRun). r.machine) h
run_is asked units DisabledWait notice old new is_short h = ap (λ (r : MachineRun). r.machine) h

run_lives : (asked user : ℕ) (old new : Equipped) (before after : FrameSupply) (ran : RanUnits)
    → HasRun asked user old before ran new after → Lives as_reached (run_of asked (Ran ran)) old new
run_lives asked user old new before after ran h = (
  new,
  (
    sym (run_is asked ran.units ran.reason (notice_of ran.reason) old.machine new.machine _ h.reported),
    h.devices,
    h.disks,
  ),
  refl,
)

-- A run is a step of the system.
pub run_step : (old new : SystemView) (user asked : ℕ) (ran : RanUnits) (reported : UserResponse) (lines : ℕ)
    → HasRun asked user (user_at old user) old.supply ran (user_at new user) new.supply → IsLent old user new
    → IsBetweenUnits old.supply → IsBetweenUnits new.supply → reported ≡ saying (notice_of ran.reason)
    → lines ≡ length (machine_at new user).output - length (machine_at old user).output
    → IsReplied old (record {
      event = Run user asked;
      reply = record { ended = Ran ran; said = reported; lines = lines; delivered = None };
      seen = new;
    })
run_step old new user asked ran reported lines h lent rest between s l = record {
  applied = alone old new user (run_of asked (Ran ran)) lent
      (run_lives asked user (user_at old user) (user_at new user) old.supply new.supply ran h);
  reported = record {
    tells = (h.reported, s, refl);
    lines = l;
    files = ap (λ (x : SystemView). x.files) lent ∙ sym (append-nil old.files);
  };
  supplied = record {
    between_before = rest;
    between = between;
    given_back = λ on. absurd (false≢true on);
    brought = λ off. (
      h.brought.0,
      h.brought.1,
      (
        h.brought.2,
        h.brought.3,
        omega (arith, h.brought.3, nine_each (machine_at old user).core 0 h.brought.0 h.brought.2),
      ),
    );
  };
}

-- ---- a tick

ticked_output : (mode : Mode) (m : Machine) → (ticked_in mode m).output ≡ m.output
ticked_output modes.Running m = refl
ticked_output modes.Stopped m = refl
ticked_output modes.Off m = refl

-- A tick that is done is a step of the system.
pub tick_done : (old new : SystemView) (user : ℕ) (done : Unit {0})
    → HasTicked user (user_at old user) old.supply (Ok done) (user_at new user) new.supply → IsLent old user new
    → IsBetweenUnits old.supply → IsBetweenUnits new.supply
    → IsReplied old (record { event = Tick user; reply = silent Done; seen = new })
tick_done old new user done h lent rest between =
    let m : (machine_at new user).output ≡ (machine_at old user).output =
    ap (λ (x : Machine). x.output) h.leaves.0 ∙ ticked_output (machine_at old user).mode (machine_at old user) in
    record {
      applied = alone old new user (Ticks ∷ []) lent (user_at new user, (h.leaves.0, h.leaves.1, h.leaves.2), refl);
      reported = record {
        tells = (refl, refl);
        lines = same_lines (user_at new user) (user_at old user) m;
        files = ap (λ (x : SystemView). x.files) lent ∙ sym (append-nil old.files);
      };
      supplied = record {
        between_before = rest;
        between = between;
        given_back = λ on. absurd (false≢true on);
        brought = λ off. (
          h.brought.0 ∷ [],
          h.brought.1,
          (
            (h.brought.0, refl, h.brought.2),
            omega (arith, h.brought.3, ap (λ (xs : List ℕ). length xs) (append-nil h.brought.0)),
          ),
        );
      };
    }

-- A tick that is out of frames is a step of the system.
pub tick_out : (old new : SystemView) (user : ℕ) (out : NoRoom)
    → HasTicked user (user_at old user) old.supply (Err out) (user_at new user) new.supply → IsLent old user new
    → IsBetweenUnits old.supply → IsBetweenUnits new.supply
    → IsReplied old (record { event = Tick user; reply = silent FramesOut; seen = new })
tick_out old new user out h lent rest between = record {
  applied = alone old new user [] lent h.leaves.0;
  reported = record {
    tells = record { silent = refl; none = refl; same = unchanged old new user lent h.leaves.0; lacking = h.leaves.1 };
    lines = same_lines (user_at new user) (user_at old user) (ap (λ (e : Equipped). e.machine.output) h.leaves.0);
    files = ap (λ (x : SystemView). x.files) lent ∙ sym (append-nil old.files);
  };
  supplied = record {
    between_before = rest;
    between = between;
    given_back = λ on. absurd (false≢true on);
    brought = λ off. (
      h.brought.0 ∷ [],
      h.brought.1,
      (
        (h.brought.0, refl, h.brought.2),
        omega (arith, h.brought.3, ap (λ (xs : List ℕ). length xs) (append-nil h.brought.0)),
      ),
    );
  };
}

-- ---- a line

deck_from : (number user : ℕ) (p : List FileValue) (index : ℕ) → Local
deck_from number user p index =
    Gets (record { label = number; sender = senders.User user; cards = cards_of (slice_get p index) })

-- what comes of it is reported as it has come
come_same : (old middle seen : SystemView) (user punched : ℕ) (typed : Bor (List ℕ)) (reply : Reply)
    → punched ≡ length (user_at old user).devices.punched
    → (user_at seen user).devices.punched ≡ (user_at middle user).devices.punched → (what : Delivery)
    → comes_by_line user punched (user_at middle user) what
    ≡ coming old (record { event = Line user typed; reply = reply; seen = seen }) what
unfolding deck_from
come_same old middle seen user punched typed reply at same (deliveries.Deck number) =
    ap (λ (p : List FileValue). deck_from number user p punched) (sym same) ∙ ap
    (deck_from number user (user_at seen user).devices.punched) at
come_same old middle seen user punched typed reply at same (deliveries.Message line) = refl

-- what was closed is closed while its files stay
noted_same : (user : ℕ) (old e e' : Equipped) → e.devices.punched ≡ e'.devices.punched
    → e.devices.printed ≡ e'.devices.printed → closed_by user old e ≡ closed_by user old e'
noted_same user old e e' r s =
    let a = length old.devices.punched in
    let b = length old.devices.printed in
    ap (λ (x : List FileValue). note_where (nat_lt a (length x)) user (kinds.Punch a)
    ++ note_where (nat_lt b (length e.devices.printed)) user (kinds.Printer b)) r
    ∙ ap (λ (x : List FileValue). note_where (nat_lt a (length e'.devices.punched)) user (kinds.Punch a)
    ++ note_where (nat_lt b (length x)) user (kinds.Printer b)) s

-- What was typed in a world of these parts was typed in the user's world.
pub typed_among : (old new : SystemView) (user number : ℕ) (on : List Bool) (typed : List ℕ)
    (r : Result LineOutcome LineError) → number ≡ user → on ≡ logged_on_of old.users
    → HasTyped (world_among old.directory number on) user typed (user_at old user) old.supply r (user_at new user)
    new.supply
    → HasTyped (world_of old user) user typed (user_at old user) old.supply r (user_at new user) new.supply
typed_among old new user number on typed r same_user same_on h =
    subst (λ (w : UserDirectory). HasTyped w user typed (user_at old user) old.supply r (user_at new user) new.supply)
    (ap (λ (k : ℕ). world_among old.directory k on) same_user ∙ ap
    (λ (xs : List Bool). world_among old.directory user xs) same_on) h

-- A line that is done is a step of the system.
pub line_done : (old middle new : SystemView) (user : ℕ) (typed : Bor (List ℕ)) (reported : LineOutcome)
    (said' : UserResponse) (lines : ℕ) (delivered : Option Delivered)
    → HasTyped (world_of old user) user typed.now (user_at old user) old.supply (Ok reported) (user_at middle user)
    middle.supply
    → IsLent old user middle → IsBetweenUnits old.supply → IsBetweenUnits middle.supply
    → delivered ≡ delivered_by (length middle.users) (next_file middle.files)
    (stands_in (files_closed reported).punched (user_at middle user).devices.punched) reported (user_at middle user)
    → new.files ≡ middle.files ++ noted user (files_closed reported)
    → HasReceived (comes_by_line user (stands_in (files_closed reported).punched (user_at middle user).devices.punched)
    (user_at middle user)) delivered middle new
    → new.supply ≡ middle.supply
    → said' ≡ said_to_line (next_file old.files) reported
    → lines ≡ length (machine_at new user).output - length (machine_at old user).output
    → IsReplied old (record {
      event = Line user typed;
      reply = record { ended = Done; said = said'; lines = lines; delivered = delivered };
      seen = new;
    })
line_done old middle new user typed reported said' lines delivered h lent rest between d f come supply s l =
    let closed = files_closed reported in
    let punched = stands_in closed.punched (user_at middle user).devices.punched in
    let placements = line_stands (world_of old user) typed.now (user_at old user) reported (user_at middle user)
    h.leaves in
    let step : Step = record {
      event = Line user typed;
      reply = record { ended = Done; said = said'; lines = lines; delivered = delivered };
      seen = new;
    } in
    let many : length middle.users ≡ length old.users =
    ap (λ (x : SystemView). length x.users) lent ∙ length-set old.users user (user_at middle user) in
    let files : middle.files ≡ old.files = ap (λ (x : SystemView). x.files) lent in
    let punch = punch_stays user punched (user_at middle user) delivered middle new come user in
    let printer = printer_stays user punched (user_at middle user) delivered middle new come user in
    record {
      applied = λ u. lives_on as_reached _ _ (user_at old u) (user_at middle u) (user_at new u)
          (led_alone user (Types (world_of old user) typed.now ∷ []) old.users middle.users
          (ap (λ (x : SystemView). x.users) lent) (user_at middle user, (reported, h.leaves), refl) u)
          (come_led old step (comes_by_line user punched (user_at middle user)) delivered middle new come
          (come_same old middle new user punched typed step.reply placements.punched punch) u);
      reported = record {
        tells = record {
          reported = reported;
          answered = user_at middle user;
          line = h.leaves;
          said = s;
          delivered = d ∙ ap (λ (n : ℕ). delivered_by n (next_file middle.files) punched reported (user_at middle user))
              many ∙ ap (λ (xs : List FileNote).
              delivered_by (length old.users) (next_file xs) punched reported (user_at middle user)) files ∙ ap
              (λ (n : ℕ). delivered_by (length old.users) (next_file old.files) n reported (user_at middle user))
              placements.punched;
        };
        lines = l;
        files = f ∙ ap (λ (xs : List FileNote). xs ++ noted user closed) files
            ∙ ap (λ (xs : List FileNote). old.files ++ xs)
            (placements.notes user ∙ noted_same user (user_at old user) (user_at middle user) (user_at new user)
            (sym punch) (sym printer));
      };
      supplied = record {
        between_before = rest;
        between = subst IsBetweenUnits (sym supply) between;
        given_back = λ on. subst (λ (x : FrameSupply). IsGivenBack user old.supply x) (sym supply) (h.given_back on);
        brought = λ off. (let b = h.brought off in
            (b.0, subst (λ (x : FrameSupply). IsBroughtInUnits user b.0 old.supply x) (sym supply) b.1, b.2));
      };
    }

-- nothing is closed by nothing
none_since : (n : ℕ) → nat_lt n n ≡ false
none_since n = grind (arith, nat_tests)

none_closed : (user : ℕ) (e : Equipped) → closed_by user e e ≡ []
none_closed user e = rw (none_since (length e.devices.punched), none_since (length e.devices.printed)) refl

-- A line that is out of frames is a step of the system.
pub line_out : (old new : SystemView) (user : ℕ) (typed : Bor (List ℕ))
    → HasTyped (world_of old user) user typed.now (user_at old user) old.supply (Err errors.FramesOut)
    (user_at new user) new.supply → IsLent old user new → IsBetweenUnits old.supply → IsBetweenUnits new.supply
    → IsReplied old (record { event = Line user typed; reply = silent FramesOut; seen = new })
line_out old new user typed h lent rest between = record {
  applied = alone old new user [] lent h.leaves.0;
  reported = record {
    tells = record { silent = refl; none = refl; same = unchanged old new user lent h.leaves.0; lacking = h.leaves.1 };
    lines = same_lines (user_at new user) (user_at old user) (ap (λ (e : Equipped). e.machine.output) h.leaves.0);
    files = ap (λ (x : SystemView). x.files) lent ∙ sym
        (ap (λ (e : Equipped). old.files ++ closed_by user (user_at old user) e) h.leaves.0 ∙ ap
        (λ (xs : List FileNote). old.files ++ xs) (none_closed user (user_at old user)) ∙ append-nil old.files);
  };
  supplied = record {
    between_before = rest;
    between = between;
    given_back = λ on. absurd (switch_wants_none typed.now (user_at old user) h.leaves.1.page on h.leaves.1.needed);
    brought = λ off. (let b = h.brought off in (b.0, b.1, b.2));
  };
}

-- every user is as he was, but for one whose line is cut short
follow_others : (old middle : SystemView) (user : ℕ) (u : ℕ) (b : Bool) (closing : Bool) → IsLent old user middle
    → (closing ≡ false → user_at middle user ≡ user_at old user) → (user == u) ≡ b
    → (if b then closing else false) ≡ false → user_at middle u ≡ user_at old u
follow_others old middle user u true closing lent same t not =
    stays_each (λ (e : Equipped). e) user old.users middle.users (ap (λ (x : SystemView). x.users) lent) (same not) u
follow_others old middle user u false closing lent same t not =
    others_stay user old.users middle.users (ap (λ (x : SystemView). x.users) lent) u t

and_if : (b c : Bool) → (b && c) ≡ false → (if b then c else false) ≡ false
and_if true c h = h
and_if false c h = refl

plain_parts : (b c : Bool) → (b || c) ≡ false → c ≡ false
plain_parts true c h = cc
plain_parts false c h = h

plain_of : (q : Request) → is_cut q ≡ false → is_ipl q ≡ false
plain_of q none = plain_parts (closes q) (is_ipl q) none

-- where the line was refused memory
pub line_refused : (old new : SystemView) (user : ℕ) (typed : Bor (List ℕ))
    → HasTyped (world_of old user) user typed.now (user_at old user) old.supply (Err errors.Memory) (user_at new user)
    new.supply → IsLent old user new → IsBetweenUnits old.supply → IsBetweenUnits new.supply
    → IsCutShort old (Line user typed) new
line_refused old new user typed h lent rest between = record {
  may = h.leaves.1;
  roomy = h.roomy refl;
  supplied = record {
    between_before = rest;
    between = between;
    given_back = λ on. inr (h.given_back on);
    brought = λ off. (let b = h.brought off in (b.0, b.1, b.2));
  };
  others = λ u not. (let q = requested typed.now (user_at old user) in follow_others old new user u (user == u)
      (is_cut q) lent (λ none. h.leaves.0 (plain_of q none)) refl (and_if (user == u) (is_cut q) not));
}

-- where what comes of it was
pub line_cut : (old middle new : SystemView) (user : ℕ) (typed : Bor (List ℕ)) (reported : LineOutcome)
    → HasTyped (world_of old user) user typed.now (user_at old user) old.supply (Ok reported) (user_at middle user)
    middle.supply
    → IsLent old user middle → IsBetweenUnits old.supply → IsBetweenUnits middle.supply
    → NeedsMemory reported
    → new.users ≡ middle.users → new.supply ≡ middle.supply
    → IsCutShort old (Line user typed) new
line_cut old middle new user typed reported h lent rest between needs users supply =
    let e = user_at old user in
    let w = world_of old user in
    let q = requested typed.now e in
    record {
      may = follow_may w typed.now e reported (user_at middle user) h.leaves needs;
      roomy = record {
        loading = λ ipl. absurd (load_needs_none w typed.now e reported (user_at middle user) ipl h.leaves needs);
      };
      supplied = record {
        between_before = rest;
        between = subst IsBetweenUnits (sym supply) between;
        given_back = λ on. inl (subst (λ (x : FrameSupply). IsGivenBack user old.supply x) (sym supply)
            (h.given_back on));
        brought = λ off. (let b = h.brought off in
            (b.0, subst (λ (x : FrameSupply). IsBroughtInUnits user b.0 old.supply x) (sym supply) b.1, b.2));
      };
      others = λ u not. ap (λ (us : List Equipped). get_or us u nobody) users ∙ follow_others old middle user u
          (user == u) (is_cut q) lent
          (λ none. follow_same w typed.now e reported (user_at middle user) none h.leaves needs) refl
          (and_if (user == u) (is_cut q) not);
    }

-- ---- a serve

-- A serve that is done is a step of the system.
pub serve_done : (old new : SystemView) (user device : ℕ) (done : Bool) (lines : ℕ)
    → HasServed device user (user_at old user) old.supply (Ok done) (user_at new user) new.supply → IsLent old user new
    → IsBetweenUnits old.supply → IsBetweenUnits new.supply
    → lines ≡ length (machine_at new user).output - length (machine_at old user).output
    → IsReplied old (record {
      event = Serve user device;
      reply = record { ended = Served done; said = Nothing; lines = lines; delivered = None };
      seen = new;
    })
serve_done old new user device done lines h lent rest between l = record {
  applied = alone old new user (Serves device ∷ []) lent (user_at new user, (done, h.leaves), refl);
  reported = record {
    tells = (h.leaves, refl, refl);
    lines = l;
    files = ap (λ (x : SystemView). x.files) lent ∙ sym (append-nil old.files);
  };
  supplied = record {
    between_before = rest;
    between = between;
    given_back = λ on. absurd (false≢true on);
    brought = λ off. (h.brought.0, h.brought.1, h.brought.2);
  };
}

-- A serve that is out of frames is a step of the system.
pub serve_out : (old new : SystemView) (user device : ℕ)
    → HasServed device user (user_at old user) old.supply (Err errors.FramesOut) (user_at new user) new.supply
    → IsLent old user new → IsBetweenUnits old.supply → IsBetweenUnits new.supply
    → IsReplied old (record { event = Serve user device; reply = silent FramesOut; seen = new })
serve_out old new user device h lent rest between = record {
  applied = alone old new user [] lent h.leaves.0;
  reported = record {
    tells = record { silent = refl; none = refl; same = unchanged old new user lent h.leaves.0; lacking = h.leaves.1 };
    lines = same_lines (user_at new user) (user_at old user) (ap (λ (e : Equipped). e.machine.output) h.leaves.0);
    files = ap (λ (x : SystemView). x.files) lent ∙ sym (append-nil old.files);
  };
  supplied = record {
    between_before = rest;
    between = between;
    given_back = λ on. absurd (false≢true on);
    brought = λ off. (h.brought.0, h.brought.1, h.brought.2);
  };
}

-- A serve that is out of memory cuts the system short.
pub serve_cut : (old new : SystemView) (user device : ℕ)
    → HasServed device user (user_at old user) old.supply (Err errors.Memory) (user_at new user) new.supply
    → IsLent old user new → IsBetweenUnits old.supply → IsBetweenUnits new.supply
    → ServeKeeps device user (user_at old user) old.supply (Err errors.Memory) (kept_at old user) (kept_at new user)
    → IsCutShort old (Serve user device) new
serve_cut old new user device h lent rest between keeps = record {
  may = (
    h.leaves,
    record {
      storage = keeps.storage;
      lent = keeps.lent;
      none = none_kept (kept_at old user) (kept_at new user) keeps.storage _ _ keeps.refused.0 keeps.refused.1
          keeps.refused.2;
    },
  );
  roomy = h.roomy refl;
  supplied = record {
    between_before = rest;
    between = between;
    given_back = λ on. absurd (false≢true on);
    brought = λ off. (h.brought.0, h.brought.1, h.brought.2);
  };
  others = λ u other. others_stay user old.users new.users (ap (λ (x : SystemView). x.users) lent) u other;
}

-- ---- a deck

quiet : (user : ℕ) (old new : FrameSupply) → new ≡ old → IsBroughtInUnits user [] old new
quiet user old new same = record {
  in_units = same;
  brought = subst (λ (s : FrameSupply). IsBroughtFor user [] old s) (sym same) (record {
    same_frames = refl;
    same_slots = refl;
    kept = λ u page placements. placements;
    framed = λ u page there. inl there;
    paged_in = λ u page placements. inl placements;
    page_ins = refl;
  });
}

-- A deck of no cards changes nothing.
pub no_deck : (old : SystemView) (user : ℕ) (cards : Bor (List (List ℕ))) → IsBetweenUnits old.supply → cards.now ≡ []
    → IsReplied old (record { event = Deck user cards; reply = silent Done; seen = old })
no_deck old user cards rest none = record {
  applied = λ u. (alone old old user []
      (ap (λ (us : List Equipped). record old { users = us }) (set_own old.users user nobody)) refl u);
  reported = record {
    tells = (refl, rw none refl);
    lines = same_lines (user_at old user) (user_at old user) refl;
    files = rw none (sym (append-nil old.files));
  };
  supplied = record {
    between_before = rest;
    between = rest;
    given_back = λ on. absurd (false≢true on);
    brought = λ off. ([], quiet user old.supply old.supply refl, refl);
  };
}

some_given : (user : ℕ) (files : List FileNote) (cards : List (List ℕ)) → (cards ≡ [] → ⊥)
    → given user (next_file files) cards ≡ Some (record { to = user; what = deliveries.Deck (next_file files) })
some_given user files [] some = absurd (some refl)
some_given user files (card ∷ cards) some = refl

some_noted : (user : ℕ) (cards : List (List ℕ)) → (cards ≡ [] → ⊥)
    → deck_noted user cards ≡ record { user = user; kind = kinds.Deck } ∷ []
some_noted user [] some = absurd (some refl)
some_noted user (card ∷ cards) some = refl

some_cards : (cards : List (List ℕ)) → (cards ≡ [] → ⊥) → 0 < length cards
some_cards [] some = absurd (some refl)
some_cards (card ∷ cards) some = omega arith

deck_same : (old seen : SystemView) (user : ℕ) (cards : Bor (List (List ℕ))) (reply : Reply) (what : Delivery)
    → comes_from_operator cards.now what
    ≡ coming old (record { event = Deck user cards; reply = reply; seen = seen }) what
deck_same old seen user cards reply (deliveries.Deck number) = refl
deck_same old seen user cards reply (deliveries.Message line) = refl

-- A deck that is given is a step of the system.
pub deck_given : (old new : SystemView) (user : ℕ) (cards : Bor (List (List ℕ))) (delivered : Delivered)
    → IsBetweenUnits old.supply → (cards.now ≡ [] → ⊥)
    → delivered ≡ record { to = user; what = deliveries.Deck (next_file old.files) }
    → HasReceived (comes_from_operator cards.now) (Some delivered) old new
    → new ≡ record old { users = new.users; files = old.files ++ record { user = user; kind = kinds.Deck } ∷ [] }
    → IsReplied old (record {
      event = Deck user cards;
      reply = record { ended = Done; said = Nothing; lines = 0; delivered = Some delivered };
      seen = new;
    })
deck_given old new user cards delivered rest some is come left =
    let step : Step = record {
      event = Deck user cards;
      reply = record { ended = Done; said = Nothing; lines = 0; delivered = Some delivered };
      seen = new;
    } in
    let supply : new.supply ≡ old.supply = ap (λ (x : SystemView). x.supply) left in
    let to : delivered.to ≡ user = ap (λ (x : Delivered). x.to) is in
    let paged_in : Leaves as_reached (comes_from_operator cards.now (deliveries.Deck (next_file old.files)))
    (user_at old user) (user_at new user) =
    subst (λ (x : Delivered).
    Leaves as_reached (comes_from_operator cards.now x.what) (user_at old x.to) (user_at new x.to)) is come.comes in
    record {
      applied = λ u. lives_on as_reached _ _ (user_at old u) (user_at old u) (user_at new u)
          (led_alone user [] old.users old.users (set_own old.users user nobody) refl u)
          (come_led old step (comes_from_operator cards.now) (Some delivered) old new come
          (deck_same old new user cards step.reply) u);
      reported = record {
        tells = (refl, ap Some is ∙ sym (some_given user old.files cards.now some));
        lines = same_lines (user_at new user) (user_at old user) (ap (λ (e : Equipped). e.machine.output) paged_in);
        files = ap (λ (x : SystemView). x.files) left ∙ sym
            (ap (λ (xs : List FileNote). old.files ++ xs) (some_noted user cards.now some));
      };
      supplied = record {
        between_before = rest;
        between = subst IsBetweenUnits (sym supply) rest;
        given_back = λ on. absurd (false≢true on);
        brought = λ off. ([], quiet user old.supply new.supply supply, refl);
      };
    }

-- A deck for which there is no memory cuts the system short.
pub deck_cut : (old new : SystemView) (user : ℕ) (cards : Bor (List (List ℕ))) → IsBetweenUnits old.supply
    → (cards.now ≡ [] → ⊥) → new ≡ record old { files = new.files } → IsCutShort old (Deck user cards) new
deck_cut old new user cards rest some left =
    let supply : new.supply ≡ old.supply = ap (λ (x : SystemView). x.supply) left in
    record {
      may = some_cards cards.now some;
      roomy = tt;
      supplied = record {
        between_before = rest;
        between = subst IsBetweenUnits (sym supply) rest;
        given_back = λ on. absurd (false≢true on);
        brought = λ off. ([], quiet user old.supply new.supply supply, refl);
      };
      others = λ u not. ap (λ (x : SystemView). get_or x.users u nobody) left;
    }

-- ---- a deck that is moved

-- Where no deck of this number is queued, nothing happens.
pub none_moved : (old : SystemView) (user id to : ℕ) → IsBetweenUnits old.supply
    → deck_queued (user_at old user).devices id ≡ None
    → IsReplied old (record { event = Transfer user id to; reply = silent Done; seen = old })
none_moved old user id to rest none = record {
  applied = λ u. (alone old old user (Purges id ∷ [])
      (ap (λ (us : List Equipped). record old { users = us }) (set_own old.users user nobody))
      (user_at old user, none_purged id (user_at old user) none, refl) u);
  reported = record {
    tells = (refl, rw none refl);
    lines = same_lines (user_at old user) (user_at old user) refl;
    files = rw none (sym (append-nil old.files));
  };
  supplied = record {
    between_before = rest;
    between = rest;
    given_back = λ on. absurd (false≢true on);
    brought = λ off. ([], quiet user old.supply old.supply refl, refl);
  };
}

-- the machine of a user, from whose reader a deck was withdrawn
abbrev withdrawn : ℕ → Equipped → Equipped
withdrawn id e = record e { devices = with_deck_purged e.devices id }

-- the machine of a user, to whose reader a deck has come
abbrev having_deck : DeckValue → Equipped → Equipped
having_deck deck e = record e { devices = with_deck_queued e.devices deck }

-- it may be withdrawn before it comes to the same reader
withdrawn_first : (id : ℕ) (deck : DeckValue) (e : Equipped) (found : DeckValue)
    → deck_queued e.devices id ≡ Some found
    → withdrawn id (having_deck deck e) ≡ having_deck deck (withdrawn id e)
withdrawn_first id deck e found is =
    let at = queued_index e.devices id found (queued_at e.devices.reader id) refl is in
    ap (λ (d : DevicesValue). record e { devices = d }) (purged_first e.devices deck id at.0 at.1)

module _ (old middle new : SystemView) (user id to : ℕ) (deck found : DeckValue)
    (is : deck_queued (user_at old user).devices id ≡ Some found)
    (come : user_at middle to ≡ having_deck deck (user_at old to))
    (others_came : middle.users ≡ set old.users to (user_at middle to))
    (left : user_at new user ≡ withdrawn id (user_at middle user))
    (others_left : new.users ≡ set middle.users user (user_at new user)) where
  moved_at : (u : ℕ) (b c : Bool) → (user == u) ≡ b → (to == u) ≡ c
      → Lives as_reached ((if b then Purges id ∷ [] else []) ++ (if c then Gets deck ∷ [] else []))
      (user_at old u) (user_at new u)
  moved_at u true true own comes =
      let here : user ≡ u = grind (arith, nat_tests) in
      let there : to ≡ u = grind (arith, nat_tests) in
      let mid : user_at middle u ≡ having_deck deck (user_at old u) =
      subst (λ (v : ℕ). user_at middle v ≡ having_deck deck (user_at old v)) there come in
      let last : user_at new u ≡ withdrawn id (user_at middle u) =
      subst (λ (v : ℕ). user_at new v ≡ withdrawn id (user_at middle v)) here left in
      let queued : deck_queued (user_at old u).devices id ≡ Some found =
      subst (λ (v : ℕ). deck_queued (user_at old v).devices id ≡ Some found) here is in (
        withdrawn id (user_at old u),
        refl,
        (user_at new u, last ∙ ap (withdrawn id) mid ∙ withdrawn_first id deck (user_at old u) found queued, refl),
      )
  moved_at u true false own comes =
      let here : user ≡ u = grind (arith, nat_tests) in
      let mid : user_at middle u ≡ user_at old u = others_stay to old.users middle.users others_came u comes in
      let last : user_at new u ≡ withdrawn id (user_at middle u) =
      subst (λ (v : ℕ). user_at new v ≡ withdrawn id (user_at middle v)) here left in
      (user_at new u, last ∙ ap (withdrawn id) mid, refl)
  moved_at u false true own comes =
      let there : to ≡ u = grind (arith, nat_tests) in
      let mid : user_at middle u ≡ having_deck deck (user_at old u) =
      subst (λ (v : ℕ). user_at middle v ≡ having_deck deck (user_at old v)) there come in
      (user_at new u, others_stay user middle.users new.users others_left u own ∙ mid, refl)
  moved_at u false false own comes =
      others_stay user middle.users new.users others_left u own
      ∙ others_stay to old.users middle.users others_came u comes

  -- no line joins a console
  same_output : (user_at new user).machine.output ≡ (user_at old user).machine.output
  same_output =
      ap (λ (e : Equipped). e.machine.output) left
      ∙ stays_each (λ (e : Equipped). e.machine.output) to old.users middle.users others_came
      (ap (λ (e : Equipped). e.machine.output) come) user

-- A deck that is moved is a step of the system.
pub deck_transferred : (old middle new : SystemView) (user id to : ℕ) (found : DeckValue) (done : Unit {0})
    → IsBetweenUnits old.supply → deck_queued (user_at old user).devices id ≡ Some found
    → Leaves as_reached (Gets (record found { label = next_file old.files })) (user_at old to) (user_at middle to)
    → middle ≡ record old {
      users = set old.users to (user_at middle to);
      files = old.files ++ record { user = to; kind = kinds.Deck } ∷ [];
    }
    → HasWithdrawn id user (user_at middle user) middle.supply done (user_at new user) new.supply
    → IsLent middle user new
    → IsReplied old (record {
      event = Transfer user id to;
      reply = record {
        ended = Done;
        said = Nothing;
        lines = 0;
        delivered = Some (record { to = to; what = deliveries.Deck (next_file old.files) });
      };
      seen = new;
    })
deck_transferred old middle new user id to found done rest is come got gone lent =
    let number = next_file old.files in
    let deck : DeckValue = record found { label = number } in
    let others_came = ap (λ (s : SystemView). s.users) got in
    let others_left = ap (λ (s : SystemView). s.users) lent in
    let supply : new.supply ≡ old.supply = gone.supply ∙ ap (λ (s : SystemView). s.supply) got in
    let each = moved_at old middle new user id to deck found is come others_came gone.leaves others_left in
    record {
      applied = λ u. subst (λ (d : DeckValue). Lives as_reached
          ((if user == u then Purges id ∷ [] else []) ++ (if to == u then Gets d ∷ [] else []))
          (user_at old u) (user_at new u)) (ap (renumbered number) (sym is))
          (each u (user == u) (to == u) refl refl);
      reported = record {
        tells = (refl, ap (moved to number) (sym is));
        lines = same_lines (user_at new user) (user_at old user)
            (same_output old middle new user id to deck found is come others_came gone.leaves others_left);
        files = ap (λ (s : SystemView). s.files) lent ∙ ap (λ (s : SystemView). s.files) got
            ∙ ap (λ (o : Option DeckValue). old.files ++ move_noted to o) (sym is);
      };
      supplied = record {
        between_before = rest;
        between = subst IsBetweenUnits (sym supply) rest;
        given_back = λ on. absurd (false≢true on);
        brought = λ off. ([], quiet user old.supply new.supply supply, refl);
      };
    }

-- A list that is counted as empty is empty.
pub is_nothing : (cards : List (List ℕ)) (b : Bool) → b ≡ (length cards == 0) → b ≡ true → cards ≡ []
is_nothing [] b e t = refl
is_nothing (card ∷ cards) b e t = absurd (grind (arith, nat_tests))

-- A list that is not counted as empty is not empty.
pub is_something : (cards : List (List ℕ)) (b : Bool) → b ≡ (length cards == 0) → b ≡ false → cards ≡ [] → ⊥
is_something [] b e f none = grind (arith, nat_tests)
is_something (card ∷ cards) b e f none = cc

-- ---- by an answer

pub error_at : {A E : Type 0} (r : Result A E) (e e' : E) (Q : E → Type 0) → r ≡ Err e → e ≡ e' → IfErr r Q → Q e'
error_at {A = A} {E = E} r e e' Q is it h = subst Q it (subst (λ (x : Result A E). IfErr x Q) is h)

-- What holds holds on an error.
pub if_err : {A E : Type 0} (r : Result A E) (P : Type 0) → P → OnErr r P
if_err (Ok a) P h = tt
if_err (Err e) P h = h

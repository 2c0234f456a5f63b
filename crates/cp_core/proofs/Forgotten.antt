-- A step of a system is one of every system that has the same, but has lines and entries that are gone of it, and keeps
-- other programs.
use Rattle.std.specs.Prelude.{ℕ, zero, suc, ◌≡◌, ◌++◌, ◌-◌, ◌⊎◌, ◌==◌, refl, if◌then◌else◌, Bool, List, []}
use Rattle.std.specs.Prelude.{◌∷◌, length, map, Option, Some, None}
use Rattle.std.proofs.Common.{◌∙◌, ap, append-nil, append_assoc, arith, get_or, length-append}
use Rattle.std.proofs.Common.{subst, sym}
use Rattle.s370_store.specs.Access.{Touches}
use Rattle.s370_channel.specs.Reading.{Reading, as_reached}
use Rattle.s370_channel.specs.declared.words.Caw.{Caw}
use Rattle.s370_subchannels.specs.Programs.{program_of}
use Rattle.s370_intr.specs.Run.{IsLacking}
use Rattle.cp_trial.specs.Holding.{HoldNeeds}
use Rattle.cp_dat.specs.Supplied.{HasNoRoom}
use Rattle.cp_resident.specs.Reuse.{ReuseValue}
use Rattle.machine_channels.specs.Channels.{serve_times}
use Rattle.machine_panel.specs.Machine.{Machine}
use Rattle.machine_panel.specs.Run.{MachineRun, TellsRun, notice_of}
use Rattle.machine_panel.specs.Tick.{TickNeeds}
use Rattle.machine_panel.proofs.Forgotten.{tells_run}
use Rattle.machine_devices.specs.Comes.{is_ipl}
use Rattle.machine_devices.specs.Devices.{kind_at}
use Rattle.machine_devices.specs.Equipped.{Equipped, nobody}
use Rattle.machine_devices.specs.Forgotten.{unprinted}
use Rattle.machine_devices.specs.Lent.{devices_with}
use Rattle.machine_devices.specs.Life.{Event as Local, Deck as Gets, Line as Types, Lives}
use Rattle.machine_devices.specs.Lines.{KindLoads, requested}
use Rattle.machine_devices.specs.Notes.{closed_by, move_noted, next_file}
use Rattle.machine_devices.specs.Replies.{IsLineTold, moved}
use Rattle.machine_devices.specs.Comes.{LoadWants}
use Rattle.machine_devices.specs.Requests.{needs_of, switches}
use Rattle.machine_devices.specs.Serve.{IsServedAt, StartNeeds}
use Rattle.machine_devices.specs.Spooling.{deck_moved, deck_punched, deck_queued}
use Rattle.machine_devices.specs.UserDirectory.{UserDirectory, is_logged_on}
use Rattle.machine_devices.specs.declared.files.FileNote.{FileNote}
use Rattle.machine_devices.specs.declared.places.AttachedDevice.{AttachedDevice}
use Rattle.machine_devices.specs.declared.places.AttachedDevice.TheVariants as kinds
use Rattle.machine_devices.specs.declared.reply.Delivered.{Delivered}
use Rattle.machine_devices.specs.declared.reply.Delivery.{Delivery}
use Rattle.machine_devices.specs.declared.reply.Delivery.TheVariants as deliveries
use Rattle.machine_devices.specs.declared.reply.Ended.{Ended}
use Rattle.machine_devices.specs.declared.reply.Ended.TheVariants.{Ran, Served, Done, FramesOut}
use Rattle.machine_devices.specs.declared.reply.Reply.{Reply}
use Rattle.machine_devices.specs.declared.request.Request.{Request}
use Rattle.machine_devices.specs.declared.request.Request.TheVariants.{LogsOn, LogsOff, Resets, Types as TypesText}
use Rattle.machine_devices.specs.declared.request.Request.TheVariants.{Loads, Asks, Alone}
use Rattle.machine_devices.proofs.Forgotten as printed
use Rattle.machine_devices.proofs.Lost.{EachHasLost, files_again, found_after, lost_at, lost_files, lost_twice}
use Rattle.machine_devices.proofs.Lost.{with_none, with_twice}
use Rattle.machine_devices.proofs.Written as written
use Rattle.machine_devices.proofs.Written.{closed_files_stay, length_with}
use Rattle.machine_devices.specs.Written.{AreClosedAfter, equipped_having}
use Rattle.machine_devices.specs.Written.{with_entries}
use Rattle.unit_record.specs.Output.{FileValue}
use Rattle.unit_record.specs.Reader.{DeckValue}
use Rattle.unit_record.specs.declared.reader.Sender.TheVariants as senders
use Rattle.cp_core.specs.Forgotten.{GoesOnAs, Gone, StepsGoOn, equipped_with as having, forgotten, seat_unprinted}
use Rattle.cp_core.specs.Forgotten.{step_with, users_with}
use Rattle.machine_devices.specs.Events.{user_of}
use Rattle.cp_core.specs.Histories.{IsStep}
use Rattle.cp_core.specs.Local.{IsApplied, Step, comes_to, coming, deck_by, local, local_event}
use Rattle.cp_core.specs.Saved.{AgreeButKept, SeatBase, base_of}
use Rattle.cp_core.specs.Supply.{IsBroughtBy, IsShort, IsSupplied, LineBrings, MayBring, OneBrings, RunBrings}
use Rattle.cp_core.specs.Supply.{AreNeeded, gives_back}
use Rattle.cp_core.specs.System.{SystemView, kept_of, logged_on_of, machine_at, placements_among, user_at, users_of}
use Rattle.cp_core.specs.System.{world_among}
use Rattle.cp_core.specs.UserMachines.{SeatParts, seat_on, seat_with, seats_on, user_with as user_with_volumes}
use Rattle.cp_core.proofs.Systems.{seen}
use Rattle.cp_directory.specs.Users.{DirectoryUser}
use Rattle.cp_frames.specs.Layout.{FrameSupply}
use Rattle.cp_spool.specs.Queues.{QueuesValue, UserFiles, cards_of, files_of}
use Rattle.cp_volumes.specs.Shared.{Placement, placements_of}
use Rattle.ckd_volume.specs.Volume.{VolumeFormat}
use Rattle.cp_core.specs.LineOutcome.{IsOut, IsReply, TellsOf, TellsOfDeck, TellsOfLine, TellsOfRun, TellsOfServe}
use Rattle.cp_core.specs.LineOutcome.{TellsOfTick, TellsOfTransfer, noted_by}
use Rattle.cp_core.specs.Wants.{DeviceNeeds, LineWants}
use Rattle.machine_devices.specs.declared.event.Event.{Event}
use Rattle.machine_devices.specs.declared.event.Event.TheVariants.{Run, Line, Tick, Deck, Serve}
use Rattle.machine_devices.specs.declared.event.Event.TheVariants.{Transfer}

-- ---- what is gone of a user

abbrev none_gone : Gone
none_gone = record { lines = []; files = record { punched = []; printed = [] } }

-- the machine with its devices, with these lines and closed files
abbrev at_user : Equipped → List (List ℕ) → List FileValue → List FileValue → Equipped
at_user e lines punched printed = record e {
  machine = record e.machine { output = lines };
  devices = record e.devices { punched = punched; printed = printed };
}

nothing_gone : (e : Equipped) → having none_gone e ≡ e
nothing_gone e =
    let d = e.devices in
    let lines = e.machine.output in
    ap (λ (files : List FileValue). at_user e lines files (with_entries [] d.printed)) (with_none d.punched)
    ∙ ap (λ (files : List FileValue). at_user e lines d.punched files) (with_none d.printed)

module _ (gone : Gone) (reads : Reading) where
  lives : (events : List Local) (old new : Equipped) → Lives reads events old new
      → Lives reads events (having gone old) (having gone new)
  lives events old new h =
      printed.lives gone.lines reads events (equipped_having gone.files old) (equipped_having gone.files new)
      (written.lives gone.files reads events old new h)

  served_so : (device : ℕ) (old : Equipped) (done : Bool) (new : Equipped) → IsServedAt reads device old done new
      → IsServedAt reads device (having gone old) done (having gone new)
  served_so device old done new h =
      printed.served_so gone.lines reads device (equipped_having gone.files old) done (equipped_having gone.files new)
      (written.served_so gone.files reads device old done new h)

told_so : (gone : Gone) (w : UserDirectory) (users number : ℕ) (typed : List ℕ) (old : Equipped) (reply : Reply)
    → IsLineTold w users number typed old reply → IsLineTold w users number typed (having gone old) reply
told_so gone w users number typed old reply h =
    printed.told_so gone.lines w users number typed (equipped_having gone.files old) reply
    (written.told_so gone.files w users number typed old reply h)

closed_same : (gone : Gone) (user : ℕ) (e f : Equipped)
    → closed_by user e f ≡ closed_by user (having gone e) (having gone f)
closed_same gone user e f =
    let lost = gone.files in
    rw (
      length_with lost.punched e.devices.punched,
      length_with lost.printed e.devices.printed,
      length_with lost.punched f.devices.punched,
      length_with lost.printed f.devices.printed,
    ) refl

-- ---- which pages a machine needs

module _ (gone : Gone) (e : Equipped) where
  loads_same : (kind : Option AttachedDevice) (P : (ℕ → Type 0) → Type 0) → P (KindLoads kind e)
      → P (KindLoads kind (having gone e))
  loads_same (Some kinds.Reader) P h = h
  loads_same (Some (kinds.Disk index)) P h = h
  loads_same (Some kinds.Console) P h = h
  loads_same (Some kinds.Punch) P h = h
  loads_same (Some kinds.Printer) P h = h
  loads_same None P h = h

  wants_same : (q : Request) (P : (ℕ → Type 0) → Type 0) → P (λ page. Touches (needs_of q) page ⊎ LoadWants q e page)
      → P (λ page. Touches (needs_of q) page ⊎ LoadWants q (having gone e) page)
  wants_same (Loads device) P h =
      loads_same (kind_at e.devices e.disks device) (λ needs. P (λ page. Touches (needs_of
      (Loads device)) page ⊎ needs page)) h
  wants_same LogsOn P h = h
  wants_same LogsOff P h = h
  wants_same Resets P h = h
  wants_same TypesText P h = h
  wants_same (Asks command) P h = h
  wants_same (Alone asked) P h = h

  pub line_wants_same : (typed : List ℕ) (P : (ℕ → Type 0) → Type 0) → P (LineWants typed e)
      → P (LineWants typed (having gone e))
  line_wants_same typed P h = wants_same (requested typed e) P h

  starts_same : (kind : Option AttachedDevice) (start : Option Caw) (P : (ℕ → Type 0) → Type 0)
      → P (StartNeeds HoldNeeds kind start e)
      → P (StartNeeds HoldNeeds kind start (having gone e))
  starts_same None start P h = h
  starts_same (Some kind) None P h = h
  starts_same (Some kinds.Console) (Some start) P h = h
  starts_same (Some kinds.Reader) (Some start) P h = h
  starts_same (Some kinds.Punch) (Some start) P h = h
  starts_same (Some kinds.Printer) (Some start) P h = h
  starts_same (Some (kinds.Disk index)) (Some start) P h = h

  pub device_needs_same : (device : ℕ) (P : (ℕ → Type 0) → Type 0) → P (DeviceNeeds device e)
      → P (DeviceNeeds device (having gone e))
  device_needs_same device P h =
      starts_same (kind_at e.devices e.disks device) (program_of device e.machine.core.subchannels) P h

-- ---- users of whom something is gone

-- what is gone of one of these users
abbrev pub gone_at : List Gone → List Equipped → ℕ → Gone
gone_at [] users user = none_gone
gone_at (gone ∷ more) [] user = none_gone
gone_at (gone ∷ more) (e ∷ users) zero = gone
gone_at (gone ∷ more) (e ∷ users) (suc user) = gone_at more users user

-- A user of a system that has what is gone is that user with his own.
pub user_with : (gone : List Gone) (users : List Equipped) (user : ℕ)
    → get_or (users_with gone users) user nobody ≡ having (gone_at gone users user) (get_or users user nobody)
user_with [] users user = sym (nothing_gone (get_or users user nobody))
user_with (gone ∷ more) [] user = sym (nothing_gone nobody)
user_with (gone ∷ more) (e ∷ users) zero = refl
user_with (gone ∷ more) (e ∷ users) (suc user) = user_with more users user

gone_same : (gone : List Gone) (users others : List Equipped) (user : ℕ) → length others ≡ length users
    → gone_at gone others user ≡ gone_at gone users user
gone_same [] users others user same = refl
gone_same (gone ∷ more) [] [] user same = refl
gone_same (gone ∷ more) [] (o ∷ others) user same = absurd (omega (arith, same))
gone_same (gone ∷ more) (e ∷ users) [] user same = absurd (omega (arith, same))
gone_same (gone ∷ more) (e ∷ users) (o ∷ others) zero same = refl
gone_same (gone ∷ more) (e ∷ users) (o ∷ others) (suc user) same = gone_same more users others user (omega
    (arith, same))

pub as_many : (gone : List Gone) (users : List Equipped) → length (users_with gone users) ≡ length users
as_many [] users = refl
as_many (gone ∷ more) [] = refl
as_many (gone ∷ more) (e ∷ users) = ap suc (as_many more users)

on_same : (gone : List Gone) (users : List Equipped) → logged_on_of (users_with gone users) ≡ logged_on_of users
on_same [] users = refl
on_same (gone ∷ more) [] = refl
on_same (gone ∷ more) (e ∷ users) = ap (λ (on : List Bool). is_logged_on e.machine.mode ∷ on) (on_same more users)

-- ---- a step

-- the system whose users have what is gone, and which keeps these programs
abbrev wide : List Gone → SystemView → List ReuseValue → SystemView
wide gone s kept = record s { users = users_with gone s.users; kept = kept }

module _ (gone : List Gone) (s : SystemView) (kept : List ReuseValue) (t : SystemView)
    (many : length t.users ≡ length s.users) where
  abbrev whole : SystemView
  whole = wide gone s kept

  abbrev left : SystemView
  left = wide gone t t.kept

  abbrev gone_of : ℕ → Gone
  gone_of user = gone_at gone s.users user

  old_is : (user : ℕ) → user_at whole user ≡ having (gone_of user) (user_at s user)
  old_is user = user_with gone s.users user

  new_is : (user : ℕ) → user_at left user ≡ having (gone_of user) (user_at t user)
  new_is user =
      user_with gone t.users user ∙ ap (λ (g : Gone). having g (user_at t user))
      (gone_same gone s.users t.users user many)

  -- what is so of a user before, and after, with what is gone
  of_old : (user : ℕ) (P : Equipped → Type 0) → P (having (gone_of user) (user_at s user)) → P (user_at whole user)
  of_old user P h = subst P (sym (old_is user)) h

  of_both : (user : ℕ) (P : Equipped → Equipped → Type 0)
      → P (having (gone_of user) (user_at s user)) (having (gone_of user) (user_at t user))
      → P (user_at whole user) (user_at left user)
  of_both user P h =
      subst (λ (e : Equipped). P e (user_at left user)) (sym (old_is user))
      (subst (λ (e : Equipped). P (having (gone_of user) (user_at s user)) e) (sym (new_is user)) h)

  -- ---- what the event is to each user

  event_same : (event : Event) (ended : Ended) → local_event whole event ended ≡ local_event s event ended
  event_same (Run user asked) ended = refl
  event_same (Line user typed) (Ran ran) = refl
  event_same (Line user typed) (Served done) = refl
  event_same (Line user typed) Done =
      ap (λ (on : List Bool). Types (world_among s.directory user on) typed.now ∷ []) (on_same gone s.users)
  event_same (Line user typed) FramesOut = refl
  event_same (Tick user) ended = refl
  event_same (Deck user cards) ended = refl
  event_same (Serve user device) ended = refl
  event_same (Transfer user id to) ended = refl

  -- closed files of a user have stayed
  abbrev FilesStay : Type 0
  FilesStay = (user : ℕ) → AreClosedAfter (user_at s user).devices.punched (user_at t user).devices.punched

  deck_same : FilesStay → (event : Event) (number : ℕ) → deck_by event whole left number ≡ deck_by event s t number
  deck_same stay (Run user asked) number = refl
  deck_same stay (Line user typed) number =
      let lost = (gone_of user).files.punched in
      let old = (user_at s user).devices.punched in
      ap (λ (e : Equipped). deck_punched (user_at left user).devices (length e.devices.punched) number
      (senders.User user)) (old_is user)
      ∙ ap (λ (index : ℕ). deck_punched (user_at left user).devices index number (senders.User user))
      (length_with lost old)
      ∙ ap (λ (e : Equipped). deck_punched e.devices (length old) number (senders.User user)) (new_is user)
      ∙ ap (λ (file : Option FileValue).
      let d : DeckValue = record { label = number; sender = senders.User user; cards = cards_of file } in d)
      (found_after lost old (user_at t user).devices.punched (stay user))
  deck_same stay (Tick user) number = refl
  deck_same stay (Deck user cards) number = refl
  deck_same stay (Serve user device) number = refl
  deck_same stay (Transfer user id to) number =
      ap (λ (e : Equipped). deck_moved e.devices id number) (old_is user)

  coming_same : FilesStay → (event : Event) (reply : Reply) (what : Delivery)
      → (let one : Step = record { event = event; reply = reply; seen = left } in
      let other : Step = record { event = event; reply = reply; seen = t } in coming whole one what ≡ coming s other
      what)
  coming_same stay event reply (deliveries.Message line) = refl
  coming_same stay event reply (deliveries.Deck number) = ap (λ (d : DeckValue). Gets d) (deck_same stay event number)

  comes_same : FilesStay → (user : ℕ) (event : Event) (reply : Reply) (delivered : Option Delivered)
      → (let one : Step = record { event = event; reply = reply; seen = left } in
      let other : Step = record { event = event; reply = reply; seen = t } in
      comes_to user whole one delivered ≡ comes_to user s other delivered)
  comes_same stay user event reply None = refl
  comes_same stay user event reply (Some delivered) =
      ap (λ (e : Local). if delivered.to == user then e ∷ [] else []) (coming_same stay event reply delivered.what)

  local_same : FilesStay → (user : ℕ) (event : Event) (reply : Reply)
      → (let one : Step = record { event = event; reply = reply; seen = left } in
      let other : Step = record { event = event; reply = reply; seen = t } in local user whole one ≡ local user s other)
  local_same stay user event reply =
      rw (event_same event reply.ended, comes_same stay user event reply reply.delivered) refl

  applied : (event : Event) (reply : Reply) → IsApplied s (record { event = event; reply = reply; seen = t })
      → IsApplied whole (record { event = event; reply = reply; seen = left })
  applied event reply h user =
      let other : Step = record { event = event; reply = reply; seen = t } in
      let stay : FilesStay =
      λ u. (closed_files_stay as_reached (local u s other) (user_at s u) (user_at t u) (h u)).0 in
      subst (λ (es : List Local). Lives as_reached es (user_at whole user) (user_at left user)) (sym
      (local_same stay user event reply))
      (of_both user (Lives as_reached (local user s other))
      (lives (gone_of user) as_reached (local user s other) (user_at s user) (user_at t user) (h user)))

  -- ---- what is reported

  out : (needs more : ℕ → Type 0) (size length : ℕ) (reply : Reply) (is_short are_short : ℕ → Type 0)
      → IsLacking more length are_short → IsOut needs size s reply t is_short
      → IsOut more length whole reply left are_short
  out needs more size length reply is_short are_short lacking h = record {
    silent = h.silent;
    none = h.none;
    same = ap (λ (x : SystemView). wide gone x t.kept) h.same;
    lacking = lacking;
  }

  run_tells : (user asked : ℕ) (reply : Reply) (ended : Ended) → TellsOfRun user asked s reply ended t
      → TellsOfRun user asked whole reply ended left
  run_tells user asked reply (Ran ran) tells =
      let reported = λ (e : Equipped). let r : MachineRun = record {
        machine = e.machine;
        units = ran.units;
        reason =
            ran.reason;
        notice = notice_of ran.reason;
      } in r in
      let short = HasNoRoom t.supply user in
      let tells_of =
      tells_run (gone_of user).lines asked (machine_at s user) (reported (user_at t user)) short tells.0 in
      (of_both user (λ (e f : Equipped). TellsRun asked e.machine (reported f) short) tells_of, tells.1, tells.2)
  run_tells user asked reply (Served done) tells = tells
  run_tells user asked reply Done tells = tells
  run_tells user asked reply FramesOut tells = tells

  abbrev Lacks : ℕ → (ℕ → Type 0) → (Equipped → ℕ → Type 0) → Equipped → Type 0
  Lacks user short needs e = IsLacking (needs e) (length e.machine.core.processor.bytes) short

  tick_tells : (user : ℕ) (reply : Reply) (ended : Ended) → TellsOfTick user s reply ended t
      → TellsOfTick user whole reply ended left
  tick_tells user reply (Ran ran) tells = tells
  tick_tells user reply (Served done) tells = tells
  tick_tells user reply Done tells = tells
  tick_tells user reply FramesOut tells =
      let short = HasNoRoom t.supply user in
      let lacking = of_old user (Lacks user short (λ e. TickNeeds e.machine)) tells.lacking in
      out _ _ _ _ reply _ _ lacking tells

  line_tells : (user : ℕ) (typed : List ℕ) (reply : Reply) (ended : Ended) → TellsOfLine user typed s reply ended t
      → TellsOfLine user typed whole reply ended left
  line_tells user typed reply (Ran ran) tells = tells
  line_tells user typed reply (Served done) tells = tells
  line_tells user typed reply Done tells =
      let w = λ (on : List Bool). world_among s.directory user on in
      let number = next_file s.files in
      let here = told_so (gone_of user) (w (logged_on_of s.users)) (length s.users) number typed
      (user_at s user) reply tells in
      let placed = of_old user (λ (e : Equipped). IsLineTold (w (logged_on_of s.users))
      (length s.users) number typed e reply) here in
      let counted = subst (λ (n : ℕ). IsLineTold (w (logged_on_of s.users)) n number typed
      (user_at whole user) reply) (sym (as_many gone s.users)) placed in
      subst (λ (on : List Bool). IsLineTold (w on) (length whole.users) number typed (user_at whole user) reply) (sym
      (on_same gone s.users)) counted
  line_tells user typed reply FramesOut tells =
      let size = length (machine_at s user).core.processor.bytes in
      let wanting = λ (needs : ℕ → Type 0). IsLacking needs size (IsShort t.supply user needs) in
      let here = line_wants_same (gone_of user) (user_at s user) typed wanting tells.lacking in
      let lacking = of_old user (λ (e : Equipped). IsLacking (LineWants typed e)
      (length e.machine.core.processor.bytes) (IsShort t.supply user (LineWants typed e))) here in
      out _ _ _ _ reply _ _ lacking tells

  deck_tells : (user : ℕ) (cards : List (List ℕ)) (reply : Reply) (ended : Ended)
      → TellsOfDeck user cards s reply ended → TellsOfDeck user cards whole reply ended
  deck_tells user cards reply (Ran ran) tells = tells
  deck_tells user cards reply (Served done) tells = tells
  deck_tells user cards reply Done tells = tells
  deck_tells user cards reply FramesOut tells = tells

  transfer_tells : (user id to : ℕ) (reply : Reply) (ended : Ended)
      → TellsOfTransfer user id to s reply ended → TellsOfTransfer user id to whole reply ended
  transfer_tells user id to reply (Ran ran) tells = tells
  transfer_tells user id to reply (Served done) tells = tells
  transfer_tells user id to reply Done tells = (
    tells.0,
    tells.1 ∙ sym
        (ap (λ (e : Equipped). moved to (next_file s.files) (deck_queued e.devices id)) (old_is user)),
  )
  transfer_tells user id to reply FramesOut tells = tells

  serve_tells : (user device : ℕ) (reply : Reply) (ended : Ended) → TellsOfServe user device s reply ended t
      → TellsOfServe user device whole reply ended left
  serve_tells user device reply (Ran ran) tells = tells
  serve_tells user device reply (Served done) tells =
      let here = served_so (gone_of user) as_reached device (user_at s user) done (user_at t user) tells.0 in
      (of_both user (λ (e f : Equipped). IsServedAt as_reached device e done f) here, tells.1, tells.2)
  serve_tells user device reply Done tells = tells
  serve_tells user device reply FramesOut tells =
      let size = length (machine_at s user).core.processor.bytes in
      let wanting = λ (needs : ℕ → Type 0). IsLacking needs size (IsShort t.supply user needs) in
      let here = device_needs_same (gone_of user) (user_at s user) device wanting tells.lacking in
      let lacking = of_old user (λ (e : Equipped). IsLacking (DeviceNeeds device e)
      (length e.machine.core.processor.bytes) (IsShort t.supply user (DeviceNeeds device e))) here in
      out _ _ _ _ reply _ _ lacking tells

  tells_too : (event : Event) (reply : Reply) → TellsOf s event reply t → TellsOf whole event reply left
  tells_too (Run user asked) reply tells = run_tells user asked reply reply.ended tells
  tells_too (Line user typed) reply tells = line_tells user typed.now reply reply.ended tells
  tells_too (Tick user) reply tells = tick_tells user reply reply.ended tells
  tells_too (Deck user cards) reply tells = deck_tells user cards.now reply reply.ended tells
  tells_too (Serve user device) reply tells = serve_tells user device reply reply.ended tells
  tells_too (Transfer user id to) reply tells = transfer_tells user id to reply reply.ended tells

  notes_same : (event : Event) → noted_by event s t ≡ noted_by event whole left
  notes_same (Run user asked) = refl
  notes_same (Line user typed) = of_both user (λ (e f : Equipped). closed_by user (user_at s user)
      (user_at t user) ≡ closed_by user e f) (closed_same (gone_of user) user (user_at s user) (user_at t user))
  notes_same (Tick user) = refl
  notes_same (Deck user cards) = refl
  notes_same (Serve user device) = refl
  notes_same (Transfer user id to) =
      sym (ap (λ (e : Equipped). move_noted to (deck_queued e.devices id)) (old_is user))

  lines_told : (user lines : ℕ) → lines ≡ length (machine_at t user).output - length (machine_at s user).output
      → lines ≡ length (machine_at left user).output - length (machine_at whole user).output
  lines_told user lines h =
      let before = length-append (gone_of user).lines (machine_at s user).output in
      let after = length-append (gone_of user).lines (machine_at t user).output in
      of_both user (λ (e f : Equipped). lines ≡ length f.machine.output - length e.machine.output) (omega
      (arith, h, before, after))

  reported : (event : Event) (reply : Reply) → IsReply s (record { event = event; reply = reply; seen = t })
      → IsReply whole (record { event = event; reply = reply; seen = left })
  reported event reply h = record {
    tells = tells_too event reply h.tells;
    lines = lines_told (user_of event) reply.lines h.lines;
    files = h.files ∙ ap (λ (notes : List FileNote). s.files ++ notes) (notes_same event);
  }

  -- ---- what it does to the frames

  gives_same : (event : Event) → gives_back s event ≡ gives_back whole event
  gives_same (Run user asked) = refl
  gives_same (Line user typed) =
      of_old user (λ (e : Equipped). switches (requested typed.now (user_at s user)) ≡ switches
      (requested typed.now e)) refl
  gives_same (Tick user) = refl
  gives_same (Deck user cards) = refl
  gives_same (Serve user device) = refl
  gives_same (Transfer user id to) = refl

  run_brings : (lines : List (List ℕ)) (m : Machine) (ended : Ended) (units : List (List ℕ)) → RunBrings m ended units
      → RunBrings (record m { output = lines }) ended units
  run_brings lines m (Ran ran) units h = h
  run_brings lines m (Served done) units h = h
  run_brings lines m Done units h = h
  run_brings lines m FramesOut units h = h

  brings_too : (event : Event) (ended : Ended) (units : List (List ℕ)) → MayBring s event ended units
      → MayBring whole event ended units
  brings_too (Run user asked) ended units may =
      let m = machine_at s user in
      of_old user (λ (e : Equipped). RunBrings e.machine ended units) (run_brings
      ((gone_of user).lines ++ m.output) m ended units may)
  brings_too (Line user typed) ended units may =
      let brings = λ (needs : ℕ → Type 0). LineBrings (is_ipl (requested typed.now (user_at s user))) needs units in
      let here = line_wants_same (gone_of user) (user_at s user) typed.now brings may in
      of_old user (λ (e : Equipped). LineBrings (is_ipl (requested typed.now e)) (LineWants typed.now e) units) here
  brings_too (Tick user) ended units may =
      (of_old user (λ (e : Equipped). OneBrings (TickNeeds e.machine) units) may.0, may.1)
  brings_too (Deck user cards) ended units may = may
  brings_too (Transfer user id to) ended units may = may
  brings_too (Serve user device) ended units may =
      let brings = λ (needs : ℕ → Type 0). AreNeeded needs serve_times units in
      let here = device_needs_same (gone_of user) (user_at s user) device brings may in
      of_old user (λ (e : Equipped). AreNeeded (DeviceNeeds device e) serve_times units) here

  brought_too : (event : Event) (ended : Ended) → IsBroughtBy s event ended t → IsBroughtBy whole event ended left
  brought_too event ended (units, paged_in, may) = (units, paged_in, brings_too event ended units may)

  supplied : (event : Event) (ended : Ended) → IsSupplied s event ended t → IsSupplied whole event ended left
  supplied event ended h = record {
    between_before = h.between_before;
    between = h.between;
    given_back = λ gives. h.given_back (gives_same event ∙ gives);
    brought = λ gives. brought_too event ended (h.brought (gives_same event ∙ gives));
  }

step_goes_on : (gone : List Gone) (s : SystemView) (kept : List ReuseValue) (step : Step) → IsStep s step
    → IsStep (wide gone s kept) (step_with gone step)
step_goes_on gone s kept step is = record {
  replied = record {
    applied = applied gone s kept step.seen is.users step.event step.reply is.replied.applied;
    reported = reported gone s kept step.seen is.users step.event step.reply is.replied.reported;
    supplied = supplied gone s kept step.seen is.users step.event step.reply.ended is.replied.supplied;
  };
  users = as_many gone step.seen.users ∙ is.users ∙ sym (as_many gone s.users);
  directory = is.directory;
  placements = is.placements;
  confined = is.confined;
}

-- ---- systems that go on as others

-- what is gone of a user, and what is gone of him after that
abbrev both_of : Gone → Gone → Gone
both_of first second = record {
  lines = first.lines ++ second.lines;
  files = record {
    punched = lost_twice first.files.punched second.files.punched;
    printed = lost_twice first.files.printed second.files.printed;
  };
}

having_both : (first second : Gone) (e : Equipped) → having first (having second e) ≡ having (both_of first second) e
having_both first second e =
    let d = e.devices in
    let lines = first.lines ++ (second.lines ++ e.machine.output) in
    let printed = with_entries first.files.printed (with_entries second.files.printed d.printed) in
    let both = both_of first second in
    ap (λ (files : List FileValue). at_user e lines files printed)
    (with_twice d.punched first.files.punched second.files.punched)
    ∙ ap (λ (files : List FileValue). at_user e lines (with_entries both.files.punched d.punched) files)
    (with_twice d.printed first.files.printed second.files.printed)
    ∙ ap (λ (output : List (List ℕ)). at_user e output (with_entries both.files.punched d.punched)
    (with_entries both.files.printed d.printed)) (sym (append_assoc first.lines second.lines e.machine.output))

-- what is gone of users, and what is gone of them after that
abbrev both : List Gone → List Gone → List Gone
both [] more = more
both (first ∷ gone) [] = first ∷ gone
both (first ∷ gone) (second ∷ more) = both_of first second ∷ both gone more

with_both : (gone more : List Gone) (users : List Equipped)
    → users_with gone (users_with more users) ≡ users_with (both gone more) users
with_both [] more users = refl
with_both (first ∷ gone) [] users = refl
with_both (first ∷ gone) (second ∷ more) [] = refl
with_both (first ∷ gone) (second ∷ more) (e ∷ users) =
    ap (λ (x : Equipped). x ∷ users_with gone (users_with more users)) (having_both first second e)
    ∙ ap (λ (us : List Equipped). having (both_of first second) e ∷ us) (with_both gone more users)

abbrev output_of : Equipped → Gone
output_of e = record { lines = e.machine.output; files = record { punched = []; printed = [] } }

abbrev outputs : List Equipped → List Gone
outputs users = map output_of users

output_again : (e : Equipped) → e ≡ having (output_of e) (unprinted e)
output_again e =
    let d = e.devices in
    let lines = e.machine.output in
    ap (λ (files : List FileValue). at_user e lines files d.printed) (sym (with_none d.punched))
    ∙ ap (λ (files : List FileValue). at_user e lines (with_entries [] d.punched) files) (sym (with_none d.printed))
    ∙ ap (λ (output : List (List ℕ)). at_user e output (with_entries [] d.punched) (with_entries [] d.printed))
    (sym (append-nil lines))

outputs_again : (users : List Equipped) → users ≡ users_with (outputs users) (map unprinted users)
outputs_again [] = refl
outputs_again (e ∷ users) =
    ap (λ (us : List Equipped). e ∷ us) (outputs_again users)
    ∙ ap (λ (x : Equipped). x ∷ users_with (outputs users) (map unprinted users)) (output_again e)

-- Systems that agree but for cached programs go on alike.
pub same_but_kept : (one other : SystemView) → AgreeButKept one other → GoesOnAs one other
same_but_kept one other agree = record {
  gone = [];
  same = ap (λ (s : SystemView). record s { kept = one.kept })
      (sym agree);
}

-- Each step goes on from a system of which something is gone as from the one that has it.
pub steps_go_on : StepsGoOn
steps_go_on = record {
  reflexive = λ one. record { gone = []; same = refl };
  transitive = λ one other last h k. record {
    gone = both h.gone k.gone;
    same = h.same
        ∙ (ap (λ (s : SystemView). record s { users = users_with h.gone s.users; kept = one.kept }) k.same
        ∙ ap (λ (us : List Equipped). record last { users = us; kept = one.kept })
        (with_both h.gone k.gone last.users));
  };
  steps = λ one other step same is.
      subst (λ (s : SystemView). IsStep s (step_with same.gone step)) (sym same.same)
      (step_goes_on same.gone other one.kept step is);
  forgets = λ one. record {
    gone = outputs one.users;
    same = ap (λ (us : List Equipped). record one { users = us })
        (outputs_again one.users);
  };
}

-- ---- a system that has forgotten them

-- Forgetting printed lines keeps the base of each user.
pub bases_kept : (seats : List SeatParts) → map base_of (map seat_unprinted seats) ≡ map base_of seats
bases_kept [] = refl
bases_kept (s ∷ seats) = ap (λ (bases : List SeatBase). base_of s ∷ bases) (bases_kept seats)

module _ (q : QueuesValue) where
  users_unprinted : (seats : List SeatParts) (volumes : List VolumeFormat) (storages : List (List ℕ))
      → users_of (seats_on q (map seat_unprinted seats)) volumes storages ≡ map unprinted (users_of
      (seats_on q seats) volumes storages)
  users_unprinted [] volumes storages = refl
  users_unprinted (s ∷ seats) volumes [] = refl
  users_unprinted (s ∷ seats) volumes (bytes ∷ storages) =
      ap (λ (us : List Equipped). unprinted (user_with_volumes (seat_on q s) volumes bytes) ∷ us)
      (users_unprinted seats volumes storages)

  stands_unprinted : (seats : List SeatParts)
      → placements_among (seats_on q (map seat_unprinted seats)) ≡ placements_among
      (seats_on q seats)
  stands_unprinted [] = refl
  stands_unprinted (s ∷ seats) =
      ap (λ (ss : List (List Placement)). placements_of s.minidisks ∷ ss) (stands_unprinted seats)

  kept_unprinted : (seats : List SeatParts) → kept_of (seats_on q (map seat_unprinted seats)) ≡ kept_of
      (seats_on q seats)
  kept_unprinted [] = refl
  kept_unprinted (s ∷ seats) = ap (λ (rs : List ReuseValue). s.reuse ∷ rs) (kept_unprinted seats)

  pub seen_forgotten : (seats : List SeatParts) (volumes : List VolumeFormat) (storages : List (List ℕ))
      (directory : List DirectoryUser) (supply : FrameSupply) (files : List FileNote) (is_spent : Bool)
      → seen (seats_on q (map seat_unprinted seats)) volumes storages directory supply files is_spent
      ≡ forgotten (seen (seats_on q seats) volumes storages directory supply files is_spent)
  seen_forgotten seats volumes storages directory supply files is_spent =
      rw (users_unprinted seats volumes storages, stands_unprinted seats, kept_unprinted seats) refl

-- ---- a system whose closed files have lost entries

-- what was lost of a user's files
abbrev gone_files : UserFiles → UserFiles → Gone
gone_files old new = record { lines = []; files = lost_files old new }

module _ (q q' : QueuesValue) (lost : EachHasLost q.users q'.users) where
  abbrev gone_from : SeatParts → Gone
  gone_from s = gone_files (files_of q.users s.devices.user) (files_of q'.users s.devices.user)

  seat_lost : (s : SeatParts) (volumes : List VolumeFormat) (bytes : List ℕ)
      → user_with_volumes (seat_on q s) volumes bytes
      ≡ having (gone_from s) (user_with_volumes (seat_on q' s) volumes bytes)
  seat_lost s volumes bytes =
      let user = s.devices.user in
      ap (λ (f : UserFiles). user_with_volumes (seat_with (devices_with s.devices f) s) volumes bytes)
      (files_again (files_of q.users user) (files_of q'.users user) (lost_at q.users q'.users lost user))

  users_lost : (seats : List SeatParts) (volumes : List VolumeFormat) (storages : List (List ℕ))
      → users_of (seats_on q seats) volumes storages
      ≡ users_with (map gone_from seats) (users_of (seats_on q' seats) volumes storages)
  users_lost [] volumes storages = refl
  users_lost (s ∷ seats) volumes [] = refl
  users_lost (s ∷ seats) volumes (bytes ∷ storages) =
      ap (λ (e : Equipped). e ∷ users_of (seats_on q seats) volumes storages) (seat_lost s volumes bytes)
      ∙ ap (λ (us : List Equipped). having (gone_from s) (user_with_volumes (seat_on q' s) volumes bytes) ∷ us)
      (users_lost seats volumes storages)

  stands_lost : (seats : List SeatParts) → placements_among (seats_on q seats) ≡ placements_among (seats_on q' seats)
  stands_lost [] = refl
  stands_lost (s ∷ seats) =
      ap (λ (ss : List (List Placement)). placements_of s.minidisks ∷ ss) (stands_lost seats)

  pub goes_on_lost : (seats : List SeatParts) (volumes : List VolumeFormat) (storages : List (List ℕ))
      (directory : List DirectoryUser) (supply : FrameSupply) (files : List FileNote) (is_spent : Bool)
      → GoesOnAs (seen (seats_on q seats) volumes storages directory supply files is_spent)
      (seen (seats_on q' seats) volumes storages directory supply files is_spent)
  goes_on_lost seats volumes storages directory supply files is_spent = record {
    gone = map gone_from seats;
    same = rw (users_lost seats volumes storages, stands_lost seats) refl;
  }

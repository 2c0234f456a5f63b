-- A reply is one, step by step.
use Rattle.std.proofs.Common.{◌≡◌, ◌∙◌, ◌++◌, ◌-◌, ◌<◌, ℕ, zero, suc, Bool, true, false, List, [], ◌∷◌}
use Rattle.std.proofs.Common.{Option, Some, None}
use Rattle.std.proofs.Common.{◌⊎◌, inl, inr, refl, sym, ap, subst, arith, length, get_or}
use Rattle.std.specs.Prelude.{◌==◌, if◌then◌else◌, map, nat_lt, slice_get}
use Rattle.s370_channel.specs.Reading.{Reading, as_reached}
use Rattle.s370_channel.specs.declared.words.Caw.{Caw}
use Rattle.s370_intr.specs.declared.next.Reason.{Reason}
use Rattle.s370_intr.specs.declared.next.Reason.TheVariants as reasons
use Rattle.s370_intr.specs.declared.run.Ran.{Ran as RanUnits}
use Rattle.s370_subchannels.specs.Programs.{program_of}
use Rattle.unit_record.specs.Output.{FileValue}
use Rattle.unit_record.specs.declared.reader.Sender.TheVariants as senders
use Rattle.unit_record.specs.Reader.{DeckValue}
use Rattle.cp_spool.specs.Queues.{cards_of}
use Rattle.cp_console.specs.ConsoleLine.{characters_of}
use Rattle.cp_console.specs.declared.console_line.ConsoleLine.{ConsoleLine}
use Rattle.machine_panel.specs.Machine.{Machine}
use Rattle.machine_panel.specs.Run.{MachineRun, TellsFor, notice_of, run}
use Rattle.machine_devices.specs.declared.event.Event.{Event}
use Rattle.machine_devices.specs.declared.event.Event.TheVariants.{Run, Line, Tick, Deck, Serve}
use Rattle.machine_devices.specs.declared.event.Event.TheVariants.{Transfer}
use Rattle.machine_devices.specs.declared.files.FileNote.{FileNote}
use Rattle.machine_devices.specs.declared.line.LineOutcome.{LineOutcome}
use Rattle.machine_devices.specs.declared.line.LineOutcome.TheVariants.{Sent}
use Rattle.machine_devices.specs.declared.places.AttachedDevice.{AttachedDevice}
use Rattle.machine_devices.specs.declared.reply.Delivered.{Delivered}
use Rattle.machine_devices.specs.declared.reply.Delivery.{Delivery}
use Rattle.machine_devices.specs.declared.reply.Delivery.TheVariants as deliveries
use Rattle.machine_devices.specs.declared.reply.Ended.{Ended}
use Rattle.machine_devices.specs.declared.reply.Ended.TheVariants.{Ran, Served, Done, FramesOut}
use Rattle.machine_devices.specs.declared.reply.Reply.{Reply}
use Rattle.machine_devices.specs.Devices.{kind_at}
use Rattle.machine_devices.specs.Equipped.{Equipped, nobody}
use Rattle.machine_devices.specs.Events.{IsSameEvent, user_of}
use Rattle.machine_devices.proofs.SameEvent.{of_same}
use Rattle.machine_devices.specs.Life.{Event as Local, Leaves, Lives}
use Rattle.machine_devices.specs.Life.{Deck as Gets, Line as Types, Message as Hears}
use Rattle.machine_devices.specs.Lines.{IsLine}
use Rattle.machine_devices.specs.Notes.{closed_by, deck_noted, move_noted, next_file}
use Rattle.machine_devices.specs.OneLife.{LinesAreOne, LivesAreOne}
use Rattle.machine_devices.specs.OneReply.{DeliverAlike, HadFrames, IsOneOutcome, IsOneReply, OutcomesAreOne, SendAlike}
use Rattle.machine_devices.specs.Replies.{IsLineTold, delivered_by, delivery_to, given, moved, said_to_line, saying}
use Rattle.machine_devices.specs.Spooling.{deck_moved, deck_queued}
use Rattle.machine_devices.specs.Serve.{IsServedAt, Serves}
use Rattle.machine_devices.specs.UserDirectory.{UserDirectory}
use Rattle.cp_core.specs.Histories.{IsHistory, IsReplied, IsStep}
use Rattle.cp_core.specs.LineOutcome.{TellsOf, TellsOfDeck, TellsOfLine, TellsOfRun, TellsOfServe, TellsOfTick}
use Rattle.cp_core.specs.LineOutcome.{TellsOfTransfer, noted_by}
use Rattle.cp_core.specs.Local.{Step, comes_to, coming, deck_by, line_of, local, local_event, own_part}
use Rattle.cp_core.specs.OneReply.{AllHadFrames, AreOneReplies, HistoriesAreOne, IsAlikeTo, LookAlike}
use Rattle.cp_core.specs.OneReply.{RepliesAreOne}
use Rattle.cp_core.specs.System.{SystemView, logged_on_of, machine_at, names_of, user_at, world_among, world_of}
use Rattle.user_names.specs.Users.{name_of}

-- what two replies say but for the lines that were printed
record SayAlike (p q : Reply) : Type 0 where
  ended : q.ended ≡ p.ended
  said : q.said ≡ p.said
  delivered : (q.delivered ≡ p.delivered) ⊎ DeliverAlike p.delivered q.delivered

same : {A : Type 0} (a b c : A) → a ≡ c → b ≡ c → b ≡ a
same a b c e f = f ∙ sym e

-- ---- a run

not_cut : (r : Reason) (n : ℕ) (old : Machine) (reported : MachineRun) (short : ℕ → Type 0)
    → (r ≡ reasons.FramesOut → ⊥) → TellsFor r n old reported short → run n old ≡ reported
not_cut reasons.Stopped n old reported short had h = h
not_cut reasons.Count n old reported short had h = h
not_cut reasons.EcMode n old reported short had h = h
not_cut reasons.Wait n old reported short had h = h
not_cut reasons.DisabledWait n old reported short had h = h
not_cut reasons.FramesOut n old reported short had h = absurd (had refl)

ran_same : (a b : RanUnits) → b.units ≡ a.units → b.reason ≡ a.reason → b ≡ a
ran_same a b u r =
    let first : b ≡ record { units = a.units; reason = b.reason } =
    ap (λ (n : ℕ). record { units = n; reason = b.reason }) u in
    let second : record { units = a.units; reason = b.reason } ≡ a =
    ap (λ (x : Reason). record { units = a.units; reason = x }) r in
    first ∙ second

run_one : (user asked : ℕ) (one other s t : SystemView) (p q : Reply) (e f : Ended) → p.ended ≡ e → q.ended ≡ f
    → machine_at other user ≡ machine_at one user → TellsOfRun user asked one p e s → TellsOfRun user asked other q f t
    → HadFrames e → HadFrames f → SayAlike p q
run_one user asked one other s t p q (Ran a) (Ran b) pe qe m l r had has =
    let left = not_cut a.reason asked (machine_at one user) _ _ had l.0 in
    let right = not_cut b.reason asked (machine_at other user) _ _ has r.0 in
    let both = sym right ∙ ap (λ (x : Machine). run asked x) m ∙ left in
    let is : b ≡ a = ran_same a b (ap (λ (x : MachineRun). x.units) both) (ap (λ (x : MachineRun). x.reason) both) in
    record {
      ended = qe ∙ ap (λ (x : RanUnits). Ran x) is ∙ sym pe;
      said = r.1 ∙ ap (λ (x : RanUnits). saying (notice_of x.reason)) is ∙ sym l.1;
      delivered = inl (same p.delivered q.delivered None l.2 r.2);
    }
run_one user asked one other s t p q (Ran a) (Served d) pe qe m l r had has = absurd r
run_one user asked one other s t p q (Ran a) Done pe qe m l r had has = absurd r
run_one user asked one other s t p q (Ran a) FramesOut pe qe m l r had has = absurd r
run_one user asked one other s t p q (Served d) f pe qe m l r had has = absurd l
run_one user asked one other s t p q Done f pe qe m l r had has = absurd l
run_one user asked one other s t p q FramesOut f pe qe m l r had has = absurd l

-- ---- a tick and a deck

tick_one : (user : ℕ) (one other s t : SystemView) (p q : Reply) (e f : Ended) → p.ended ≡ e → q.ended ≡ f
    → TellsOfTick user one p e s → TellsOfTick user other q f t → HadFrames e → HadFrames f → SayAlike p q
tick_one user one other s t p q Done Done pe qe l r had has = record {
  ended = same p.ended q.ended Done pe qe;
  said = same p.said q.said _ l.0 r.0;
  delivered = inl (same p.delivered q.delivered _ l.1 r.1);
}
tick_one user one other s t p q Done (Ran b) pe qe l r had has = absurd r
tick_one user one other s t p q Done (Served d) pe qe l r had has = absurd r
tick_one user one other s t p q Done FramesOut pe qe l r had has = absurd has
tick_one user one other s t p q (Ran a) f pe qe l r had has = absurd l
tick_one user one other s t p q (Served d) f pe qe l r had has = absurd l
tick_one user one other s t p q FramesOut f pe qe l r had has = absurd had

deck_one : (user : ℕ) (cards : List (List ℕ)) (one other : SystemView) (p q : Reply) (e f : Ended) → p.ended ≡ e
    → q.ended ≡ f → next_file other.files ≡ next_file one.files → TellsOfDeck user cards one p e
    → TellsOfDeck user cards other q f → SayAlike p q
deck_one user cards one other p q Done Done pe qe n l r = record {
  ended = same p.ended q.ended Done pe qe;
  said = same p.said q.said _ l.0 r.0;
  delivered = inl (r.1 ∙ ap (λ (x : ℕ). given user x cards) n ∙ sym l.1);
}
deck_one user cards one other p q Done (Ran b) pe qe n l r = absurd r
deck_one user cards one other p q Done (Served d) pe qe n l r = absurd r
deck_one user cards one other p q Done FramesOut pe qe n l r = absurd r
deck_one user cards one other p q (Ran a) f pe qe n l r = absurd l
deck_one user cards one other p q (Served d) f pe qe n l r = absurd l
deck_one user cards one other p q FramesOut f pe qe n l r = absurd l

transfer_one : (user id to : ℕ) (one other : SystemView) (p q : Reply) (e f : Ended) → p.ended ≡ e → q.ended ≡ f
    → next_file other.files ≡ next_file one.files → user_at other user ≡ user_at one user
    → TellsOfTransfer user id to one p e → TellsOfTransfer user id to other q f → SayAlike p q
transfer_one user id to one other p q Done Done pe qe n m l r = record {
  ended = same p.ended q.ended Done pe qe;
  said = same p.said q.said _ l.0 r.0;
  delivered = inl (r.1
      ∙ ap (λ (x : ℕ). moved to x (deck_queued (user_at other user).devices id)) n
      ∙ ap (λ (x : Equipped). moved to (next_file one.files) (deck_queued x.devices id)) m
      ∙ sym l.1);
}
transfer_one user id to one other p q Done (Ran b) pe qe n m l r = absurd r
transfer_one user id to one other p q Done (Served d) pe qe n m l r = absurd r
transfer_one user id to one other p q Done FramesOut pe qe n m l r = absurd r
transfer_one user id to one other p q (Ran a) f pe qe n m l r = absurd l
transfer_one user id to one other p q (Served d) f pe qe n m l r = absurd l
transfer_one user id to one other p q FramesOut f pe qe n m l r = absurd l

-- ---- a serve

serves_flag : (k : Option AttachedDevice) (start : Option Caw) (device : ℕ) (old a b : Equipped) (done did : Bool)
    → Serves as_reached k start device old done a → Serves as_reached k start device old did b → did ≡ done
serves_flag None start device old a b done did l r = same done did false l.0 r.0
serves_flag (Some kind) None device old a b done did l r = same done did false l.0 r.0
serves_flag (Some kind) (Some start) device old a b done did l r = same done did true l.0 r.0

serve_one : (user device : ℕ) (one other s t : SystemView) (p q : Reply) (e f : Ended) → p.ended ≡ e → q.ended ≡ f
    → user_at other user ≡ user_at one user → TellsOfServe user device one p e s → TellsOfServe user device other q f t
    → HadFrames e → HadFrames f → SayAlike p q
serve_one user device one other s t p q (Served a) (Served b) pe qe m l r had has =
    let old = user_at one user in
    let here = subst (λ (x : Equipped). IsServedAt as_reached device x b (user_at t user)) m r.0 in
    let flag : b ≡ a = serves_flag (kind_at old.devices old.disks device)
    (program_of device old.machine.core.subchannels) device old (user_at s user) (user_at t user) a b l.0 here in
    record {
      ended = qe ∙ ap (λ (x : Bool). Served x) flag ∙ sym pe;
      said = same p.said q.said _ l.1 r.1;
      delivered = inl (same p.delivered q.delivered _ l.2 r.2);
    }
serve_one user device one other s t p q (Served a) (Ran b) pe qe m l r had has = absurd r
serve_one user device one other s t p q (Served a) Done pe qe m l r had has = absurd r
serve_one user device one other s t p q (Served a) FramesOut pe qe m l r had has = absurd has
serve_one user device one other s t p q (Ran a) f pe qe m l r had has = absurd l
serve_one user device one other s t p q Done f pe qe m l r had has = absurd l
serve_one user device one other s t p q FramesOut f pe qe m l r had has = absurd had

-- ---- two events that ask the same

users_same : (one other : Event) → IsSameEvent one other → user_of other ≡ user_of one
users_same = of_same (λ one other. user_of other ≡ user_of one) (record {
  run = λ user units. refl;
  line = λ user typed text e. refl;
  tick = λ user. refl;
  deck = λ user cards deck e. refl;
  serve = λ user device. refl;
  transfer = λ user id to. refl;
})

locals_same : (old : SystemView) (e : Ended) (one other : Event) → IsSameEvent one other
    → local_event old other e ≡ local_event old one e
locals_same old e = of_same (λ one other. local_event old other e ≡ local_event old one e) (record {
  run = λ user units. refl;
  line = λ user typed text same. ap (λ (t : List ℕ). line_of old user t e) same;
  tick = λ user. refl;
  deck = λ user cards deck same. refl;
  serve = λ user device. refl;
  transfer = λ user id to. refl;
})

decks_same : (old seen : SystemView) (number : ℕ) (one other : Event) → IsSameEvent one other
    → deck_by other old seen number ≡ deck_by one old seen number
decks_same old seen number =
    of_same (λ one other. deck_by other old seen number ≡ deck_by one old seen number) (record {
      run = λ user units. refl;
      line = λ user typed text same. refl;
      tick = λ user. refl;
      deck = λ user cards deck same.
          ap (λ (cs : List (List ℕ)). record { label = number; sender = senders.System; cards = cs }) same;
      serve = λ user device. refl;
      transfer = λ user id to. refl;
    })

notes_same : (old seen : SystemView) (one other : Event) → IsSameEvent one other
    → noted_by other old seen ≡ noted_by one old seen
notes_same old seen = of_same (λ one other. noted_by other old seen ≡ noted_by one old seen) (record {
  run = λ user units. refl;
  line = λ user typed text same. refl;
  tick = λ user. refl;
  deck = λ user cards deck same. ap (λ (cs : List (List ℕ)). deck_noted user cs) same;
  serve = λ user device. refl;
  transfer = λ user id to. refl;
})

tells_same : (old seen : SystemView) (reply : Reply) (one other : Event) → IsSameEvent one other
    → TellsOf old other reply seen → TellsOf old one reply seen
tells_same old seen reply = of_same (λ one other. TellsOf old other reply seen → TellsOf old one reply seen) (record {
  run = λ user units h. h;
  line = λ user typed text same h. subst (λ (t : List ℕ). TellsOfLine user t old reply reply.ended seen) same h;
  tick = λ user h. h;
  deck = λ user cards deck same h. subst (λ (cs : List (List ℕ)). TellsOfDeck user cs old reply reply.ended) same h;
  serve = λ user device h. h;
  transfer = λ user id to h. h;
})

-- ---- what comes to a user

lives_split : (es fs : List Local) (a c : Equipped) → Lives as_reached (es ++ fs) a c
    → (b : Equipped) × Lives as_reached es a b × Lives as_reached fs b c
lives_split [] fs a c h = (a, refl, h)
lives_split (e ∷ es) fs a c h =
    let rest = lives_split es fs h.0 c h.2 in
    (rest.0, (h.0, h.1, rest.1), rest.2)

kept_by : (old : SystemView) (step : Step) (what : Delivery) (a b c : Equipped)
    → Leaves as_reached (coming old step what) a b → c ≡ b → c.devices.punched ≡ a.devices.punched
kept_by old step (deliveries.Deck number) a b c h e = ap (λ (x : Equipped). x.devices.punched) (e ∙ h)
kept_by old step (deliveries.Message line) a b c h e = ap (λ (x : Equipped). x.devices.punched) (e ∙ h)

kept_where : (b : Bool) (old : SystemView) (step : Step) (what : Delivery) (first last : Equipped)
    → Lives as_reached (if b then coming old step what ∷ [] else []) first last
    → last.devices.punched ≡ first.devices.punched
kept_where true old step what first last h = kept_by old step what first h.0 last h.1 h.2
kept_where false old step what first last h = ap (λ (x : Equipped). x.devices.punched) h

-- what comes to a user leaves the files of his punch
punched_kept : (user : ℕ) (old : SystemView) (step : Step) (o : Option Delivered) (first last : Equipped)
    → Lives as_reached (comes_to user old step o) first last → last.devices.punched ≡ first.devices.punched
punched_kept user old step None first last h = ap (λ (x : Equipped). x.devices.punched) h
punched_kept user old step (Some d) first last h = kept_where (d.to == user) old step d.what first last h

-- lists as long as each other, with the same at each place, are one
same_users : (xs ys : List Equipped) → length xs ≡ length ys → ((v : ℕ) → get_or xs v nobody ≡ get_or ys v nobody)
    → xs ≡ ys
same_users [] [] many each = refl
same_users [] (y ∷ ys) many each = absurd (cc)
same_users (x ∷ xs) [] many each = absurd (cc)
same_users (x ∷ xs) (y ∷ ys) many each =
    let first : x ≡ y = each 0 in
    let rest : xs ≡ ys = same_users xs ys (omega (arith, many)) (λ v. each (suc v)) in
    ap (λ (z : Equipped). z ∷ xs) first ∙ ap (λ (zs : List Equipped). y ∷ zs) rest

-- ---- a line

module _ (lives : LivesAreOne) (lines : LinesAreOne) (outcomes : OutcomesAreOne) where
  sent_where : (b : Bool) (user : ℕ) (p q : Reply) (line text : ConsoleLine) → characters_of text ≡ characters_of line
      → p.delivered ≡ (if b then Some (record { to = user; what = deliveries.Message line }) else None)
      → q.delivered ≡ (if b then Some (record { to = user; what = deliveries.Message text }) else None)
      → (q.delivered ≡ p.delivered) ⊎ DeliverAlike p.delivered q.delivered
  sent_where true user p q line text c l r =
      inr (record { to = user; line = line; text = text; delivers = l; also = r; characters = c })
  sent_where false user p q line text c l r = inl (same p.delivered q.delivered None l r)

  told_one : (w : UserDirectory) (users number before : ℕ) (p q : Reply) (reported told : LineOutcome)
      (answered left : Equipped) → left ≡ answered → IsOneOutcome reported told
      → p.said ≡ said_to_line number reported → q.said ≡ said_to_line number told
      → p.delivered ≡ delivered_by users number before reported answered
      → q.delivered ≡ delivered_by users number before told left
      → (q.said ≡ p.said) × ((q.delivered ≡ p.delivered) ⊎ DeliverAlike p.delivered q.delivered)
  told_one w users number before p q reported told answered left m (inl e) ps qs pd qd = (
    qs ∙ ap (λ (x : LineOutcome). said_to_line number x) e ∙ sym ps,
    inl (qd ∙ ap (λ (x : LineOutcome). delivered_by users number before x left) e
        ∙ ap (λ (x : Equipped). delivered_by users number before reported x) m ∙ sym pd),
  )
  told_one w users number before p q reported told answered left m (inr h) ps qs pd qd = (
    (qs ∙ ap (λ (x : LineOutcome). said_to_line number x) h.also)
        ∙ sym (ps ∙ ap (λ (x : LineOutcome). said_to_line number x) h.sends),
    sent_where (nat_lt h.user users) h.user p q h.line h.text h.characters
        (pd ∙ ap (λ (x : LineOutcome). delivered_by users number before x answered) h.sends)
        (qd ∙ ap (λ (x : LineOutcome). delivered_by users number before x left) h.also),
  )

  lines_tell : (w : UserDirectory) (users number : ℕ) (typed : List ℕ) (old : Equipped) (p q : Reply)
      → IsLineTold w users number typed old p → IsLineTold w users number typed old q
      → (q.said ≡ p.said) × ((q.delivered ≡ p.delivered) ⊎ DeliverAlike p.delivered q.delivered)
  lines_tell w users number typed old p q l r =
      let left = lines w w typed old r.answered l.answered r.reported l.reported refl r.line l.line in
      let outcome = outcomes w typed old l.answered r.answered l.reported r.reported l.line r.line in
      told_one w users number (length old.devices.punched) p q l.reported r.reported l.answered r.answered left outcome
      l.said r.said l.delivered r.delivered

  line_one : (user : ℕ) (typed : List ℕ) (one other s t : SystemView) (p q : Reply) (e f : Ended) → p.ended ≡ e
      → q.ended ≡ f → IsAlikeTo user one other → TellsOfLine user typed one p e s → TellsOfLine user typed other q f t
      → HadFrames e → HadFrames f → SayAlike p q
  line_one user typed one other s t p q Done Done pe qe h l r had has =
      let w = world_of one user in
      let old = user_at one user in
      let a = subst (λ (x : UserDirectory).
      IsLineTold x (length other.users) (next_file other.files) typed (user_at other user) q) h.world r in
      let b = subst (λ (x : ℕ). IsLineTold w x (next_file other.files) typed (user_at other user) q) h.users a in
      let c = subst (λ (x : ℕ). IsLineTold w (length one.users) x typed (user_at other user) q) h.number b in
      let d = subst (λ (x : Equipped). IsLineTold w (length one.users) (next_file one.files) typed x q) h.machine c in
      let told = lines_tell w (length one.users) (next_file one.files) typed old p q l d in
      record { ended = same p.ended q.ended Done pe qe; said = told.0; delivered = told.1 }
  line_one user typed one other s t p q Done (Ran b) pe qe h l r had has = absurd r
  line_one user typed one other s t p q Done (Served d) pe qe h l r had has = absurd r
  line_one user typed one other s t p q Done FramesOut pe qe h l r had has = absurd has
  line_one user typed one other s t p q (Ran a) f pe qe h l r had has = absurd l
  line_one user typed one other s t p q (Served d) f pe qe h l r had has = absurd l
  line_one user typed one other s t p q FramesOut f pe qe h l r had has = absurd had

  -- ---- an event

  tells_one : (event : Event) (one other s t : SystemView) (p q : Reply) → IsAlikeTo (user_of event) one other
      → TellsOf one event p s → TellsOf other event q t → HadFrames p.ended → HadFrames q.ended → SayAlike p q
  tells_one (Run user asked) one other s t p q h l r had has =
      run_one user asked one other s t p q p.ended q.ended refl refl
      (ap (λ (x : Equipped). x.machine) h.machine) l r had has
  tells_one (Line user typed) one other s t p q h l r had has =
      line_one user typed.now one other s t p q p.ended q.ended refl refl h l r had has
  tells_one (Tick user) one other s t p q h l r had has =
      tick_one user one other s t p q p.ended q.ended refl refl l r had has
  tells_one (Deck user cards) one other s t p q h l r had has =
      deck_one user cards.now one other p q p.ended q.ended refl refl h.number l r
  tells_one (Serve user device) one other s t p q h l r had has =
      serve_one user device one other s t p q p.ended q.ended refl refl h.machine l r had has
  tells_one (Transfer user id to) one other s t p q h l r had has =
      transfer_one user id to one other p q p.ended q.ended refl refl h.number h.machine l r

  -- ---- what a step is to each user

  local_one : (event : Event) (one other : SystemView) (e : Ended)
      → world_of other (user_of event) ≡ world_of one (user_of event)
      → local_event other event e ≡ local_event one event e
  local_one (Run user asked) one other e w = refl
  local_one (Line user typed) one other (Ran ran) w = refl
  local_one (Line user typed) one other (Served done) w = refl
  local_one (Line user typed) one other Done w =
      ap (λ (x : UserDirectory). Types x typed.now ∷ []) w
  local_one (Line user typed) one other FramesOut w = refl
  local_one (Tick user) one other e w = refl
  local_one (Deck user cards) one other e w = refl
  local_one (Serve user device) one other e w = refl
  local_one (Transfer user id to) one other e w = refl

  own_one : (v : ℕ) (one other : SystemView) (step twin : Step) → IsSameEvent step.event twin.event
      → twin.reply.ended ≡ step.reply.ended
      → world_of other (user_of step.event) ≡ world_of one (user_of step.event)
      → own_part v other twin ≡ own_part v one step
  own_one v one other step twin e f w =
      let whose = ap (λ (u : ℕ). if u == v then local_event other twin.event twin.reply.ended else [])
      (users_same step.event twin.event e) in
      let event = ap (λ (x : List Local). if user_of step.event == v then x else [])
      (locals_same other twin.reply.ended step.event twin.event e) in
      let ended = ap (λ (x : Ended). if user_of step.event == v then local_event other step.event x else []) f in
      let world = ap (λ (x : List Local). if user_of step.event == v then x else [])
      (local_one step.event one other step.reply.ended w) in
      whose ∙ event ∙ ended ∙ world

  deck_by_one : (event : Event) (one other s t : SystemView) (number : ℕ)
      → user_at other (user_of event) ≡ user_at one (user_of event)
      → (user_at t (user_of event)).devices.punched ≡ (user_at s (user_of event)).devices.punched
      → deck_by event other t number ≡ deck_by event one s number
  deck_by_one (Run user asked) one other s t number m p = refl
  deck_by_one (Line user typed) one other s t number m p =
      ap (λ (x : Equipped). record {
        label = number;
        sender = senders.User user;
        cards = cards_of (slice_get (user_at t user).devices.punched (length x.devices.punched));
      }) m ∙ ap (λ (x : List FileValue). record {
        label = number;
        sender = senders.User user;
        cards = cards_of (slice_get x (length (user_at one user).devices.punched));
      }) p
  deck_by_one (Tick user) one other s t number m p = refl
  deck_by_one (Deck user cards) one other s t number m p = refl
  deck_by_one (Serve user device) one other s t number m p = refl
  deck_by_one (Transfer user id to) one other s t number m p =
      ap (λ (x : Equipped). deck_moved x.devices id number) m

  module _ (one other : SystemView) (step twin : Step) (event : IsSameEvent step.event twin.event)
      (alike : IsAlikeTo (user_of step.event) one other) where
    abbrev named : ℕ
    named = user_of step.event

    coming_one : (user_at twin.seen named).devices.punched ≡ (user_at step.seen named).devices.punched
        → (what : Delivery) → coming other twin what ≡ coming one step what
    coming_one p (deliveries.Deck number) =
        ap (λ (x : DeckValue). Gets x) (decks_same other twin.seen number step.event twin.event event)
        ∙ ap (λ (x : DeckValue). Gets x) (deck_by_one step.event one other step.seen twin.seen number alike.machine p)
    coming_one p (deliveries.Message line) = refl

    comes_same : (v : ℕ) → ((what : Delivery) → coming other twin what ≡ coming one step what)
        → (o : Option Delivered) → comes_to v other twin o ≡ comes_to v one step o
    comes_same v each None = refl
    comes_same v each (Some d) = ap (λ (x : Local). if d.to == v then x ∷ [] else []) (each d.what)

    comes_one : (v : ℕ) → ((what : Delivery) → coming other twin what ≡ coming one step what)
        → (p q : Option Delivered) → (q ≡ p) ⊎ DeliverAlike p q
        → comes_to v other twin q ≡ comes_to v one step p
    comes_one v each p q (inl e) = ap (λ (o : Option Delivered). comes_to v other twin o) e ∙ comes_same v each p
    comes_one v each p q (inr h) =
        ap (λ (o : Option Delivered). comes_to v other twin o) h.also
        ∙ ap (λ (x : List ℕ). if h.to == v then Hears x ∷ [] else []) h.characters
        ∙ sym (ap (λ (o : Option Delivered). comes_to v one step o) h.delivers)

    -- the user's own machine after his event, before anything comes to him, is one
    punched_one : SayAlike step.reply twin.reply → IsReplied one step → IsReplied other twin
        → (user_at twin.seen named).devices.punched ≡ (user_at step.seen named).devices.punched
    punched_one say l r =
        let owns = own_one named one other step twin event say.ended alike.world in
        let before = lives_split (own_part named one step) (comes_to named one step step.reply.delivered)
        (user_at one named) (user_at step.seen named) (l.applied named) in
        let after = lives_split (own_part named other twin) (comes_to named other twin twin.reply.delivered)
        (user_at other named) (user_at twin.seen named) (r.applied named) in
        let moved = subst (λ (es : List Local). Lives as_reached es (user_at other named) after.0) owns after.1 in
        let here = subst (λ (x : Equipped). Lives as_reached (own_part named one step) x after.0) alike.machine moved in
        let middle : before.0 ≡ after.0 = lives as_reached (own_part named one step) (user_at one named) before.0
        after.0 before.1 here in
        punched_kept named other twin twin.reply.delivered after.0 (user_at twin.seen named) after.2
        ∙ sym (ap (λ (x : Equipped). x.devices.punched) middle)
        ∙ sym (punched_kept named one step step.reply.delivered before.0 (user_at step.seen named) before.2)

    -- and so is each machine to which the event was the same
    machine_one : (v : ℕ) → SayAlike step.reply twin.reply → IsReplied one step → IsReplied other twin
        → user_at other v ≡ user_at one v → user_at twin.seen v ≡ user_at step.seen v
    machine_one v say l r m =
        let each = coming_one (punched_one say l r) in
        let owns = own_one v one other step twin event say.ended alike.world in
        let comes = comes_one v each step.reply.delivered twin.reply.delivered say.delivered in
        let parts : local v other twin ≡ local v one step =
        ap (λ (es : List Local). es ++ comes_to v other twin twin.reply.delivered) owns
        ∙ ap (λ (fs : List Local). own_part v one step ++ fs) comes in
        let moved = subst (λ (es : List Local). Lives as_reached es (user_at other v) (user_at twin.seen v)) parts
        (r.applied v) in
        let here = subst (λ (x : Equipped). Lives as_reached (local v one step) x (user_at twin.seen v)) m moved in
        sym (lives as_reached (local v one step) (user_at one v) (user_at step.seen v) (user_at twin.seen v)
        (l.applied v) here)

    say_one : IsReplied one step → IsReplied other twin → HadFrames step.reply.ended → HadFrames twin.reply.ended
        → SayAlike step.reply twin.reply
    say_one l r had has =
        let told = tells_same other twin.seen twin.reply step.event twin.event event r.reported.tells in
        tells_one step.event one other step.seen twin.seen step.reply twin.reply alike l.reported.tells told had has

    reply_one : SayAlike step.reply twin.reply → IsReplied one step → IsReplied other twin
        → IsOneReply step.reply twin.reply × (user_at twin.seen named ≡ user_at step.seen named)
    reply_one say l r =
        let machine = machine_one named say l r alike.machine in
        let before : length (machine_at other named).output ≡ length (machine_at one named).output =
        ap (λ (x : Equipped). length x.machine.output) alike.machine in
        let after : length (machine_at twin.seen named).output ≡ length (machine_at step.seen named).output =
        ap (λ (x : Equipped). length x.machine.output) machine in
        let whose = ap (λ (u : ℕ). length (machine_at twin.seen u).output - length (machine_at other u).output)
        (users_same step.event twin.event event) in
        let lines : twin.reply.lines ≡ step.reply.lines =
        r.reported.lines ∙ whose ∙ ap (λ (n : ℕ). n - length (machine_at other named).output) after
        ∙ ap (λ (n : ℕ). length (machine_at step.seen named).output - n) before ∙ sym l.reported.lines in
        (record { ended = say.ended; said = say.said; lines = lines; delivered = say.delivered }, machine)

  -- The same event in systems that look alike to its user has one reply.
  pub replies_are_one : RepliesAreOne
  replies_are_one one other step twin event alike l r had has =
      reply_one one other step twin event alike (say_one one other step twin event alike l r had has) l r

  -- ---- whole histories

  alike_to : (one other : SystemView) (user : ℕ) → LookAlike one other → IsAlikeTo user one other
  alike_to one other user h = record {
    machine = ap (λ (us : List Equipped). get_or us user nobody) h.users;
    world = ap (λ (ns : List (List ℕ)).
        record { names = ns; own = name_of ns user; on = logged_on_of other.users }) h.names
        ∙ ap (λ (us : List Equipped). world_among one.directory user (logged_on_of us)) h.users;
    users = ap (λ (us : List Equipped). length us) h.users;
    number = ap next_file h.files;
  }

  noted_one : (event : Event) (one other s t : SystemView)
      → user_at other (user_of event) ≡ user_at one (user_of event)
      → user_at t (user_of event) ≡ user_at s (user_of event) → noted_by event other t ≡ noted_by event one s
  noted_one (Run user asked) one other s t m n = refl
  noted_one (Line user typed) one other s t m n =
      ap (λ (x : Equipped). closed_by user x (user_at t user)) m
      ∙ ap (λ (x : Equipped). closed_by user (user_at one user) x) n
  noted_one (Tick user) one other s t m n = refl
  noted_one (Deck user cards) one other s t m n = refl
  noted_one (Serve user device) one other s t m n = refl
  noted_one (Transfer user id to) one other s t m n =
      ap (λ (x : Equipped). move_noted to (deck_queued x.devices id)) m

  step_one : (one other : SystemView) (step twin : Step) → IsSameEvent step.event twin.event → LookAlike one other
      → IsStep one step → IsStep other twin → HadFrames step.reply.ended → HadFrames twin.reply.ended
      → IsOneReply step.reply twin.reply × LookAlike step.seen twin.seen
  step_one one other step twin event h l r had has =
      let alike = alike_to one other (user_of step.event) h in
      let say = say_one one other step twin event alike l.replied r.replied had has in
      let reply = reply_one one other step twin event alike say l.replied r.replied in
      let each : (v : ℕ) → user_at twin.seen v ≡ user_at step.seen v =
      λ v. machine_one one other step twin event alike v say l.replied r.replied (alike_to one other v h).machine in
      let many : length twin.seen.users ≡ length step.seen.users =
      r.users ∙ ap (λ (us : List Equipped). length us) h.users ∙ sym l.users in
      let noted = notes_same other twin.seen step.event twin.event event
      ∙ noted_one step.event one other step.seen twin.seen alike.machine reply.1 in (
        reply.0,
        record {
          users = same_users twin.seen.users step.seen.users many each;
          names = ap names_of r.directory ∙ h.names ∙ sym (ap names_of l.directory);
          files = r.replied.reported.files
              ∙ ap (λ (xs : List FileNote). xs ++ noted_by twin.event other twin.seen) h.files
              ∙ ap (λ (xs : List FileNote). one.files ++ xs) noted ∙ sym l.replied.reported.files;
        },
      )

  -- The same events have the same replies, and leave systems that look alike.
  pub histories_are_one : HistoriesAreOne
  histories_are_one one other last end [] [] h l r events had has = (
    refl,
    record {
      users = ap (λ (x : SystemView). x.users) r ∙ h.users ∙ sym (ap (λ (x : SystemView). x.users) l);
      names = ap (λ (x : SystemView). names_of x.directory) r ∙ h.names
          ∙ sym (ap (λ (x : SystemView). names_of x.directory) l);
      files = ap (λ (x : SystemView). x.files) r ∙ h.files ∙ sym (ap (λ (x : SystemView). x.files) l);
    },
  )
  histories_are_one one other last end [] (twin ∷ twins) h l r events had has = absurd (cc)
  histories_are_one one other last end (step ∷ steps) [] h l r events had has = absurd events
  histories_are_one one other last end (step ∷ steps) (twin ∷ twins) h l r events had has =
      let now = step_one one other step twin events.0 h l.0 r.0 had.0 has.0 in
      let later = histories_are_one step.seen twin.seen last end steps twins now.1 l.1 r.1 events.1 had.1 has.1 in
      ((now.0, later.0), later.1)

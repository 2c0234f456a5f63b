-- Every connection is what the bytes make of it that have come there since it was opened.
use Rattle.std.proofs.Common.{◌≡◌, ◌⊎◌, inl, inr, ◌<◌, ◌≤◌, ◌+◌, ℕ, Bool, true, false, eqb, leb}
use Rattle.std.proofs.Common.{cond, List, [], ◌∷◌, ◌++◌, length, get_or, set, replicate, Option, Some, None, refl}
use Rattle.std.proofs.Common.{ap, sym, ◌∙◌, subst, arith, get_or-set_same}
use Rattle.std.proofs.lemmas.Bool.Decides.{leb_tells}
use Rattle.std.proofs.lemmas.List.{get_or_past, get_or-replicate, length-replicate, set-set}
use Rattle.user_names.specs.Users.{user_of}
use Rattle.logon_desk.specs.Connection.{after_line, again, begun, gone, opened, refused}
use Rattle.terminal_lines.specs.Decoder.{after_byte}
use Rattle.logon_desk.specs.Desk.{Answers, Closes, Comes, Desk, Event, Finishes, Keeps, Opens, Prints, Step, Takes}
use Rattle.logon_desk.specs.Desk.{Turns, Wakes, account_of, after_decoded, after_first}
use Rattle.logon_desk.specs.Desk.{after_pause, answer_by, comes_to, connection_at, ended, is_gone}
use Rattle.logon_desk.specs.Desk.{is_taking, is_terminal, judged_as, line_by, logon_line, names, new_desk, quietly}
use Rattle.logon_desk.specs.Desk.{asking, is_turn, same_guess, step, wake_by, with_connection}
use Rattle.logon_desk.specs.History.{after, arrived, meaning, with_line}
use Rattle.logon_desk.specs.declared.connection.Connection.{Connection}
use Rattle.logon_desk.specs.declared.connection.Stage.{Stage}
use Rattle.logon_desk.specs.declared.connection.Stage.TheVariants.{Gone, Naming, Asking, Waiting, Judged, Refused, On}
use Rattle.terminal_lines.specs.declared.decoder.Decoded.{Decoded}
use Rattle.terminal_lines.specs.declared.decoder.Decoded.TheVariants.{Nothing, Line, Declines, AreYouThere}
use Rattle.logon_desk.specs.declared.output.Notice.TheVariants.{Refused as Told}
use Rattle.logon_desk.specs.declared.output.DeskAction.{DeskAction}
use Rattle.logon_desk.specs.declared.output.DeskAction.TheVariants.{Says}
use Rattle.terminal_lines.specs.declared.words.Guess.{Guess}
use Rattle.terminal_lines.specs.declared.words.Said.{Said}
use Rattle.terminal_lines.specs.declared.words.Said.TheVariants.{Both, Name, Word, Other}
use Rattle.logon_desk.proofs.Reading.{IsHeard, IsSaid, at_both, at_one, heard_byte, heard_more, heard_opened, heard_to}
use Rattle.logon_desk.proofs.Reading.{vacant_heard}

-- Nothing is both true and false.
pub not_both : (b : Bool) → b ≡ true → b ≡ false → ⊥
not_both b t f = cc

-- the connections after an event are those before, or one of them was set
heard_set : (d : Desk) (k c : ℕ) (y : Connection) (came : List ℕ) → (IsHeard (connection_at d k) came → IsHeard y came)
    → IsHeard (connection_at d c) came → IsHeard (get_or (set d.connections k y) c gone) came
heard_set d k c y came here was =
    at_one (λ (x : Connection). IsHeard x came) d.connections k c y (vacant_heard came)
    (λ same. here (subst (λ (n : ℕ). IsHeard (connection_at d n) came) (sym same) was)) (λ _. was)

-- bytes came

comes_by : (d : Desk) (k c : ℕ) (bytes came : List ℕ) (fits : Bool) → IsHeard (connection_at d c) came
    → IsHeard (connection_at (cond fits (quietly (with_connection d k
    (record (connection_at d k) { waiting = (connection_at d k).waiting ++ bytes }))) (ended d k [])).desk c)
    (cond (eqb k c) (came ++ bytes) came)
comes_by d k c bytes came true was =
    at_both IsHeard d.connections k c (record (connection_at d k) { waiting = (connection_at d k).waiting ++ bytes })
    came (came ++ bytes) vacant_heard
    (λ same. heard_more (connection_at d k) came bytes (subst (λ (n : ℕ). IsHeard (connection_at d n) came)
    (sym same) was)) was
comes_by d k c bytes came false was = at_both IsHeard d.connections k c gone came (came ++ bytes) vacant_heard
    (λ same. vacant_heard (came ++ bytes)) was

-- time passed

heard_gone : (d : Desk) (k c : ℕ) (came : List ℕ) → IsHeard (connection_at d c) came
    → IsHeard (get_or (set d.connections k gone) c gone) came
heard_gone d k c came was = heard_set d k c gone came (λ _. vacant_heard came) was

late_by : (d : Desk) (k c : ℕ) (came : List ℕ) (s : Step) (is_late : Bool) → s.desk ≡ with_connection d k gone
    → IsHeard (connection_at d c) came → IsHeard (connection_at (cond is_late s (quietly d)).desk c) came
late_by d k c came s true e was = subst (λ (n : Desk). IsHeard (connection_at n c) came) (sym e)
    (heard_gone d k c came was)
late_by d k c came s false e was = was

asks_by : (d : Desk) (k c : ℕ) (came : List ℕ) (guess : Guess) (s : Step) (is_due : Bool)
    → (connection_at d k).stage ≡ Waiting guess → s.desk.connections ≡ set d.connections k
    (record (connection_at d k) { stage = Judged guess })
    → IsHeard (connection_at d c) came → IsHeard (connection_at (cond is_due s (quietly d)).desk c) came
asks_by d k c came guess s true stage e was =
    subst (λ (l : List Connection). IsHeard (get_or l c gone) came) (sym e)
    (heard_set d k c (record (connection_at d k) { stage = Judged guess }) came
    (heard_to (connection_at d k) (record (connection_at d k) { stage = Judged guess }) came
    (ap is_gone stage) refl refl (λ lines said. subst (λ (t : Stage). IsSaid t lines) stage said)) was)
asks_by d k c came guess s false stage e was = was

pause_by : (d : Desk) (k c : ℕ) (came : List ℕ) (now : ℕ) (is_last : Bool) (out other : List DeskAction)
    → (connection_at d k).stage ≡ Refused → IsHeard (connection_at d c) came
    → IsHeard (connection_at (cond is_last (ended d k out) (record {
      desk = with_connection d k
          (record (connection_at d k) { stage = Naming; patience = again (connection_at d k).patience now });
      outputs = other;
    })).desk c) came
pause_by d k c came now true out other stage was = heard_gone d k c came was
pause_by d k c came now false out other stage was =
    heard_set d k c (record (connection_at d k) { stage = Naming; patience = again (connection_at d k).patience now })
    came
    (heard_to (connection_at d k) (record (connection_at d k) {
      stage = Naming;
      patience = again (connection_at d k).patience now;
    }) came (ap is_gone stage) refl refl (λ lines said. tt)) was

paused_by : (d : Desk) (k c : ℕ) (came : List ℕ) (now : ℕ) (is_due : Bool) → (connection_at d k).stage ≡ Refused
    → IsHeard (connection_at d c) came
    → IsHeard (connection_at (cond is_due (after_pause d k (connection_at d k) now) (quietly d)).desk c) came
paused_by d k c came now true stage was = pause_by d k c came now (leb 3 (connection_at d k).patience.tries)
    (Says k Told ∷ []) (Says k Told ∷ []) stage was
paused_by d k c came now false stage was = was

left_by : (d : Desk) (k c : ℕ) (came : List ℕ) (s : Step) (is_there : Bool) → s.desk ≡ with_connection d k gone
    → IsHeard (connection_at d c) came → IsHeard (connection_at (cond is_there (quietly d) s).desk c) came
left_by d k c came s true e was = was
left_by d k c came s false e was = subst (λ (n : Desk). IsHeard (connection_at n c) came) (sym e)
    (heard_gone d k c came was)

wakes_by : (d : Desk) (k c : ℕ) (came : List ℕ) (now : ℕ) (stage : Stage) → (connection_at d k).stage ≡ stage
    → IsHeard (connection_at d c) came → IsHeard (connection_at (wake_by d k (connection_at d k) stage now).desk c) came
wakes_by d k c came now Gone e was = was
wakes_by d k c came now Naming e was = late_by d k c came _ (leb (connection_at d k).patience.deadline now) refl was
wakes_by d k c came now (Asking name) e was = late_by d k c came _
    (leb (connection_at d k).patience.deadline now) refl was
wakes_by d k c came now (Waiting guess) e was = asks_by d k c came guess (asking d k (connection_at d k) guess now)
    (is_turn d (connection_at d k) guess now) e refl was
wakes_by d k c came now (Judged guess) e was = was
wakes_by d k c came now Refused e was = paused_by d k c came now (leb (connection_at d k).patience.due now) e was
wakes_by d k c came now (On user) e was = left_by d k c came _ (is_terminal (account_of d user).terminal k) refl was

-- the host answered

judged_by : (d : Desk) (k c : ℕ) (came : List ℕ) (guess other : Guess) (user : Option ℕ) (is_right : Bool) (now : ℕ)
    → (connection_at d k).stage ≡ Judged other → IsHeard (connection_at d c) came
    → IsHeard (connection_at (judged_as d k guess user is_right now).desk c) came
judged_by d k c came guess other None is_right now stage was =
    heard_set d k c (record (connection_at d k) {
      stage = Refused;
      patience = refused (connection_at d k).patience now;
    }) came
    (heard_to (connection_at d k) (record (connection_at d k) {
      stage = Refused;
      patience = refused (connection_at d k).patience now;
    }) came (ap is_gone stage) refl refl (λ lines said. tt)) was
judged_by d k c came guess other (Some user) true now stage was =
    heard_set d k c (record (connection_at d k) { stage = On user }) came
    (heard_to (connection_at d k) (record (connection_at d k) { stage = On user }) came (ap is_gone stage) refl refl
    (λ lines said. tt)) was
judged_by d k c came guess other (Some user) false now stage was =
    heard_set d k c (record (connection_at d k) {
      stage = Refused;
      patience = refused (connection_at d k).patience now;
    }) came
    (heard_to (connection_at d k) (record (connection_at d k) {
      stage = Refused;
      patience = refused (connection_at d k).patience now;
    }) came (ap is_gone stage) refl refl (λ lines said. tt)) was

same_by : (d : Desk) (k c : ℕ) (came : List ℕ) (guess other : Guess) (is_right : Bool) (now : ℕ) (is_same : Bool)
    → (connection_at d k).stage ≡ Judged other → IsHeard (connection_at d c) came
    → IsHeard (connection_at (cond is_same (judged_as d k guess (user_of (names d) guess.name) is_right now)
    (quietly d)).desk c) came
same_by d k c came guess other is_right now true stage was = judged_by d k c came guess other
    (user_of (names d) guess.name) is_right now stage was
same_by d k c came guess other is_right now false stage was = was

answers_by : (d : Desk) (k c : ℕ) (came : List ℕ) (guess : Guess) (is_right : Bool) (now : ℕ) (stage : Stage)
    → (connection_at d k).stage ≡ stage → IsHeard (connection_at d c) came
    → IsHeard (connection_at (answer_by d k stage guess is_right now).desk c) came
answers_by d k c came guess is_right now Gone e was = was
answers_by d k c came guess is_right now Naming e was = was
answers_by d k c came guess is_right now (Asking name) e was = was
answers_by d k c came guess is_right now (Waiting other) e was = was
answers_by d k c came guess is_right now (Judged other) e was = same_by d k c came guess other is_right now
    (same_guess other guess) e was
answers_by d k c came guess is_right now Refused e was = was
answers_by d k c came guess is_right now (On user) e was = was

-- a byte was taken

-- what the answer to a line says of the lines
said_after : (stage : Stage) (said : Said) (line : List ℕ) (lines : List (List ℕ)) → meaning line ≡ said
    → IsSaid stage lines → (stage ≡ Naming) ⊎ ((name : List ℕ) × (stage ≡ Asking name))
    → IsSaid (after_line stage said).stage (line ∷ lines)
said_after Naming (Both guess) line lines means said logs = inl (line, lines, refl, means)
said_after Naming (Name name) line lines means said logs = (line, lines, refl, means)
said_after Naming (Word word) line lines means said logs = tt
said_after Naming Other line lines means said logs = tt
said_after (Asking name) (Word password) line lines means said logs =
    inr (line, said.0, said.1, ap (λ (l : List (List ℕ)). line ∷ l) said.2, said.3, means)
said_after (Asking name) (Both guess) line lines means said logs = tt
said_after (Asking name) (Name other) line lines means said logs = tt
said_after (Asking name) Other line lines means said logs = tt
said_after Gone said' line lines means said (inl e) = absurd (cc (e))
said_after Gone said' line lines means said (inr e) = absurd (cc (e.1))
said_after (Waiting guess) said' line lines means said (inl e) = absurd (cc (e))
said_after (Waiting guess) said' line lines means said (inr e) = absurd (cc (e.1))
said_after (Judged guess) said' line lines means said (inl e) = absurd (cc (e))
said_after (Judged guess) said' line lines means said (inr e) = absurd (cc (e.1))
said_after Refused said' line lines means said (inl e) = absurd (cc (e))
said_after Refused said' line lines means said (inr e) = absurd (cc (e.1))
said_after (On user) said' line lines means said (inl e) = absurd (cc (e))
said_after (On user) said' line lines means said (inr e) = absurd (cc (e.1))

-- the connection with that stage
pub record Arrives (d : Desk) (c : ℕ) (x : Connection) (stage : Stage) (now : ℕ) : Type 0 where
  pub there : Connection
  pub set_there : (comes_to d c x stage now).connections ≡ set d.connections c there
  pub stage_is : there.stage ≡ stage
  pub decoder_is : there.decoder ≡ x.decoder
  pub waiting_is : there.waiting ≡ x.waiting
  pub soon : (guess : Guess) → there.stage ≡ Waiting guess → there.patience.due ≡ now

-- A connection comes to each stage by its own events.
pub arrives : (d : Desk) (c : ℕ) (x : Connection) (stage : Stage) (now : ℕ) → Arrives d c x stage now
arrives d c x Gone now = record {
  there = record x { stage = Gone };
  set_there = refl;
  stage_is = refl;
  decoder_is = refl;
  waiting_is = refl;
  soon = λ g e. absurd (cc (e));
}
arrives d c x Naming now = record {
  there = record x { stage = Naming };
  set_there = refl;
  stage_is = refl;
  decoder_is = refl;
  waiting_is = refl;
  soon = λ g e. absurd (cc (e));
}
arrives d c x (Asking name) now = record {
  there = record x { stage = Asking name };
  set_there = refl;
  stage_is = refl;
  decoder_is = refl;
  waiting_is = refl;
  soon = λ g e. absurd (cc (e));
}
arrives d c x (Waiting guess) now = record {
  there = record x {
    stage = Waiting guess;
    patience = begun x.patience now;
  };
  set_there = refl;
  stage_is = refl;
  decoder_is = refl;
  waiting_is = refl;
  soon = λ g e. refl;
}
arrives d c x (Judged guess) now = record {
  there = record x { stage = Judged guess };
  set_there = refl;
  stage_is = refl;
  decoder_is = refl;
  waiting_is = refl;
  soon = λ g e. absurd (cc (e));
}
arrives d c x Refused now = record {
  there = record x { stage = Refused };
  set_there = refl;
  stage_is = refl;
  decoder_is = refl;
  waiting_is = refl;
  soon = λ g e. absurd (cc (e));
}
arrives d c x (On user) now = record {
  there = record x { stage = On user };
  set_there = refl;
  stage_is = refl;
  decoder_is = refl;
  waiting_is = refl;
  soon = λ g e. absurd (cc (e));
}

-- the connection without the byte
abbrev pub rest_of : Connection → ℕ → List ℕ → Connection
rest_of x byte rest = record x { decoder = (after_byte x.decoder byte).typed; waiting = rest }

within_by : (d : Desk) (k : ℕ) → is_gone (connection_at d k).stage ≡ false
    → ((leb (length d.connections) k ≡ true) × (length d.connections ≤ k))
    ⊎ ((leb (length d.connections) k ≡ false) × (k < length d.connections))
    → k < length d.connections
within_by d k is_open (inl w) = let past : connection_at d k ≡ gone = get_or_past d.connections k gone w.1 in
    absurd (not_both true refl (ap (λ (x : Connection). is_gone x.stage) (sym past) ∙ is_open))
within_by d k is_open (inr w) = w.1

-- a connection at which something is there is one of the places
pub within : (d : Desk) (k : ℕ) → is_gone (connection_at d k).stage ≡ false → k < length d.connections
within d k is_open = within_by d k is_open (leb_tells (length d.connections) k)

-- a line is taken by somebody who is about to log on
logs_on_by : (d : Desk) (k c : ℕ) (came : List ℕ) (byte : ℕ) (rest line : List ℕ) (now : ℕ)
    → is_gone (connection_at d k).stage ≡ false → (connection_at d k).waiting ≡ byte ∷ rest
    → (after_byte (connection_at d k).decoder byte).decoded ≡ Line line → ((connection_at d k).stage ≡ Naming)
    ⊎ ((name : List ℕ) × ((connection_at d k).stage ≡ Asking name)) → IsHeard (connection_at d c) came
    → IsHeard (connection_at (logon_line (with_connection d k (rest_of (connection_at d k) byte rest)) k
    (rest_of (connection_at d k) byte rest) line now).desk c) came
logs_on_by d k c came byte rest line now is_open waits whole logs was =
    let x = connection_at d k in
    let x1 = rest_of x byte rest in
    let stage = (after_line x.stage (meaning line)).stage in
    let a = arrives (with_connection d k x1) k x1 stage now in
    let once : (comes_to (with_connection d k x1) k x1 stage now).connections ≡ set d.connections k a.there =
    a.set_there ∙ set-set d.connections k x1 a.there in
    subst (λ (l : List Connection). IsHeard (get_or l c gone) came) (sym once) (heard_set d k c a.there came
    (heard_byte x a.there came byte rest is_open waits a.waiting_is a.decoder_is
    (λ lines said. subst (λ (s : Stage). IsSaid s (with_line (after_byte x.decoder byte).decoded lines))
    (sym a.stage_is)
    (subst (λ (e : Decoded). IsSaid stage (with_line e lines)) (sym whole)
    (said_after x.stage (meaning line) line lines refl said logs)))) was)

-- what is shown of him is what it was
stays_said : (stage : Stage) (lines more : List (List ℕ)) → (user : ℕ) × (stage ≡ On user) → IsSaid stage more
stays_said Gone lines more is_on = tt
stays_said Naming lines more is_on = tt
stays_said (Asking name) lines more is_on = absurd (cc (is_on.1))
stays_said (Waiting guess) lines more is_on = absurd (cc (is_on.1))
stays_said (Judged guess) lines more is_on = absurd (cc (is_on.1))
stays_said Refused lines more is_on = tt
stays_said (On user) lines more is_on = tt

-- a line is taken
line_taken : (d : Desk) (k c : ℕ) (came : List ℕ) (byte : ℕ) (rest line : List ℕ) (now : ℕ) (stage : Stage)
    → (connection_at d k).stage ≡ stage → is_taking d k stage ≡ true → (connection_at d k).waiting ≡ byte ∷ rest
    → (after_byte (connection_at d k).decoder byte).decoded ≡ Line line
    → connection_at (with_connection d k (rest_of (connection_at d k) byte rest)) k ≡ rest_of
    (connection_at d k) byte rest → IsHeard (connection_at d c) came
    → IsHeard (connection_at (line_by (with_connection d k (rest_of (connection_at d k) byte rest)) k stage line
    now).desk c) came
line_taken d k c came byte rest line now Gone e takes waits whole same was = absurd (not_both false takes refl)
line_taken d k c came byte rest line now Naming e takes waits whole same was =
    subst (λ (x : Connection). IsHeard (connection_at (logon_line
    (with_connection d k (rest_of (connection_at d k) byte rest)) k x line now).desk c) came) (sym same)
    (logs_on_by d k c came byte rest line now (ap is_gone e) waits whole (inl e) was)
line_taken d k c came byte rest line now (Asking name) e takes waits whole same was =
    subst (λ (x : Connection). IsHeard (connection_at (logon_line
    (with_connection d k (rest_of (connection_at d k) byte rest)) k x line now).desk c) came) (sym same)
    (logs_on_by d k c came byte rest line now (ap is_gone e) waits whole (inr (name, e)) was)
line_taken d k c came byte rest line now (Waiting guess) e takes waits whole same was = absurd
    (not_both false takes refl)
line_taken d k c came byte rest line now (Judged guess) e takes waits whole same was = absurd
    (not_both false takes refl)
line_taken d k c came byte rest line now Refused e takes waits whole same was = absurd (not_both false takes refl)
line_taken d k c came byte rest line now (On user) e takes waits whole same was =
    heard_set d k c (rest_of (connection_at d k) byte rest) came
    (heard_byte (connection_at d k) (rest_of (connection_at d k) byte rest) came byte rest
    (ap is_gone e) waits refl refl (λ lines said. stays_said (connection_at d k).stage lines
    (with_line (after_byte (connection_at d k).decoder byte).decoded lines) (user, e))) was

-- a byte that is no line is taken
quiet_byte : (d : Desk) (k c : ℕ) (came : List ℕ) (byte : ℕ) (rest : List ℕ) → is_gone (connection_at d k).stage ≡ false
    → (connection_at d k).waiting ≡ byte ∷ rest
    → ((lines : List (List ℕ)) → with_line (after_byte (connection_at d k).decoder byte).decoded lines ≡ lines)
    → IsHeard (connection_at d c) came
    → IsHeard (connection_at (with_connection d k (rest_of (connection_at d k) byte rest)) c) came
quiet_byte d k c came byte rest is_open waits none was =
    heard_set d k c (rest_of (connection_at d k) byte rest) came
    (heard_byte (connection_at d k) (rest_of (connection_at d k) byte rest) came byte rest is_open waits refl refl
    (λ lines said. subst (λ (l : List (List ℕ)). IsSaid (connection_at d k).stage l) (sym (none lines)) said)) was

decoded_by : (d : Desk) (k c : ℕ) (came : List ℕ) (byte : ℕ) (rest : List ℕ) (now : ℕ) (decoded : Decoded)
    → (after_byte (connection_at d k).decoder byte).decoded ≡ decoded → is_taking d k (connection_at d k).stage ≡ true
    → is_gone (connection_at d k).stage ≡ false → (connection_at d k).waiting ≡ byte ∷ rest
    → connection_at (with_connection d k (rest_of (connection_at d k) byte rest)) k ≡ rest_of
    (connection_at d k) byte rest
    → IsHeard (connection_at d c) came → IsHeard (connection_at
    (after_decoded (with_connection d k (rest_of (connection_at d k) byte rest)) k decoded now).desk c) came
decoded_by d k c came byte rest now Nothing is takes is_open waits same was =
    quiet_byte d k c came byte rest is_open waits (λ lines. ap (λ (e : Decoded). with_line e lines) is) was
decoded_by d k c came byte rest now (Line line) is takes is_open waits same was =
    subst (λ (x : Connection). IsHeard (connection_at (line_by
    (with_connection d k (rest_of (connection_at d k) byte rest)) k x.stage line now).desk c) came) (sym same)
    (line_taken d k c came byte rest line now (connection_at d k).stage refl takes waits is same was)
decoded_by d k c came byte rest now (Declines command option) is takes is_open waits same was =
    quiet_byte d k c came byte rest is_open waits (λ lines. ap (λ (e : Decoded). with_line e lines) is) was
decoded_by d k c came byte rest now AreYouThere is takes is_open waits same was =
    quiet_byte d k c came byte rest is_open waits (λ lines. ap (λ (e : Decoded). with_line e lines) is) was

first_by : (d : Desk) (k c : ℕ) (came : List ℕ) (now : ℕ) (waiting : List ℕ) → (connection_at d k).waiting ≡ waiting
    → is_taking d k (connection_at d k).stage ≡ true → is_gone (connection_at d k).stage ≡ false
    → IsHeard (connection_at d c) came → IsHeard (connection_at (after_first d k waiting now).desk c) came
first_by d k c came now [] waits takes is_open was = was
first_by d k c came now (byte ∷ rest) waits takes is_open was =
    decoded_by d k c came byte rest now (after_byte (connection_at d k).decoder byte).decoded refl takes is_open waits
    (get_or-set_same d.connections k (rest_of (connection_at d k) byte rest) gone (within d k is_open)) was

-- A connection that is being read is open.
pub taking_open : (d : Desk) (k : ℕ) (stage : Stage) → is_taking d k stage ≡ true → is_gone stage ≡ false
taking_open d k Gone takes = absurd (not_both false takes refl)
taking_open d k Naming takes = refl
taking_open d k (Asking name) takes = refl
taking_open d k (Waiting guess) takes = refl
taking_open d k (Judged guess) takes = refl
taking_open d k Refused takes = refl
taking_open d k (On user) takes = refl

takes_by : (d : Desk) (k c : ℕ) (came : List ℕ) (now : ℕ) (takes : Bool)
    → is_taking d k (connection_at d k).stage ≡ takes → IsHeard (connection_at d c) came
    → IsHeard (connection_at (cond takes (after_first d k (connection_at d k).waiting now) (quietly d)).desk c) came
takes_by d k c came now true e was = first_by d k c came now (connection_at d k).waiting refl e
    (taking_open d k (connection_at d k).stage e) was
takes_by d k c came now false e was = was

-- each event

heard_step : (d : Desk) (event : Event) (c : ℕ) (earlier : List Event) → IsHeard (connection_at d c) (arrived c earlier)
    → IsHeard (connection_at (step d event).desk c) (arrived c (event ∷ earlier))
heard_step d (Opens k address now) c earlier was =
    at_both IsHeard d.connections k c (opened address now) (arrived c earlier) [] vacant_heard
    (λ _. heard_opened address now) was
heard_step d (Comes k bytes) c earlier was = comes_by d k c bytes (arrived c earlier)
    (leb (length (connection_at d k).waiting + length bytes) 4096) was
heard_step d (Takes k now) c earlier was = takes_by d k c (arrived c earlier) now
    (is_taking d k (connection_at d k).stage) refl was
heard_step d (Wakes k now) c earlier was = wakes_by d k c (arrived c earlier) now (connection_at d k).stage refl was
heard_step d (Answers k guess is_right now) c earlier was = answers_by d k c (arrived c earlier) guess is_right now
    (connection_at d k).stage refl was
heard_step d (Closes k) c earlier was = heard_gone d k c (arrived c earlier) was
heard_step d (Prints user line) c earlier was = was
heard_step d (Keeps user line) c earlier was = was
heard_step d (Turns user is_on is_running) c earlier was = was
heard_step d (Finishes user) c earlier was = was

vacant_by : (size c : ℕ) → ((leb size c ≡ true) × (size ≤ c)) ⊎ ((leb size c ≡ false) × (c < size))
    → get_or (replicate size gone) c gone ≡ gone
vacant_by size c (inl w) = get_or_past (replicate size gone) c gone
    (omega (arith, w.1, length-replicate {A = Connection} size gone))
vacant_by size c (inr w) = get_or-replicate size c gone gone w.1

-- A desk without connections has none at any place.
pub vacant : (size c : ℕ) → get_or (replicate size gone) c gone ≡ gone
vacant size c = vacant_by size c (leb_tells size c)

-- every connection is what the bytes make of it that have come there since it was opened
pub heard : (users : List (List ℕ)) (size : ℕ) (events : List Event) (c : ℕ)
    → IsHeard (connection_at (after (new_desk users size) events) c) (arrived c events)
heard users size [] c = subst (λ (x : Connection). IsHeard x []) (sym (vacant size c)) (vacant_heard [])
heard users size (event ∷ earlier) c = heard_step (after (new_desk users size) earlier) event c earlier
    (heard users size earlier c)

-- What a session reads, does and writes.
use Rattle.std.specs.Prelude.{◌≡◌, ◌≤◌, ℕ, Bool, true, false, List, [], ◌∷◌, ◌++◌, ◌⊎◌, Option}
use Rattle.std.specs.Prelude.{Result, Ok, Err, length}
use Rattle.std.specs.Io.KnownBytes.{Appends, Consumes, IsAtEnd}
use Rattle.s370_num.specs.Host.{AppendsFront, IsCounted}
use Rattle.s370_num.specs.declared.host.HostFault.{HostFault}
use Rattle.s370_num.specs.declared.host.HostFault.TheVariants as faults
use Rattle.machine_devices.specs.declared.reply.Reply.{Reply}
use Rattle.session_script.specs.Users.{KnownUser}
use Rattle.session_script.specs.Script.{EventValue, script_of}
use Rattle.session_script.specs.declared.reader.ScriptError.{ScriptError}
use Rattle.session_script.specs.declared.reader.ScriptError.TheVariants as refusals
use Rattle.sessions.specs.Files.{closing_lines}
use Rattle.sessions.specs.Installed.{Installation, IsHistory, names_of}
use Rattle.sessions.specs.Schedule.{Act, AreDone, Entry, IsLacking, IsOf, Scene, acts, first_lines}
use Rattle.sessions.specs.Schedule.{steps_of}
use Rattle.sessions.specs.Transcript.{ended, step_lines, transcript}
use Rattle.sessions.specs.declared.faults.PlayError.{PlayError}
use Rattle.sessions.specs.declared.faults.PlayError.TheVariants as errors
use Rattle.sessions.specs.declared.faults.SessionError.{SessionError}
use Rattle.sessions.specs.declared.faults.SessionError.TheVariants as ends
use Rattle.sessions.specs.declared.installation.Refused.{Refused}
use Rattle.sessions.specs.declared.installation.Refused.TheVariants as wants
use Rattle.sessions.specs.declared.schedule.Detail.{Detail}

-- a session begins with the users in the queue who are on, and with the programs in the line that
-- were started
abbrev pub at_first : {W : Type 0} → Installation W → Detail → W → Scene W
at_first i detail world =
    record { world = world; lines = first_lines (i.seen world); detail = detail; had_slice = false }

-- the files for the operator end a transcript, where nothing is left to be done
abbrev pub closing : {W : Type 0} → Installation W → List Act → W → List ℕ
closing i [] world = ended (closing_lines (i.seen world))
closing i (act ∷ rest) world = []

-- the reader was read to its end, and gave this text
pub record IsRead (old new : Option (List ℕ)) (text : List ℕ) : Type 0 where
  pub given : Consumes old new text
  pub end : IsAtEnd new

-- the whole script was done, by its events and by turns that were dealt, and the whole transcript
-- was written, with the files for the operator; its events are a history of the installation
pub record IsSession {W : Type 0} (i : Installation W) (detail : Detail) (old new : W)
    (reader_old reader_new writer_old writer_new : Option (List ℕ)) : Type 0 where
  pub text : List ℕ
  pub read : IsRead reader_old reader_new text
  pub script : List EventValue
  pub accepted : script_of (i.seen old).users text ≡ Ok script
  pub entries : List (Entry W)
  pub last : Scene W
  pub done : AreDone i (acts script) (at_first i detail old) entries last
  pub left : new ≡ last.world
  pub history : IsHistory i old (steps_of entries) new
  pub written : Appends writer_old writer_new
      (transcript i detail (names_of (i.seen old)) entries ++ ended (closing_lines (i.seen new)))

-- all lines of what was done were written, but for an end of those of the last, and of this text
-- after them
pub record AreWrittenAlmost {W : Type 0} (i : Installation W) (detail : Detail)
    (names : List (List ℕ)) (entries : List (Entry W)) (more : List ℕ)
    (before after : Option (List ℕ)) : Type 0 where
  pub earlier : List (Entry W)
  pub latest : List (Entry W)
  pub between : Option (List ℕ)
  pub split : entries ≡ earlier ++ latest
  pub few : length latest ≤ 1
  pub whole : Appends before between (transcript i detail names earlier)
  pub front : AppendsFront between after (transcript i detail names latest ++ more)

-- the script was accepted, a beginning of it was done, and a beginning of that transcript was
-- written; the installation is what that has left, unless the first of what was left to be done was
-- refused memory
pub record IsCut {W : Type 0} (i : Installation W) (detail : Detail) (old new : W)
    (reader_old reader_new writer_old writer_new : Option (List ℕ)) : Type 0 where
  pub text : List ℕ
  pub read : IsRead reader_old reader_new text
  pub script : List EventValue
  pub accepted : script_of (i.seen old).users text ≡ Ok script
  pub front : List Act
  pub rest : List Act
  pub split : acts script ≡ front ++ rest
  pub entries : List (Entry W)
  pub last : Scene W
  pub done : AreDone i front (at_first i detail old) entries last
  pub left : (new ≡ last.world) ⊎ IsLacking i rest last.world new
  pub history : IsHistory i old (steps_of entries) last.world
  pub written : AppendsFront writer_old writer_new
      (transcript i detail (names_of (i.seen old)) entries ++ closing i rest last.world)
  pub almost : AreWrittenAlmost i detail (names_of (i.seen old)) entries
      (closing i rest last.world) writer_old writer_new

-- the script was refused, first at this line
pub record IsRefused (users : List KnownUser) (reader_old reader_new : Option (List ℕ))
    (line : ℕ) : Type 0 where
  pub text : List ℕ
  pub read : IsRead reader_old reader_new text
  pub refused : script_of users text ≡ Err line

-- these acts were done, and their transcript was written; the users are the same, and turns are
-- dealt among them
pub record IsPlayed {W : Type 0} (i : Installation W) (all : List Act) (old new : Scene W)
    (before after : Option (List ℕ)) : Type 0 where
  pub entries : List (Entry W)
  pub done : AreDone i all old entries new
  pub written : Appends before after (transcript i old.detail (names_of (i.seen old.world)) entries)
  pub users : (i.seen new.world).users ≡ (i.seen old.world).users
  pub detail : new.detail ≡ old.detail
  pub dealing : IsOf (i.seen new.world) new.lines

-- a beginning of these acts was done, and a beginning of that transcript was written
pub record IsPartly {W : Type 0} (i : Installation W) (all : List Act) (old : Scene W) (new : W)
    (before after : Option (List ℕ)) : Type 0 where
  pub front : List Act
  pub rest : List Act
  pub split : all ≡ front ++ rest
  pub entries : List (Entry W)
  pub last : Scene W
  pub done : AreDone i front old entries last
  pub left : (new ≡ last.world) ⊎ IsLacking i rest last.world new
  pub written : AppendsFront before after
      (transcript i old.detail (names_of (i.seen old.world)) entries)
  pub almost : AreWrittenAlmost i old.detail (names_of (i.seen old.world)) entries [] before after

-- the event that was said happened, and its lines were written
pub record IsAnswered {W : Type 0} (i : Installation W) (detail : Detail) (said : EventValue)
    (old new : W) (before after : Option (List ℕ)) : Type 0 where
  pub reply : Reply
  pub happened : i.Happens old said reply new
  pub written : Appends before after
      (ended (step_lines i detail (names_of (i.seen old))
      (record { said = said; reply = reply; left = new })))

-- it happened, and a beginning of its lines was written
pub record IsAnsweredPartly {W : Type 0} (i : Installation W) (detail : Detail) (said : EventValue)
    (old new : W) (before after : Option (List ℕ)) : Type 0 where
  pub reply : Reply
  pub happened : i.Happens old said reply new
  pub written : AppendsFront before after
      (ended (step_lines i detail (names_of (i.seen old))
      (record { said = said; reply = reply; left = new })))

-- it did not happen, or was refused memory, and nothing was written
pub record IsUnanswered {W : Type 0} (i : Installation W) (said : EventValue) (old new : W)
    (before after : Option (List ℕ)) : Type 0 where
  pub left : (new ≡ old) ⊎ i.Lacks old said new
  pub same : after ≡ before

-- how a failure of a host file is reported
abbrev pub fault_error : HostFault → PlayError
fault_error faults.Memory = errors.Memory
fault_error (faults.Device k) = errors.Device k

-- how an event that did not happen is reported
abbrev pub refused_error : Refused → PlayError
refused_error wants.Memory = errors.Memory
refused_error wants.Spent = errors.Spent

-- how a session says it
abbrev pub play_error : PlayError → SessionError
play_error errors.Memory = ends.Memory
play_error (errors.Device k) = ends.Device k
play_error errors.Spent = ends.Spent

-- how a script that is not read is reported
abbrev pub refusal_error : ScriptError → SessionError
refusal_error refusals.Memory = ends.Memory
refusal_error (refusals.Line n) = ends.Line n

-- why something was not played: a failure of the writer is counted and reports its count, and only
-- an installation says that it is spent that was so before; what was played has not spent it
abbrev pub Accounts : {A : Type 0} → Result A PlayError → Bool → Bool → ℕ → ℕ → Type 0
Accounts (Ok value) was is old new = (new ≡ old) × (is ≡ true → was ≡ true)
Accounts (Err (errors.Device k)) was is old new = IsCounted old new (faults.Device k)
Accounts (Err errors.Memory) was is old new = new ≡ old
Accounts (Err errors.Spent) was is old new = (new ≡ old) × (was ≡ true)

-- why a session has not reached its end: the counts of both files' failures, one more of one of
-- them where one is reported, and only an installation says that it is spent that was so before
abbrev pub AccountsFiles : Result (Unit {0}) SessionError → Bool → ℕ → ℕ → ℕ → ℕ → Type 0
AccountsFiles (Ok done) was r s w x = (s ≡ r) × (x ≡ w)
AccountsFiles (Err (ends.Device k)) was r s w x = (IsCounted r s (faults.Device k) × (x ≡ w))
    ⊎ ((s ≡ r) × IsCounted w x (faults.Device k))
AccountsFiles (Err ends.Memory) was r s w x = (s ≡ r) × (x ≡ w)
AccountsFiles (Err (ends.Line n)) was r s w x = (s ≡ r) × (x ≡ w)
AccountsFiles (Err ends.Spent) was r s w x = (s ≡ r) × (x ≡ w) × (was ≡ true)

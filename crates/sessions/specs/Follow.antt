-- A script that is given part by part.
use Rattle.std.specs.Prelude.{◌≡◌, ◌==◌, ℕ, Bool, true, if◌then◌else◌, length, List, [], ◌∷◌, ◌++◌}
use Rattle.std.specs.Prelude.{◌⊎◌, Option, Some, None, Result, Ok, Err}
use Rattle.std.specs.Io.KnownBytes.{Appends}
use Rattle.text_words.specs.Lines.{lines_of}
use Rattle.session_script.specs.Script.{EventValue, ScriptTakesMemory, script_of}
use Rattle.session_script.specs.Users.{KnownUser}
use Rattle.sessions.specs.Files.{closing_lines}
use Rattle.sessions.specs.Continuing.{ContinuesAs, but_printed}
use Rattle.sessions.specs.Installed.{Installation}
use Rattle.sessions.specs.Noted.{closed_between}
use Rattle.sessions.specs.Schedule.{IsOf, Scene, acts}
use Rattle.sessions.specs.Session.{IsPartly, IsPlayed, IsRead, IsSession, at_first}
use Rattle.sessions.specs.Transcript.{ended}
use Rattle.sessions.specs.declared.files.Telling.{Telling}
use Rattle.sessions.specs.declared.files.Telling.TheVariants.{Transcript}
use Rattle.sessions.specs.declared.follow.Part.{Part}
use Rattle.sessions.specs.declared.follow.Part.TheVariants as parts
use Rattle.sessions.specs.declared.schedule.Detail.{Detail}

-- whole lines, each ended by LF, or none
abbrev pub HasWholeLines : List ℕ → Type 0
HasWholeLines text = (text ≡ []) ⊎ ((front : List ℕ) × (text ≡ front ++ 10 ∷ []))

-- whether each line is ended by LF
abbrev pub is_whole : List ℕ → Bool
is_whole [] = true
is_whole (c ∷ []) = c == 10
is_whole (c ∷ d ∷ cs) = is_whole (d ∷ cs)

-- the last line, where nothing ends it: its number, counted from 1, is how many lines there are
abbrev pub unended_line : List ℕ → Option ℕ
unended_line text = if is_whole text then None else Some (length (lines_of text))

-- a line that nothing ends is refused, where no other one is
abbrev pub ended_script : Result (List EventValue) ℕ → Option ℕ → Result (List EventValue) ℕ
ended_script (Ok script) None = Ok script
ended_script (Ok script) (Some line) = Err line
ended_script (Err line) unended = Err line

-- the script that a part is, or the line of it that is the first refused
abbrev pub part_of : List KnownUser → List ℕ → Result (List EventValue) ℕ
part_of users text = ended_script (script_of users text) (unended_line text)

-- memory may be refused to a part: where it is read, or, if it is a script, where that is done
abbrev pub PartTakesMemory : List KnownUser → List ℕ → Type 0
PartTakesMemory users text = ScriptTakesMemory users text
    ⊎ ((script : List EventValue) × (script_of users text ≡ Ok script) × HasWholeLines text)

-- the text is a script; it was done, and its transcript was written; the scene to which it has led
-- goes on as this one, which may have forgotten printed lines and entries of closed files
pub record IsFollowed {W : Type 0} (i : Installation W) (text : List ℕ) (old new : Scene W)
    (before after : Option (List ℕ)) : Type 0 where
  pub script : List EventValue
  pub accepted : script_of (i.seen old.world).users text ≡ Ok script
  pub end : Scene W
  pub played : IsPlayed i (acts script) old end before after
  pub on : ContinuesAs i end new

-- the text is a script; a beginning of it was done, and a beginning of that transcript was written
pub record IsFollowedPartly {W : Type 0} (i : Installation W) (text : List ℕ) (old : Scene W)
    (before after : Option (List ℕ)) : Type 0 where
  pub script : List EventValue
  pub accepted : script_of (i.seen old.world).users text ≡ Ok script
  pub left : W
  pub played : IsPartly i (acts script) old left before after

-- at first nothing was followed
abbrev pub BeginsWithNothing : {W : Type 0} → Installation W → Type 0
BeginsWithNothing {W} i = (first : Scene W) (before : Option (List ℕ))
    → IsOf (i.seen first.world) first.lines → IsFollowed i [] first first before before

-- parts that were followed one after another are one script that was followed. Its transcript is
-- theirs joined, and the files for the operator that it closed are those of the first part and then
-- those of the second, also where files were forgotten between them
abbrev pub PartsJoin : {W : Type 0} → Installation W → Type 0
PartsJoin {W} i = (one other : List ℕ) (first middle last : Scene W)
    (before between after : Option (List ℕ)) → HasWholeLines one →
    (front : IsFollowed i one first middle before between)
    → (rest : IsFollowed i other middle last between after)
    → (all : IsFollowed i (one ++ other) first last before after)
    × ((telling : Telling) → closed_between i telling first all.end
    ≡ closed_between i telling first front.end ++ closed_between i telling middle rest.end)

-- a script that was followed from the beginning on, and the files for the operator of the scene to
-- which it has led after it, are its session; and that goes on as what is left, which may have
-- forgotten these files. They are all that it has closed, where none were closed before
abbrev pub EndsAsSession : {W : Type 0} → Installation W → Type 0
EndsAsSession {W} i = (detail : Detail) (text : List ℕ) (first : W) (last : Scene W)
    (reader_old reader_new before between after : Option (List ℕ)) →
    IsRead reader_old reader_new text
    → (followed : IsFollowed i text (at_first i detail first) last before between) →
    Appends between after (ended (closing_lines (i.seen followed.end.world))) →
    IsSession i detail first followed.end.world reader_old reader_new before after
    × i.GoesOnAs followed.end.world last.world
    × ((i.seen first).files ≡ []
    → closed_between i Transcript (at_first i detail first) followed.end
    ≡ closing_lines (i.seen followed.end.world))

-- what became of a part: it was done, has whole lines, and of the scene to which it has led the
-- printed lines are forgotten, and nothing else; or nothing was done, since this line of it is the
-- first that is refused
abbrev pub Became : {W : Type 0} → Installation W → List ℕ → Scene W → Part W → Option (List ℕ)
    → Option (List ℕ) → Type 0
Became i text old (parts.Done new) before after = HasWholeLines text
    × (followed : IsFollowed i text old new before after)
    × (i.seen new.world ≡ but_printed (i.seen followed.end.world))
Became i text old (parts.Refused new line) before after =
    (part_of (i.seen old.world).users text ≡ Err line) × (new ≡ old) × (after ≡ before)

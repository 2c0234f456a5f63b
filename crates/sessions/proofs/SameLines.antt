-- The same events have the same lines.
use Rattle.std.proofs.Common.{◌≡◌, ℕ, List, [], ◌∷◌, ◌++◌, refl, ap, map, ◌∙◌}
use Rattle.machine_devices.specs.declared.reply.Ended.{Ended}
use Rattle.machine_devices.specs.declared.reply.Ended.TheVariants as ends
use Rattle.machine_devices.specs.declared.reply.Reply.{Reply}
use Rattle.user_names.specs.Users.{name_of}
use Rattle.session_script.specs.Script.{EventValue}
use Rattle.unit_record.specs.Reader.{DeckValue}
use Rattle.sessions.specs.Alike.{AreAlike, IsAlike, TranscriptsAgree}
use Rattle.sessions.specs.Installed.{Installation, Step, machine_at, user_at}
use Rattle.sessions.specs.Schedule.{Entry, Answered, Dealt, Passed, Idle, user_said}
use Rattle.sessions.specs.Transcript.{delivered_lines, end_lines, ended, last_lines, reply_lines, said_lines}
use Rattle.sessions.specs.Transcript.{step_lines, told_line}
use Rattle.sessions.specs.Transcript.{transcript, written_lines}
use Rattle.sessions.specs.declared.schedule.Detail.{Detail}
use Rattle.sessions.specs.declared.schedule.Detail.TheVariants.{Whole}

-- of the lines that a console has printed only those count that have joined it
written_same : (name : List ℕ) (count : ℕ) (o p : List (List ℕ)) (end : Ended) → last_lines count o ≡ last_lines count p
    → written_lines name count o end ≡ written_lines name count p end
written_same name count o p (ends.Served done) h = ap (λ (lines : List (List ℕ)). map (told_line name) lines) h
written_same name count o p (ends.Ran ran) h = refl
written_same name count o p ends.Done h = refl
written_same name count o p ends.FramesOut h = refl

reply_same : (detail : Detail) (names : List (List ℕ)) (user : ℕ) (event : EventValue) (decks : List DeckValue)
    (reply : Reply) (o p : List (List ℕ))
    → last_lines reply.lines o ≡ last_lines reply.lines p
    → reply_lines detail names user event decks o reply ≡ reply_lines detail names user event decks p reply
reply_same detail names user event decks reply o p h =
    let name = name_of names user in
    ap (λ (lines : List (List ℕ)). said_lines names name decks reply.said ++ lines
    ++ delivered_lines names reply.delivered ++ end_lines detail name event reply.ended)
    (written_same name reply.lines o p reply.ended h)

same_step : {V W : Type 0} (i : Installation V) (j : Installation W) (detail : Detail) (names : List (List ℕ))
    (one : Step V) (other : Step W) → IsAlike i j one other
    → step_lines i detail names one ≡ step_lines j detail names other
same_step i j detail names one other h =
    let user = user_said other.said in
    let seen = i.seen one.left in
    ap (λ (s : EventValue). reply_lines detail names (user_said s) s (user_at seen (user_said s)).devices.reader.decks
    (machine_at seen (user_said s)).output one.reply) h.said
    ∙ (ap (λ (d : List DeckValue). reply_lines detail names user other.said d (machine_at seen user).output one.reply)
    h.decks
    ∙ (ap (λ (r : Reply). reply_lines detail names user other.said
    (user_at (j.seen other.left) user).devices.reader.decks (machine_at seen user).output r) h.reply
    ∙ reply_same detail names user other.said (user_at (j.seen other.left) user).devices.reader.decks other.reply _ _
    h.output))

joined : (a b c d : List ℕ) → a ≡ b → c ≡ d → a ++ c ≡ b ++ d
joined a b c d e f = ap (λ (x : List ℕ). x ++ c) e ∙ ap (λ (x : List ℕ). b ++ x) f

-- Two installations that show the same write the same transcript.
pub agree : {V W : Type 0} (i : Installation V) (j : Installation W) → TranscriptsAgree i j
agree i j detail names [] [] h = refl
agree i j detail names [] (other ∷ others) h = absurd h
agree i j detail names (Answered one ∷ ones) [] h = absurd h
agree i j detail names (Dealt one ∷ ones) [] h = absurd h
agree i j detail names (Passed ∷ ones) [] h = absurd h
agree i j detail names (Idle ∷ ones) [] h = absurd h
agree i j detail names (Answered one ∷ ones) (Answered other ∷ others) h =
    joined _ _ _ _ (ap ended (same_step i j Whole names one other h.0)) (agree i j detail names ones others h.1)
agree i j detail names (Answered one ∷ ones) (Dealt other ∷ others) h = absurd h
agree i j detail names (Answered one ∷ ones) (Passed ∷ others) h = absurd h
agree i j detail names (Answered one ∷ ones) (Idle ∷ others) h = absurd h
agree i j detail names (Dealt one ∷ ones) (Answered other ∷ others) h = absurd h
agree i j detail names (Dealt one ∷ ones) (Dealt other ∷ others) h =
    joined _ _ _ _ (ap ended (same_step i j detail names one other h.0)) (agree i j detail names ones others h.1)
agree i j detail names (Dealt one ∷ ones) (Passed ∷ others) h = absurd h
agree i j detail names (Dealt one ∷ ones) (Idle ∷ others) h = absurd h
agree i j detail names (Passed ∷ ones) (Answered other ∷ others) h = absurd h
agree i j detail names (Passed ∷ ones) (Dealt other ∷ others) h = absurd h
agree i j detail names (Passed ∷ ones) (Passed ∷ others) h = agree i j detail names ones others h
agree i j detail names (Passed ∷ ones) (Idle ∷ others) h = absurd h
agree i j detail names (Idle ∷ ones) (Answered other ∷ others) h = absurd h
agree i j detail names (Idle ∷ ones) (Dealt other ∷ others) h = absurd h
agree i j detail names (Idle ∷ ones) (Passed ∷ others) h = absurd h
agree i j detail names (Idle ∷ ones) (Idle ∷ others) h = joined _ _ _ _ refl (agree i j detail names ones others h)

-- Two installations whose machines are given the same events.
use Rattle.std.specs.Prelude.{◌≡◌, ℕ, List, [], ◌∷◌}
use Rattle.sessions.specs.Installed.{Installation, Step, machine_at, user_at}
use Rattle.sessions.specs.Schedule.{Entry, Answered, Dealt, Passed, Idle, user_said}
use Rattle.sessions.specs.Transcript.{last_lines, transcript}
use Rattle.sessions.specs.declared.schedule.Detail.{Detail}

-- the same event with the same reply, which leaves its user the same decks, and by which the same
-- lines have joined his console
pub record IsAlike {V W : Type 0} (i : Installation V) (j : Installation W) (one : Step V)
    (other : Step W) : Type 0 where
  pub said : one.said ≡ other.said
  pub reply : one.reply ≡ other.reply
  pub decks : let user = user_said other.said in
      (user_at (i.seen one.left) user).devices.reader.decks
      ≡ (user_at (j.seen other.left) user).devices.reader.decks
  pub output : let user = user_said other.said in last_lines other.reply.lines
      (machine_at (i.seen one.left) user).output
      ≡ last_lines other.reply.lines (machine_at (j.seen other.left) user).output

-- what came of the same acts, one for one
abbrev pub AreAlike : {V W : Type 0} → Installation V → Installation W → List (Entry V)
    → List (Entry W) → Type 0
AreAlike i j [] [] = Unit {0}
AreAlike i j [] (entry ∷ entries) = ⊥
AreAlike i j (entry ∷ entries) [] = ⊥
AreAlike i j (Answered one ∷ ones) (Answered other ∷ others) = IsAlike i j one other
    × AreAlike i j ones others
AreAlike i j (Dealt one ∷ ones) (Dealt other ∷ others) = IsAlike i j one other
    × AreAlike i j ones others
AreAlike i j (Passed ∷ ones) (Passed ∷ others) = AreAlike i j ones others
AreAlike i j (Idle ∷ ones) (Idle ∷ others) = AreAlike i j ones others
AreAlike i j (one ∷ ones) (other ∷ others) = ⊥

-- with the same names they have the same transcript
abbrev pub TranscriptsAgree : {V W : Type 0} → Installation V → Installation W → Type 0
TranscriptsAgree {V} {W} i j =
    (detail : Detail) (names : List (List ℕ)) (ones : List (Entry V)) (others : List (Entry W)) →
    AreAlike i j ones others → transcript i detail names ones ≡ transcript j detail names others

-- A program that is after one more command walks as it does by itself: its commands are counted
-- from one more on.
use Rattle.std.specs.Prelude.{◌+◌, ◌≡◌}
use Rattle.s370_walk.specs.declared.parts.NextCcw.{NextCcw}
use Rattle.s370_walk.specs.declared.parts.Position.{Position}
use Rattle.s370_store.specs.Memory.{Memory}
use Rattle.s370_walk.specs.Walk.{Form, Setting, State, Fetching, Moving, Over}

-- the place of a word with one more command started
abbrev pub raised_spot : NextCcw → NextCcw
raised_spot s = record { at = s.at; role = s.role; jumped = s.jumped; started = s.started + 1 }

-- a position with one more command started
abbrev pub raised_position : Position → Position
raised_position p =
    record {
      at = p.at;
      started = p.started + 1;
      word = p.word;
      count = p.count;
      before = p.before;
      transfer = p.transfer;
    }

-- a state of the walk with one more command started
abbrev pub raised : {D : Type 0} → State D → State D
raised (Fetching s m d) = Fetching (raised_spot s) m d
raised (Moving p m d) = Moving (raised_position p) m d
raised (Over e m d) = Over e m d

-- one more command is before the program's own, and one more may be started
abbrev pub raised_setting : {D : Type 0} → Setting D → Setting D
raised_setting h = record {
  machine = h.machine;
  key = h.key;
  limit = h.limit + 1;
  prefix = h.prefix + 1;
}

-- where bytes lie, and what they are, does not depend on how many commands were started
pub record IsUncounted (form : Form) : Type 0 where
  pub place : (m : Memory) (p : Position) → form.place m (raised_position p) ≡ form.place m p
  pub load : (m : Memory) (p : Position) → form.load m (raised_position p) ≡ form.load m p

-- What the parts of a run say, as states of the walk.
use Rattle.std.specs.Prelude.{ℕ, ◌+◌, ◌-◌, ◌*◌, ◌^◌, ◌≡◌, ◌<◌, ◌≤◌, Option, None, Some, Bool, ◌⊎◌}
use Rattle.std.specs.Prelude.{if◌then◌else◌}
use Rattle.s370_walk.specs.declared.parts.Order.{Order}
use Rattle.s370_walk.specs.declared.parts.Transfer.{Transfer}
use Rattle.s370_walk.specs.declared.parts.NextCcw.{NextCcw}
use Rattle.s370_walk.specs.declared.parts.Position.{Position}
use Rattle.s370_walk.specs.declared.parts.Progress.{Progress}
use Rattle.s370_walk.specs.declared.parts.Progress.TheVariants.{At, Ended}
use Rattle.s370_store.specs.Memory.{Memory}
use Rattle.s370_walk.specs.Hardware.{Machine}
use Rattle.s370_walk.specs.Short.{IsShort}
use Rattle.s370_walk.specs.Stuck.{IsStuck}
use Rattle.s370_walk.specs.Walk.{Setting, State, Moving, Over, Written, live, rest}
use Rattle.s370_channel.specs.declared.limits.Limits.{Limits}
use Rattle.s370_channel.specs.declared.running.ChannelError.{ChannelError}
use Rattle.s370_channel.specs.declared.running.ChannelError.TheVariants as errors
use Rattle.s370_channel.specs.declared.moving.Moved.{Moved}
use Rattle.s370_channel.specs.declared.moving.Moved.TheVariants.{Done, Stopped}

-- what stays the same while a program runs
abbrev pub setting : {D : Type 0} → Machine D → Limits → Setting D
setting machine limits =
    record { machine = machine; key = limits.key; limit = limits.commands; prefix = limits.prefix }

-- after some bytes
abbrev pub moved_state : {D : Type 0} → Moved → Memory → D → State D
moved_state (Done p) m d = Moving p m d
moved_state (Stopped e) m d = Over e m d

-- How much may still be done: the commands that may start, and within one what the device has left.
-- It falls at each word.
abbrev pub rest_of : Option Transfer → ℕ
rest_of None = 0
rest_of (Some t) = 2 + 2 * t.left

unfoldable pub weight : ℕ → NextCcw → ℕ
weight limit spot = (limit - spot.started) * 2 ^ 34 + rest_of spot.role +
    (if spot.jumped then 0 else 1)

-- a word leads to the end, or to a word of less weight
abbrev pub IsLighter : ℕ → NextCcw → Progress → Type 0
IsLighter limit old (At new) = weight limit new < weight limit old
IsLighter limit old (Ended e) = Unit {0}

-- what a word leads to that is being obeyed, and has the device's bytes of p left
abbrev pub IsBehind : ℕ → Position → Progress → Type 0
IsBehind limit p (At new) =
    (weight limit new ≤ (limit - p.started) * 2 ^ 34 + rest_of (Some p.transfer) + 1)
    × (0 < p.count → weight limit new ≤ (limit - p.started) * 2 ^ 34 + 1)
IsBehind limit p (Ended e) = Unit {0}

-- a transfer that has run out: its command is the same, and it went on where it could
pub record HasRunOut {D : Type 0} (machine : Machine D) (d : D) (old new : Position) : Type 0 where
  pub out : (new.count ≡ 0) ⊎ (rest machine new d ≡ 0)
  pub started : new.started ≡ old.started
  pub step : new.count + old.transfer.left ≡ old.count + new.transfer.left
  pub less : new.transfer.left ≤ old.transfer.left

-- what was moved has used up the word, or the transfer stopped
abbrev pub IsOut : {D : Type 0} → Machine D → Position → D → Moved → Type 0
IsOut machine old d (Done new) = HasRunOut machine d old new
IsOut machine old d (Stopped e) = Unit {0}

-- what a word leads to that is obeyed from its first byte on
abbrev pub IsFollowed : ℕ → Position → Progress → Type 0
IsFollowed limit p (At new) =
    weight limit new < (limit - p.started) * 2 ^ 34 + rest_of (Some p.transfer)
IsFollowed limit p (Ended e) = Unit {0}

-- one byte further in the same word
pub record HasStepped (old new : Position) : Type 0 where
  pub started : new.started ≡ old.started
  pub word : new.word ≡ old.word
  pub count : new.count + 1 ≡ old.count
  pub left : new.transfer.left + 1 ≡ old.transfer.left

-- so many bytes further in the same word
abbrev pub onward : Position → ℕ → Option ℕ → Position
onward p n before =
    record {
      at = p.at;
      started = p.started;
      word = p.word;
      count = p.count - n;
      before = before;
      transfer = record {
        command = p.transfer.command;
        kind = p.transfer.kind;
        left = p.transfer.left - n;
      };
    }

-- at least one byte further in the same word
pub record HasMoved (old new : Position) : Type 0 where
  pub started : new.started ≡ old.started
  pub word : new.word ≡ old.word
  pub count : new.count < old.count
  pub step : new.count + old.transfer.left ≡ old.count + new.transfer.left
  pub less : new.transfer.left ≤ old.transfer.left

-- what was moved is at least one byte, or the transfer stopped
abbrev pub IsFurther : Position → Moved → Type 0
IsFurther old (Done new) = HasMoved old new
IsFurther old (Stopped e) = Unit {0}

-- a byte was moved, or a check has stopped the transfer
abbrev pub IsOneOn : Position → Moved → Type 0
IsOneOn old (Done new) = HasStepped old new
IsOneOn old (Stopped e) = Unit {0}

-- why a run stops: the walk is stuck at the page that is reported, or comes to a command that needs
-- memory
abbrev pub MatchStuck : {D : Type 0} → Written → Setting D → (D → Order → Bool) → (ℕ → Bool)
    → State D → ChannelError → Type 0
MatchStuck w h needs present from errors.Memory = IsShort (live w) h needs from
MatchStuck w h needs present from (errors.Absent page) = IsStuck w h present from page.0

-- The channel program of an initial program loading (GA22-7000, "Initial Program Loading"): its
-- first command is in no storage, and the words after it begin at location 8.
use Rattle.std.specs.Prelude.{ℕ, ◌≡◌, ◌⊎◌, Bool, true, None}
use Rattle.s370_walk.specs.declared.parts.Order.{Order}
use Rattle.s370_walk.specs.declared.parts.Ccw.{Ccw}
use Rattle.s370_store.specs.Memory.{Memory}
use Rattle.s370_walk.specs.Hardware.{Machine}
use Rattle.s370_walk.specs.Short.{IsShort}
use Rattle.s370_walk.specs.Stuck.{IsStuck}
use Rattle.s370_walk.specs.Walk.{State, Written, entered, live, order_of, start_spot}
use Rattle.s370_channel.specs.declared.limits.Limits.{Limits}
use Rattle.s370_channel.specs.declared.running.ChannelError.{ChannelError}
use Rattle.s370_channel.specs.declared.running.ChannelError.TheVariants as errors
use Rattle.s370_channel.specs.Progress.{setting}
use Rattle.s370_channel.specs.Start.{most_commands}

-- read 24 bytes to location 0, with CC and SLI; the next word is at 8
abbrev pub implied_word : Ccw
implied_word = record {
  command = record { code = 2 };
  address = 0;
  flags = record { bits = 96 };
  count = 24;
  next = 8;
  skipped = 16;
}

-- the key is zero, and the implied command is the first of as many as any program may start
abbrev pub loading_limits : Limits
loading_limits = record { key = 0; commands = most_commands; prefix = 0 }

-- where the walk starts: the implied word is obeyed, as if it had been fetched at location 0
abbrev pub loading : {D : Type 0} → Machine D → Memory → D → State D
loading machine m d = entered (setting machine loading_limits) (start_spot 0) implied_word None m d

-- why it stops: the implied command needs memory, or the walk is stuck or comes to a command that
-- needs memory
abbrev pub MatchLoading : {D : Type 0} → Written → Machine D → (D → Order → Bool) → (ℕ → Bool)
    → Memory → D → ChannelError → Type 0
MatchLoading w machine needs present m d errors.Memory =
    (needs d (order_of 0 (start_spot 0) implied_word) ≡ true)
    ⊎ IsShort (live w) (setting machine loading_limits) needs (loading machine m d)
MatchLoading w machine needs present m d (errors.Absent page) =
    IsStuck w (setting machine loading_limits) present (loading machine m d) page.0

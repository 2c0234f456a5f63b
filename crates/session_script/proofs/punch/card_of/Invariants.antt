use Rattle.std.proofs.Common.{◌≡◌, ◌-◌, ◌++◌, map, take, replicate}
use Rattle.session_script.specs.Cards.{blank, punched}
use Rattle.session_script.proofs.punch.card_of.Given as goal

-- the columns so far, and blanks after them
abbrev pub invariant-loop-column : goal.invariant-loop-column
invariant-loop-column l = l.card ≡ take l.column (map punched l.line) ++ replicate (80 - l.column) blank

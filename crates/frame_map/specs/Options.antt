-- What the words of the program name, as those of a simple command of `clap`.
use Rattle.std.specs.Prelude.{ℕ, List, codes, Some}
use Rattle.clap.specs.Words.{App, Rule, new_rule, with_rule}
use Rattle.clap.specs.declared.builder.action.ArgAction.TheVariants.{Set}
use Rattle.vm370.specs.Options.{command_of as run_command_of}

-- `--state FILE`
abbrev pub state_rule : Rule
state_rule = record (new_rule (codes "state")) { long = Some (codes "state"); action = Some Set }

-- the arguments of `vm370`, and `[--state FILE]`
abbrev pub command_of : List ℕ → App
command_of program = with_rule (run_command_of program) state_rule

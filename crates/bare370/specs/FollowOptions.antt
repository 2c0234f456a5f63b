-- What the words of the program name where it follows a script.
use Rattle.std.specs.Prelude.{◌≡◌, ℕ, List, map, codes, Some}
use Rattle.clap.specs.Words.{App, Row, all_of, new_app, one_of, with_rule}
use Rattle.program_host.specs.Words.{IsFlag, texts_of}
use Rattle.programs.specs.Arguments.{follow_rule, save_rule, terminals_rule}
use Rattle.programs.specs.Arguments.{volume_rule}
use Rattle.bare370.specs.Options.{storage_named, storage_rule}
use Rattle.bare370.specs.declared.follow_arguments.MachineFollowOptions.{MachineFollowOptions}

-- `PROGRAM [--save] [--terminals] --follow STORAGE [VOLUME]...`
abbrev pub command_of : List ℕ → App
command_of program = with_rule
    (with_rule (with_rule (with_rule (with_rule (new_app program) save_rule) terminals_rule)
    follow_rule) storage_rule) volume_rule

-- the options are what these words give
pub record IsNamed (rows : List Row) (options : MachineFollowOptions) : Type 0 where
  pub save : IsFlag (one_of (codes "save") rows) options.save
  pub terminals : IsFlag (one_of (codes "terminals") rows) options.terminals
  pub storage : storage_named rows ≡ Some options.storage
  pub volumes : map (λ path. path.now) options.volumes.items
      ≡ texts_of (all_of (codes "VOLUME") rows)

-- What the words of the program name where it follows a script.
use Rattle.std.specs.Prelude.{◌≡◌, ℕ, Bool, List, map, codes, Some, is_some}
use Rattle.clap.specs.Words.{App, Row, all_of, first_of, new_app, one_of, with_rule}
use Rattle.program_host.specs.Words.{IsFlag, texts_of}
use Rattle.programs.specs.Arguments.{follow_rule, terminals_rule, volume_rule}
use Rattle.vm370.specs.Options.{IsSized, directory_rule, with_options}
use Rattle.vm370.specs.declared.follow_arguments.SystemFollowOptions.{SystemFollowOptions}

-- `PROGRAM [--frames N] [--slots N] [--save] [--terminals] --follow DIRECTORY [VOLUME]...`
abbrev pub command_of : List ℕ → App
command_of program = with_rule
    (with_rule (with_rule (with_rule (with_options (new_app program)) terminals_rule) follow_rule)
    directory_rule) volume_rule

-- the directory is given
abbrev pub gives_directory : List Row → Bool
gives_directory rows = is_some (first_of (codes "DIRECTORY") rows)

-- the options are what these words give
pub record IsNamed (rows : List Row) (options : SystemFollowOptions) : Type 0 where
  pub sizes : IsSized rows options.sizes
  pub save : IsFlag (one_of (codes "save") rows) options.save
  pub terminals : IsFlag (one_of (codes "terminals") rows) options.terminals
  pub directory : first_of (codes "DIRECTORY") rows ≡ Some options.directory.now
  pub volumes : map (λ path. path.now) options.volumes.items
      ≡ texts_of (all_of (codes "VOLUME") rows)

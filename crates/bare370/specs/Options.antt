-- What the words of the program name, as those of a simple command of `clap`.
use Rattle.std.specs.Prelude.{◌≡◌, ℕ, Bool, true, List, map, codes, Option, Some, is_some}
use Rattle.std.specs.Option.{option_and_then}
use Rattle.clap.specs.Words.{App, Row, Rule, all_of, first_of, new_app, new_rule, one_of, with_rule}
use Rattle.cp_directory.specs.Sizes.{storage_of}
use Rattle.program_host.specs.Words.{IsFlag, texts_of}
use Rattle.programs.specs.Arguments.{save_rule, script_rule, volume_rule}
use Rattle.bare370.specs.declared.arguments.BareOptions.{BareOptions}

-- the first word after the program's name: the size of the storage
abbrev pub storage_rule : Rule
storage_rule = record (new_rule (codes "STORAGE")) { required = true }

-- `PROGRAM [--save] STORAGE SCRIPT [VOLUME]...`
abbrev pub command_of : List ℕ → App
command_of program = with_rule
    (with_rule (with_rule (with_rule (new_app program) save_rule) storage_rule) script_rule)
    volume_rule

-- the script is given
abbrev pub gives_script : List Row → Bool
gives_script rows = is_some (first_of (codes "SCRIPT") rows)

-- the pages of the storage that the words name, where there may be one
abbrev pub storage_named : List Row → Option ℕ
storage_named rows = option_and_then storage_of (first_of (codes "STORAGE") rows)

-- the options are what these words give
pub record IsNamed (rows : List Row) (options : BareOptions) : Type 0 where
  pub save : IsFlag (one_of (codes "save") rows) options.save
  pub storage : storage_named rows ≡ Some options.storage
  pub script : first_of (codes "SCRIPT") rows ≡ Some options.script.now
  pub volumes : map (λ path. path.now) options.volumes.items
      ≡ texts_of (all_of (codes "VOLUME") rows)

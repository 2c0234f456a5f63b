-- What the words of the program name, as those of a simple command of `clap`.
use Rattle.std.specs.Prelude.{◌≡◌, ◌≤◌, ◌&&◌, ℕ, Bool, true, List, map, codes, Option}
use Rattle.std.specs.Prelude.{Some, None, is_some}
use Rattle.clap.specs.Words.{App, Row, Rule, all_of, first_of, new_app, new_rule, one_of}
use Rattle.clap.specs.Words.{with_rule}
use Rattle.clap.specs.declared.builder.action.ArgAction.TheVariants.{Set}
use Rattle.text_words.specs.Numbers.{decimal_of}
use Rattle.cp_core.specs.Sizes.{SystemSizes}
use Rattle.program_host.specs.Words.{IsFlag, texts_of}
use Rattle.programs.specs.Arguments.{save_rule, script_rule, volume_rule}
use Rattle.vm370.specs.declared.arguments.Options.{Options}

-- `--frames N`
abbrev pub frames_rule : Rule
frames_rule = record (new_rule (codes "frames")) { long = Some (codes "frames"); action = Some Set }

-- `--slots N`
abbrev pub slots_rule : Rule
slots_rule = record (new_rule (codes "slots")) { long = Some (codes "slots"); action = Some Set }

-- the first word after the program's name: the directory
abbrev pub directory_rule : Rule
directory_rule = record (new_rule (codes "DIRECTORY")) { required = true }

-- `[--frames N] [--slots N] [--save]`
abbrev pub with_options : App → App
with_options app = with_rule (with_rule (with_rule app frames_rule) slots_rule) save_rule

-- `DIRECTORY SCRIPT [VOLUME]...`
abbrev pub with_paths : App → App
with_paths app = with_rule (with_rule (with_rule app directory_rule) script_rule) volume_rule

-- `PROGRAM [--frames N] [--slots N] [--save] DIRECTORY SCRIPT [VOLUME]...`
abbrev pub command_of : List ℕ → App
command_of program = with_paths (with_options (new_app program))

-- both paths are given
abbrev pub gives_paths : List Row → Bool
gives_paths rows = is_some (first_of (codes "DIRECTORY") rows) && is_some
    (first_of (codes "SCRIPT") rows)

-- the number that an option spells in at most 7 decimal digits, and this one where the option is
-- not given
abbrev pub number_or : ℕ → Option (List ℕ) → Option ℕ
number_or default None = Some default
number_or default (Some text) = decimal_of 7 text

-- so many frames and slots are named: 64 and 256 where they are not given, and no more than 4096
-- and 65,536
pub record IsSized (rows : List Row) (sizes : SystemSizes) : Type 0 where
  pub frames : number_or 64 (first_of (codes "frames") rows) ≡ Some sizes.frames
  pub slots : number_or 256 (first_of (codes "slots") rows) ≡ Some sizes.slots
  pub most_frames : sizes.frames ≤ 4096
  pub most_slots : sizes.slots ≤ 65536

-- the options are what these words give
pub record IsNamed (rows : List Row) (options : Options) : Type 0 where
  pub sizes : IsSized rows options.sizes
  pub save : IsFlag (one_of (codes "save") rows) options.save
  pub directory : first_of (codes "DIRECTORY") rows ≡ Some options.directory.now
  pub script : first_of (codes "SCRIPT") rows ≡ Some options.script.now
  pub volumes : map (λ path. path.now) options.volumes.items
      ≡ texts_of (all_of (codes "VOLUME") rows)

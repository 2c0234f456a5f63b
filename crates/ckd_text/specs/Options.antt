-- What the words of mkvol and trackmap name, as those of simple commands of `clap`.
use Rattle.std.specs.Prelude.{◌≡◌, ℕ, Bool, true, List, codes, Some, is_some}
use Rattle.clap.specs.Words.{App, Row, Rule, first_of, new_app, new_rule, with_rule}
use Rattle.ckd_text.specs.declared.arguments.VolumePaths.{VolumePaths}

-- a path that has to be given
abbrev pub path_rule : List ℕ → Rule
path_rule name = record (new_rule name) { required = true }

-- `mkvol OUT TEXT`
abbrev pub mkvol_command : App
mkvol_command = with_rule (with_rule (new_app (codes "mkvol")) (path_rule (codes "OUT")))
    (path_rule (codes "TEXT"))

-- `trackmap IMAGE`
abbrev pub trackmap_command : App
trackmap_command = with_rule (new_app (codes "trackmap")) (path_rule (codes "IMAGE"))

-- the path of this name is given
abbrev pub gives : List ℕ → List Row → Bool
gives name rows = is_some (first_of name rows)

-- the paths are what these words give
pub record AreNamed (rows : List Row) (paths : VolumePaths) : Type 0 where
  pub out : first_of (codes "OUT") rows ≡ Some paths.out.now
  pub text : first_of (codes "TEXT") rows ≡ Some paths.text.now

-- words give this path of an image
abbrev pub NamesImage : List Row → List ℕ → Type 0
NamesImage rows path = first_of (codes "IMAGE") rows ≡ Some path

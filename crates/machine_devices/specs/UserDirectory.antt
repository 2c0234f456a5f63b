-- What the control program knows next to one machine.
use Rattle.std.specs.Prelude.{ℕ, Bool, true, false, List, count_by, slice_index_or}
use Rattle.machine_panel.specs.declared.machine.Mode.{Mode}
use Rattle.machine_panel.specs.declared.machine.Mode.TheVariants.{Off, Stopped, Running}

-- whether the user of a machine in this mode is logged on
abbrev pub is_logged_on : Mode → Bool
is_logged_on Off = false
is_logged_on Stopped = true
is_logged_on Running = true

-- the users whom a machine knows, and who of them is logged on
pub record UserDirectory : Type 0 where
  -- the names of all users, in their order, and that of the machine's own one
  pub names : List (List ℕ)
  pub own : List ℕ
  -- of each user, whether it is logged on
  pub on : List Bool

-- whether the user of this number is logged on
abbrev pub is_on : UserDirectory → ℕ → Bool
is_on w user = slice_index_or w.on user false

-- how many users are logged on
abbrev pub users_on : UserDirectory → ℕ
users_on w = count_by (λ is. is) w.on

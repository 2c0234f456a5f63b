-- Who is dealt the slices of the processor, and which programs of channels are served.
use Rattle.std.specs.Prelude.{◌≡◌, ◌<◌, ◌==◌, ◌&&◌, ℕ, Bool, true, false, List, [], length}
use Rattle.std.specs.List.{IsDistinct, list_any}
use Rattle.cp_dispatch.specs.declared.program.Program.{Program}
use Rattle.cp_dispatch.specs.Fairness.{GivesEach, IsFair}

-- the users who are logged on, and the programs that were started, each in the order in which they
-- are dealt; and how many users there may be
pub record Lines : Type 0 where
  pub users : List ℕ
  pub programs : List Program
  pub most_users : ℕ

-- the same user
abbrev pub same_user : ℕ → ℕ → Bool
same_user one other = one == other

-- this program is of this device of this user
abbrev pub is_of : ℕ → ℕ → Program → Bool
is_of user device program = (program.user == user) && (program.device == device)

-- a program of the same device of the same user
abbrev pub same_program : Program → Program → Bool
same_program one other = is_of one.user one.device other

-- a program that was started can always be served
abbrev pub always : Program → Bool
always program = true

-- each user is in the queue once, and is one of so many
pub record IsQueue (queue : List ℕ) (most : ℕ) : Type 0 where
  pub once : IsDistinct same_user queue
  pub below : (user : ℕ) → list_any (same_user user) queue ≡ true → user < most

-- in a line are those of whom this is true, each once
pub record HasJust {X : Type 0} (same : X → X → Bool) (is : X → Bool) (line : List X) : Type 0 where
  pub who : (one : X) → list_any (same one) line ≡ is one
  pub once : IsDistinct same line

-- both lines are fair
pub record IsFairPolicy : Type 0 where
  pub slices : IsFair same_user
  pub rounds : GivesEach same_user
  pub serves : IsFair same_program

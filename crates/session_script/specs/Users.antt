-- The users whom a script may name.
use Rattle.std.specs.Prelude.{ℕ, ◌==◌, Bool, List, [], map, slice_index_or}
use Rattle.std.specs.List.{list_any}

-- a user as scripts know it: the name, and the addresses of the devices
pub record KnownUser : Type 0 where
  pub name : List ℕ
  pub devices : List ℕ

-- the names of the users
abbrev pub names_of : List KnownUser → List (List ℕ)
names_of users = map (λ user. user.name) users

-- the addresses of the devices of the user of this number
abbrev pub devices_of : List KnownUser → ℕ → List ℕ
devices_of users user = slice_index_or (map (λ one. one.devices) users) user []

-- whether this user has a device of this address
abbrev pub has_device : List KnownUser → ℕ → ℕ → Bool
has_device users user address = list_any (λ device. device == address) (devices_of users user)

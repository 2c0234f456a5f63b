-- The users whom a text names.
use Rattle.std.specs.Prelude.{ℕ, List, [], slice_index_or, Option}
use Rattle.std.specs.List.{position}
use Rattle.std.specs.Str.{bytes_eq}

-- the number of the first user of this name
abbrev pub user_of : List (List ℕ) → List ℕ → Option ℕ
user_of names name = position (bytes_eq name) names

-- the name of the user of this number, empty where there is none
abbrev pub name_of : List (List ℕ) → ℕ → List ℕ
name_of names user = slice_index_or names user []

-- What a punch or a printer has made: an open file, and closed ones.
use Rattle.std.specs.Prelude.{ℕ, List, [], ◌∷◌, ◌++◌}
use Rattle.unit_record.specs.declared.output.Target.{Target}

-- An entry: the command that made it, and the bytes that it took.
pub record EntryValue : Type 0 where
  pub code : ℕ
  pub bytes : List ℕ

-- A closed file: for whom it is, and its entries in order.
pub record FileValue : Type 0 where
  pub target : Target
  pub entries : List EntryValue

-- The entries of the open file, and for how many more there is room.
pub record OutputValue : Type 0 where
  pub entries : List EntryValue
  pub room : ℕ

-- The closed files, once the open one is closed too.
abbrev pub closed_with : List FileValue → Target → List EntryValue → List FileValue
closed_with closed target [] = closed
closed_with closed target (entry ∷ entries) = closed
    ++ record { target = target; entries = entry ∷ entries } ∷ []

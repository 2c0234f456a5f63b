-- Storage as it is.
use Rattle.std.specs.Prelude.{ℕ, List, length, replicate, slice_set}
use Rattle.s370_store.specs.Access.{put}

-- the bytes, also those of pages that are absent, and the key of each block of 2048 of them
pub record Memory : Type 0 where
  pub bytes : List ℕ
  pub keys : List ℕ

-- the memory with these bytes and keys
abbrev pub memory_of : List ℕ → List ℕ → Memory
memory_of bytes keys = record { bytes = bytes; keys = keys }

-- with these bytes from an address on
abbrev pub with_stored : Memory → ℕ → List ℕ → Memory
with_stored m start xs = record { bytes = put m.bytes start xs; keys = m.keys }

-- with this key for a block
abbrev pub with_key : Memory → ℕ → ℕ → Memory
with_key m block key = record { bytes = m.bytes; keys = slice_set m.keys block key }

-- all zero, as it is in a machine that is switched on
abbrev pub cleared_memory : Memory → Memory
cleared_memory m = record {
  bytes = replicate (length m.bytes) 0;
  keys = replicate (length m.keys) 0;
}

-- A guest's program with real addresses.
use Rattle.std.specs.Prelude.{◌≡◌, ℕ, List, [], length}
use Rattle.s370_store.specs.Memory.{Memory}
use Rattle.s370_walk.specs.Walk.{Written, live}
use Rattle.s370_channel.specs.Guest.{guest_written}
use Rattle.s370_walk.specs.declared.places.CcwLocation.{CcwLocation}
use Rattle.s370_walk.specs.Mapped.{Program, real_place}
use Rattle.s370_walk.specs.Copy.{IsCopyOf}
use Rattle.cp_needs.specs.declared.program.Node.{Node}
use Rattle.cp_needs.specs.Table.{program_of}
use Rattle.cp_dat.specs.declared.dat.Dat.{Dat}
use Rattle.cp_dat.specs.Lent.{lent_bytes, lent_pool, user_of}
use Rattle.cp_ccw.specs.Layout.{real_in}
use Rattle.cp_ccw.specs.Mapped.{AreHeld}

-- a table as a program: its words and addresses are in no storage
abbrev pub table_written : List Node → Written
table_written nodes = record {
  text = λ _ a. (program_of nodes).words a;
  block = λ _ p number. (program_of nodes).lists p.at number;
  word_asks = λ a. [];
  block_asks = λ p number. [];
}

-- for one user, the nodes are the copy of the program that was in m0, with the addresses of his
-- frames in place of his own
pub record IsTranslatedFor (d : Dat) (places : List CcwLocation) (nodes : List Node)
    (m0 : Memory) : Type 0 where
  -- the copy with the guest's addresses
  pub guests : Program
  pub copy : IsCopyOf places guests (live guest_written) m0
  pub words : (a : ℕ) → (program_of nodes).words a ≡ guests.words a
  pub reals : (a j : ℕ) → (program_of nodes).lists a j ≡ real_place (real_in d) (guests.lists a j)
  -- each of its addresses in storage lies on a page that is in a frame
  pub held : AreHeld guests (lent_pool d).supply.owners (user_of d) (length (lent_bytes d))

-- The frames and slots of users' pages, and what is written to a frame that is borrowed.
use Rattle.std.specs.Prelude.{◌≡◌, ℕ, ◌*◌, nat_lt, if◌then◌else◌, List, length, slice_index_or}
use Rattle.std.specs.Prelude.{slice_set, Option, Some, None}
use Rattle.std.specs.Borrow.{LendsSo, MutBor, Fml, u8, Array}
use Rattle.cp_frames.specs.declared.numbers.UserPage.{UserPage}
use Rattle.cp_frames.specs.Layout.{frame_of, put_page}
use Rattle.machine_devices.specs.Equipped.{Equipped, with_bytes}
use Rattle.cp_core.specs.System.{SystemView, machine_at, user_at}
use Rattle.cp_core.specs.contracts.system.System.{the_row}

-- the frame in which a page of a user's storage is; a page past storage is in none
abbrev pub frame_at : SystemView → ℕ → ℕ → Option ℕ
frame_at s user page = if nat_lt (page * 4096) (length (machine_at s user).core.processor.bytes)
    then frame_of s.supply.owners user page else None

-- the slot in which it is
abbrev pub slot_at : SystemView → ℕ → ℕ → Option ℕ
slot_at s user page = if nat_lt (page * 4096) (length (machine_at s user).core.processor.bytes)
    then frame_of s.supply.slots user page else None

-- a machine of which a page of storage has this content
abbrev pub with_page : Equipped → ℕ → List ℕ → Equipped
with_page e page written =
    record e {
      machine = with_bytes e.machine
          (put_page e.machine.core.processor.bytes page written);
    }

-- what is written to a page is its content, and all else stays
abbrev pub written_page : SystemView → Option UserPage → List ℕ → SystemView
written_page s None written = s
written_page s (Some there) written =
    record s {
      users = slice_set s.users there.user
          (with_page (user_at s there.user) there.page.0 written);
    }

-- what is written to a frame is the content of the page that is in it
abbrev pub written_frame : SystemView → ℕ → List ℕ → SystemView
written_frame s frame written = written_page s (slice_index_or s.supply.owners frame None) written

-- what is left in the frame is the content of the page that is in it, and all else stays
abbrev pub LendsFrame : MutBor SystemView → ℕ → Option (MutBor (List ℕ)) → Fml
LendsFrame system frame lent =
    LendsSo the_row (Array u8 4096) system lent
    (λ new written. new ≡ written_frame system.now frame written) (λ new. new ≡ system.now)

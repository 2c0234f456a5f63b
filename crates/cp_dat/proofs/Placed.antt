-- What lies in a block of which the page is in a frame, lies in that frame.
use Rattle.std.proofs.Common.{arith, ◌≡◌, ℕ, ◌+◌, ◌/◌, ◌%◌, ◌<◌, ◌≤◌, Some}
use Rattle.s370_store.specs.declared.block.Block.{Block}
use Rattle.cp_dat.specs.declared.dat.Dat.{Dat}
use Rattle.cp_dat.specs.Lent.{lent_frame}
use Rattle.cp_dat.specs.Blocks.{IsInFrame}

-- A range in a block that is in a frame is in that frame.
pub there : (d : Dat) (block : Block) (start n : ℕ) → IsInFrame d block → 0 < n → block.first ≤ start
    → start + n ≤ block.first + 2048
    → lent_frame d (start / 4096) ≡ Some ((block.place + start) % 18446744073709551616 / 4096)
there d block start n h some low high =
    let page : start / 4096 ≡ block.first / 4096 = omega (arith, h.aligned, some, low, high) in
    let frame : (block.place + start) % 18446744073709551616 / 4096
    ≡ (block.place + block.first) % 18446744073709551616 / 4096 =
    omega (arith, h.aligned, h.offset, h.low, some, low, high) in
    rw (page, frame) h.frame

pub offset : (d : Dat) (block : Block) (start n : ℕ) → IsInFrame d block → 0 < n → block.first ≤ start
    → start + n ≤ block.first + 2048 → (block.place + start) % 18446744073709551616 % 4096 ≡ start % 4096
offset d block start n h some low high = omega (arith, h.aligned, h.offset, h.low, some, low, high)

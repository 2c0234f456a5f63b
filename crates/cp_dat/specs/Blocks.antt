-- Where a block is that was found.
use Rattle.std.specs.Prelude.{◌≡◌, ℕ, ◌+◌, ◌/◌, ◌%◌, ◌^◌, ◌<◌, ◌≤◌, length, Some}
use Rattle.std.proofs.Common.{◌∙◌, ap}
use Rattle.s370_store.specs.declared.block.Block.{Block}
use Rattle.cp_dat.specs.declared.dat.Dat.{Dat}
use Rattle.cp_frames.specs.Layout.{FrameSupply, frame_of}
use Rattle.cp_dat.specs.Lent.{KeepsStored, lent_bytes, lent_frame}

-- the place of a block's first byte among the bytes of all frames, one after another: a block holds
-- how far the places of its bytes are beyond their addresses, in 64 bits
abbrev pub first_place : Block → ℕ
first_place block = (block.place + block.first) % 2 ^ 64

-- a block of the user's storage, of which the page is in a frame
pub record IsInFrame (d : Dat) (block : Block) : Type 0 where
  pub aligned : block.first % 2048 ≡ 0
  pub inside : block.first + 2048 ≤ length (lent_bytes d)
  pub frame : lent_frame d (block.first / 4096) ≡ Some (first_place block / 4096)
  pub offset : first_place block % 4096 ≡ block.first % 4096
  pub low : first_place block < 2 ^ 28

-- where no page moves it stays there
pub in_frame_kept : (s t : Dat) (block : Block) → KeepsStored s t → IsInFrame s block
    → IsInFrame t block
in_frame_kept s t block k h = record {
  aligned = h.aligned;
  inside = rw k.rest.same_size h.inside;
  frame = ap (λ (supply : FrameSupply). frame_of supply.owners t.user (block.first / 4096))
      k.rest.same_supply ∙ (ap
      (λ (user : ℕ). frame_of s.frames.now.supply.owners user (block.first / 4096)) k.rest.same_user
      ∙ h.frame);
  offset = h.offset;
  low = h.low;
}

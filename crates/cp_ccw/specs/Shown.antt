-- What real storage shows, and what is kept of those who lent it.
use Rattle.s370_store.specs.Memory.{Memory, memory_of}
use Rattle.s370_store.specs.declared.block.Block.{Block}
use Rattle.std.specs.Prelude.{◌≤◌, ◌≡◌, ℕ, ◌+◌, ◌*◌, Bool, List, None, length, slice_index, refl}
use Rattle.std.proofs.Common.{◌∙◌, ap, sym}
use Rattle.cp_frames.specs.Layout.{FrameSupply}
use Rattle.cp_dat.specs.declared.dat.Dat.{Dat}
use Rattle.cp_dat.specs.Lent.{lent_bytes, lent_keys, lent_pool, user_of, KeepsRest, KeepsStored}
use Rattle.cp_dat.specs.Lent.{keeps_stored_same, keeps_stored_on}
use Rattle.cp_ccw.specs.declared.real.Real.{Real}
use Rattle.cp_ccw.specs.Layout.{real_bytes, real_keys, is_page_shown, is_real_page, length-real}
use Rattle.cp_ccw.specs.Layout.{real_of, real_in, keys_by_size}

-- the bytes of real storage
abbrev pub real_bytes_of : Real → List ℕ
real_bytes_of r = real_bytes (lent_bytes r.dat.now) (lent_pool r.dat.now).supply.owners
    (user_of r.dat.now) r.area.now

-- the keys of real storage
abbrev pub real_keys_of : Real → List ℕ
real_keys_of r = real_keys (lent_bytes r.dat.now) (lent_keys r.dat.now)
    (lent_pool r.dat.now).supply.owners (user_of r.dat.now) (length r.area.now)

-- both
abbrev pub real_memory_of : Real → Memory
real_memory_of r = memory_of (real_bytes_of r) (real_keys_of r)

-- whether a page of real storage is present
abbrev pub is_real_page_of : Real → ℕ → Bool
is_real_page_of r = is_real_page (lent_bytes r.dat.now) (lent_pool r.dat.now).supply.owners
    (user_of r.dat.now)

-- what a change leaves: the user's pages are where they were, his keys, his bytes on other pages
-- and every other user's are as they were, and frames and area are lent on
pub record KeepsReal (old new : Real) : Type 0 where
  pub lent : KeepsStored old.dat.now new.dat.now
  pub away : (a : ℕ) → real_in old.dat.now a ≡ None
      → slice_index (lent_bytes new.dat.now) a ≡ slice_index (lent_bytes old.dat.now) a
  pub same_dat : new.dat.ghost_name ≡ old.dat.ghost_name
  pub same_area : new.area.ghost_name ≡ old.area.ghost_name
  pub area : length new.area.now ≡ length old.area.now

-- nothing changes between real storage and itself
pub keeps_real_same : (r : Real) → KeepsReal r r
keeps_real_same r = record {
  lent = keeps_stored_same r.dat.now;
  away = λ a none. refl;
  same_dat = refl;
  same_area = refl;
  area = refl;
}

-- the real addresses stay the same
pub same_real : (old new : Dat) → KeepsRest old new → (a : ℕ) → real_in new a ≡ real_in old a
same_real old new kept a =
    ap (λ s. real_of (lent_pool new).supply.owners (user_of new) s a) kept.same_size
    ∙ ap (λ (o : FrameSupply). real_of o.owners (user_of new) (length (lent_bytes old)) a)
    kept.same_supply
    ∙ ap (λ u. real_of (lent_pool old).supply.owners u (length (lent_bytes old)) a) kept.same_user

-- two steps that keep all but bytes keep it together
pub keeps_real_on : (r s t : Real) → KeepsReal r s → KeepsReal s t → KeepsReal r t
keeps_real_on r s t a b = record {
  lent = keeps_stored_on r.dat.now s.dat.now t.dat.now a.lent b.lent;
  away = λ at none. b.away at (same_real r.dat.now s.dat.now a.lent.rest at ∙ none) ∙ a.away at
      none;
  same_dat = b.same_dat ∙ a.same_dat;
  same_area = b.same_area ∙ a.same_area;
  area = b.area ∙ a.area;
}

-- what keeps all but bytes keeps the size
pub keeps_real_size : (r s : Real) → KeepsReal r s
    → length (real_bytes_of s) ≡ length (real_bytes_of r)
keeps_real_size r s k =
    length-real (lent_bytes s.dat.now) (lent_pool s.dat.now).supply.owners (user_of s.dat.now)
    s.area.now
    ∙ ap (λ (o : FrameSupply). 4096 * length o.owners + length s.area.now) k.lent.rest.same_supply
    ∙ ap (λ n. 4096 * length (lent_pool r.dat.now).supply.owners + n) k.area
    ∙ sym (length-real (lent_bytes r.dat.now) (lent_pool r.dat.now).supply.owners
    (user_of r.dat.now) r.area.now)

-- what keeps all but bytes keeps the keys
pub keeps_real_keys : (r s : Real) → KeepsReal r s → real_keys_of s ≡ real_keys_of r
keeps_real_keys r s k =
    ap (λ (o : FrameSupply).
    real_keys (lent_bytes s.dat.now) (lent_keys s.dat.now) o.owners (user_of s.dat.now)
    (length s.area.now)) k.lent.rest.same_supply
    ∙ ap (λ u. real_keys (lent_bytes s.dat.now) (lent_keys s.dat.now)
    (lent_pool r.dat.now).supply.owners u (length s.area.now)) k.lent.rest.same_user
    ∙ ap (λ keys. real_keys (lent_bytes s.dat.now) keys (lent_pool r.dat.now).supply.owners
    (user_of r.dat.now) (length s.area.now)) k.lent.keys
    ∙ ap (λ n. real_keys (lent_bytes s.dat.now) (lent_keys r.dat.now)
    (lent_pool r.dat.now).supply.owners (user_of r.dat.now) n) k.area
    ∙ keys_by_size (lent_bytes s.dat.now) (lent_bytes r.dat.now) (lent_keys r.dat.now)
    (lent_pool r.dat.now).supply.owners (user_of r.dat.now) (length r.area.now)
    k.lent.rest.same_size

-- what keeps all but bytes keeps which pages are present
pub keeps_real_present : (r s : Real) → KeepsReal r s → is_real_page_of s ≡ is_real_page_of r
keeps_real_present r s k =
    ap (λ (o : FrameSupply).
    is_page_shown o.owners (user_of s.dat.now) (length (lent_bytes s.dat.now)))
    k.lent.rest.same_supply
    ∙ ap (λ u. is_page_shown (lent_pool r.dat.now).supply.owners u (length (lent_bytes s.dat.now)))
    k.lent.rest.same_user
    ∙ ap (λ n. is_page_shown (lent_pool r.dat.now).supply.owners (user_of r.dat.now) n)
    k.lent.rest.same_size

-- a block of the area
pub record IsInArea (r : Real) (block : Block) : Type 0 where
  pub begins : 4096 * length (lent_pool r.dat.now).supply.owners ≤ block.first
  pub ends : block.first + 2048
      ≤ 4096 * length (lent_pool r.dat.now).supply.owners + length r.area.now

-- it stays there
pub in_area_kept : (r s : Real) (block : Block) → KeepsReal r s → IsInArea r block
    → IsInArea s block
in_area_kept r s block k h = record {
  begins = rw (ap (λ (o : FrameSupply). length o.owners) k.lent.rest.same_supply) h.begins;
  ends = rw (ap (λ (o : FrameSupply). length o.owners) k.lent.rest.same_supply, k.area) h.ends;
}

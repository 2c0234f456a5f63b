-- What is seen of one user's lent pages, and what is kept of those who lent them.
use Rattle.std.specs.Prelude.{◌≡◌, ℕ, List, [], ◌∷◌, zero, suc, Bool, Option, length, slice_set}
use Rattle.std.specs.Prelude.{slice_index_or, refl}
use Rattle.std.proofs.Common.{◌∙◌, ap}
use Rattle.s370_store.specs.Memory.{Memory, memory_of}
use Rattle.cp_dat.specs.declared.dat.Dat.{Dat}
use Rattle.cp_frames.specs.Layout.{FrameSupply, Pool, bytes_of, frame_of, is_there}

-- the number of the user
abbrev pub user_of : Dat → ℕ
user_of d = d.user

-- what is borrowed from: the storage of each user, and where its pages are
abbrev pub lent_pool : Dat → Pool
lent_pool d = d.frames.now

-- the frame in which one of the user's pages is
abbrev pub lent_frame : Dat → ℕ → Option ℕ
lent_frame d = frame_of d.frames.now.supply.owners d.user

-- the storage of the user
abbrev pub lent_bytes : Dat → List ℕ
lent_bytes d = bytes_of d.frames.now d.user

-- his storage keys
abbrev pub lent_keys : Dat → List ℕ
lent_keys d = d.keys.now

-- both
abbrev pub lent_memory : Dat → Memory
lent_memory d = memory_of (lent_bytes d) (lent_keys d)

-- his pages that are in frames
abbrev pub is_lent_page : Dat → ℕ → Bool
is_lent_page d = is_there d.frames.now.supply.owners d.user

-- the same user of the same frames, with as many bytes, where no page has moved, and each other
-- user has the bytes he had
pub record KeepsRest (old new : Dat) : Type 0 where
  pub same_frames : new.frames.ghost_name ≡ old.frames.ghost_name
  pub same_keys : new.keys.ghost_name ≡ old.keys.ghost_name
  pub same_user : new.user ≡ old.user
  pub same_size : length (lent_bytes new) ≡ length (lent_bytes old)
  pub same_supply : new.frames.now.supply ≡ old.frames.now.supply
  pub others : new.frames.now.storages
      ≡ slice_set old.frames.now.storages old.user (bytes_of new.frames.now old.user)

-- with the keys he had
pub record KeepsStored (old new : Dat) : Type 0 where
  pub rest : KeepsRest old new
  pub keys : lent_keys new ≡ lent_keys old

-- the same user of the same frames, with as many bytes, where each other user has the bytes he had
pub record KeepsFrames (old new : Dat) : Type 0 where
  pub same_frames : new.frames.ghost_name ≡ old.frames.ghost_name
  pub same_keys : new.keys.ghost_name ≡ old.keys.ghost_name
  pub same_user : new.user ≡ old.user
  pub same_size : length (lent_bytes new) ≡ length (lent_bytes old)
  pub others : new.frames.now.storages
      ≡ slice_set old.frames.now.storages old.user (bytes_of new.frames.now old.user)

-- a list with its own element at a place is the list
pub set_own : {X : Type 0} (xs : List X) (i : ℕ) (d : X)
    → xs ≡ slice_set xs i (slice_index_or xs i d)
set_own [] i d = refl
set_own (x ∷ xs) zero d = refl
set_own (x ∷ xs) (suc i) d = ap (λ ys. x ∷ ys) (set_own xs i d)

-- the second write at a place is the one that stays
pub set_again : {X : Type 0} (xs : List X) (i : ℕ) (y z : X)
    → slice_set (slice_set xs i y) i z ≡ slice_set xs i z
set_again [] i y z = refl
set_again (x ∷ xs) zero y z = refl
set_again (x ∷ xs) (suc i) y z = ap (λ ys. x ∷ ys) (set_again xs i y z)

others_on : (before middle after : Pool) (user other : ℕ) → other ≡ user
    → middle.storages ≡ slice_set before.storages user (bytes_of middle user)
    → after.storages ≡ slice_set middle.storages other (bytes_of after other) →
    after.storages ≡ slice_set before.storages user (bytes_of after user)
others_on before middle after user other same one two =
    let own : slice_set middle.storages other (bytes_of after other)
    ≡ slice_set middle.storages user (bytes_of after user) =
    ap (λ u. slice_set middle.storages u (bytes_of after u)) same in
    let first : slice_set middle.storages user (bytes_of after user)
    ≡ slice_set (slice_set before.storages user (bytes_of middle user)) user
    (bytes_of after user) =
    ap (λ xs. slice_set xs user (bytes_of after user)) one in
    two ∙ (own ∙ (first ∙ set_again before.storages user (bytes_of middle user)
    (bytes_of after user)))

-- nothing changes between a storage and itself
pub keeps_rest_same : (s : Dat) → KeepsRest s s
keeps_rest_same s = record {
  same_frames = refl;
  same_keys = refl;
  same_user = refl;
  same_size = refl;
  same_supply = refl;
  others = set_own s.frames.now.storages s.user [];
}

-- two steps that keep the rest keep it together
pub keeps_rest_on : (s t u : Dat) → KeepsRest s t → KeepsRest t u → KeepsRest s u
keeps_rest_on s t u a b = record {
  same_frames = b.same_frames ∙ a.same_frames;
  same_keys = b.same_keys ∙ a.same_keys;
  same_user = b.same_user ∙ a.same_user;
  same_size = b.same_size ∙ a.same_size;
  same_supply = b.same_supply ∙ a.same_supply;
  others = others_on s.frames.now t.frames.now u.frames.now s.user t.user a.same_user a.others
      b.others;
}

-- what keeps the rest keeps which pages are present
pub keeps_rest_present : (s t : Dat) → KeepsRest s t → is_lent_page t ≡ is_lent_page s
keeps_rest_present s t k =
    ap (λ (supply : FrameSupply). is_there supply.owners t.user) k.same_supply ∙ ap
    (λ (user : ℕ). is_there s.frames.now.supply.owners user) k.same_user

-- nothing changes between a storage and itself
pub keeps_stored_same : (s : Dat) → KeepsStored s s
keeps_stored_same s = record { rest = keeps_rest_same s; keys = refl }

-- two steps that keep all but bytes keep it together
pub keeps_stored_on : (s t u : Dat) → KeepsStored s t → KeepsStored t u → KeepsStored s u
keeps_stored_on s t u a b =
    record { rest = keeps_rest_on s t u a.rest b.rest; keys = b.keys ∙ a.keys }

-- what callers say of many steps
pub keeps_frames : (s t : Dat) → KeepsRest s t → KeepsFrames s t
keeps_frames s t k = record {
  same_frames = k.same_frames;
  same_keys = k.same_keys;
  same_user = k.same_user;
  same_size = k.same_size;
  others = k.others;
}

-- two steps that keep other users' bytes keep them together
pub keeps_frames_on : (s t u : Dat) → KeepsFrames s t → KeepsFrames t u → KeepsFrames s u
keeps_frames_on s t u a b = record {
  same_frames = b.same_frames ∙ a.same_frames;
  same_keys = b.same_keys ∙ a.same_keys;
  same_user = b.same_user ∙ a.same_user;
  same_size = b.same_size ∙ a.same_size;
  others = others_on s.frames.now t.frames.now u.frames.now s.user t.user a.same_user a.others
      b.others;
}

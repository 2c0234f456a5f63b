-- Real storage in place of the guest's: each address that a program names has a real one of its
-- own, or lies past storage.
use Rattle.std.specs.Prelude.{ℕ, ◌+◌, ◌<◌, ◌≡◌, ◌≢◌, Option, None, Some, length}
use Rattle.s370_store.specs.declared.Access.{Access}
use Rattle.s370_store.specs.declared.Fault.TheVariants.{Addressing}
use Rattle.s370_walk.specs.declared.parts.Ending.{Ending}
use Rattle.s370_walk.specs.declared.parts.NextCcw.{NextCcw}
use Rattle.s370_walk.specs.declared.parts.Ccw.{Ccw}
use Rattle.std.specs.Prelude.{◌^◌, ◌%◌}
use Rattle.s370_walk.specs.Blocks.{served}
use Rattle.s370_store.specs.Memory.{Memory}
use Rattle.s370_walk.specs.Hardware.{fault_of, area, byte_at}
use Rattle.s370_walk.specs.Walk.{Form, Setting, Fetching, Over, Reaches, index_of}
use Rattle.s370_walk.specs.Pairing.{Pairing}

-- what is at the guest's addresses is at the real ones
pub record IsMapped (real : ℕ → Option ℕ) (named : ℕ → Type 0) (m n : Memory) : Type 0 where
  -- a test by real address is the test by the guest's
  pub tests : (access : Access) (key a r : ℕ) → real a ≡ Some r
      → fault_of m key (area access a 1) ≡ fault_of n key (area access r 1)
  -- a named address has a real one unless it lies past storage
  pub outside : (access : Access) (key a : ℕ) → named a → real a ≡ None
      → fault_of m key (area access a 1) ≡ Some Addressing
  pub bytes : (a r : ℕ) → real a ≡ Some r → byte_at m a ≡ byte_at n r
  pub here : (a r : ℕ) → real a ≡ Some r → a < length m.bytes
  pub there : (a r : ℕ) → real a ≡ Some r → r < length n.bytes
  -- no two addresses have one real address
  pub apart : (a b r : ℕ) → real a ≡ Some r → real b ≡ Some r → a ≡ b

-- what has no real address is as it was
pub record IsKept (real : ℕ → Option ℕ) (old new : Memory) : Type 0 where
  pub bytes : (a : ℕ) → real a ≡ None → byte_at new a ≡ byte_at old a
  pub size : length new.bytes ≡ length old.bytes
  pub keys : new.keys ≡ old.keys

-- The real place of a byte.
abbrev pub real_place : (ℕ → Option ℕ) → Option ℕ → Option ℕ
real_place real None = None
real_place real (Some a) = real a

-- A copied program: the word at each of its places, and the guest's addresses that serve the word
-- there.
pub record Program : Type 0 where
  pub words : ℕ → Option Ccw
  pub lists : ℕ → ℕ → Option ℕ

-- the copy with the guest's addresses
abbrev pub copied_form : Program → Form
copied_form c =
    record {
      text = λ _ a. c.words a;
      place = λ _ p. served (c.lists p.at) (index_of p) p.before;
      load = λ m p a. byte_at m a;
    }

-- the copy with real addresses
abbrev pub real_form : (ℕ → Option ℕ) → Program → Form
real_form real c =
    record {
      text = λ _ a. c.words a;
      place = λ _ p. served (λ j. real_place real (c.lists p.at j)) (index_of p) p.before;
      load = λ m p a. byte_at m a;
    }

-- the addresses that a program names
abbrev pub Named : Program → ℕ → Type 0
Named c a = (at : ℕ) × (j : ℕ) × (c.lists at j ≡ Some a)

-- within a block real addresses go on as the guest's do
pub record IsPaged (real : ℕ → Option ℕ) : Type 0 where
  pub step : (a r : ℕ) → real a ≡ Some r → a % 2048 ≢ 2047 → real (a + 1) ≡ Some (r + 1)
  pub same : (a r : ℕ) → real a ≡ Some r → r % 2048 ≡ a % 2048
  pub low : (a r : ℕ) → real a ≡ Some r → a + 1 < 2 ^ 32
  pub small : (a r : ℕ) → real a ≡ Some r → r + 1 < 2 ^ 32

-- where the byte before lay, in both worlds
abbrev pub IsBefore : (ℕ → Option ℕ) → Option ℕ → Option ℕ → Type 0
IsBefore real None b = b ≡ None
IsBefore real (Some a) b = (r : ℕ) × (real a ≡ Some r) × (b ≡ Some r)

-- what is known of the next byte's place: it is named, or it goes on from a byte that has a real
-- place
abbrev pub IsKnown : (ℕ → Option ℕ) → Program → Option ℕ → Type 0
IsKnown real c place = (a : ℕ) → place ≡ Some a → real a ≡ None → Named c a

-- One device in both worlds, over mapped storage.
abbrev pub Stands : (ℕ → Option ℕ) → Program → Memory → Memory → Memory → Type 0
Stands real c old m n = IsMapped real (Named c) m n × IsKept real old m

-- the pairing of walks over a guest's storage and over the real storage to which it is mapped
abbrev pub mapped_pair : {D : Type 0} → (ℕ → Option ℕ) → Program → Memory → Pairing D D
mapped_pair real c old =
    record {
      storage = Stands real c old;
      idle = λ d e. d ≡ e;
      waiting = λ t d e. d ≡ e;
      busy = λ p b d e. IsBefore real p.before b × (d ≡ e);
    }

-- the copy with the guest's addresses comes to this end, with this device, and a storage that is
-- this real one's
pub record MeetsEnd {D : Type 0} (real : ℕ → Option ℕ) (c : Program) (h : Setting D)
    (spot : NextCcw) (m : Memory) (d : D)
    (end : Ending) (n' : Memory) (e : D) : Type 0 where
  pub storage : Memory
  pub reaches : Reaches (copied_form c) h (Fetching spot m d) (Over end storage e)
  pub mapped : IsMapped real (Named c) storage n'
  pub kept : IsKept real m storage

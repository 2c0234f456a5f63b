-- Walks over real addresses.
use Rattle.std.specs.Prelude.{ℕ, ◌+◌, ◌<◌, ◌≤◌, ◌≡◌, ◌≢◌, Bool, true, false, if◌then◌else◌, List, [], ◌∷◌, ◌++◌, Option}
use Rattle.std.specs.Prelude.{None, Some, refl, length, slice_index, take, drop, ◌⊎◌}
use Rattle.std.proofs.Common.{ap, ◌∙◌, sym, inl, inr, arith, get_or, ◌-◌}
use Rattle.std.proofs.Math.Decide.{dec_lt}
use Rattle.std.proofs.lemmas.List.{get_or-take, get_or-drop, get_or-append_right, get_or_append_left, length-take-le}
use Rattle.std.proofs.lemmas.Grind.{common_steps}
use Rattle.s370_store.specs.declared.Access.{Access}
use Rattle.s370_store.specs.declared.Access.TheVariants.{Fetch, Store}
use Rattle.s370_store.specs.declared.Fault.{Fault}
use Rattle.s370_store.specs.declared.Fault.TheVariants.{Addressing, Protection, Absent}
use Rattle.s370_store.specs.Access.{put, first_fault}
use Rattle.s370_walk.specs.declared.parts.Position.{Position}
use Rattle.s370_walk.specs.declared.parts.Ending.{Ending}
use Rattle.s370_walk.specs.declared.parts.NextCcw.{NextCcw}
use Rattle.s370_walk.specs.declared.parts.Transfer.{Transfer}
use Rattle.std.specs.Prelude.{◌^◌, ◌%◌, ◌==◌, nat_lt}
use Rattle.std.proofs.lemmas.Bool.{lt-ltb}
use Rattle.std.proofs.lemmas.Bool.Decides.{nat_tests}
use Rattle.s370_walk.specs.Blocks.{block_number, after, served}
use Rattle.s370_walk.specs.declared.parts.Direction.{Direction}
use Rattle.s370_walk.specs.declared.parts.Direction.TheVariants.{Gives, Takes, TakesUpTo}
use Rattle.s370_store.specs.Memory.{Memory}
use Rattle.s370_walk.specs.Hardware.{fault_of, area, put_byte, byte_at}
use Rattle.s370_walk.specs.Walk.{Setting, State, Fetching, Moving, Over, walk, Reaches, byte_moved, given_to, given_at}
use Rattle.s370_walk.specs.Walk.{taken_from, taken_at, stepped, skips, index_of, order_of}
use Rattle.s370_walk.specs.Pairing.{Pairing, InRole, Related, moving_on, over, fetching, Simulates, moved_to}
use Rattle.s370_walk.proofs.Simulation.{walk_related}
use Rattle.s370_walk.specs.Mapped.{IsMapped, IsKept, real_place, Program, copied_form, real_form, Named, IsPaged}
use Rattle.s370_walk.specs.Mapped.{IsBefore, IsKnown, Stands, mapped_pair, MeetsEnd}

-- Memory keeps itself.
pub kept_same : (real : ℕ → Option ℕ) (m : Memory) → IsKept real m m
kept_same real m = record { bytes = λ a e. refl; size = refl; keys = refl }

length-put : (bytes xs : List ℕ) (start : ℕ) → start + length xs ≤ length bytes
    → length (put bytes start xs) ≡ length bytes
unfolding put
length-put bytes xs start h = grind (arith, common_steps)

length-one : (bytes : List ℕ) (a b : ℕ) → a < length bytes → length (put bytes a (b ∷ [])) ≡ length bytes
length-one bytes a b lt = length-put bytes (b ∷ []) a (omega arith)

get_same : (bytes : List ℕ) (a b : ℕ) → a < length bytes → get_or (put bytes a (b ∷ [])) a 0 ≡ b
unfolding put
get_same bytes a b lt =
    let long : length (take a bytes) ≡ a = length-take-le a bytes (omega arith) in
    let zero_is : a - a ≡ 0 = omega arith in
    get_or-append_right (take a bytes) ((b ∷ []) ++ drop 1 (drop a bytes)) a a 0 long (omega arith)
    ∙ ap (λ k. get_or ((b ∷ []) ++ drop 1 (drop a bytes)) k 0) zero_is

-- A byte that is put at one address leaves every other address as it is.
pub get_other : (bytes : List ℕ) (a b c : ℕ) → a < length bytes → c ≢ a
    → get_or (put bytes a (b ∷ [])) c 0 ≡ get_or bytes c 0
unfolding put
get_other bytes a b c lt ne =
    let long : length (take a bytes) ≡ a = length-take-le a bytes (omega arith) in
    elim (dec_lt c a) [
      | yes before ↦ get_or_append_left (take a bytes) ((b ∷ []) ++ drop 1 (drop a bytes)) 0 c (omega arith)
          ∙ get_or-take a bytes c 0 before
      | no after ↦ (let place : a + (1 + (c - a - 1)) ≡ c = omega arith in
          get_or-append_right (take a bytes) ((b ∷ []) ++ drop 1 (drop a bytes)) a c 0 long (omega arith)
          ∙ get_or-append_right (b ∷ []) (drop 1 (drop a bytes)) 1 (c - a) 0 refl (omega arith)
          ∙ get_or-drop 1 (drop a bytes) (c - a - 1) 0
          ∙ get_or-drop a bytes (1 + (c - a - 1)) 0
          ∙ ap (λ k. get_or bytes k 0) place)
    ]

same_or_other : (a b : ℕ) → (a ≡ b) ⊎ (a ≢ b)
same_or_other a b = grind arith

pub some_same : (r s : ℕ) → Some r ≡ Some s → r ≡ s
some_same r s e = cc

-- a test is that of the size and the keys
pub tests_same : (m : Memory) (a b key : ℕ) (access : Access) (c : ℕ) → a < length m.bytes
    → fault_of (put_byte m a b) key (area access c 1) ≡ fault_of m key (area access c 1)
tests_same m a b key access c lt = ap (λ size. first_fault size m.keys key (area access c 1 ∷ []))
    (length-one m.bytes a b lt)

pub put_mapped : (real : ℕ → Option ℕ) (named : ℕ → Type 0) (m n : Memory) (a r b : ℕ) → IsMapped real named m n
    → real a ≡ Some r → IsMapped real named (put_byte m a b) (put_byte n r b)
put_mapped real named m n a r b map is =
    let low = map.here a r is in
    let high = map.there a r is in
    record {
      tests = λ access key c s e. tests_same m a b key access c low ∙ map.tests access key c s e
          ∙ sym (tests_same n r b key access s high);
      outside = λ access key c name e. tests_same m a b key access c low ∙ map.outside access key c name e;
      bytes = λ c s e. by_place c s e (same_or_other c a);
      here = λ c s e. rw (length-one m.bytes a b low) (map.here c s e);
      there = λ c s e. rw (length-one n.bytes r b high) (map.there c s e);
      apart = map.apart;
    }
  where
    by_place : (c s : ℕ) → real c ≡ Some s → (c ≡ a) ⊎ (c ≢ a)
        → slice_index (put m.bytes a (b ∷ [])) c ≡ slice_index (put n.bytes r (b ∷ [])) s
    by_place c s e (inl same) =
        let at : s ≡ r = some_same s r (sym e ∙ ap real same ∙ is) in
        rw (same, at) (get_same m.bytes a b (map.here a r is) ∙ sym (get_same n.bytes r b (map.there a r is)))
    by_place c s e (inr other) =
        let apart : s ≢ r = λ at. other (map.apart c a s e (is ∙ ap Some (sym at))) in
        get_other m.bytes a b c (map.here a r is) other ∙ map.bytes c s e
        ∙ sym (get_other n.bytes r b s (map.there a r is) apart)

pub put_kept : (real : ℕ → Option ℕ) (old m : Memory) (a r b : ℕ) → IsKept real old m → real a ≡ Some r
    → a < length m.bytes → IsKept real old (put_byte m a b)
put_kept real old m a r b kept is lt =
    record {
      bytes = λ c none. (let other : c ≢ a = λ at. no_place c at none in get_other m.bytes a b c lt other
          ∙ kept.bytes c none);
      size = length-one m.bytes a b lt ∙ kept.size;
      keys = kept.keys;
    }
  where
    no_place : (c : ℕ) → c ≡ a → real c ≡ None → ⊥
    no_place c at none = (let e : None ≡ Some r = sym none ∙ ap real at ∙ is in cc)

none_some : (x : ℕ) → None ≡ Some x → ⊥
none_some x e = cc

module _ (real : ℕ → Option ℕ) (paged : IsPaged real) (c : Program) (at k : ℕ) where
  -- bytes are served in both worlds alike
  pub served_mapped : (before b : Option ℕ) → IsBefore real before b
      → served (λ j. real_place real (c.lists at j)) k b ≡ real_place real (served (c.lists at) k before)
  served_mapped None b e = rw e refl
  served_mapped (Some a) b (r, is, e) = rw (e, paged.same a r is) (by_block (a % 2048 == 2047) refl)
    where
      by_block : (x : Bool) → (a % 2048 == 2047) ≡ x → (if x then real_place real
          (c.lists at (block_number k)) else after (Some r)) ≡ real_place real
          (if x then c.lists at (block_number k) else after (Some a))
      by_block true is_end = refl
      by_block false is_end =
          let inner : a % 2048 ≢ 2047 = grind (arith, nat_tests) in
          let low : nat_lt (a + 1) (2 ^ 32) ≡ true = lt-ltb (a + 1) (2 ^ 32) (paged.low a r is) in
          let small : nat_lt (r + 1) (2 ^ 32) ≡ true = lt-ltb (r + 1) (2 ^ 32) (paged.small a r is) in
          rw (low, small) (sym (paged.step a r is inner))

  pub served_known : (before b : Option ℕ) → IsBefore real before b → IsKnown real c (served (c.lists at) k before)
  served_known None b e = λ a place none. (at, block_number k, place)
  served_known (Some a) b (r, is, e) = by_block (a % 2048 == 2047) refl
    where
      by_block : (x : Bool) → (a % 2048 == 2047) ≡ x → (d : ℕ)
          → (if x then c.lists at (block_number k) else after (Some a)) ≡ Some d → real d ≡ None → Named c d
      by_block true is_end d place none = (at, block_number k, place)
      by_block false is_end d place none =
          let inner : a % 2048 ≢ 2047 = grind (arith, nat_tests) in
          let low : nat_lt (a + 1) (2 ^ 32) ≡ true = lt-ltb (a + 1) (2 ^ 32) (paged.low a r is) in
          let next : real (a + 1) ≡ Some (r + 1) = paged.step a r is inner in
          let plain : Some (a + 1) ≡ Some d = rw low at place in
          let found : real d ≡ Some (r + 1) = ap real (sym (some_same (a + 1) d plain)) ∙ next in
          absurd (none_some (r + 1) (sym none ∙ found))

module _ {D : Type 0} (real : ℕ → Option ℕ) (c : Program) (old : Memory) (h : Setting D) (m n : Memory)
    (map : Stands real c old m n) (p : Position) (b : Option ℕ) (is_before : IsBefore real p.before b) (d : D) where
  given_at_mapped : (a r : ℕ) → real a ≡ Some r → (fault : Option Fault)
      → Related (mapped_pair real c old) (given_at h p a fault m d) (given_at h (moved_to p b) r fault n d)
  given_at_mapped a r is None = moving_on _ (Some r) _ _ _ _ (
    put_mapped real (Named c) m n a r (h.machine.gives d) map.0 is,
    put_kept real old m a r (h.machine.gives d) map.1 is (map.0.here a r is),
  ) ((r, is, refl), refl)
  given_at_mapped a r is (Some Addressing) = over _ _ _ _ _ map refl
  given_at_mapped a r is (Some Protection) = over _ _ _ _ _ map refl
  given_at_mapped a r is (Some (Absent page)) = over _ _ _ _ _ map refl

  given_mapped : (place : Option ℕ) → IsKnown real c place → Related (mapped_pair real c old) (given_to h p place m d)
      (given_to h (moved_to p b) (real_place real place) n d)
  given_mapped None names = over _ _ _ _ _ map refl
  given_mapped (Some a) names = by_real (real a) refl
    where
      by_real : (found : Option ℕ) → real a ≡ found → Related (mapped_pair real c old) (given_to h p (Some a) m d)
          (given_to h (moved_to p b) found n d)
      by_real None e = rw (map.0.outside Store h.key a (names a refl e) e) (over _ _ _ _ _ map refl)
      by_real (Some r) e = rw (map.0.tests Store h.key a r e)
          (given_at_mapped a r e (fault_of n h.key (area Store r 1)))

  taken_at_mapped : (a r : ℕ) (load load' : ℕ → ℕ) → load a ≡ load' r → real a ≡ Some r → (fault : Option Fault)
      → Related (mapped_pair real c old) (taken_at h p a load fault m d) (taken_at h (moved_to p b) r load' fault n d)
  taken_at_mapped a r load load' same is None = moving_on _ (Some r) _ _ _ _ map
      ((r, is, refl), ap (h.machine.took d) same)
  taken_at_mapped a r load load' same is (Some Addressing) = over _ _ _ _ _ map refl
  taken_at_mapped a r load load' same is (Some Protection) = over _ _ _ _ _ map refl
  taken_at_mapped a r load load' same is (Some (Absent page)) = over _ _ _ _ _ map refl

  taken_mapped : (place : Option ℕ) (load load' : ℕ → ℕ) → ((a r : ℕ) → real a ≡ Some r → load a ≡ load' r)
      → IsKnown real c place → Related (mapped_pair real c old) (taken_from h p place load m d)
      (taken_from h (moved_to p b) (real_place real place) load' n d)
  taken_mapped None load load' same names = over _ _ _ _ _ map refl
  taken_mapped (Some a) load load' same names = by_real (real a) refl
    where
      by_real : (found : Option ℕ) → real a ≡ found → Related (mapped_pair real c old)
          (taken_from h p (Some a) load m d) (taken_from h (moved_to p b) found load' n d)
      by_real None e = rw (map.0.outside Fetch h.key a (names a refl e) e) (over _ _ _ _ _ map refl)
      by_real (Some r) e = rw (map.0.tests Fetch h.key a r e)
          (taken_at_mapped a r load load' (same a r e) e (fault_of n h.key (area Fetch r 1)))

  -- One byte moves alike.
  pub byte_mapped : (place : Option ℕ) (load load' : ℕ → ℕ) (kind : Direction)
      → ((a r : ℕ) → real a ≡ Some r → load a ≡ load' r) → IsKnown real c place
      → Related (mapped_pair real c old) (byte_moved h p place load kind m d)
      (byte_moved h (moved_to p b) (real_place real place) load' kind n d)
  byte_mapped place load load' Gives same names = by_skip (skips p.word)
    where
      by_skip : (skips : Bool) → Related (mapped_pair real c old)
          (if skips then Moving (stepped p p.before) m (h.machine.gave d) else given_to h p place m d)
          (if skips then Moving (stepped (moved_to p b) b) n (h.machine.gave d) else given_to h (moved_to p b)
          (real_place real place) n d)
      by_skip true = moving_on _ b _ _ _ _ map (is_before, refl)
      by_skip false = given_mapped place names
  byte_mapped place load load' Takes same names = taken_mapped place load load' same names
  byte_mapped place load load' TakesUpTo same names = taken_mapped place load load' same names

-- a program over real addresses goes with the copy over the guest's
pub real_simulates : {D : Type 0} (real : ℕ → Option ℕ) (c : Program) (old : Memory) (h : Setting D) → IsPaged real
    → Simulates (mapped_pair real c old) (copied_form c) h (real_form real c) h
real_simulates {D = D} real c old h paged =
    record {
      limit = refl;
      prefix = refl;
      text = λ m n a s. refl;
      answer = λ d e o i. ap (λ x. h.machine.answer x o) i;
      started = λ d e o i. ap (λ x. h.machine.started x o) i;
      began = λ n d e prefix spot w t there alone good begins i.
          (refl, ap (λ x. h.machine.started x (order_of prefix spot w)) i);
      done = λ d e p b busy. ap h.machine.done busy.1;
      waits = λ d e p b chains busy. busy.1;
      goes_on = λ d e spot w t i. (refl, i);
      status = λ d e t i. ap h.machine.status i;
      finished = λ d e t i. ap h.machine.finished i;
      ends = λ d e p b is_over busy. ap h.machine.status busy.1;
      ended = λ d e p b is_over busy. ap h.machine.finished busy.1;
      byte = λ m n d e p b s counted wanted busy. by_device m n d e p b s busy.0 busy.1;
    }
  where
    by_device : (m n : Memory) (d e : D) (p : Position) (b : Option ℕ) → Stands real c old m n
        → IsBefore real p.before b → d ≡ e
        → Related (mapped_pair real c old) (byte_moved h p ((copied_form c).place m p)
        ((copied_form c).load m p) p.transfer.kind m d) (byte_moved h (moved_to p b)
        ((real_form real c).place n (moved_to p b)) ((real_form real c).load n (moved_to p b)) p.transfer.kind n e)
    by_device m n d e p b map is_before same =
        let places : (real_form real c).place n (moved_to p b) ≡ real_place real
        ((copied_form c).place m p) = served_mapped real paged c p.at (index_of p) p.before b is_before in
        rw (← same, places)
        (byte_mapped real c old h m n map p b is_before d ((copied_form c).place m p) (byte_at m)
        (byte_at n) p.transfer.kind map.0.bytes
        (served_known real paged c p.at (index_of p) p.before b is_before))

ended : {D : Type 0} (real : ℕ → Option ℕ) (c : Program) (old : Memory) (s : State D) (end : Ending) (n' : Memory)
    (e : D) → Related (mapped_pair real c old) s (Over end n' e) → (m' : Memory) × (s ≡ Over end m' e)
    × Stands real c old m' n'
ended real c old _ _ _ _ (over end m' n' d e s i) = (m', ap (Over end m') i, s)

-- A device is in the same role as itself.
pub in_role : {D : Type 0} (real : ℕ → Option ℕ) (c : Program) (old : Memory) (role : Option Transfer) (d : D)
    → InRole (mapped_pair real c old) role d d
in_role real c old None d = refl
in_role real c old (Some t) d = refl

-- A run over real storage that ends is a run over the guest's storage with the same end.
pub real_end : {D : Type 0} (real : ℕ → Option ℕ) (c : Program) (h : Setting D) (spot : NextCcw) (m n : Memory)
    (d e : D) (end : Ending) (n' : Memory)
    → IsPaged real → IsMapped real (Named c) m n → Reaches (real_form real c) h (Fetching spot n d) (Over end n' e)
    → MeetsEnd real c h spot m d end n' e
real_end {D = D} real c h spot m n d e end n' paged map to =
    let r : Pairing D D = mapped_pair real c m in
    let both = real_simulates real c m h paged in
    let start : Related r (Fetching spot m d) (Fetching spot n d) = fetching spot m n d d (map, kept_same real m)
    (in_role real c m spot.role d) in
    let related = walk_related r (copied_form c) h (real_form real c) h both to.steps (Fetching spot m d)
    (Fetching spot n d) start in
    let at_end : Related r (walk (copied_form c) h to.steps (Fetching spot m d)) (Over end n' e) = rw
    (← to.comes) related in
    let found = ended real c m (walk (copied_form c) h to.steps (Fetching spot m d)) end n' e at_end in
    record {
      storage = found.0;
      reaches = record { steps = to.steps; comes = found.1 };
      mapped = found.2.0;
      kept = found.2.1;
    }

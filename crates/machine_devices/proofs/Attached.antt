-- A subchannel for each device, address by address.
use Rattle.std.proofs.Common.{◌≡◌, ℕ, ◌+◌, ◌≤◌, Bool, true, false, List, [], ◌∷◌, ◌++◌, Option, Some, None, refl, sym}
use Rattle.std.proofs.Common.{ap, subst, ◌∙◌, arith, map, ◌<◌, zero, suc, cond, length, inl, inr, ◌⊎◌}
use Rattle.std.proofs.lemmas.Bool.{true≢false}
use Rattle.std.proofs.lemmas.Bool.Decides.{nat_tests}
use Rattle.std.proofs.lemmas.List.{length-append}
use Rattle.std.proofs.lemmas.List.FromFn.{filter_of_map_range_with_len_more}
use Rattle.std.specs.Prelude.{if◌then◌else◌, ◌==◌, ◌&&◌, ◌||◌, not, is_some, nat_le, nat_lt}
use Rattle.std.specs.Option.{option_to_list}
use Rattle.std.specs.List.{filter, list_all, list_any, range_with_len}
use Rattle.s370_subchannels.specs.declared.subchannel.Subchannel.{Subchannel}
use Rattle.s370_subchannels.specs.Subchannels.{can_add, is_below, new_device}
use Rattle.machine_channels.specs.Disks.{DiskAt, is_disk_at}
use Rattle.machine_devices.specs.declared.places.Places.{Places}
use Rattle.machine_devices.specs.declared.places.AttachedDevice.{AttachedDevice}
use Rattle.machine_devices.specs.Devices.{DevicesValue, are_apart, attached, can_attach, has_at, has_device, is_there}
use Rattle.machine_devices.specs.Devices.{part_at, places_of, subchannels_below}

-- ---- up to the next address

one_more : (b : Bool) (device : ℕ) (list : List Subchannel)
    → list ++ cond b (new_device device ∷ []) [] ≡ attached b device list
one_more true device list = refl
one_more false device list = append_nil list
  where
    append_nil : (xs : List Subchannel) → xs ++ [] ≡ xs
    append_nil [] = refl
    append_nil (x ∷ xs) = ap (λ (ys : List Subchannel). x ∷ ys) (append_nil xs)

pub below_next : (has : ℕ → Bool) (address : ℕ)
    → attached (has address) address (subchannels_below has address) ≡ subchannels_below has (address + 1)
below_next has address =
    sym (one_more (has address) address (subchannels_below has address)) ∙ sym
    (filter_of_map_range_with_len_more (λ (s : Subchannel). has s.address) new_device 0 address address
    (omega arith))

-- One more address that has a device is attached.
pub on : (has : ℕ → Bool) (address : ℕ) (list : List Subchannel) (b : Bool) → b ≡ has address
    → list ≡ subchannels_below has address → attached b address list ≡ subchannels_below has (address + 1)
on has address list b is same = rw (is, same) (below_next has address)

next : (n : ℕ) → n + 1 ≡ suc n
next n = omega arith

true_or_false : (b : Bool) → (b ≡ true) ⊎ (b ≡ false)
true_or_false true = inl refl
true_or_false false = inr refl

le_true : (a b : ℕ) → a ≤ b → nat_le a b ≡ true
le_true a b h = grind (arith, nat_tests)

true_le : (a b : ℕ) → nat_le a b ≡ true → a ≤ b
true_le a b h = grind (arith, nat_tests)

lt_true : (a b : ℕ) → a < b → nat_lt a b ≡ true
lt_true a b h = grind (arith, nat_tests)

-- ---- how many there are

abbrev pub add_one : Bool → ℕ
add_one true = 1
add_one false = 0

-- how many of the first numbers are such
abbrev pub many : (ℕ → Bool) → ℕ → ℕ
many has zero = 0
many has (suc n) = many has n + add_one (has n)

attached_many : (b : Bool) (device : ℕ) (list : List Subchannel)
    → length (attached b device list) ≡ length list + add_one b
attached_many true device list = length-append list (new_device device ∷ [])
attached_many false device list = omega arith

below_many : (has : ℕ → Bool) (n : ℕ) → length (subchannels_below has n) ≡ many has n
below_many has zero = refl
below_many has (suc n) =
    ap (λ (l : List Subchannel). length l) (ap (subchannels_below has) (sym (next n)) ∙ sym (below_next has n)) ∙
    attached_many (has n) n (subchannels_below has n) ∙ ap (λ (k : ℕ). k + add_one (has n)) (below_many has n)

one_at_most : (b : Bool) → add_one b ≤ 1
one_at_most true = omega arith
one_at_most false = omega arith

same_many : (p q : ℕ → Bool) → ((k : ℕ) → p k ≡ q k) → (n : ℕ) → many p n ≡ many q n
same_many p q same zero = refl
same_many p q same (suc n) = rw (same n, same_many p q same n) refl

abbrev pub among : List ℕ → ℕ → Bool
among xs device = list_any (λ (other : ℕ). other == device) xs

-- a number more in a list is one more of the first numbers, where it is one of them and not in the list
step : (lt next is a b : Bool) (m : ℕ)
    → ((is ≡ true) × (lt ≡ false) × (next ≡ true) × (b ≡ a)) ⊎ ((is ≡ false) × (next ≡ lt))
    → (m + add_one (lt && not a)) + add_one (is || b) ≡ (m + add_one b) + add_one (next && not a)
step lt next is true b m (inl h) = rw (h.0, h.1, h.2, h.3) (omega arith)
step lt next is false b m (inl h) = rw (h.0, h.1, h.2, h.3) (omega arith)
step lt next is a b m (inr h) = rw (h.0, h.1) (omega arith)

where_is : (x n : ℕ) (p : ℕ → Bool)
    → (((x == n) ≡ true) × (nat_lt x n ≡ false) × (nat_lt x (suc n) ≡ true) × (p n ≡ p x))
    ⊎ (((x == n) ≡ false) × (nat_lt x (suc n) ≡ nat_lt x n))
where_is x n p = elim (true_or_false (x == n)) [
  | inl is ↦ (let same : x
      ≡ n = grind (arith, nat_tests, is) in inl
      (is, grind (arith, nat_tests), grind (arith, nat_tests), ap p (sym same)))
  | inr other ↦ inr (other, grind (arith, nat_tests))
]

cons_many : (x : ℕ) (xs : List ℕ) (n : ℕ)
    → many (among (x ∷ xs)) n ≡ many (among xs) n + add_one (nat_lt x n && not (among xs x))
cons_many x xs zero = let none : nat_lt x 0 ≡ false = grind (arith, nat_tests) in rw none refl
cons_many x xs (suc n) =
    ap (λ (k : ℕ). k + add_one ((x == n) || among xs n)) (cons_many x xs n) ∙ step (nat_lt x n) (nat_lt x (suc n))
    (x == n) (among xs x) (among xs n) (many (among xs) n) (where_is x n (among xs))

none_many : (n : ℕ) → many (among []) n ≡ 0
none_many zero = refl
none_many (suc n) = rw (none_many n) refl

few_many : (xs : List ℕ) (n : ℕ) → many (among xs) n ≤ length xs
few_many [] n = rw (none_many n) (omega arith)
few_many (x ∷ xs) n = omega (arith, cons_many x xs n, few_many xs n, one_at_most (nat_lt x n && not (among xs x)))

is_one : (b : Bool) → 1 ≤ add_one b → b ≡ true
is_one true h = refl
is_one false h = absurd (omega arith)

both : (a b : Bool) → (a && b) ≡ true → (a ≡ true) × (b ≡ true)
both true b h = (refl, h)
both false b h = cc

and_so : (a b : Bool) → a ≡ true → b ≡ true → (a && b) ≡ true
and_so a b p q = rw (p, q) refl

-- as many as there are in the list: each is one of the first numbers, and none is there twice
apart_of : (xs : List ℕ) (n : ℕ) → many (among xs) n ≡ length xs
    → (list_all (λ (a : ℕ). nat_lt a n) xs ≡ true) × (are_apart xs ≡ true)
apart_of [] n e = (refl, refl)
apart_of (x ∷ xs) n e =
    let f : Bool = nat_lt x n && not (among xs x) in
    let one : f ≡ true = is_one f (omega (arith, cons_many x xs n, few_many xs n, e)) in
    let rest : many (among xs) n ≡ length xs = omega (arith, cons_many x xs n, few_many xs n, one_at_most f, e) in
    let r = apart_of xs n rest in
    let s = both (nat_lt x n) (not (among xs x)) one in (
      and_so (nat_lt x n) (list_all (λ (a : ℕ). nat_lt a n) xs) s.0 r.0,
      and_so (not (among xs x)) (are_apart xs) s.1 r.1,
    )

of_apart : (xs : List ℕ) (n : ℕ) → list_all (λ (a : ℕ). nat_lt a n) xs ≡ true → are_apart xs ≡ true
    → many (among xs) n ≡ length xs
of_apart [] n low apart = none_many n
of_apart (x ∷ xs) n low apart =
    let l = both (nat_lt x n) (list_all (λ (a : ℕ). nat_lt a n) xs) low in
    let a = both (not (among xs x)) (are_apart xs) apart in
    let rest = of_apart xs n l.1 a.1 in
    let one : add_one (nat_lt x n && not (among xs x)) ≡ 1 =
    ap add_one (and_so (nat_lt x n) (not (among xs x)) l.0 a.0) in
    omega (arith, cons_many x xs n, rest, one)

-- ---- the parts and the disks

or_more : (a b c : Bool) → ((a || b) || c) ≡ (a || (b || c))
or_more true b c = refl
or_more false b c = refl

listed : (o : Option ℕ) (device : ℕ) → among (option_to_list o) device ≡ is_there o device
listed None device = refl
listed (Some x) device = or_none (x == device)
  where
    or_none : (b : Bool) → (b || false) ≡ b
    or_none true = refl
    or_none false = refl

among_append : (xs ys : List ℕ) (device : ℕ) → among (xs ++ ys) device ≡ (among xs device || among ys device)
among_append [] ys device = refl
among_append (x ∷ xs) ys device =
    rw (among_append xs ys device) (sym (or_more (x == device) (among xs device) (among ys device)))

some_part : (a b c d : Bool) (w x y z : AttachedDevice)
    → is_some (if a then Some w else if b then Some x else if c then Some y else if d then Some z else None)
    ≡ (a || (b || (c || d)))
some_part true b c d w x y z = refl
some_part false true c d w x y z = refl
some_part false false true d w x y z = refl
some_part false false false true w x y z = refl
some_part false false false false w x y z = refl

places_among : (p : Places) (device : ℕ)
    → among (places_of p) device
    ≡ (is_there p.console device ||
    (is_there p.reader device || (is_there p.punch device || is_there p.printer device)))
places_among p device =
    among_append (option_to_list p.console) _ device ∙
    rw (
      listed p.console device,
      among_append (option_to_list p.reader) (option_to_list p.punch ++ option_to_list p.printer) device,
      listed p.reader device,
      among_append (option_to_list p.punch) (option_to_list p.printer) device,
      listed p.punch device,
      listed p.printer device,
    ) refl

pub has_among : (d : DevicesValue) (addresses : List ℕ) (device : ℕ)
    → has_at d addresses device ≡ among (places_of d.places ++ addresses) device
has_among d addresses device =
    ap (λ (b : Bool). b || among addresses device)
    (some_part (is_there d.places.console device) (is_there d.places.reader device) (is_there d.places.punch device)
    (is_there d.places.printer device) _ _ _ _ ∙ sym (places_among d.places device))
    ∙ sym (among_append (places_of d.places) addresses device)

-- ---- by the disks' addresses

any_at : (disks : List DiskAt) (device : ℕ)
    → list_any (λ (address : ℕ). address == device) (map (λ (d : DiskAt). d.address) disks)
    ≡ list_any (is_disk_at device) disks
any_at [] device = refl
any_at (d ∷ ds) device = rw (any_at ds device) refl

has_same : (d : DevicesValue) (addresses : List ℕ) (disks : List DiskAt) (device : ℕ)
    → addresses ≡ map (λ (disk : DiskAt). disk.address) disks → has_at d addresses device ≡ has_device d disks device
has_same d addresses disks device same =
    ap (λ (b : Bool). is_some (part_at d device) || b)
    (ap (list_any (λ (address : ℕ). address == device)) same ∙ any_at disks device)

same_filter : (p q : ℕ → Bool) → ((k : ℕ) → p k ≡ q k) → (list : List Subchannel)
    → filter (λ (s : Subchannel). p s.address) list ≡ filter (λ (s : Subchannel). q s.address) list
same_filter p q same [] = refl
same_filter p q same (s ∷ ss) = rw (same s.address, same_filter p q same ss) refl

-- All addresses that have a device are attached.
pub attached_at : (d : DevicesValue) (addresses : List ℕ) (disks : List DiskAt)
    → addresses ≡ map (λ (disk : DiskAt). disk.address) disks → (list : List Subchannel)
    → list ≡ subchannels_below (has_at d addresses) 0x600 → list ≡ subchannels_below (has_device d disks) 0x600
attached_at d addresses disks same list is =
    is ∙ same_filter (has_at d addresses) (has_device d disks) (λ k. has_same d addresses disks k same)
    (map new_device (range_with_len 0 0x600))

-- ---- which can be attached

count : (d : DevicesValue) (addresses : List ℕ) (n : ℕ)
    → length (subchannels_below (has_at d addresses) n) ≡ many (among (places_of d.places ++ addresses)) n
count d addresses n = below_many (has_at d addresses) n ∙ same_many (has_at d addresses)
    (among (places_of d.places ++ addresses)) (has_among d addresses) n

sum_few : (all count a b : ℕ) → all ≡ a + b → count ≡ a + b → count ≤ 32 → all ≤ 32
sum_few all count a b e f h = omega arith

-- Addresses that are all apart can be attached.
pub all_apart : (d : DevicesValue) (addresses : List ℕ) (list : List Subchannel)
    → list ≡ subchannels_below (has_at d addresses) 0x600 → length list ≤ 32
    → length list ≡ length (places_of d.places) + length addresses → can_attach (places_of d.places ++ addresses) ≡ true
all_apart d addresses list is few size =
    let all : List ℕ = places_of d.places ++ addresses in
    let same : length list ≡ many (among all) 0x600 =
    ap (λ (l : List Subchannel). length l) is ∙ count d addresses 0x600 in
    let a = apart_of all 0x600 (sym same ∙ size ∙ sym (length-append (places_of d.places) addresses)) in
    let le : nat_le (length all) 32 ≡ true =
    le_true (length all) 32 (sum_few (length all) (length list) (length (places_of d.places)) (length addresses)
    (length-append (places_of d.places) addresses) size few) in
    and_so (nat_le (length all) 32 && list_all (λ (address : ℕ). nat_lt address 0x600) all) (are_apart all)
    (and_so (nat_le (length all) 32) _ le a.0) a.1

not_so : (b : Bool) → (b ≡ true → ⊥) → b ≡ false
not_so true h = absurd (h refl)
not_so false h = refl

parts_of : (xs : List ℕ) → can_attach xs ≡ true → (length xs ≤ 32) × (many (among xs) 0x600 ≡ length xs)
parts_of xs h =
    let o = both (nat_le (length xs) 32 && list_all (λ (address : ℕ). nat_lt address 0x600) xs) (are_apart xs) h in
    let i = both (nat_le (length xs) 32) (list_all (λ (address : ℕ). nat_lt address 0x600) xs) o.0 in
    (true_le (length xs) 32 i.0, of_apart xs 0x600 i.1 o.1)

-- Addresses that are not all apart cannot be attached.
pub not_apart : (d : DevicesValue) (addresses : List ℕ) (list : List Subchannel)
    → list ≡ subchannels_below (has_at d addresses) 0x600
    → (length list ≡ length (places_of d.places) + length addresses → ⊥)
    → can_attach (places_of d.places ++ addresses) ≡ false
not_apart d addresses list is other =
    not_so (can_attach (places_of d.places ++ addresses))
    (λ h. other (ap (λ (l : List Subchannel). length l) is ∙ count d addresses 0x600 ∙
    (parts_of (places_of d.places ++ addresses) h).1 ∙ length-append (places_of d.places) addresses))

-- ---- a device that is above all others can be added while they are fewer than 32

below_more : (n : ℕ) (list : List Subchannel) → list_all (is_below n) list ≡ true
    → list_all (is_below (suc n)) list ≡ true
below_more n [] h = refl
below_more n (s ∷ ss) h =
    let b = both (is_below n s) (list_all (is_below n) ss) h in
    let less : nat_lt s.address n ≡ true = b.0 in
    and_so (is_below (suc n) s) (list_all (is_below (suc n)) ss) (grind (arith, nat_tests)) (below_more n ss b.1)

below_push : (n : ℕ) (b : Bool) (list : List Subchannel) → list_all (is_below (suc n)) list ≡ true
    → list_all (is_below (suc n)) (attached b n list) ≡ true
below_push n false list h = h
below_push n true [] h = and_so (nat_lt n (suc n)) true (grind (arith, nat_tests)) refl
below_push n true (s ∷ ss) h =
    let b = both (is_below (suc n) s) (list_all (is_below (suc n)) ss) h in and_so (is_below (suc n) s) _ b.0
    (below_push n true ss b.1)

all_below : (has : ℕ → Bool) (n : ℕ) → list_all (is_below n) (subchannels_below has n) ≡ true
all_below has zero = refl
all_below has (suc n) =
    subst (λ (l : List Subchannel). list_all (is_below (suc n)) l ≡ true)
    (below_next has n ∙ ap (subchannels_below has) (next n))
    (below_push n (has n) (subchannels_below has n) (below_more n (subchannels_below has n) (all_below has n)))

-- An address that is there twice is not added.
pub not_added : (d : DevicesValue) (addresses : List ℕ) (device : ℕ) (list : List Subchannel) → device < 0x600
    → list ≡ subchannels_below (has_at d addresses) device → has_at d addresses device ≡ true
    → can_add device list ≡ false → can_attach (places_of d.places ++ addresses) ≡ false
not_added d addresses device list low is here refused =
    let all : List ℕ = places_of d.places ++ addresses in
    not_so (can_attach all) (λ h. (
    let p = parts_of all h in
    let one : add_one (among all device) ≡ 1 = ap add_one (sym (has_among d addresses device) ∙ here) in
    let size : length list ≡ many (among all) device =
    ap (λ (l : List Subchannel). length l) is ∙ count d addresses device in
    let small : length list < 32 = omega (arith, p.0, few_many all (suc device), one, size) in
    let room : nat_lt (length list) 32 ≡ true = lt_true (length list) 32 small in
    let low' : nat_lt device 0x600 ≡ true = lt_true device 0x600 low in
    let above : list_all (is_below device) list ≡ true =
    ap (list_all (is_below device)) is ∙ all_below (has_at d addresses) device in
    let can : can_add device list ≡ true =
    and_so (nat_lt (length list) 32) _ room (and_so (nat_lt device 0x600) _ low' above) in
    true≢false (sym can ∙ refused)))

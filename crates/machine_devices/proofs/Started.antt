-- What a change of one device does to which devices work, and to the numbers of their starts.
use Rattle.std.proofs.Common.{◌≡◌, ◌≤◌, ◌+◌, ◌^◌, ◌⊎◌, inl, inr, ℕ, zero, suc, Bool, true, false, List, [], ◌∷◌, refl}
use Rattle.std.proofs.Common.{sym, ap, subst, ◌∙◌, arith}
use Rattle.std.specs.Prelude.{if◌then◌else◌, ◌==◌, max, min}
use Rattle.s370_subchannels.specs.declared.subchannel.Subchannel.{Subchannel}
use Rattle.s370_subchannels.specs.Starts.{works}
use Rattle.s370_subchannels.specs.Subchannels.{changed, is_at, latest_start, next_start, reset as reset_list}
use Rattle.machine_devices.specs.Working.{AllWorkSince, WorksSince}

-- ---- lists of devices

since_same : (number : ℕ) (s : Subchannel) → WorksSince number s s
since_same number s e = inl (e, refl)

-- The same devices work as before.
pub all_same : (number : ℕ) (xs : List Subchannel) → AllWorkSince number xs xs
all_same number [] = tt
all_same number (x ∷ xs) = (refl, since_same number x, all_same number xs)

through : (number : ℕ) (x y z : Subchannel)
    → ((works x.state ≡ true) × (y.last_start ≡ x.last_start)) ⊎ (number ≤ y.last_start)
    → z.last_start ≡ y.last_start
    → ((works x.state ≡ true) × (z.last_start ≡ x.last_start)) ⊎ (number ≤ z.last_start)
through number x y z (inl h) e = inl (h.0, e ∙ h.1)
through number x y z (inr h) e = inr (subst (λ (n : ℕ). number ≤ n) (sym e) h)

since_later : (number : ℕ) (x y z : Subchannel) → WorksSince number x y
    → ((works y.state ≡ true) × (z.last_start ≡ y.last_start)) ⊎ (number ≤ z.last_start)
    → ((works x.state ≡ true) × (z.last_start ≡ x.last_start)) ⊎ (number ≤ z.last_start)
since_later number x y z a (inl h) = through number x y z (a h.0) h.1
since_later number x y z a (inr h) = inr h

-- What holds of two changes holds of both, one after the other.
pub all_later : (number : ℕ) (xs ys zs : List Subchannel) → AllWorkSince number xs ys → AllWorkSince number ys zs
    → AllWorkSince number xs zs
all_later number [] [] [] a b = tt
all_later number [] [] (z ∷ zs) a b = absurd b
all_later number [] (y ∷ ys) zs a b = absurd a
all_later number (x ∷ xs) [] zs a b = absurd a
all_later number (x ∷ xs) (y ∷ ys) [] a b = absurd b
all_later number (x ∷ xs) (y ∷ ys) (z ∷ zs) a b = (
  b.0 ∙ a.0,
  λ e. since_later number x y z a.1 (b.1 e),
  all_later number xs ys zs a.2 b.2,
)

-- ---- one device is changed

all_by : (number : ℕ) (b : Bool) (change : Subchannel → Subchannel) (s : Subchannel) (ss rest : List Subchannel)
    → (change s).address ≡ s.address → WorksSince number s (change s) → AllWorkSince number ss rest
    → AllWorkSince number (s ∷ ss) (if b then change s ∷ ss else s ∷ rest)
all_by number true change s ss rest a w r = (a, w, all_same number ss)
all_by number false change s ss rest a w r = (refl, since_same number s, r)

-- What holds of the device that is changed holds of the list.
pub all_changed : (number device : ℕ) (change : Subchannel → Subchannel)
    → ((s : Subchannel) → (change s).address ≡ s.address) → ((s : Subchannel) → WorksSince number s (change s))
    → (list : List Subchannel) → AllWorkSince number list (changed device change list)
all_changed number device change a w [] = tt
all_changed number device change a w (s ∷ ss) =
    all_by number (s.address == device) change s ss (changed device change ss) (a s) (w s)
    (all_changed number device change a w ss)

latest_by : (b : Bool) (change : Subchannel → Subchannel) (s : Subchannel) (ss rest : List Subchannel)
    → (change s).last_start ≡ s.last_start → latest_start rest ≡ latest_start ss
    → latest_start (if b then change s ∷ ss else s ∷ rest) ≡ latest_start (s ∷ ss)
latest_by true change s ss rest e r = ap (λ (n : ℕ). max n (latest_start ss)) e
latest_by false change s ss rest e r = ap (λ (n : ℕ). max s.last_start n) r

-- A change that starts nothing leaves the number of the latest start.
pub latest_same : (device : ℕ) (change : Subchannel → Subchannel)
    → ((s : Subchannel) → (change s).last_start ≡ s.last_start) → (list : List Subchannel)
    → latest_start (changed device change list) ≡ latest_start list
latest_same device change e [] = refl
latest_same device change e (s ∷ ss) =
    latest_by (s.address == device) change s ss (changed device change ss) (e s) (latest_same device change e ss)

-- ---- a start

numbered_by : (number : ℕ) (b : Bool) (change : Subchannel → Subchannel) (s : Subchannel) (ss rest : List Subchannel)
    → (change s).last_start ≡ number → (rest ≡ ss) ⊎ (number ≤ latest_start rest)
    → ((if b then change s ∷ ss else s ∷ rest) ≡ s ∷ ss)
    ⊎ (number ≤ latest_start (if b then change s ∷ ss else s ∷ rest))
numbered_by number true change s ss rest e h = inr (omega (arith, e))
numbered_by number false change s ss rest e (inl same) = inl (ap (λ (l : List Subchannel). s ∷ l) same)
numbered_by number false change s ss rest e (inr more) = inr (omega (arith, more))

numbered : (number device : ℕ) (change : Subchannel → Subchannel)
    → ((s : Subchannel) → (change s).last_start ≡ number) → (list : List Subchannel)
    → (changed device change list ≡ list) ⊎ (number ≤ latest_start (changed device change list))
numbered number device change e [] = inl refl
numbered number device change e (s ∷ ss) =
    numbered_by number (s.address == device) change s ss (changed device change ss) (e s)
    (numbered number device change e ss)

least : (list more : List Subchannel) → (more ≡ list) ⊎ (next_start list ≤ latest_start more)
    → next_start list ≤ next_start more
least list more (inl same) = subst (λ (l : List Subchannel). next_start list ≤ next_start l) (sym same) (omega arith)
least list more (inr high) = omega (arith, high)

-- After a start with the next number, the next number is no lower.
pub next_higher : (device : ℕ) (change : Subchannel → Subchannel) (list : List Subchannel)
    → ((s : Subchannel) → (change s).last_start ≡ next_start list)
    → next_start list ≤ next_start (changed device change list)
next_higher device change list e =
    least list (changed device change list) (numbered (next_start list) device change e list)

twice_by : (b : Bool) (f g : Subchannel → Subchannel) (s : Subchannel) (ss rest more : List Subchannel) (device : ℕ)
    → is_at device s ≡ b → (f s).address ≡ s.address → changed device g rest ≡ more
    → changed device g (if b then f s ∷ ss else s ∷ rest) ≡ (if b then g (f s) ∷ ss else s ∷ more)
twice_by true f g s ss rest more device is a h =
    let here : is_at device (f s) ≡ true = ap (λ (n : ℕ). n == device) a ∙ is in rw here refl
twice_by false f g s ss rest more device is a h = rw is (ap (λ (l : List Subchannel). s ∷ l) h)

-- Two changes of one device are one.
pub changed_twice : (device : ℕ) (f g : Subchannel → Subchannel) → ((s : Subchannel) → (f s).address ≡ s.address)
    → (list : List Subchannel)
    → changed device g (changed device f list) ≡ changed device (λ (s : Subchannel). g (f s)) list
changed_twice device f g a [] = refl
changed_twice device f g a (s ∷ ss) =
    twice_by (is_at device s) f g s ss (changed device f ss) (changed device (λ (t : Subchannel). g (f t)) ss)
    device refl (a s) (changed_twice device f g a ss)

-- ---- a reset

-- After a reset no device works.
pub all_reset : (number : ℕ) (list : List Subchannel) → AllWorkSince number list (reset_list list)
all_reset number [] = tt
all_reset number (s ∷ ss) = (refl, λ e. absurd (cc), all_reset number ss)

-- A reset leaves the number of the latest start.
pub latest_reset : (list : List Subchannel) → latest_start (reset_list list) ≡ latest_start list
latest_reset [] = refl
latest_reset (s ∷ ss) = ap (λ (n : ℕ). max s.last_start n) (latest_reset ss)

-- What has changed for users, one after another.
use Rattle.std.proofs.Common.{◌≡◌, ℕ, ◌+◌, ◌<◌, ◌≤◌, zero, suc, List, [], ◌∷◌, ◌++◌, length, map, take, drop, get_or}
use Rattle.std.proofs.Common.{refl, ap, sym, ◌∙◌, add-one, append-nil, arith}
use Rattle.std.proofs.lemmas.List.{drop_all, length-map}
use Rattle.machine_devices.specs.Equipped.{Equipped, nobody}
use Rattle.machine_panel.specs.declared.machine.Mode.{Mode}
use Rattle.sessions.specs.Installed.{Installed, machine_at, user_at}
use Rattle.sessions.specs.News.{change_lines, changed_lines}
use Rattle.sessions.specs.Transcript.{ended}
use Rattle.std.specs.Prelude.{Some, slice_get}
use Rattle.sessions.proofs.Rest.{from_here, lines_more}

-- ---- modes

modes_suc : (es : List Equipped) (k : ℕ) → k < length es
    → map (λ e. e.machine.mode) (take (suc k) es) ≡ map (λ e. e.machine.mode) (take k es)
    ++ (get_or es k nobody).machine.mode ∷ []
modes_suc [] k h = absurd (omega (arith, h))
modes_suc (e ∷ es) zero h = refl
modes_suc (e ∷ es) (suc k) h = ap (λ (l : List Mode). e.machine.mode ∷ l) (modes_suc es k (omega (arith, h)))

-- the mode of one machine more
pub mode_more : (s : Installed) (before after : List Mode) (k : ℕ) (one : Mode) → k < length s.machines
    → after ≡ before ++ one ∷ [] → before ≡ map (λ e. e.machine.mode) (take k s.machines) → one ≡ (machine_at s k).mode
    → after ≡ map (λ e. e.machine.mode) (take (k + 1) s.machines)
mode_more s before after k one h e so_far is =
    e
    ∙ (ap (λ (l : List Mode). l ++ one ∷ []) so_far
    ∙ (ap (λ (m : Mode). map (λ e. e.machine.mode) (take k s.machines) ++ m ∷ []) is
    ∙ sym (rw add-one (modes_suc s.machines k h))))

-- ---- lines

here : {X : Type 0} (xs : List X) (k : ℕ) (x : X) → k < length xs → x ≡ get_or xs k x → drop k xs ≡ x ∷ drop (k + 1) xs
here [] k x h is = absurd (omega (arith, h))
here {X} (y ∷ xs) zero x h is = ap (λ (z : X). z ∷ xs) (sym is)
here (y ∷ xs) (suc k) x h is =
    let more : suc k + 1 ≡ suc (k + 1) = omega arith in
    here xs k x (omega (arith, h)) is ∙ ap (λ (n : ℕ). x ∷ drop n (y ∷ xs)) (sym more)

drop_map : {X Y : Type 0} (f : X → Y) (xs : List X) (k : ℕ) → drop k (map f xs) ≡ map f (drop k xs)
drop_map f [] zero = refl
drop_map f [] (suc k) = refl
drop_map f (x ∷ xs) zero = refl
drop_map f (x ∷ xs) (suc k) = drop_map f xs k

named : {X : Type 0} (f : X → List ℕ) (xs : List X) (k : ℕ) (x : X) → k < length xs → x ≡ get_or xs k x
    → drop k (map f xs) ≡ f x ∷ drop (k + 1) (map f xs)
named f xs k x h is = drop_map f xs k ∙
    (ap (map f) (here xs k x h is) ∙ ap (λ (l : List (List ℕ)). f x ∷ l) (sym (drop_map f xs (k + 1))))

-- those of one user more
pub change_more : {X : Type 0} (f : X → List ℕ) (out after : List ℕ) (names : List X) (olds news : List Mode) (k : ℕ)
    (name : X) (old new : Mode) → k < length names → name ≡ get_or names k name → Some old ≡ slice_get olds k
    → Some new ≡ slice_get news k → after ≡ out ++ ended (change_lines (f name) old new)
    → after ++ ended (changed_lines (drop (k + 1) (map f names)) (drop (k + 1) olds) (drop (k + 1) news)) ≡ out
    ++ ended (changed_lines (drop k (map f names)) (drop k olds) (drop k news))
change_more f out after names olds news k name old new h a b c e =
    let x = named f names k name h a in
    let y = from_here olds k old b in
    let z = from_here news k new c in
    lines_more out after (change_lines (f name) old new)
    (changed_lines (drop (k + 1) (map f names)) (drop (k + 1) olds) (drop (k + 1) news))
    (changed_lines (drop k (map f names)) (drop k olds) (drop k news)) (rw (x, y, z) refl) e

-- none is left
pub no_change : {X : Type 0} (f : X → List ℕ) (out : List ℕ) (names : List X) (olds news : List Mode) (k : ℕ)
    → length names ≤ k → out ++ ended (changed_lines (drop k (map f names)) (drop k olds) (drop k news)) ≡ out
no_change f out names olds news k past =
    let none : drop k (map f names) ≡ [] = drop_all k (map f names) (omega (arith, length-map names f, past)) in
    ap (λ (l : List (List ℕ)). out ++ ended (changed_lines l (drop k olds) (drop k news))) none ∙ append-nil out

-- What was asked of files, one after another.
use Rattle.std.proofs.Common.{◌≡◌, ◌∙◌, ℕ, zero, suc, ◌+◌, List, [], ◌∷◌, ◌++◌, Option, Some, None, Result, Ok, Err}
use Rattle.std.proofs.Common.{refl, sym, ap, subst, append_assoc, append-nil, length, map, take, drop, add-one}
use Rattle.std.specs.Prelude.{IfErr, IsErrAnd, OnOk, slice_get}
use Rattle.ckd_volume.specs.Volume.{VolumeFormat}
use Rattle.program_host.specs.Deeds.{Adds, AddsFirst, AddsFront, Deed, Opens, Saves, opens, saves}

-- Nothing that is written adds nothing.
pub adds_none : (old : Option (List Deed)) → Adds old old []
adds_none None = tt
adds_none (Some deeds) = sym (append-nil deeds)

-- What is written after more is added after it.
pub adds_more : (a b c : Option (List Deed)) (xs ys : List Deed) → Adds a b xs → Adds b c ys → Adds a c (xs ++ ys)
adds_more None b c xs ys h k = tt
adds_more (Some d) None c xs ys h k = absurd h
adds_more (Some d) (Some e) None xs ys h k = absurd k
adds_more (Some d) (Some e) (Some f) xs ys h k = k ∙ (ap (λ (l : List Deed). l ++ ys) h ∙ append_assoc d xs ys)

pub adds_same : (a b : Option (List Deed)) (xs ys : List Deed) → xs ≡ ys → Adds a b xs → Adds a b ys
adds_same a b xs ys e h = subst (Adds a b) e h

-- The first so many may be taken before each is made another.
pub take_map : {A B : Type 0} (f : A → B) (n : ℕ) (xs : List A) → take n (map f xs) ≡ map f (take n xs)
take_map f zero xs = refl
take_map f (suc n) [] = refl
take_map f (suc n) (x ∷ xs) = ap (λ l. f x ∷ l) (take_map f n xs)

-- the first so many of the paths were opened
pub opened_front : {P : Type 0} (f : P → List ℕ) (n : ℕ) (paths : List P) (a b : Option (List Deed))
    → Adds a b (opens (map f (take n paths))) → AddsFront a b (opens (map f paths))
opened_front f n paths a b h = (
  n,
  adds_same a b (opens (map f (take n paths))) (take n (opens (map f paths)))
      (sym (take_map _ n (map f paths) ∙ ap opens (take_map f n paths))) h,
)

-- all of them
pub opened_all : {P : Type 0} (f : P → List ℕ) (n : ℕ) (paths : List P) (a b : Option (List Deed))
    → take n paths ≡ paths → Adds a b (opens (map f (take n paths))) → Adds a b (opens (map f paths))
opened_all f n paths a b e h =
    adds_same a b (opens (map f (take n paths))) (opens (map f paths)) (ap (λ l. opens (map f l)) e) h

map_end : {A B : Type 0} (f : A → B) (xs : List A) (x : A) → map f (xs ++ x ∷ []) ≡ map f xs ++ f x ∷ []
map_end f [] x = refl
map_end f (y ∷ ys) x = ap (λ l. f y ∷ l) (map_end f ys x)

-- one more was opened
pub opened_more : (done after : List (List ℕ)) (path : List ℕ) (a b c : Option (List Deed)) → after ≡ done ++ path ∷ []
    → Adds a b (opens done) → Adds b c (Opens path ∷ []) → Adds a c (opens after)
opened_more done after path a b c e h k =
    adds_same a c (opens done ++ Opens path ∷ []) (opens after) (sym (ap opens e ∙ map_end Opens done path))
    (adds_more a b c (opens done) (Opens path ∷ []) h k)

-- ---- images

-- the path at a place, and those after it
pub drop_get : (k : ℕ) (paths rest : List (List ℕ)) (path : List ℕ) → drop k paths ≡ path ∷ rest
    → Some path ≡ slice_get paths k
drop_get zero [] rest path e = cc
drop_get zero (p ∷ ps) rest path e = cc
drop_get (suc k) [] rest path e = cc
drop_get (suc k) (p ∷ ps) rest path e = drop_get k ps rest path e

drop_suc : (k : ℕ) (paths rest : List (List ℕ)) (path : List ℕ) → drop k paths ≡ path ∷ rest → drop (suc k) paths ≡ rest
drop_suc zero [] rest path e = cc
drop_suc zero (p ∷ ps) rest path e = cc
drop_suc (suc k) [] rest path e = cc
drop_suc (suc k) (p ∷ ps) rest path e = drop_suc k ps rest path e

-- The paths after the first are those that are left.
pub drop_more : (k : ℕ) (paths rest : List (List ℕ)) (path : List ℕ) → drop k paths ≡ path ∷ rest
    → drop (k + 1) paths ≡ rest
drop_more k paths rest path e = rw add-one (drop_suc k paths rest path e)

saves_suc : (k : ℕ) (paths : List (List ℕ)) (volumes : List VolumeFormat) (path : List ℕ) (volume : VolumeFormat)
    → Some path ≡ slice_get paths k → Some volume ≡ slice_get volumes k
    → take (suc k) (saves paths volumes) ≡ take k (saves paths volumes) ++ Saves path volume ∷ []
saves_suc k [] volumes path volume e f = cc
saves_suc k (p ∷ ps) [] path volume e f = cc
saves_suc zero (p ∷ ps) (v ∷ vs) path volume e f =
    let same : path ≡ p = cc in
    let alike : volume ≡ v = cc in
    rw (same, alike) refl
saves_suc (suc k) (p ∷ ps) (v ∷ vs) path volume e f = ap (λ l. Saves p v ∷ l) (saves_suc k ps vs path volume e f)

-- one more image was asked for
pub saves_more : (k : ℕ) (paths : List (List ℕ)) (volumes : List VolumeFormat) (path : List ℕ) (volume : VolumeFormat)
    (a b c : Option (List Deed)) → Some path ≡ slice_get paths k → Some volume ≡ slice_get volumes k
    → AddsFirst k a b (saves paths volumes) → Adds b c (Saves path volume ∷ [])
    → AddsFirst (k + 1) a c (saves paths volumes)
saves_more k paths volumes path volume a b c e f before more =
    adds_same a c (take k (saves paths volumes) ++ Saves path volume ∷ []) (take (k + 1) (saves paths volumes))
    (sym (rw add-one (saves_suc k paths volumes path volume e f)))
    (adds_more a b c (take k (saves paths volumes)) (Saves path volume ∷ []) before more)

saves_all : (paths : List (List ℕ)) (volumes : List VolumeFormat)
    → take (length paths) (saves paths volumes) ≡ saves paths volumes
saves_all [] volumes = refl
saves_all (p ∷ ps) [] = refl
saves_all (p ∷ ps) (v ∷ vs) = ap (λ l. Saves p v ∷ l) (saves_all ps vs)

-- all were asked for
pub saves_each : (k : ℕ) (paths : List (List ℕ)) (volumes : List VolumeFormat) (a b : Option (List Deed))
    → k ≡ length paths → AddsFirst k a b (saves paths volumes) → Adds a b (saves paths volumes)
saves_each k paths volumes a b e h =
    adds_same a b (take k (saves paths volumes)) (saves paths volumes)
    (ap (λ (n : ℕ). take n (saves paths volumes)) e ∙ saves_all paths volumes) h

-- ---- what failed

-- What holds of an error holds of the one that was found.
pub if_err : {A E : Type 0} (P : E → Type 0) (result : Result A E) (error : E) → IsErrAnd result (λ e. e ≡ error)
    → P error → IfErr result P
if_err P (Ok a) error is h = tt
if_err P (Err e) error is h = subst P (sym is) h

-- What follows from two facts on an answer holds on it.
pub on_ok_both : {A E : Type 0} {P Q S : Type 0} (result : Result A E) → (P → Q → S) → OnOk result P → OnOk result Q
    → OnOk result S
on_ok_both (Ok a) f h k = f h k
on_ok_both (Err e) f h k = tt

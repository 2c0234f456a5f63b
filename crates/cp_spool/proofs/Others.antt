-- What every other user has stays.
use Rattle.std.proofs.Common.{◌≡◌, ℕ, zero, suc, ◌<◌, List, [], ◌∷◌, length, get_or, set, refl, sym, ◌∙◌, ap, arith}
use Rattle.std.proofs.lemmas.List.{get_or-set_same, length-set}
use Rattle.cp_spool.specs.Queues.{KeepsOthers, UserFiles, files_of, no_files, with_files}

set_own : {X : Type 0} (xs : List X) (i : ℕ) (d : X) → xs ≡ set xs i (get_or xs i d)
set_own [] i d = refl
set_own (x ∷ xs) zero d = refl
set_own (x ∷ xs) (suc i) d = ap (λ ys. x ∷ ys) (set_own xs i d)

set_twice : {X : Type 0} (xs : List X) (i : ℕ) (y z : X) → set (set xs i y) i z ≡ set xs i z
set_twice [] i y z = refl
set_twice (x ∷ xs) zero y z = refl
set_twice (x ∷ xs) (suc i) y z = ap (λ ys. x ∷ ys) (set_twice xs i y z)

-- A user whose files are set has these files.
pub files_now : (users users' : List UserFiles) (user : ℕ) (f : UserFiles) → user < length users
    → users' ≡ with_files user f users → files_of users' user ≡ f
files_now users users' user f inside is =
    ap (λ (us : List UserFiles). files_of us user) is ∙ get_or-set_same users user f no_files inside

pub keeps_by : (users users' : List UserFiles) (user : ℕ) (f : UserFiles) → user < length users
    → users' ≡ with_files user f users → KeepsOthers user users users'
keeps_by users users' user f inside is =
    is ∙ ap (λ (x : UserFiles). with_files user x users) (sym (files_now users users' user f inside is))

-- Files that stay keep those of all other users.
pub keeps_same : (users users' : List UserFiles) (user : ℕ) → users' ≡ users → KeepsOthers user users users'
keeps_same users users' user is =
    is ∙ set_own users user no_files ∙ ap (λ (us : List UserFiles). with_files user (files_of us user) users) (sym is)

-- Keeping others' files twice keeps them.
pub keeps_on : (a b c : List UserFiles) (user : ℕ) → KeepsOthers user a b → KeepsOthers user b c → KeepsOthers user a c
keeps_on a b c user one two =
    two ∙ ap (λ (us : List UserFiles). with_files user (files_of c user) us) one ∙ set_twice a user (files_of b user)
    (files_of c user)

-- Keeping others' files keeps the number of users.
pub as_many : (users users' : List UserFiles) (user : ℕ) → KeepsOthers user users users' → length users' ≡ length users
as_many users users' user keeps =
    ap (λ (us : List UserFiles). length us) keeps ∙ length-set users user (files_of users' user)

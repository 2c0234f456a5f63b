-- Who is ready.
use Rattle.std.proofs.Common.{◌≡◌, ◌<◌, ◌≤◌, inl, inr, ℕ, Bool, true, false, List, [], ◌∷◌, length, Option, Some}
use Rattle.std.proofs.Common.{None, ap, sym, ◌∙◌}
use Rattle.std.specs.List.{list_any, position}
use Rattle.std.specs.Option.{is_some}
use Rattle.std.proofs.lemmas.Bool.{cases_lt}
use Rattle.std.proofs.lemmas.List.{get_or_past}
use Rattle.std.proofs.lemmas.List.Folds.{list_any_at}
use Rattle.std.proofs.lemmas.List.Quantifiers.{position-Some}
use Rattle.cp_dispatch.proofs.Places.{none_placed}
use Rattle.machine_devices.specs.Equipped.{Equipped, nobody}
use Rattle.sessions.specs.Installed.{Installed, user_at}
use Rattle.sessions.specs.Schedule.{is_on, ready_in}

-- whom the system does not have has the machine of nobody, who is off
pub nobody_past : (s : Installed) (user : ℕ) → length s.machines ≤ user → user_at s user ≡ nobody
nobody_past s user past = get_or_past s.machines user nobody past

-- Whom the system does not have is not on.
pub off_past : (s : Installed) (user : ℕ) → length s.machines ≤ user → is_on (user_at s user).machine.mode ≡ false
off_past s user past = ap (λ (e : Equipped). is_on e.machine.mode) (nobody_past s user past)

pub not_ready_past : (s : Installed) (user : ℕ) → length s.machines ≤ user → ready_in s user ≡ false
not_ready_past s user past =
    ap (λ (e : Equipped). ready_in (record s { machines = e ∷ [] }) 0) (nobody_past s user past)

-- Who is ready is one of the users.
pub ready_below : (s : Installed) (user : ℕ) → ready_in s user ≡ true → user < length s.machines
ready_below s user h = elim (cases_lt user (length s.machines)) [
  | inl less ↦ less
  | inr past ↦ let twice : false ≡ true = sym (not_ready_past s user past) ∙ h in cc
]

-- Whoever has the first place of those who are such is one of them.
pub any_placed : (p : ℕ → Bool) (xs : List ℕ) (k : ℕ) → position p xs ≡ Some k → list_any p xs ≡ true
any_placed p xs k e =
    let found = position-Some p xs k 0 e in
    list_any_at p xs k 0 found.0 found.1

-- One of them is such where there is a place.
pub some_placed : (p : ℕ → Bool) (xs : List ℕ) (place : Option ℕ) → place ≡ position p xs
    → is_some place ≡ list_any p xs
some_placed p xs None e = sym (none_placed p xs (sym e))
some_placed p xs (Some k) e = sym (any_placed p xs k (sym e))

-- Programs in a line of which each is of a device of its user.
use Rattle.std.proofs.Common.{◌≡◌, ℕ, ◌<◌, ◌&&◌, zero, suc, Bool, true, false, List, [], ◌∷◌, ◌++◌, refl, sym, ◌∙◌}
use Rattle.std.proofs.Common.{subst, length, arith}
use Rattle.std.specs.Prelude.{if◌then◌else◌}
use Rattle.std.specs.List.{list_all}
use Rattle.s370_subchannels.specs.Starts.{is_started}
use Rattle.s370_subchannels.specs.Subchannels.{next_start}
use Rattle.s370_subchannels.specs.declared.subchannel.Subchannel.{Subchannel}
use Rattle.cp_dispatch.specs.Policy.{Lines, always, is_of}
use Rattle.cp_dispatch.specs.Turns.{IsTaken, at_end, without}
use Rattle.cp_dispatch.specs.declared.program.Program.{Program}
use Rattle.session_script.specs.Users.{KnownUser, has_device}
use Rattle.sessions.specs.Installed.{Installed, IsLineStated, is_stated, subchannels_at}
use Rattle.sessions.specs.Schedule.{IsOf, first_line, first_lines, in_order, is_before, is_joining, joined, line_after}
use Rattle.sessions.specs.Schedule.{line_since, started_since, with_joining, withdrawn}

not_both : (b : Bool) → b ≡ true → b ≡ false → ⊥
not_both b h k = cc

user_given : (users : List KnownUser) (user device : ℕ) → has_device users user device ≡ true → user < length users
user_given [] user device h = let none : has_device [] user device ≡ false =
    refl in absurd (not_both (has_device [] user device) h none)
user_given (one ∷ users) zero device h = omega arith
user_given (one ∷ users) (suc user) device h = omega (arith, user_given users user device h)

-- whoever has a device is a user
pub user_stated : (users : List KnownUser) (program : Program) → is_stated users program ≡ true
    → program.user < length users
user_stated users program h = user_given users program.user program.device h

-- ---- lines of programs of which each is such

both : (a b : Bool) → a ≡ true → b ≡ true → (a && b) ≡ true
both true b h k = k
both false b h k = cc

left_of : (a b : Bool) → (a && b) ≡ true → a ≡ true
left_of true b h = refl
left_of false b h = h

right_of : (a b : Bool) → (a && b) ≡ true → b ≡ true
right_of true b h = h
right_of false b h = cc

all_append : {X : Type 0} (p : X → Bool) (xs ys : List X) → list_all p xs ≡ true → list_all p ys ≡ true
    → list_all p (xs ++ ys) ≡ true
all_append p [] ys h k = k
all_append p (x ∷ xs) ys h k =
    both (p x) (list_all p (xs ++ ys)) (left_of (p x) (list_all p xs) h)
    (all_append p xs ys (right_of (p x) (list_all p xs) h) k)

all_front : {X : Type 0} (p : X → Bool) (xs ys : List X) → list_all p (xs ++ ys) ≡ true → list_all p xs ≡ true
all_front p [] ys h = refl
all_front p (x ∷ xs) ys h =
    both (p x) (list_all p xs) (left_of (p x) (list_all p (xs ++ ys)) h)
    (all_front p xs ys (right_of (p x) (list_all p (xs ++ ys)) h))

all_back : {X : Type 0} (p : X → Bool) (xs ys : List X) → list_all p (xs ++ ys) ≡ true → list_all p ys ≡ true
all_back p [] ys h = h
all_back p (x ∷ xs) ys h = all_back p xs ys (right_of (p x) (list_all p (xs ++ ys)) h)

all_one : {X : Type 0} (p : X → Bool) (x : X) → p x ≡ true → list_all p (x ∷ []) ≡ true
all_one p x h = both (p x) true h refl

choose : {X : Type 0} (p : X → Bool) (b : Bool) (xs ys : List X) → list_all p xs ≡ true → list_all p ys ≡ true
    → list_all p (if b then xs else ys) ≡ true
choose p true xs ys h k = h
choose p false xs ys h k = k

all_without : {X : Type 0} (p q : X → Bool) (xs : List X) → list_all p xs ≡ true → list_all p (without q xs) ≡ true
all_without p q [] h = h
all_without p q (x ∷ xs) h =
    let rest = right_of (p x) (list_all p xs) h in
    choose p (q x) xs (x ∷ without q xs) rest
    (both (p x) (list_all p (without q xs)) (left_of (p x) (list_all p xs) h) (all_without p q xs rest))

all_at_end : {X : Type 0} (p q : X → Bool) (x : X) (xs : List X) → p x ≡ true → list_all p xs ≡ true
    → list_all p (at_end q x xs) ≡ true
all_at_end p q x xs h k = all_append p (without q xs) (x ∷ []) (all_without p q xs k) (all_one p x h)

all_withdrawn : (p : Program → Bool) (user : ℕ) (ds : List Subchannel) (line : List Program) → list_all p line ≡ true
    → list_all p (withdrawn user ds line) ≡ true
all_withdrawn p user [] line h = h
all_withdrawn p user (d ∷ ds) line h =
    all_withdrawn p user ds _
    (choose p _ line (without (is_of user d.address) line) h (all_without p (is_of user d.address) line h))

abbrev is_given : List KnownUser → ℕ → Subchannel → Bool
is_given users user d = has_device users user d.address

all_joined : (users : List KnownUser) (user : ℕ) (ds : List Subchannel) (line : List Program)
    → list_all (is_given users user) ds ≡ true → list_all (is_stated users) line ≡ true
    → list_all (is_stated users) (joined user ds line) ≡ true
all_joined users user [] line g h = h
all_joined users user (d ∷ ds) line g h =
    all_joined users user ds _ (right_of (is_given users user d) (list_all (is_given users user) ds) g)
    (all_at_end (is_stated users) (is_of user d.address) (record { user = user; device = d.address }) line
    (left_of (is_given users user d) (list_all (is_given users user) ds) g) h)

all_in_order : (p : Subchannel → Bool) (d : Subchannel) (ds : List Subchannel) → p d ≡ true → list_all p ds ≡ true
    → list_all p (in_order d ds) ≡ true
all_in_order p d [] h k = all_one p d h
all_in_order p d (other ∷ others) h k =
    choose p (is_before d other) (d ∷ other ∷ others) (other ∷ in_order d others)
    (both (p d) (list_all p (other ∷ others)) h k)
    (both (p other) (list_all p (in_order d others)) (left_of (p other) (list_all p others) k)
    (all_in_order p d others h (right_of (p other) (list_all p others) k)))

join_step : (s : Installed) (user number : ℕ) (d : Subchannel) (sorted : List Subchannel) (b : Bool)
    → is_joining s user number d ≡ b → list_all (is_given s.users user) sorted ≡ true
    → list_all (is_given s.users user) (if b then in_order d sorted else sorted) ≡ true
join_step s user number d sorted true e h =
    all_in_order (is_given s.users user) d sorted (right_of (is_started number d) (is_given s.users user d) e) h
join_step s user number d sorted false e h = h

all_joining : (s : Installed) (user number : ℕ) (ds sorted : List Subchannel)
    → list_all (is_given s.users user) sorted ≡ true
    → list_all (is_given s.users user) (with_joining s user number sorted ds) ≡ true
all_joining s user number [] sorted h = h
all_joining s user number (d ∷ ds) sorted h =
    all_joining s user number ds _ (join_step s user number d sorted (is_joining s user number d) refl h)

-- a line that is brought up is of such programs again
pub line_stated : (s : Installed) (user number : ℕ) (line : List Program) → IsLineStated s.users line
    → IsLineStated s.users (line_since s user number line)
line_stated s user number line h =
    let ds = subchannels_at s user in
    all_joined s.users user (started_since s user number) (withdrawn user ds line)
    (all_joining s user number ds [] refl) (all_withdrawn (is_stated s.users) user ds line h)

-- so it is where the users stayed
pub still_stated : (old new : List KnownUser) (line : List Program) → new ≡ old → IsLineStated old line
    → IsLineStated new line
still_stated old new line e h = subst (λ (users : List KnownUser). IsLineStated users line) (sym e) h

-- the program that is dealt a serve is one of the line
pub taken_stated : (users : List KnownUser) (old new : List Program) (one : Program) → IsTaken always old one new
    → IsLineStated users old → is_stated users one ≡ true
taken_stated users old new one t h =
    let split = subst (λ (l : List Program). list_all (is_stated users) l ≡ true) t.split h in
    left_of (is_stated users one) (list_all (is_stated users) t.after)
    (all_back (is_stated users) t.before (one ∷ t.after) split)

-- and the line has turned
pub turned_stated : (users : List KnownUser) (old new : List Program) (one : Program) → IsTaken always old one new
    → IsLineStated users old → IsLineStated users new
turned_stated users old new one t h =
    let p = is_stated users in
    let split = subst (λ (l : List Program). list_all p l ≡ true) t.split h in
    let here = taken_stated users old new one t h in
    let later = right_of (p one) (list_all p t.after) (all_back p t.before (one ∷ t.after) split) in
    let all = all_append p t.after (t.before ++ one ∷ []) later
    (all_append p t.before (one ∷ []) (all_front p t.before (one ∷ t.after) split) (all_one p one here)) in
    subst (λ (l : List Program). list_all p l ≡ true) (sym t.turned) all

-- after an event turns are dealt among the same users, and to programs of their devices
pub after_event : (old new : Installed) (user : ℕ) (lines : Lines) (line : List Program) (after : Lines)
    → new.users ≡ old.users → IsLineStated old.users line → lines.most_users ≡ length old.users
    → after.most_users ≡ lines.most_users → after.programs ≡ line_after old new user line → IsOf new after
after_event old new user lines line after same h seats most e = record {
  seats = most ∙ (seats ∙ subst (λ (users : List KnownUser). length old.users ≡ length users) (sym same) refl);
  stated = subst (λ (l : List Program). IsLineStated new.users l) (sym e)
      (line_stated new user (next_start (subchannels_at old user)) line (still_stated old.users new.users line same h));
}

-- so is the first line
pub first_stated : (s : Installed) (users : ℕ) → IsLineStated s.users (first_line s users)
first_stated s zero = refl
first_stated s (suc user) = line_stated s user 0 (first_line s user) (first_stated s user)

-- at first turns are dealt among the users, and to programs of their devices
pub first_dealing : (s : Installed) → IsOf s (first_lines s)
first_dealing s = record { seats = refl; stated = first_stated s (length s.users) }

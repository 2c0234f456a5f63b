-- Single units, one after another, until what is sought is found.
use Rattle.std.proofs.Common.{◌≡◌, ◌∙◌, ℕ, zero, suc, ◌+◌, ◌<◌, ◌≤◌, Bool, true, false, List, [], ◌∷◌, ◌++◌}
use Rattle.std.proofs.Common.{Option, Some, refl, sym, ap, subst, arith}
use Rattle.std.specs.Prelude.{replicate}
use Rattle.std.proofs.KnownBytes.{Appends-nil}
use Rattle.session_script.specs.Script.{EventValue, Run}
use Rattle.sessions.specs.Installed.{Installation, Step}
use Rattle.sessions.specs.Schedule.{Act, Scene, AreDone, Entry, Answered, Dealt, Passed, Idle, IsOf, acts, acts_of}
use Rattle.sessions.specs.Schedule.{steps_of}
use Rattle.sessions.specs.Seek.{IsFirstFound, IsSought, IsSoughtPartly, IsTextSoughtPartly, found_in, seek_of}
use Rattle.sessions.specs.Seek.{single_units}
use Rattle.sessions.specs.Session.{IsPartly, IsPlayed}
use Rattle.sessions.specs.declared.seek.Seek.{Seek}
use Rattle.sessions.proofs.Histories.{acts_more, partly_more, played_both}

replicate_behind : (k : ℕ) (x : EventValue) → replicate (suc k) x ≡ replicate k x ++ x ∷ []
replicate_behind zero x = refl
replicate_behind (suc k) x = ap (λ (l : List EventValue). x ∷ l) (replicate_behind k x)

-- one unit more
units_more : (user k : ℕ) → single_units user (k + 1) ≡ single_units user k ++ acts_of (Run user 1)
units_more user k =
    let more : k + 1 ≡ suc k = omega arith in
    ap (single_units user) more ∙ ap acts (replicate_behind k (Run user 1))
    ∙ acts_more (replicate k (Run user 1)) (Run user 1)

steps_append : {W : Type 0} (es fs : List (Entry W)) → steps_of (es ++ fs) ≡ steps_of es ++ steps_of fs
steps_append [] fs = refl
steps_append {W} (Answered step ∷ es) fs = ap (λ (l : List (Step W)). step ∷ l) (steps_append es fs)
steps_append {W} (Dealt step ∷ es) fs = ap (λ (l : List (Step W)). step ∷ l) (steps_append es fs)
steps_append (Passed ∷ es) fs = steps_append es fs
steps_append (Idle ∷ es) fs = steps_append es fs

-- after none of these steps it is found
abbrev pub NoneFound : {W : Type 0} → (W → Bool) → List (Step W) → Type 0
NoneFound found [] = Unit {0}
NoneFound found (step ∷ more) = (found step.left ≡ false) × NoneFound found more

none_more : {W : Type 0} (found : W → Bool) (xs ys : List (Step W)) → NoneFound found xs → NoneFound found ys
    → NoneFound found (xs ++ ys)
none_more found [] ys h k = k
none_more found (x ∷ xs) ys h k = (h.0, none_more found xs ys h.1 k)

first_none : {W : Type 0} (found : W → Bool) (xs : List (Step W)) → NoneFound found xs → IsFirstFound found false xs
first_none found [] h = refl
first_none found (x ∷ []) h = h.0
first_none found (x ∷ y ∷ xs) h = (h.0, first_none found (y ∷ xs) h.1)

first_last : {W : Type 0} (found : W → Bool) (xs : List (Step W)) (last : Step W) → NoneFound found xs
    → found last.left ≡ true → IsFirstFound found true (xs ++ last ∷ [])
first_last found [] last h is = is
first_last found (x ∷ []) last h is = (h.0, is)
first_last found (x ∷ y ∷ xs) last h is = (h.0, first_last found (y ∷ xs) last h.1 is)

-- what came of one event is one step, and has led where that left the installation
one_step : {W : Type 0} (i : Installation W) (user : ℕ) (old new : Scene W) (es : List (Entry W))
    → AreDone i (acts_of (Run user 1)) old es new
    → (step : Step W) × (steps_of es ≡ step ∷ []) × (step.left ≡ new.world)
one_step i user old new [] h = absurd h
one_step {W} i user old new (Answered step ∷ []) h = (
  step,
  refl,
  sym (ap (λ (s : Scene W). s.world) h.2 ∙ ap (λ (s : Scene W). s.world) h.1.left),
)
one_step i user old new (Answered step ∷ e ∷ es) h = absurd h.2
one_step i user old new (Dealt step ∷ es) h = absurd h.1
one_step i user old new (Passed ∷ es) h = absurd h.1
one_step i user old new (Idle ∷ es) h = absurd h.1

-- So many single units were played, after none of which what is sought was found.
pub record IsQuiet {W : Type 0} (i : Installation W) (seek : Seek) (k : ℕ) (old new : Scene W)
    (a b : Option (List ℕ)) : Type 0 where
  pub played : IsPlayed i (single_units seek.user k) old new a b
  pub none : NoneFound (found_in i seek old.world) (steps_of played.entries)

-- Before the first unit nothing has happened.
pub quiet_none : {W : Type 0} (i : Installation W) (seek : Seek) (old : Scene W) (a : Option (List ℕ))
    → IsOf (i.seen old.world) old.lines → IsQuiet i seek 0 old old a a
quiet_none i seek old a dealing = record {
  played = record {
    entries = [];
    done = refl;
    written = Appends-nil a;
    users = refl;
    detail = refl;
    dealing = dealing;
  };
  none = tt;
}

-- One unit more was played.
unit_played : {W : Type 0} (i : Installation W) (seek : Seek) (k : ℕ) (old mid new : Scene W) (a b c : Option (List ℕ))
    (q : IsQuiet i seek k old mid a b) (p : IsPlayed i (acts_of (Run seek.user 1)) mid new b c)
    → (all : IsPlayed i (single_units seek.user (k + 1)) old new a c) × (step : Step W)
    × (steps_of all.entries ≡ steps_of q.played.entries ++ step ∷ []) × (step.left ≡ new.world)
unit_played {W} i seek k old mid new a b c q p =
    let both = played_both i (single_units seek.user k) (acts_of (Run seek.user 1)) old mid new a b c q.played p in
    let step = one_step i seek.user mid new p.entries p.done in
    let steps : steps_of both.0.entries ≡ steps_of q.played.entries ++ step.0 ∷ [] = ap steps_of both.1
    ∙ steps_append q.played.entries p.entries
    ∙ ap (λ (l : List (Step W)). steps_of q.played.entries ++ l) step.1 in (
      record {
        entries = both.0.entries;
        done = subst (λ (acts : List Act). AreDone i acts old both.0.entries new) (sym (units_more seek.user k))
            both.0.done;
        written = both.0.written;
        users = both.0.users;
        detail = both.0.detail;
        dealing = both.0.dealing;
      },
      step.0,
      steps,
      step.2,
    )

-- After one unit more it was not found either.
pub quiet_more : {W : Type 0} (i : Installation W) (seek : Seek) (k : ℕ) (old mid new : Scene W)
    (a b c : Option (List ℕ)) → IsQuiet i seek k old mid a b → IsPlayed i (acts_of (Run seek.user 1)) mid new b c
    → found_in i seek old.world new.world ≡ false → IsQuiet i seek (k + 1) old new a c
quiet_more {W} i seek k old mid new a b c q p unfound =
    let all = unit_played i seek k old mid new a b c q p in
    let found = found_in i seek old.world in
    let last : found all.1.left ≡ false = subst (λ (w : W). found w ≡ false) (sym all.3) unfound in
    record {
      played = all.0;
      none = subst (NoneFound found) (sym all.2)
          (none_more found (steps_of q.played.entries) (all.1 ∷ []) q.none (last, tt));
    }

-- All units were played, and it was not found.
pub sought_all : {W : Type 0} (i : Installation W) (seek : Seek) (k : ℕ) (old new : Scene W) (a b : Option (List ℕ))
    → IsQuiet i seek k old new a b → k ≡ seek.units → IsSought i seek false old new a b
sought_all i seek k old new a b q all = record {
  count = k;
  most = omega (arith, all);
  all = λ e. all;
  played = q.played;
  first = first_none (found_in i seek old.world) (steps_of q.played.entries) q.none;
}

-- It was found after one unit more.
pub sought_found : {W : Type 0} (i : Installation W) (seek : Seek) (k : ℕ) (old mid new : Scene W)
    (a b c : Option (List ℕ)) → k < seek.units → IsQuiet i seek k old mid a b
    → IsPlayed i (acts_of (Run seek.user 1)) mid new b c → found_in i seek old.world new.world ≡ true
    → IsSought i seek true old new a c
sought_found {W} i seek k old mid new a b c few q p is =
    let all = unit_played i seek k old mid new a b c q p in
    let found = found_in i seek old.world in
    let last : found all.1.left ≡ true = subst (λ (w : W). found w ≡ true) (sym all.3) is in
    record {
      count = k + 1;
      most = omega (arith, few);
      all = λ e. absurd (cc);
      played = all.0;
      first = subst (IsFirstFound found true) (sym all.2)
          (first_last found (steps_of q.played.entries) all.1 q.none last);
    }

-- One unit more was played in part.
pub sought_partly : {W : Type 0} (i : Installation W) (seek : Seek) (k : ℕ) (old mid : Scene W) (new : W)
    (a b c : Option (List ℕ)) → k < seek.units → IsQuiet i seek k old mid a b
    → IsPartly i (acts_of (Run seek.user 1)) mid new b c → IsSoughtPartly i seek old new a c
sought_partly i seek k old mid new a b c few q p = record {
  count = k + 1;
  most = omega (arith, few);
  played = subst (λ (acts : List Act). IsPartly i acts old new a c) (sym (units_more seek.user k))
      (partly_more i (single_units seek.user k) (acts_of (Run seek.user 1)) old mid new a b c q.played p);
}

-- ---- what a text asks for

-- What was sought from a scene was sought from one that is the same.
pub text_sought : {W : Type 0} (i : Installation W) (text : List ℕ) (seek : Seek) (found : Bool) (one old new : Scene W)
    (a b : Option (List ℕ)) → one ≡ old → seek_of (i.seen one.world).users text ≡ Some seek
    → IsSought i seek found one new a b
    → (asked : Seek) × (seek_of (i.seen old.world).users text ≡ Some asked) × IsSought i asked found old new a b
text_sought {W} i text seek found one old new a b same asked sought = (
  seek,
  subst (λ (s : Scene W). seek_of (i.seen s.world).users text ≡ Some seek) same asked,
  subst (λ (s : Scene W). IsSought i seek found s new a b) same sought,
)

-- So was what was sought in part.
pub text_partly : {W : Type 0} (i : Installation W) (text : List ℕ) (seek : Seek) (one old : Scene W) (new : W)
    (a b : Option (List ℕ)) → one ≡ old → seek_of (i.seen one.world).users text ≡ Some seek
    → IsSoughtPartly i seek one new a b → IsTextSoughtPartly i text old a b
text_partly {W} i text seek one old new a b same asked sought = record {
  seek = seek;
  asked = subst (λ (s : Scene W). seek_of (i.seen s.world).users text ≡ Some seek) same asked;
  left = new;
  played = subst (λ (s : Scene W). IsSoughtPartly i seek s new a b) same sought;
}

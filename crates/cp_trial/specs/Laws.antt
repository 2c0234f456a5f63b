-- The laws of a storage on trial.
use Rattle.std.specs.Prelude.{◌≡◌, ℕ, ◌/◌, List, [], ◌∷◌, ◌++◌, Bool, true, false, slice_index_or}
use Rattle.std.specs.Prelude.{Contains, replicate, refl}
use Rattle.std.proofs.Common.{ap, sym, ◌∙◌, subst, inl, inr, arith}
use Rattle.std.proofs.lemmas.List.Elements.{Contains-append_left, Contains-append_right}
use Rattle.std.proofs.lemmas.List.Elements.{Contains-append_cases}
use Rattle.s370_store.specs.declared.block.Block.{Block}
use Rattle.cp_trial.specs.declared.storage.TrialStorage.{TrialStorage}
use Rattle.cp_trial.specs.Trial.{trial_flags, is_touched, TrialRest, TrialKeeps}
use Rattle.channel_trial.specs.Pages.{IsIn}
use Rattle.cp_trial.specs.Trial.{IsTouchedBlock, untouched_count, TrialTouches}
use Rattle.cp_trial.specs.Trial.{TrialBrought, TrialCame}

differ : {b : Bool} → b ≡ false → b ≡ true → ⊥
differ away there = cc

flag_before : (before after : Bool) → (before ≡ true → after ≡ true) → after ≡ false
    → before ≡ false
flag_before true after stays away = absurd (differ away (stays refl))
flag_before false after stays away = refl

-- nothing changes between a storage and itself
pub keeps_same : (s : TrialStorage) → TrialKeeps s s
keeps_same s = record {
  rest = record {
    size = refl;
    flags = refl;
    untouched = λ address away. refl;
  };
  keys = refl;
}

-- what keeps the rest keeps which pages were touched
pub rest_present : (s t : TrialStorage) → TrialRest s t → is_touched t ≡ is_touched s
rest_present s t rest = ap (λ flags page. slice_index_or flags page false) rest.flags

-- what keeps all but bytes keeps which pages were touched
pub keeps_present : (s t : TrialStorage) → TrialKeeps s t → is_touched t ≡ is_touched s
keeps_present s t kept = rest_present s t kept.rest

-- two steps that keep the rest keep it together
pub rest_on : (s t u : TrialStorage) → TrialRest s t → TrialRest t u → TrialRest s u
rest_on s t u before after = record {
  size = after.size ∙ before.size;
  flags = after.flags ∙ before.flags;
  untouched = λ address away.
      after.untouched address away ∙ before.untouched address
      (sym (ap (λ (f : ℕ → Bool). f (address / 4096)) (rest_present t u after)) ∙ away);
}

-- two steps that keep all but bytes keep it together
pub keeps_on : (s t u : TrialStorage) → TrialKeeps s t → TrialKeeps t u → TrialKeeps s u
keeps_on s t u before after =
    record { rest = rest_on s t u before.rest after.rest; keys = after.keys ∙ before.keys }

-- a block that was found stays touched
pub placed_kept : (s t : TrialStorage) (block : Block) → TrialKeeps s t → IsTouchedBlock s block
    → IsTouchedBlock t block
placed_kept s t block kept h = record {
  inside = rw kept.rest.size h.inside;
  whole = h.whole;
  touched = ap (λ (f : ℕ → Bool). f (block.first / 4096)) (rest_present s t kept.rest) ∙ h.touched;
}

-- ---- what is touched
touches_kept : (s t : TrialStorage) (is_such : ℕ → Type 0) → TrialRest s t
    → TrialTouches s is_such t
touches_kept s t is_such rest =
    let same : (page : ℕ) → is_touched t page ≡ is_touched s page =
    λ page. ap (λ (f : ℕ → Bool). f page) (rest_present s t rest) in
    record {
      size = rest.size;
      stays = λ page there. same page ∙ there;
      paged_in = λ page there. inl (sym (same page) ∙ there);
      untouched = rest.untouched;
    }

touches_on : (s t u : TrialStorage) (one two both : ℕ → Type 0)
    → ((page : ℕ) → one page → both page) → ((page : ℕ) → two page → both page)
    → TrialTouches s one t → TrialTouches t two u → TrialTouches s both u
touches_on s t u one two both left right a b = record {
  size = b.size ∙ a.size;
  stays = λ page there. b.stays page (a.stays page there);
  paged_in = λ page there. (elim (b.paged_in page there) [
    | inl before ↦ (elim (a.paged_in page before) [
      | inl first ↦ inl first
      | inr such ↦ inr (left page such)
    ])
    | inr such ↦ inr (right page such)
  ]);
  untouched = λ address away.
      b.untouched address away ∙ a.untouched address
      (flag_before (is_touched t (address / 4096)) (is_touched u (address / 4096))
      (b.stays (address / 4096)) away);
}

touches_more : (s t : TrialStorage) (one both : ℕ → Type 0) → ((page : ℕ) → one page → both page)
    → TrialTouches s one t → TrialTouches s both t
touches_more s t one both more a = record {
  size = a.size;
  stays = a.stays;
  paged_in = λ page there. (elim (a.paged_in page there) [
    | inl first ↦ inl first
    | inr such ↦ inr (more page such)
  ]);
  untouched = a.untouched;
}

nothing_in : {X : Type 0} (x : X) → Contains [] x → ⊥
nothing_in x (k, low, here) = omega (arith, low)

-- an access brings no page
pub brought_none : (s t : TrialStorage) → TrialRest s t → TrialBrought s [] t
brought_none s t rest = record {
  touches = touches_kept s t (Contains []) rest;
  held = λ page listed. absurd (nothing_in page listed);
}

-- pages are touched one list after the other
pub brought_on : (s t u : TrialStorage) (before after : List ℕ) → TrialBrought s before t
    → TrialBrought t after u → TrialBrought s (before ++ after) u
brought_on s t u before after a b = record {
  touches = touches_on s t u (Contains before) (Contains after) (Contains (before ++ after))
      (Contains-append_left before after) (Contains-append_right before after) a.touches b.touches;
  held = λ page listed. (elim (Contains-append_cases before after page listed) [
    | inl first ↦ b.touches.stays page (a.held page first)
    | inr second ↦ b.held page second
  ]);
}

-- an access leaves as many pages that were not touched
pub spare_kept : (s t : TrialStorage) → TrialRest s t
    → untouched_count (trial_flags t) ≡ untouched_count (trial_flags s)
spare_kept s t rest = ap untouched_count rest.flags

-- what is touched for a unit is touched by that unit
pub let_go_came : (s t u : TrialStorage) (pages : List ℕ) → TrialBrought s pages t → u ≡ t
    → TrialCame s (pages ∷ []) u
let_go_came s t u pages brought same =
    subst (λ (x : TrialStorage). TrialCame s (pages ∷ []) x) (sym same)
    (touches_more s t (Contains pages) (IsIn (pages ∷ [])) (λ page listed. inl listed)
    brought.touches)

-- units that need no page touch none
pub came_none : (s t : TrialStorage) (units : ℕ) → TrialRest s t
    → TrialCame s (replicate units []) t
came_none s t units rest = touches_kept s t (IsIn (replicate units [])) rest

in_left : (before after : List (List ℕ)) (page : ℕ) → IsIn before page → IsIn (before ++ after) page
in_left [] after page there = absurd there
in_left (pages ∷ before) after page (inl here) = inl here
in_left (pages ∷ before) after page (inr there) = inr (in_left before after page there)

in_right : (before after : List (List ℕ)) (page : ℕ) → IsIn after page → IsIn (before ++ after) page
in_right [] after page there = there
in_right (pages ∷ before) after page there = inr (in_right before after page there)

-- units touch pages one after another
pub came_on : (s t u : TrialStorage) (before after : List (List ℕ)) → TrialCame s before t
    → TrialCame t after u → TrialCame s (before ++ after) u
came_on s t u before after a b =
    touches_on s t u (IsIn before) (IsIn after) (IsIn (before ++ after)) (in_left before after)
    (in_right before after) a b

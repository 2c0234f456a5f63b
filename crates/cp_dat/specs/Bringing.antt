-- The laws of what is brought: nothing, and some pages after others.
use Rattle.std.specs.Prelude.{◌≡◌, ℕ, zero, suc, ◌+◌, List, [], ◌∷◌, ◌++◌, Bool, true, false, cond}
use Rattle.std.specs.Prelude.{length, slice_index_or, is_some, Some, refl}
use Rattle.std.proofs.Common.{◌∙◌, sym, ap, subst, inl, inr, arith, length-append}
use Rattle.std.specs.List.{position_from}
use Rattle.std.proofs.lemmas.List.Elements.{Contains-append_left, Contains-append_right}
use Rattle.std.proofs.lemmas.List.Elements.{Contains-append_cases}
use Rattle.cp_dat.specs.declared.dat.Dat.{Dat}
use Rattle.cp_frames.specs.Layout.{FrameSupply}
use Rattle.cp_frames.specs.Paging.{counted, counted_by}
use Rattle.cp_dat.specs.Lent.{KeepsRest, keeps_frames, keeps_frames_on, user_of, lent_pool}
use Rattle.cp_dat.specs.Supplied.{ArePageIns, IsPagedFor, Supplied}

-- a flag is not both false and true
pub differ : {b : Bool} → b ≡ false → b ≡ true → ⊥
differ away there = cc

-- a search finds an owner that passes, and what it finds passes
pub found_from : {X : Type 0} (p : X → Bool) (d : X) (k : ℕ) (owners : List X) (frame : ℕ)
    → p d ≡ false →
    p (slice_index_or owners frame d) ≡ true → is_some (position_from p k owners) ≡ true
found_from p d k [] frame blank passes = absurd (differ blank passes)
found_from p d k (o ∷ owners) zero blank passes =
    ap (λ b. is_some (cond b (Some k) (position_from p (k + 1) owners))) passes
found_from p d k (o ∷ owners) (suc frame) blank passes =
    elim (p o) as (λ b. is_some (cond b (Some k) (position_from p (k + 1) owners)) ≡ true) [
      | true ↦ refl
      | false ↦ found_from p d (k + 1) owners frame blank passes
    ]

-- a place that was found passes its test
pub passing : {X : Type 0} (p : X → Bool) (d : X) (k : ℕ) (owners : List X)
    → is_some (position_from p k owners) ≡ true →
    (frame : ℕ) × (p (slice_index_or owners frame d) ≡ true)
passing p d k [] found = absurd (differ refl found)
passing {X} p d k (o ∷ owners) found =
    let at : (b : Bool) → p o ≡ b
    → is_some (cond b (Some k) (position_from p (k + 1) owners)) ≡ true
    → (frame : ℕ) × (p (slice_index_or (o ∷ owners) frame d) ≡ true) = elim [
      | true ↦ λ passes here. (0, passes)
      | false ↦ λ fails there. (let rest = passing p d (k + 1) owners there in (suc rest.0, rest.1))
    ] in
    at (p o) refl found

-- a count goes on from another count
pub counted_on : (first second n : ℕ)
    → counted_by (first + second) n ≡ counted_by second (counted_by first n)
counted_on zero second n = let e : zero + second ≡ second =
    omega arith in ap (λ k. counted_by k n) e
counted_on (suc first) second n =
    ap (λ k. counted_by k n) (let e : suc first + second ≡ suc (first + second) = omega arith in e)
    ∙ counted_on first second (counted n)

-- pages came, and then more of them
page_ins_on : (user : ℕ) (first second : List ℕ) (old middle new : FrameSupply)
    → ArePageIns user old first middle → ArePageIns user middle second new
    → ArePageIns user old (first ++ second) new
page_ins_on user [] second old middle new same b =
    subst (λ (s : FrameSupply). ArePageIns user s second new) same b
page_ins_on user (page ∷ first) second old middle new a b =
    (a.0, a.1, page_ins_on user first second a.0 middle new a.2 b)

-- where nothing has moved no page came
paged_none : (user : ℕ) (old new : FrameSupply) → new ≡ old → IsPagedFor user [] old new
paged_none user old new same =
    subst (λ (s : FrameSupply). IsPagedFor user [] old s) (sym same) (record {
      page_ins_are = refl;
      same_frames = refl;
      same_slots = refl;
      same_marks = refl;
      stays = λ frame pinned. record { pinned = pinned; kept = refl };
      held = λ page listed. absurd (omega (arith, listed.1));
      marked = λ frame pinned. inl pinned;
      fewer = omega arith;
      kept = λ u page stands. stands;
      framed = λ u page there. inl there;
      paged_in = λ u page stands. inl stands;
      page_ins = refl;
    })

paged_on : (user : ℕ) (first second : List ℕ) (old middle new : FrameSupply)
    → IsPagedFor user first old middle → IsPagedFor user second middle new
    → IsPagedFor user (first ++ second) old new
paged_on user first second old middle new a b = record {
  page_ins_are = page_ins_on user first second old middle new a.page_ins_are b.page_ins_are;
  same_frames = b.same_frames ∙ a.same_frames;
  same_slots = b.same_slots ∙ a.same_slots;
  same_marks = b.same_marks ∙ a.same_marks;
  stays = λ frame pinned. (let one = a.stays frame pinned in let two = b.stays frame one.pinned in
      record { pinned = two.pinned; kept = two.kept ∙ one.kept });
  held = λ page listed. elim (Contains-append_cases first second page listed) [
    | inl early ↦ (let one = a.held page early in let two = b.stays one.frame one.pinned in
        record { frame = one.frame; here = two.kept ∙ one.here; pinned = two.pinned })
    | inr late ↦ b.held page late
  ];
  marked = λ frame pinned. elim (b.marked frame pinned) [
    | inl earlier ↦ elim (a.marked frame earlier) [
      | inl before ↦ inl before
      | inr one ↦ inr (record {
        page = one.page;
        such = Contains-append_left first second one.page one.such;
        here = (b.stays frame earlier).kept ∙ one.here;
      })
    ]
    | inr one ↦ inr (record {
      page = one.page;
      such = Contains-append_right first second one.page one.such;
      here = one.here;
    })
  ];
  fewer = omega (arith, a.fewer, b.fewer, length-append first second);
  kept = λ u page stands. b.kept u page (a.kept u page stands);
  framed = λ u page there. elim (b.framed u page there) [
    | inl earlier ↦ elim (a.framed u page earlier) [
      | inl before ↦ inl before
      | inr now ↦ inr (now.0, Contains-append_left first second page now.1)
    ]
    | inr now ↦ inr (now.0, Contains-append_right first second page now.1)
  ];
  paged_in = λ u page stands. elim (b.paged_in u page stands) [
    | inl earlier ↦ elim (a.paged_in u page earlier) [
      | inl there ↦ inl there
      | inr now ↦ inr (now.0, Contains-append_left first second page now.1)
    ]
    | inr now ↦ inr (now.0, Contains-append_right first second page now.1)
  ];
  page_ins = b.page_ins ∙ ap (counted_by (length second)) a.page_ins ∙ sym
      (ap (λ n. counted_by n old.page_ins) (length-append first second) ∙ counted_on (length first)
      (length second) old.page_ins);
}

-- an access brings no page
pub supplied_none : (s t : Dat) → KeepsRest s t → Supplied s [] t
supplied_none s t k = record {
  kept = keeps_frames s t k;
  paged = paged_none (user_of s) (lent_pool s).supply (lent_pool t).supply k.same_supply;
}

-- pages are brought one list after the other
pub supplied_on : (s t u : Dat) (before after : List ℕ) → Supplied s before t → Supplied t after u →
    Supplied s (before ++ after) u
supplied_on s t u before after a b =
    let P : ℕ → Type 0 = λ user. IsPagedFor user after (lent_pool t).supply (lent_pool u).supply in
    record {
      kept = keeps_frames_on s t u a.kept b.kept;
      paged = paged_on (user_of s) before after (lent_pool s).supply (lent_pool t).supply
          (lent_pool u).supply a.paged (subst P a.kept.same_user b.paged);
    }

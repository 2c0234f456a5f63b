-- Pages that are brought for a unit, each of them once: no more than it needs.
use Rattle.std.proofs.Common.{◌≡◌, ℕ, zero, suc, ◌+◌, ◌<◌, ◌≤◌, List, [], ◌∷◌, ◌++◌, length, get_or, Result, Ok, Err}
use Rattle.std.proofs.Common.{refl, sym, ◌∙◌, subst, arith, inl, inr}
use Rattle.std.specs.Prelude.{Contains, OnErr, ⊤}
use Rattle.std.proofs.lemmas.List.Elements.{Contains-append_cases}
use Rattle.s370_store.specs.declared.supply.FramesOut.{FramesOut as Lack}
use Rattle.s370_cpu.specs.Laws.{AreAtMost}
use Rattle.s370_intr.specs.declared.next.Next.{Next}
use Rattle.s370_intr.specs.declared.next.Reason.{Reason}
use Rattle.s370_intr.specs.declared.next.Reason.TheVariants.{Stopped, Count, EcMode, Wait, DisabledWait, FramesOut}
use Rattle.s370_intr.specs.Units.{Core, NeedsAt}
use Rattle.s370_intr.specs.Run.{AllNeeded, IsLacking, SuppliesUnit}
use Rattle.s370_intr.specs.Laws.{begun}
use Rattle.s370_intr.proofs.NinePages.{eight_pages}

-- no page is in the list twice
abbrev pub AreDistinct : List ℕ → Type 0
AreDistinct [] = Unit {0}
AreDistinct (page ∷ pages) = (Contains pages page → ⊥) × AreDistinct pages

later : (x : ℕ) (xs : List ℕ) (page : ℕ) → Contains xs page → Contains (x ∷ xs) page
later x xs page (k, less, same) = (suc k, omega arith, same)

only : (page other : ℕ) → Contains (page ∷ []) other → page ≡ other
only page other (zero, less, same) = same
only page other (suc k, less, same) = absurd (omega arith)

-- a page that is in the list is needed
pub listed : (needs : ℕ → Type 0) (pages : List ℕ) (page : ℕ) → AllNeeded needs pages → Contains pages page → needs page
listed needs [] page all at = absurd (omega (arith, at.1))
listed needs (p ∷ pages) page all (zero, less, same) = subst needs same all.0
listed needs (p ∷ pages) page all (suc k, less, same) = listed needs pages page all.1 (k, omega arith, same)

-- a page more, which is not in the list
pub distinct_more : (pages : List ℕ) (page : ℕ) → AreDistinct pages → (Contains pages page → ⊥)
    → AreDistinct (pages ++ (page ∷ []))
distinct_more [] page d new = (λ at. absurd (omega (arith, at.1)), tt)
distinct_more (p ∷ pages) page d new =
    let apart : Contains (pages ++ (page ∷ [])) p → ⊥ = λ at. elim (Contains-append_cases pages (page ∷ []) p at) [
      | inl early ↦ d.0 early
      | inr late ↦ new (0, omega arith, sym (only page p late))
    ] in
    (apart, distinct_more pages page d.1 (λ at. new (later p pages page at)))

-- ---- a list without what is at one place

abbrev dropped : ℕ → List ℕ → List ℕ
dropped k [] = []
dropped zero (y ∷ ys) = ys
dropped (suc k) (y ∷ ys) = y ∷ dropped k ys

length-dropped : (k : ℕ) (ys : List ℕ) → k < length ys → length (dropped k ys) + 1 ≡ length ys
length-dropped k [] less = absurd (omega arith)
length-dropped zero (y ∷ ys) less = omega arith
length-dropped (suc k) (y ∷ ys) less = let rest = length-dropped k ys (omega arith) in omega arith

-- what is not what was there is still in the list
kept : (k : ℕ) (ys : List ℕ) (x page : ℕ) → get_or ys k x ≡ x → (page ≡ x → ⊥) → Contains ys page
    → Contains (dropped k ys) page
kept k [] x page e other at = absurd (omega (arith, at.1))
kept zero (y ∷ ys) x page e other (zero, less, same) = absurd (other (sym same ∙ e))
kept zero (y ∷ ys) x page e other (suc j, less, same) = (j, omega arith, same)
kept (suc k) (y ∷ ys) x page e other (zero, less, same) = (0, omega arith, same)
kept (suc k) (y ∷ ys) x page e other (suc j, less, same) = (let rest = kept k ys x page e other
    (j, omega arith, same) in (suc rest.0, omega (arith, rest.1), rest.2))

-- ---- no more pages than are needed

-- pages of which none is there twice are no more than those among which they are
few_of : (xs ys : List ℕ) → AreDistinct xs → ((page : ℕ) → Contains xs page → Contains ys page) → length xs ≤ length ys
few_of [] ys d among = omega arith
few_of (x ∷ xs) ys d among =
    let at = among x (0, omega arith, refl) in
    let rest = dropped at.0 ys in
    let others : (page : ℕ) → Contains xs page → Contains rest page = λ page h. kept at.0 ys x page at.2
    (λ e. d.0 (subst (λ (p : ℕ). Contains xs p) e h)) (among page (later x xs page h)) in
    omega (arith, few_of xs rest d.1 others, length-dropped at.0 ys at.1)

-- Different pages that are needed are at most as many as may be needed.
pub no_more : (n : ℕ) (needs : ℕ → Type 0) (pages : List ℕ) → AreAtMost n needs → AreDistinct pages
    → AllNeeded needs pages → length pages ≤ n
no_more n needs pages a d all =
    let few = few_of pages a.pages d (λ page h. a.all page (listed needs pages page all h)) in
    let most = a.few in
    omega (arith, few, most)

-- what is brought for a unit
pub nine_brought : (said : Next) (c : Core) (pages : List ℕ) → AreDistinct pages → AllNeeded (NeedsAt said c) pages
    → length pages ≤ 9
nine_brought said c pages d all = let eight = no_more 8 (NeedsAt said c) pages (eight_pages said c) d all in
    omega (arith, eight)

-- a run has begun the units that it did
pub begun_all : (units : ℕ) (reason : Reason) → units ≤ begun units reason
begun_all units FramesOut = omega arith
begun_all units Stopped = omega arith
begun_all units Count = omega arith
begun_all units EcMode = omega arith
begun_all units Wait = omega arith
begun_all units DisabledWait = omega arith

-- ---- where there is no room

-- where there is no room for a page, there is none in a wider sense
pub lacking_for : (needs : ℕ → Type 0) (size : ℕ) (P Q : ℕ → Type 0) → ((page : ℕ) → P page → Q page)
    → IsLacking needs size P → IsLacking needs size Q
lacking_for needs size P Q wider l = record {
  page = l.page;
  inside = l.inside;
  needed = l.needed;
  short = wider l.page l.short;
}

-- An error that says which pages lack says it of more pages too.
pub lacking_on_error : {A E : Type 0} (r : Result A E) (needs : ℕ → Type 0) (size : ℕ) (P Q : ℕ → Type 0)
    → ((page : ℕ) → P page → Q page) → OnErr r (IsLacking needs size P) → OnErr r (IsLacking needs size Q)
lacking_on_error (Ok answer) needs size P Q wider h = tt
lacking_on_error (Err error) needs size P Q wider h = lacking_for needs size P Q wider h

-- A unit that was supplied with such pages was supplied with more.
pub supplied_for : (said : Next) (old new : Core) (r : Result ⊤ Lack) (P Q : ℕ → Type 0)
    → ((page : ℕ) → P page → Q page) → SuppliesUnit said old r new P → SuppliesUnit said old r new Q
supplied_for said old new (Ok done) P Q wider h = h
supplied_for said old new (Err lack) P Q wider h = (h.0, lacking_for (NeedsAt said old) _ P Q wider h.1)

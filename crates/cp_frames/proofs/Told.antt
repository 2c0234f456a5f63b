-- The table where another page is in a place, or none does.
use Rattle.std.proofs.Common.{◌≡◌, ◌≢◌, ℕ, ◌+◌, ◌*◌, ◌<◌, List, length, get_or, Bool, true, false, Option, Some, None}
use Rattle.std.proofs.Common.{refl, get_or-set_other, get_or-set_same, sym, ◌∙◌, ap, arith}
use Rattle.std.proofs.Math.ListN.{set, length-set}
use Rattle.cp_frames.specs.declared.numbers.UserPage.{UserPage}
use Rattle.cp_frames.specs.Layout.{owned, is_page, frame_of, Holds, IsTabled, reported}
use Rattle.cp_frames.proofs.Layouts.{dec_eq, is_this_page, frame_of-brought, position-set_same}
use Rattle.cp_frames.proofs.Tables.{page_is_at}
use Rattle.cp_frames.proofs.Moves.{stands_nowhere}
use Rattle.cp_frames.proofs.Halves.{IsOnce}

-- the entry of the page that was reported, and each other
told_own : (entry : Option ℕ → ℕ → ℕ) (o : Option UserPage) (user page : ℕ) (place : Option ℕ) (table : List ℕ)
    → user * 1024 + page < length table → o ≡ Some (owned user page)
    → get_or (reported entry o place table) (user * 1024 + page) 0 ≡ entry place page
told_own entry o user page place table lt e =
    ap (λ (x : Option UserPage). get_or (reported entry x place table) (user * 1024 + page) 0) e ∙ get_or-set_same table
    (user * 1024 + page) (entry place page) 0 lt

-- An owner with this user and this page is this owner.
pub is_owned : (there : UserPage) (user page : ℕ) → there.user ≡ user → there.page.0 ≡ page → there ≡ owned user page
is_owned there user page g p =
    let middle : UserPage = owned user there.page.0 in
    let first : there ≡ middle = ap (λ (n : ℕ). owned n there.page.0) g in
    let second : middle ≡ owned user page = ap (λ (n : ℕ). owned user n) p in
    first ∙ second

told_other : (entry : Option ℕ → ℕ → ℕ) (o : Option UserPage) (user page : ℕ) (place : Option ℕ) (table : List ℕ)
    → page < 1024 → ((q : UserPage) → o ≡ Some q → q.page.0 < 1024) → o ≢ Some (owned user page)
    → get_or (reported entry o place table) (user * 1024 + page) 0 ≡ get_or table (user * 1024 + page) 0
told_other entry None user page place table small own ne = refl
told_other entry (Some q) user page place table small own ne =
    let low = own q refl in
    let differ : user * 1024 + page ≢ q.user * 1024 + q.page.0 =
    λ e. ne (ap Some (is_owned q user page (omega arith) (omega arith))) in
    rw get_or-set_other refl

-- Reporting an entry keeps the length of the table.
pub length-reported : (entry : Option ℕ → ℕ → ℕ) (o : Option UserPage) (place : Option ℕ) (table : List ℕ)
    → length (reported entry o place table) ≡ length table
length-reported entry None place table = refl
length-reported entry (Some q) place table = length-set table (q.user * 1024 + q.page.0) (entry place q.page.0)

-- the page of an entry is one of the largest storage
abbrev pub AreSmall : List (Option UserPage) → Type 0
AreSmall owners = (k : ℕ) (q : UserPage) → get_or owners k None ≡ Some q → q.page.0 < 1024

-- a page that is nowhere among these, or no page
abbrev pub IsNew : List (Option UserPage) → Option UserPage → Type 0
IsNew owners o = (q : UserPage) → o ≡ Some q → (q.page.0 < 1024) × (frame_of owners q.user q.page.0 ≡ None)

-- a page that left its place is nowhere
pub left_place : (owners : List (Option UserPage)) (place : ℕ) (o : Option UserPage) (user page : ℕ) → IsOnce owners
    → place < length owners → is_page user page o ≡ false → Holds owners place (owned user page) →
    frame_of (set owners place o) user page ≡ None
left_place owners place o user page once lt new was =
    stands_nowhere (set owners place o) user page (λ i h. elim (dec_eq i place) [
      | yes e ↦ (let here : o ≡ Some (owned user page) = sym (get_or-set_same owners place o None lt) ∙ ap
          (λ j. get_or (set owners place o) j None) (sym e) ∙ h in
          let is : is_page user page o ≡ true = ap (is_page user page) here ∙ is_this_page user page in cc)
      | no n ↦ (let off : place ≢ i = (λ e. n (sym e)) in
          let there : get_or (set owners place o) i None ≡ get_or owners i None = (rw get_or-set_other refl) in
          let one = once i (owned user page) (sym there ∙ h) in
          let two = once place (owned user page) was in
          let same : i ≡ place = cc in n same)
    ])

-- what an entry says where another page, or none, is in a place
agrees_set : (entry : Option ℕ → ℕ → ℕ) (owners : List (Option UserPage)) (sizes table : List ℕ) (place : ℕ)
    (o : Option UserPage) (user page : ℕ) → IsOnce owners → AreSmall owners → IsTabled entry owners sizes table
    → place < length owners → IsNew owners o →
    user < length sizes → page < 1024
    → get_or (reported entry o (Some place) (reported entry (get_or owners place None) None table))
    (user * 1024 + page) 0 ≡ entry (frame_of (set owners place o) user page) page
agrees_set entry owners sizes table place o user page once small tabled lt new in_user in_page =
    let was : Option UserPage = get_or owners place None in
    let first : List ℕ = reported entry was None table in
    let long : length first ≡ length table = length-reported entry was None table in
    let room : user * 1024 + page < length table = omega (arith, tabled.entries) in
    let at_page : Option ℕ → ℕ = λ x. entry x page in
    let own : (b : Bool) → is_page user page o ≡ b
    → get_or (reported entry o (Some place) first) (user * 1024 + page) 0
    ≡ entry (frame_of (set owners place o) user page) page = elim [
      | true ↦ λ e.
          let is : o ≡ Some (owned user page) = page_is_at user page o e in
          let away : frame_of owners user page ≡ None = (new (owned user page) is).1 in
          told_own entry o user page (Some place) first (omega arith) is
          ∙ sym (ap at_page (ap (λ (x : Option UserPage). frame_of (set owners place x) user page) is ∙ frame_of-brought
          owners user page place away lt))
      | false ↦ λ e.
          let off : o ≢ Some (owned user page) =
          (λ h. let is : is_page user page o ≡ true = ap (is_page user page) h ∙ is_this_page user page in cc) in
          let skip : get_or (reported entry o (Some place) first) (user * 1024 + page) 0
          ≡ get_or first (user * 1024 + page) 0 =
          told_other entry o user page (Some place) first in_page (λ q h. (new q h).0) off in
          let other : (b : Bool) → is_page user page was ≡ b
          → get_or first (user * 1024 + page) 0 ≡ entry (frame_of (set owners place o) user page) page = elim [
            | true ↦ λ f.
                let holds : was ≡ Some (owned user page) = page_is_at user page was f in
                told_own entry was user page None table room holds ∙ sym
                (ap at_page (left_place owners place o user page once lt e holds))
            | false ↦ λ f.
                let never : was ≢ Some (owned user page) =
                (λ h. let is : is_page user page was
                ≡ true = ap (is_page user page) h ∙ is_this_page user page in cc) in
                told_other entry was user page None table in_page (small place) never ∙ tabled.agrees user page in_user
                in_page
                ∙ sym (ap at_page (position-set_same (is_page user page) 0 owners place o None (e ∙ sym f)))
          ] in
          skip ∙ other (is_page user page was) refl
    ] in
    own (is_page user page o) refl

-- the table where another page, or none, is in a place
pub tabled-set : (entry : Option ℕ → ℕ → ℕ) (owners : List (Option UserPage)) (sizes table : List ℕ) (place : ℕ)
    (o : Option UserPage) → IsOnce owners → AreSmall owners → IsTabled entry owners sizes table → place < length owners
    → IsNew owners o →
    IsTabled entry (set owners place o) sizes
    (reported entry o (Some place) (reported entry (get_or owners place None) None table))
tabled-set entry owners sizes table place o once small tabled lt new = record {
  few = rw length-set tabled.few;
  users = tabled.users;
  entries = length-reported entry o (Some place) (reported entry (get_or owners place None) None table) ∙
      length-reported entry (get_or owners place None) None table ∙ tabled.entries;
  agrees = λ user page in_user in_page.
      agrees_set entry owners sizes table place o user page once small tabled lt new in_user in_page;
}

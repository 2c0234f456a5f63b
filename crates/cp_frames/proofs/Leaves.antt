-- A user's first pages that have left, and the next one.
use Rattle.std.proofs.Common.{◌≡◌, ◌≢◌, ℕ, ◌+◌, ◌*◌, ◌<◌, List, [], ◌∷◌, map, length, get_or, ext_get_or, Bool, true}
use Rattle.std.proofs.Common.{false, cond, ◌==◌, Option, Some, None, refl, get_or-set_other, get_or-set_same, sym, ◌∙◌}
use Rattle.std.proofs.Common.{ap, arith}
use Rattle.std.proofs.Math.ListN.{set, get_or-map, length-map, length-set}
use Rattle.std.proofs.Math.Decide.{dec_lt}
use Rattle.std.proofs.lemmas.List.{get_or_past}
use Rattle.std.proofs.lemmas.Bool.Decides.{nat_tests}
use Rattle.std.proofs.lemmas.Grind.{common_steps}
use Rattle.cp_frames.specs.declared.numbers.UserPage.{UserPage}
use Rattle.cp_frames.specs.Layout.{owned, frame_entry, frame_of, Holds, ArePages, IsMapped, IsTabled, cleared_of}
use Rattle.cp_frames.specs.Layout.{is_under, without, without_under}
use Rattle.cp_frames.specs.Tables.{page_place, put_half}
use Rattle.cp_frames.proofs.Layouts.{dec_eq, frame_found}
use Rattle.cp_frames.proofs.Tables.{IsPlace, TellsFrame, frame_none, page_is, tells}
use Rattle.cp_frames.proofs.Mapped.{mapped-set}
use Rattle.cp_frames.proofs.Told.{AreSmall, IsNew, is_owned, tabled-set}
use Rattle.cp_frames.proofs.Moves.{stands_alone}
use Rattle.cp_frames.proofs.Halves.{IsOnce}
use Rattle.cp_frames.proofs.Orders.{not_held}

abbrev pub left_by : ℕ → ℕ → List (Option UserPage) → List (Option UserPage)
left_by user count owners = map (without_under user count) owners

was_held_at : (user count : ℕ) (o : Option UserPage) (p : UserPage) → without_under user count o ≡ Some p → o ≡ Some p
was_held_at user count None p e = cc
was_held_at user count (Some there) p e =
    elim (is_under user count (Some there)) as (λ b. cond b None (Some there) ≡ Some p → Some there ≡ Some p)
    [ true ↦ λ h. cc | false ↦ λ h. h ] e

-- what has not left was there before
was_held : (user count : ℕ) (owners : List (Option UserPage)) (k : ℕ) (p : UserPage)
    → Holds (left_by user count owners) k p → Holds owners k p
was_held user count owners k p h =
    was_held_at user count (get_or owners k None) p (sym (get_or-map (without_under user count) owners k None) ∙ h)

not_under : (user page : ℕ) → is_under user page (Some (owned user page)) ≡ false
not_under user page = grind (arith, nat_tests, common_steps)

is_next : (user page : ℕ) → is_under user (page + 1) (Some (owned user page)) ≡ true
is_next user page = grind (arith, nat_tests, common_steps)

-- the next page is there still
stays_held : (user page : ℕ) (owners : List (Option UserPage)) (k : ℕ) → Holds owners k (owned user page)
    → Holds (left_by user page owners) k (owned user page)
stays_held user page owners k h =
    get_or-map (without_under user page) owners k None ∙ ap (without_under user page) h ∙ (rw not_under refl)

same_under : (user page : ℕ) (o : Option UserPage) → o ≢ Some (owned user page)
    → is_under user (page + 1) o ≡ is_under user page o
same_under user page None ne = refl
same_under user page (Some there) ne =
    let other : (there.user ≡ user) → there.page.0 ≢ page = λ u p. ne (ap Some (is_owned there user page u p)) in
    grind (arith, nat_tests, common_steps, other)

same_without : (user page : ℕ) (o : Option UserPage) → o ≢ Some (owned user page)
    → without_under user (page + 1) o ≡ without_under user page o
same_without user page o ne = ap (λ (b : Bool). cond b None o) (same_under user page o ne)

-- Leaving no page leaves the owners as they are.
pub left_none : (user : ℕ) (owners : List (Option UserPage)) → left_by user 0 owners ≡ owners
left_none user [] = refl
left_none user (None ∷ owners) = ap (λ (os : List (Option UserPage)). None ∷ os) (left_none user owners)
left_none user (Some there ∷ owners) =
    let out : is_under user 0 (Some there) ≡ false = grind (arith, nat_tests, common_steps) in
    rw (out, left_none user owners) refl

once_left_by : (user count : ℕ) (owners : List (Option UserPage)) → IsOnce owners → IsOnce (left_by user count owners)
once_left_by user count owners once k p h =
    stands_alone (left_by user count owners) p.user p.page.0 k h
    (λ i g. (let one = once k p (was_held user count owners k p h) in let two = once i (owned p.user p.page.0)
    (was_held user count owners i (owned p.user p.page.0) g) in cc))

small_left_by : (user count : ℕ) (owners : List (Option UserPage)) (sizes : List ℕ) → ArePages owners sizes
    → AreSmall (left_by user count owners)
small_left_by user count owners sizes pages k q h =
    let inside = pages.inside k q (was_held user count owners k q h) in let small = pages.small q.user in omega arith

-- the next page was nowhere
pub left_same : (user page : ℕ) (owners : List (Option UserPage)) → frame_of (left_by user page owners) user page ≡ None
    → left_by user (page + 1) owners ≡ left_by user page owners
left_same user page owners nowhere =
    ext_get_or None (left_by user (page + 1) owners) (left_by user page owners)
    (length-map owners (without_under user (page + 1)) ∙ sym (length-map owners (without_under user page)))
    (λ k lt. get_or-map (without_under user (page + 1)) owners k None
    ∙ same_without user page (get_or owners k None)
    (λ h. not_held (left_by user page owners) user page k nowhere (stays_held user page owners k h))
    ∙ sym (get_or-map (without_under user page) owners k None))

-- the next page leaves its frame
pub left_more : (user page frame : ℕ) (owners : List (Option UserPage)) → IsOnce owners
    → frame_of (left_by user page owners) user page ≡ Some frame
    → left_by user (page + 1) owners ≡ set (left_by user page owners) frame None
left_more user page frame owners once there =
    let now = left_by user page owners in
    let long : length now ≡ length owners = length-map owners (without_under user page) in
    let holds : Holds now frame (owned user page) = page_is now user page frame there in
    let was : Holds owners frame (owned user page) = was_held user page owners frame (owned user page) holds in
    let within = (frame_found now user page frame there).within in
    ext_get_or None (left_by user (page + 1) owners) (set now frame None)
    (length-map owners (without_under user (page + 1)) ∙ sym (length-set now frame None ∙ long))
    (λ k lt. get_or-map (without_under user (page + 1)) owners k None ∙ elim (dec_eq k frame) [
      | yes e ↦ ap (λ j. without_under user (page + 1) (get_or owners j None)) e ∙ ap (without_under user (page + 1))
          was ∙ (rw is_next refl) ∙ sym
          (ap (λ j. get_or (set now frame None) j None) e ∙ get_or-set_same now frame None None within)
      | no n ↦ (let off : get_or owners k None ≢ Some
          (owned user page) = (λ h.
          let one = once k (owned user page) h in let two = once frame (owned user page) was in let same : k ≡ frame =
          cc in n same) in
          same_without user page (get_or owners k None) off ∙ sym (get_or-map (without_under user page) owners k None) ∙
          sym (rw get_or-set_other refl))
    ])

all_under : (user count : ℕ) (o : Option UserPage) → ((p : UserPage) → o ≡ Some p → p.user ≡ user → p.page.0 < count)
    → without_under user count o ≡ without user o
all_under user count None f = refl
all_under user count (Some there) f =
    let low : (there.user ≡ user) → there.page.0 < count = f there refl in
    let same : is_under user count (Some there) ≡ (there.user == user) = grind (arith, nat_tests, common_steps, low) in
    rw same refl

-- all of a user's pages have left
pub left_all : (user : ℕ) (owners : List (Option UserPage)) (sizes : List ℕ) → ArePages owners sizes
    → left_by user (get_or sizes user 0) owners ≡ cleared_of user owners
left_all user owners sizes pages =
    let count = get_or sizes user 0 in
    ext_get_or None (left_by user count owners) (cleared_of user owners)
    (length-map owners (without_under user count) ∙ sym (length-map owners (without user)))
    (λ k lt. get_or-map (without_under user count) owners k None
    ∙ all_under user count (get_or owners k None) (λ p h u. (let inside = pages.inside k p h in rw u at inside))
    ∙ sym (get_or-map (without user) owners k None))

-- what the tables and the list next to them say when the next page has left its frame
pub mapped_more : (user page frame : ℕ) (owners : List (Option UserPage)) (sizes tables : List ℕ)
    → ArePages owners sizes → IsMapped (left_by user page owners) sizes tables
    → frame_of (left_by user page owners) user page ≡ Some frame →
    IsMapped (left_by user (page + 1) owners) sizes (put_half tables (page_place user page) 8)
mapped_more user page frame owners sizes tables pages mapped there =
    let now = left_by user page owners in
    let within = (frame_found now user page frame there).within in
    let new : IsNew now None = λ q h. cc in
    let after = mapped-set now sizes tables frame None (once_left_by user page owners pages.once)
    (small_left_by user page owners sizes pages) mapped within new in
    let e : left_by user (page + 1) owners ≡ set now frame None = left_more user page frame owners pages.once there in
    rw e (rw (page_is now user page frame there) at after)

-- One more page that leaves is unmapped in the lookup table.
pub looked_more : (user page frame : ℕ) (owners : List (Option UserPage)) (sizes lookup : List ℕ)
    → ArePages owners sizes → IsTabled frame_entry (left_by user page owners) sizes lookup
    → frame_of (left_by user page owners) user page ≡ Some frame →
    IsTabled frame_entry (left_by user (page + 1) owners) sizes (set lookup (user * 1024 + page) 1)
looked_more user page frame owners sizes lookup pages looked there =
    let now = left_by user page owners in
    let within = (frame_found now user page frame there).within in
    let new : IsNew now None = λ q h. cc in
    let after = tabled-set frame_entry now sizes lookup frame None (once_left_by user page owners pages.once)
    (small_left_by user page owners sizes pages) looked within new in
    let e : left_by user (page + 1) owners ≡ set now frame None = left_more user page frame owners pages.once there in
    rw e (rw (page_is now user page frame there) at after)

-- the entry of the next page
pub next_entry : (user page : ℕ) (owners now : List (Option UserPage)) (sizes lookup : List ℕ) → ArePages owners sizes
    → IsTabled frame_entry now sizes lookup → page < get_or sizes user 0 → IsPlace sizes lookup user page
next_entry user page owners now sizes lookup pages looked lt =
    let small = pages.small user in
    let of_user : user < length sizes =
    elim (dec_lt user (length sizes))
    [ yes h ↦ h | no past ↦ let none = get_or_past sizes user 0 (omega arith) in absurd (omega arith) ] in
    record {
      of_user = of_user;
      of_page = omega arith;
      low = omega (arith, looked.users);
      room = omega (arith, looked.entries);
    }

-- The next page is in the frame that its entry tells.
pub next_there : (user page entry : ℕ) (now : List (Option UserPage)) (sizes lookup : List ℕ)
    → IsTabled frame_entry now sizes lookup → IsPlace sizes lookup user page
    → entry ≡ get_or lookup (user * 1024 + page) 0 → entry ≢ 1 → TellsFrame now user page entry
next_there user page entry now sizes lookup looked at read ne =
    tells now user page entry (frame_of now user page) refl looked.few
    (read ∙ looked.agrees user page at.of_user at.of_page) ne

-- The next page is in no frame if its entry says that it is absent.
pub next_none : (user page entry : ℕ) (now : List (Option UserPage)) (sizes lookup : List ℕ)
    → IsTabled frame_entry now sizes lookup → IsPlace sizes lookup user page
    → entry ≡ get_or lookup (user * 1024 + page) 0 → entry ≡ 1 → frame_of now user page ≡ None
next_none user page entry now sizes lookup looked at read e =
    frame_none (frame_of now user page) entry page (read ∙ looked.agrees user page at.of_user at.of_page) e

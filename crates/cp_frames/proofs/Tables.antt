-- What a table of places says.
use Rattle.std.proofs.Common.{replicate, ◌≡◌, ◌≢◌, ℕ, zero, suc, ◌+◌, ◌*◌, ◌/◌, ◌<◌, ◌≤◌, List, [], length, get_or}
use Rattle.std.proofs.Common.{true, Option, Some, None, refl, sym, ◌∙◌, ap, arith}
use Rattle.std.proofs.Math.Decide.{dec_lt}
use Rattle.std.specs.Prelude.{All, IfSome, IsSome}
use Rattle.std.proofs.Math.ListN.{length-map, length-replicate}
use Rattle.std.proofs.lemmas.List.{get_or-replicate, get_or_past}
use Rattle.std.proofs.lemmas.Bool.Decides.{nat_tests}
use Rattle.std.proofs.lemmas.Grind.{common_steps}
use Rattle.cp_frames.specs.declared.numbers.UserPage.{UserPage}
use Rattle.cp_frames.specs.Layout.{owned, cleared_of, frame_of, is_page, storages_of, frame_entry, slot_entry, IsWhole}
use Rattle.cp_frames.specs.Layout.{IsTabled}
use Rattle.cp_frames.proofs.Layouts.{frame_of-cleared, frame_of_other-cleared, dec_eq, user_with, frame_of-none}
use Rattle.cp_frames.proofs.Layouts.{frame_found}

-- the number of a page's entry
pub record IsPlace (sizes table : List ℕ) (user page : ℕ) : Type 0 where
  pub of_user : user < length sizes
  pub of_page : page < 1024
  pub low : user < 64
  pub room : user * 1024 + page < length table

-- An address of a user's storage has its place in the table.
pub place : (entry : Option ℕ → ℕ → ℕ) (bytes : List (List ℕ)) (all owners : List (Option UserPage))
    (sizes table : List ℕ) (user page address : ℕ) → IsWhole bytes all sizes → IsTabled entry owners sizes table →
    address < length (get_or (storages_of bytes all sizes) user []) → page ≡ address / 4096
    → IsPlace sizes table user page
place entry bytes all owners sizes table user page address whole tabled lt e =
    let in_user = user_with bytes all sizes user address lt in
    let small = whole.small user in
    record {
      of_user = in_user.0;
      of_page = omega (arith, in_user.1, small);
      low = omega (arith, in_user.0, tabled.users);
      room = omega (arith, in_user.0, in_user.1, small, tabled.entries);
    }

-- the table where a user's pages have left
pub tabled-cleared : (entry : Option ℕ → ℕ → ℕ) (owners : List (Option UserPage)) (sizes table after : List ℕ)
    (user : ℕ) → IsTabled entry owners sizes table → length after ≡ length table →
    ((page : ℕ) → page < 1024 → user * 1024 + 1024 ≤ length table
    → get_or after (user * 1024 + page) 0 ≡ entry None page) →
    ((slot : ℕ) → slot / 1024 ≢ user → get_or after slot 0 ≡ get_or table slot 0) →
    IsTabled entry (cleared_of user owners) sizes after
tabled-cleared entry owners sizes table after user tabled same own others = record {
  few = rw length-map tabled.few;
  users = tabled.users;
  entries = same ∙ tabled.entries;
  agrees = λ u p in_users in_page. elim (dec_eq u user) [
    | yes e ↦ (let blank : get_or after (u * 1024 + p) 0
        ≡ entry None p = rw e (own p in_page (omega (arith, tabled.entries))) in
        let gone : frame_of (cleared_of user owners) u p ≡ None = rw e (frame_of-cleared owners user p) in
        blank ∙ sym (ap (λ (x : Option ℕ). entry x p) gone))
    | no ne ↦ (let kept : get_or after (u * 1024 + p) 0
        ≡ get_or table (u * 1024 + p) 0 = others (u * 1024 + p) (λ e. ne (omega arith)) in
        kept ∙ tabled.agrees u p in_users in_page ∙ sym
        (ap (λ (x : Option ℕ). entry x p) (frame_of_other-cleared owners user u p (λ e. ne (sym e)))))
  ];
}

-- the first table
pub tabled-none : (entry : Option ℕ → ℕ → ℕ) (blank places : ℕ) (sizes : List ℕ)
    → ((page : ℕ) → entry None page ≡ blank) → places ≤ 65536 → length sizes ≤ 64
    → IsTabled entry (replicate places None) sizes (replicate (1024 * length sizes) blank)
tabled-none entry blank places sizes is few users = record {
  few = rw length-replicate few;
  users = users;
  entries = length-replicate _ _;
  agrees = λ g p in_user in_page.
      (let room : g * 1024 + p < 1024 * length sizes = omega arith in
      get_or-replicate (1024 * length sizes) (g * 1024 + p) blank 0 room ∙ sym (is p) ∙ sym
      (ap (λ (x : Option ℕ). entry x p) (frame_of-none g p places)));
}

-- where an entry of the list of slots says that a page is
pub slot_none : (o : Option ℕ) (entry page : ℕ) → entry ≡ slot_entry o page → IfSome o (λ slot. slot < 65536)
    → entry ≡ 4294967295 → o ≡ None
slot_none None entry page e low is = refl
slot_none (Some slot) entry page e low is = absurd (omega (arith, low))

-- A slot that an entry names is there.
pub slot_some : (o : Option ℕ) (entry page : ℕ) → entry ≡ slot_entry o page → entry ≢ 4294967295 → o ≡ Some entry
slot_some None entry page e ne = absurd (ne e)
slot_some (Some slot) entry page e ne = ap Some (sym e)

-- where an entry of the list of frames says that a page is
pub frame_none : (o : Option ℕ) (entry page : ℕ) → entry ≡ frame_entry o page → entry ≡ 1 → o ≡ None
frame_none None entry page e is = refl
frame_none (Some frame) entry page e is = absurd (omega arith)

pub frame_some : (o : Option ℕ) (entry page : ℕ) → entry ≡ frame_entry o page → entry ≢ 1 → IsSome o
frame_some None entry page e ne = absurd (ne e)
frame_some (Some frame) entry page e ne = refl

-- a place among few is a low number
pub low_place : (owners : List (Option UserPage)) (user page : ℕ) (o : Option ℕ) → length owners ≤ 65536
    → frame_of owners user page ≡ o → IfSome o (λ place. place < 65536)
low_place owners user page None few e = tt
low_place owners user page (Some place) few e = let within =
    (frame_found owners user page place e).within in omega arith

-- an entry that says the frame in which a page is
pub record TellsFrame (owners : List (Option UserPage)) (user page entry : ℕ) : Type 0 where
  pub frame : ℕ
  pub there : frame_of owners user page ≡ Some frame
  pub low : frame < 65536
  pub reported : entry ≡ frame_entry (Some frame) page

-- An entry that is not absent tells the frame of the page.
pub tells : (owners : List (Option UserPage)) (user page entry : ℕ) (o : Option ℕ) → frame_of owners user page ≡ o
    → length owners ≤ 65536 → entry ≡ frame_entry o page → entry ≢ 1 → TellsFrame owners user page entry
tells owners user page entry None e few is ne = absurd (ne is)
tells owners user page entry (Some frame) e few is ne =
    record { frame = frame; there = e; low = low_place owners user page (Some frame) few e; reported = is }

-- A page with a frame has an entry that tells it.
pub has_frame : (owners : List (Option UserPage)) (user page : ℕ) (o : Option ℕ) → frame_of owners user page ≡ o
    → IsSome o → length owners ≤ 65536 → (entry : ℕ) → entry ≡ frame_entry o page → TellsFrame owners user page entry
has_frame owners user page None e some few entry is = cc
has_frame owners user page (Some frame) e some few entry is =
    record { frame = frame; there = e; low = low_place owners user page (Some frame) few e; reported = is }

-- the page that is in the place of a page
pub page_is_at : (user page : ℕ) (o : Option UserPage) → is_page user page o ≡ true → o ≡ Some (owned user page)
page_is_at user page None e = cc
page_is_at user page (Some there) e =
    let g : there.user ≡ user = grind (arith, nat_tests, common_steps) in
    let p : there.page.0 ≡ page = grind (arith, nat_tests, common_steps) in
    let middle : UserPage = owned user there.page.0 in
    let wanted : UserPage = owned user page in
    let first : there ≡ middle = ap (λ (n : ℕ). owned n there.page.0) g in
    let second : middle ≡ wanted = ap (λ (n : ℕ). owned user n) p in
    let same : there ≡ wanted = first ∙ second in
    ap Some same

-- A frame that is found has this page as its owner.
pub page_is : (owners : List (Option UserPage)) (user page frame : ℕ) → frame_of owners user page ≡ Some frame
    → get_or owners frame None ≡ Some (owned user page)
page_is owners user page frame there =
    page_is_at user page (get_or owners frame None) (frame_found owners user page frame there).passes

pub none_stands : (n frame : ℕ) (page : UserPage) → get_or (replicate n None) frame None ≡ Some page → ⊥
none_stands zero frame page e = cc
none_stands (suc n) zero page e = cc
none_stands (suc n) (suc frame) page e = none_stands n frame page e

-- at first all is in order
pub small_at : (sizes : List ℕ) (user : ℕ) → All (λ pages. pages ≤ 1024) sizes → get_or sizes user 0 ≤ 1024
small_at sizes user all =
    elim (dec_lt user (length sizes))
    [ yes h ↦ all user 0 h | no past ↦ (let none = get_or_past sizes user 0 (omega arith) in omega arith) ]

-- While no page has a place, each that is placed has one place.
pub whole-none : (bytes : List (List ℕ)) (sizes : List ℕ) (places : ℕ) → length bytes ≡ places
    → All (λ pages. pages ≤ 1024) sizes → IsWhole bytes (replicate places None) sizes
whole-none bytes sizes places room small = record {
  room = rw length-replicate room;
  small = λ user. small_at sizes user small;
  once = λ place page holds. absurd (none_stands places place page holds);
  inside = λ place page holds. absurd (none_stands places place page holds);
}

-- What the bytes of the segment and page tables say.
use Rattle.std.proofs.Common.{◌≡◌, ◌≢◌, ℕ, ◌+◌, ◌-◌, ◌*◌, ◌/◌, ◌%◌, ◌<◌, ◌≤◌, List, length, get_or, replicate, Bool}
use Rattle.std.proofs.Common.{true, false, cond, Option, Some, None, refl, get_or-set_other, get_or-set_same, sym, ◌∙◌}
use Rattle.std.proofs.Common.{ap, arith}
use Rattle.std.specs.Prelude.{nat_lt, ◌==◌, ◌||◌}
use Rattle.std.proofs.Math.Decide.{dec_lt}
use Rattle.std.proofs.Math.ListN.{set, length-set}
use Rattle.std.proofs.lemmas.List.{length-replicate}
use Rattle.std.proofs.lemmas.Bool.Decides.{nat_tests}
use Rattle.std.proofs.lemmas.Grind.{common_steps}
use Rattle.cp_frames.specs.declared.numbers.UserPage.{UserPage}
use Rattle.cp_frames.specs.Layout.{owned, is_page, frame_of, Holds, IsMapped}
use Rattle.cp_frames.specs.Tables.{half_at, word_at, segment_place, page_place, segment_entry, first_half, page_entry}
use Rattle.cp_frames.specs.Tables.{frame_in, frame_through, walk, put_half, noted}
use Rattle.cp_frames.proofs.Layouts.{frame_of-none, frame_of-brought, position-set_same, is_this_page}
use Rattle.cp_frames.proofs.Tables.{page_is_at}
use Rattle.cp_frames.proofs.Told.{IsNew, AreSmall, is_owned, left_place}
use Rattle.cp_frames.proofs.Moves.{stands_nowhere}
use Rattle.cp_frames.proofs.Halves.{IsOnce}

-- a halfword that is written, and one that does not overlap it
pub half_at-put : (tables : List ℕ) (place half : ℕ) → place + 1 < length tables
    → half_at (put_half tables place half) place ≡ half
half_at-put tables place half lt =
    let first : List ℕ = set tables place (half / 256) in
    let long : length first ≡ length tables = length-set tables place (half / 256) in
    let high : get_or (put_half tables place half) place 0 ≡ half / 256 =
    get_or-set_other first (place + 1) place (half % 256) 0 (λ e. absurd (omega arith)) ∙ get_or-set_same tables place
    (half / 256) 0 (omega arith) in
    let low : get_or (put_half tables place half) (place + 1) 0 ≡ half % 256 =
    get_or-set_same first (place + 1) (half % 256) 0 (omega arith) in
    omega (arith, high, low)

byte-put_other : (tables : List ℕ) (place half other : ℕ) → other ≢ place → other ≢ place + 1
    → get_or (put_half tables place half) other 0 ≡ get_or tables other 0
byte-put_other tables place half other ne next =
    get_or-set_other (set tables place (half / 256)) (place + 1) other (half % 256) 0 next ∙ get_or-set_other tables
    place other (half / 256) 0 ne

-- two halfwords that do not overlap
pub record AreApart (place other : ℕ) : Type 0 where
  pub same : other ≢ place
  pub after : other ≢ place + 1
  pub before : other + 1 ≢ place

pub half_at-put_other : (tables : List ℕ) (place half other : ℕ) → AreApart place other
    → half_at (put_half tables place half) other ≡ half_at tables other
half_at-put_other tables place half other apart =
    let high = byte-put_other tables place half other apart.same apart.after in
    let low = byte-put_other tables place half (other + 1) apart.before (λ e. apart.same (omega arith)) in
    omega (arith, high, low)

pub length-put_half : (tables : List ℕ) (place half : ℕ) → length (put_half tables place half) ≡ length tables
length-put_half tables place half =
    length-set (set tables place (half / 256)) (place + 1) (half % 256) ∙ length-set tables place (half / 256)

-- Noting an owner keeps the length of the tables.
pub length-noted : (o : Option UserPage) (entry : ℕ) (tables : List ℕ) → length (noted o entry tables) ≡ length tables
length-noted None entry tables = refl
length-noted (Some q) entry tables = length-put_half tables (page_place q.user q.page.0) entry

-- the entry of a page in the tables
pub record IsEntry (sizes tables : List ℕ) (user page : ℕ) : Type 0 where
  pub of_user : user < length sizes
  pub of_page : page < 1024
  pub low : user < 64
  pub room : page_place user page + 1 < length tables

pub entry_in : (owners : List (Option UserPage)) (sizes tables : List ℕ) (user page : ℕ) → IsMapped owners sizes tables
    → user < length sizes → page < 1024 → IsEntry sizes tables user page
entry_in owners sizes tables user page mapped in_user in_page =
    record {
      of_user = in_user;
      of_page = in_page;
      low = omega (arith, mapped.users);
      room = omega (arith, mapped.room);
    }

-- the entry that is noted, and each other
noted_own : (o : Option UserPage) (user page entry : ℕ) (tables : List ℕ) → page_place user page + 1 < length tables
    → o ≡ Some (owned user page) → half_at (noted o entry tables) (page_place user page) ≡ entry
noted_own o user page entry tables lt e =
    ap (λ (x : Option UserPage). half_at (noted x entry tables) (page_place user page)) e ∙ half_at-put tables
    (page_place user page) entry lt

apart_pages : (user page other_user other : ℕ) → page < 1024 → other < 1024 → (other_user ≡ user → other ≢ page)
    → AreApart (page_place user page) (page_place other_user other)
apart_pages user page other_user other low low_other ne = record {
  same = λ e. ne (omega arith) (omega arith);
  after = λ e. absurd (omega arith);
  before = λ e. absurd (omega arith);
}

noted_other : (o : Option UserPage) (user page entry : ℕ) (tables : List ℕ) → page < 1024
    → ((q : UserPage) → o ≡ Some q → q.page.0 < 1024) → o ≢ Some (owned user page) →
    half_at (noted o entry tables) (page_place user page) ≡ half_at tables (page_place user page)
noted_other None user page entry tables small own ne = refl
noted_other (Some q) user page entry tables small own ne =
    half_at-put_other tables (page_place q.user q.page.0) entry (page_place user page)
    (apart_pages q.user q.page.0 user page (own q refl) small
    (λ u p. ne (ap Some (is_owned q user page (sym u) (sym p)))))

-- segment entries stay
apart_segment : (user page other segment : ℕ) → page < 1024 → segment < 64
    → AreApart (page_place user page) (segment_place other segment)
apart_segment user page other segment low low_segment =
    record { same = λ h. absurd (omega arith); after = λ h. absurd (omega arith); before = λ h. absurd (omega arith) }

apart_second : (user page other segment : ℕ) → page < 1024 → segment < 64
    → AreApart (page_place user page) (segment_place other segment + 2)
apart_second user page other segment low low_segment =
    record { same = λ h. absurd (omega arith); after = λ h. absurd (omega arith); before = λ h. absurd (omega arith) }

pub noted_segment : (o : Option UserPage) (user segment entry : ℕ) (tables : List ℕ) → segment < 64
    → ((q : UserPage) → o ≡ Some q → q.page.0 < 1024) →
    word_at (noted o entry tables) (segment_place user segment) ≡ word_at tables (segment_place user segment)
noted_segment None user segment entry tables small own = refl
noted_segment (Some q) user segment entry tables small own =
    let place = page_place q.user q.page.0 in
    let at = segment_place user segment in
    let high : half_at (put_half tables place entry) at ≡ half_at tables at =
    half_at-put_other tables place entry at (apart_segment q.user q.page.0 user segment (own q refl) small) in
    let low : half_at (put_half tables place entry) (at + 2) ≡ half_at tables (at + 2) =
    half_at-put_other tables place entry (at + 2) (apart_second q.user q.page.0 user segment (own q refl) small) in
    ap (λ (n : ℕ). n * 65536 + half_at (put_half tables place entry) (at + 2)) high ∙ ap
    (λ (n : ℕ). half_at tables at * 65536 + n) low

-- what an entry says where another page, or none, is in a frame
pages_set : (owners : List (Option UserPage)) (sizes tables : List ℕ) (frame : ℕ) (o : Option UserPage) (user page : ℕ)
    → IsOnce owners → AreSmall owners → IsMapped owners sizes tables → frame < length owners → IsNew owners o →
    user < length sizes → page < 1024
    → half_at (noted o (frame * 16) (noted (get_or owners frame None) 8 tables)) (page_place user page)
    ≡ page_entry (frame_of (set owners frame o) user page)
pages_set owners sizes tables frame o user page once small mapped lt new in_user in_page =
    let was : Option UserPage = get_or owners frame None in
    let first : List ℕ = noted was 8 tables in
    let long : length first ≡ length tables = length-noted was 8 tables in
    let at = entry_in owners sizes tables user page mapped in_user in_page in
    let own : (b : Bool) → is_page user page o ≡ b
    → half_at (noted o (frame * 16) first) (page_place user page)
    ≡ page_entry (frame_of (set owners frame o) user page) = elim [
      | true ↦ λ e.
          let is : o ≡ Some (owned user page) = page_is_at user page o e in
          let away : frame_of owners user page ≡ None = (new (owned user page) is).1 in
          noted_own o user page (frame * 16) first (omega (arith, at.room)) is
          ∙ sym (ap page_entry (ap (λ (x : Option UserPage). frame_of (set owners frame x) user page) is ∙
          frame_of-brought owners user page frame away lt))
      | false ↦ λ e.
          let off : o ≢ Some (owned user page) =
          (λ h. let is : is_page user page o ≡ true = ap (is_page user page) h ∙ is_this_page user page in cc) in
          let skip = noted_other o user page (frame * 16) first in_page (λ q h. (new q h).0) off in
          let other : (b : Bool) → is_page user page was ≡ b
          → half_at first (page_place user page) ≡ page_entry (frame_of (set owners frame o) user page) = elim [
            | true ↦ λ f.
                let holds : was ≡ Some (owned user page) = page_is_at user page was f in
                noted_own was user page 8 tables at.room holds ∙ sym
                (ap page_entry (left_place owners frame o user page once lt e holds))
            | false ↦ λ f.
                let never : was ≢ Some (owned user page) =
                (λ h. let is : is_page user page was
                ≡ true = ap (is_page user page) h ∙ is_this_page user page in cc) in
                noted_other was user page 8 tables in_page (small frame) never ∙ mapped.pages user page in_user in_page
                ∙ sym (ap page_entry (position-set_same (is_page user page) 0 owners frame o None (e ∙ sym f)))
          ] in
          skip ∙ other (is_page user page was) refl
    ] in
    own (is_page user page o) refl

-- the tables where another page, or none, is in a frame
pub mapped-set : (owners : List (Option UserPage)) (sizes tables : List ℕ) (frame : ℕ) (o : Option UserPage)
    → IsOnce owners → AreSmall owners → IsMapped owners sizes tables → frame < length owners → IsNew owners o →
    IsMapped (set owners frame o) sizes (noted o (frame * 16) (noted (get_or owners frame None) 8 tables))
mapped-set owners sizes tables frame o once small mapped lt new = record {
  few = rw length-set mapped.few;
  users = mapped.users;
  room = length-noted o (frame * 16) (noted (get_or owners frame None) 8 tables) ∙ length-noted
      (get_or owners frame None) 8 tables ∙ mapped.room;
  segments = λ user segment in_user low.
      noted_segment o user segment (frame * 16) (noted (get_or owners frame None) 8 tables) low (λ q h. (new q h).0)
      ∙ noted_segment (get_or owners frame None) user segment 8 tables low (small frame) ∙ mapped.segments user segment
      in_user low;
  pages = λ user page in_user in_page.
      pages_set owners sizes tables frame o user page once small mapped lt new in_user in_page;
}

-- the tables, where one halfword more is written
pub next_half : (f : ℕ → ℕ) (tables : List ℕ) (k half : ℕ) → half ≡ f k → k * 2 + 1 < length tables
    → ((h : ℕ) → h < k → half_at tables (h * 2) ≡ f h) → (h : ℕ) → h < k + 1
    → half_at (put_half tables (k * 2) half) (h * 2) ≡ f h
next_half f tables k half is room before h lt = elim (dec_lt h k) [
  | yes low ↦ half_at-put_other tables (k * 2) half (h * 2)
      (record {
        same = λ e. absurd (omega arith);
        after = λ e. absurd (omega arith);
        before = λ e. absurd (omega arith);
      }) ∙ before h low
  | no past ↦ (let same : h
      ≡ k = omega arith in ap (λ (n : ℕ). half_at (put_half tables (k * 2) half) (n * 2)) same ∙ half_at-put tables
      (k * 2) half room ∙ is ∙ ap f (sym same))
]

-- the first tables
first_segment : (sizes tables : List ℕ) (user segment : ℕ) → user < length sizes → segment < 64 →
    ((half : ℕ) → half < 1152 * length sizes
    → half_at tables (half * 2) ≡ first_half (half / 1152) (get_or sizes (half / 1152) 0) (half % 1152)) →
    word_at tables (segment_place user segment) ≡ segment_entry user (get_or sizes user 0) segment
first_segment sizes tables user segment in_user low halves =
    let k = user * 1152 + segment * 2 in
    let entry : ℕ = segment_entry user (get_or sizes user 0) segment in
    let of_user : k / 1152 ≡ user = omega arith in
    let of_half : k % 1152 ≡ segment * 2 = omega arith in
    let next_user : (k + 1) / 1152 ≡ user = omega arith in
    let next_half : (k + 1) % 1152 ≡ segment * 2 + 1 = omega arith in
    let first : half_at tables (k * 2) ≡ first_half user (get_or sizes user 0) (segment * 2) =
    rw (of_user, of_half) at (halves k (omega arith)) in
    let second : half_at tables ((k + 1) * 2) ≡ first_half user (get_or sizes user 0) (segment * 2 + 1) =
    rw (next_user, next_half) at (halves (k + 1) (omega arith)) in
    let same : segment * 2 / 2 ≡ segment = omega arith in
    let same_next : (segment * 2 + 1) / 2 ≡ segment = omega arith in
    let even : (segment * 2 % 2 == 0) ≡ true = grind (arith, nat_tests) in
    let odd : ((segment * 2 + 1) % 2 == 0) ≡ false = grind (arith, nat_tests) in
    let here : nat_lt (segment * 2) 128 ≡ true = grind (arith, nat_tests) in
    let here_next : nat_lt (segment * 2 + 1) 128 ≡ true = grind (arith, nat_tests) in
    let high : half_at tables (k * 2) ≡ entry / 65536 = first ∙ (rw (here, even, same) refl) in
    let low_half : half_at tables ((k + 1) * 2) ≡ entry % 65536 = second ∙ (rw (here_next, odd, same_next) refl) in
    let place : segment_place user segment ≡ k * 2 = omega arith in
    let place_next : segment_place user segment + 2 ≡ (k + 1) * 2 = omega arith in
    let one : half_at tables (segment_place user segment) ≡ entry / 65536 = ap (half_at tables) place ∙ high in
    let two : half_at tables (segment_place user segment + 2) ≡ entry % 65536 =
    ap (half_at tables) place_next ∙ low_half in
    let both : (e : ℕ) → half_at tables (segment_place user segment) ≡ e / 65536
    → half_at tables (segment_place user segment + 2) ≡ e % 65536
    → word_at tables (segment_place user segment) ≡ e = λ e a b. omega (arith, a, b) in
    both entry one two

-- Tables without any page are those of empty frames.
pub mapped-first : (sizes tables : List ℕ) (frames : ℕ) → frames ≤ 4096 → length sizes ≤ 64
    → length tables ≡ 2304 * length sizes →
    ((half : ℕ) → half < 1152 * length sizes
    → half_at tables (half * 2) ≡ first_half (half / 1152) (get_or sizes (half / 1152) 0) (half % 1152)) →
    IsMapped (replicate frames None) sizes tables
mapped-first sizes tables frames few users room halves = record {
  few = rw length-replicate few;
  users = users;
  room = room;
  segments = λ user segment in_user low. first_segment sizes tables user segment in_user low halves;
  pages = λ user page in_user in_page.
      (let k = user * 1152 + 128 + page in
      let past : nat_lt (k % 1152) 128 ≡ false = grind (arith, nat_tests) in
      let is : half_at tables (k * 2) ≡ 8 = halves k (omega arith) ∙ (rw past refl) in
      ap (half_at tables) (let e : page_place user page ≡ k * 2 = omega arith in e) ∙ is ∙ sym
      (ap page_entry (frame_of-none user page frames)));
}

-- the walk from a segment entry to a page entry finds the frame
through_none : (tables : List ℕ) (page : ℕ) → frame_through tables 1 page ≡ None
through_none tables page = refl

through_past : (tables : List ℕ) (entry page : ℕ) → entry / 268435456 < page → frame_through tables entry page ≡ None
through_past tables entry page lt =
    let past : nat_lt (entry / 268435456) page ≡ true = grind (arith, nat_tests) in
    elim (entry % 2 == 1) as
    (λ (b : Bool). cond (b || nat_lt (entry / 268435456) page) None
    (frame_in (half_at tables (entry / 8 % 2097152 * 8 + page * 2))) ≡ None) [ true ↦ refl | false ↦ rw past refl ]

through_entry : (tables : List ℕ) (entry page : ℕ) → entry % 2 ≡ 0 → page ≤ entry / 268435456
    → frame_through tables entry page ≡ frame_in (half_at tables (entry / 8 % 2097152 * 8 + page * 2))
through_entry tables entry page even le =
    let valid : (entry % 2 == 1) ≡ false = grind (arith, nat_tests) in
    let within : nat_lt (entry / 268435456) page ≡ false = grind (arith, nat_tests) in
    rw (valid, within) refl

pub record IsSegment (user pages segment entry : ℕ) : Type 0 where
  pub none : pages ≤ segment * 16 → entry ≡ 1
  pub even : segment * 16 < pages → entry % 2 ≡ 0
  pub origin : segment * 16 < pages → entry / 8 % 2097152 * 8 ≡ page_place user (segment * 16)
  pub own : segment * 16 < pages → (index : ℕ) → index < 16 → segment * 16 + index < pages → index ≤ entry / 268435456
  pub past : segment * 16 < pages → (index : ℕ) → index < 16 → pages ≤ segment * 16 + index → entry / 268435456 < index

segment_is : (user pages segment : ℕ) → user < 64 → segment < 64
    → IsSegment user pages segment (segment_entry user pages segment)
segment_is user pages segment low_user low = elim (dec_lt (segment * 16) pages) [
  | no past ↦ (let none : segment_entry user pages segment ≡ 1 = grind (arith, nat_tests, common_steps) in
      record {
        none = λ _. none;
        even = λ h. absurd (omega arith);
        origin = λ h. absurd (omega arith);
        own = λ h. absurd (omega arith);
        past = λ h. absurd (omega arith);
      })
  | yes lt ↦ elim (dec_lt 15 (pages - segment * 16)) [
    | yes all ↦ (let is : segment_entry user pages segment
        ≡ 15 * 268435456 + page_place user (segment * 16) = grind (arith, nat_tests, common_steps) in
        record {
          none = λ h. absurd (omega arith);
          even = λ h. omega (arith, is);
          origin = λ h. omega (arith, is);
          own = λ h i a b. omega (arith, is);
          past = λ h i a b. absurd (omega arith);
        })
    | no some ↦ (let is : segment_entry user pages segment
        ≡ (pages - segment * 16 - 1) * 268435456 + page_place user (segment * 16) =
        grind (arith, nat_tests, common_steps) in
        record {
          none = λ h. absurd (omega arith);
          even = λ h. omega (arith, is);
          origin = λ h. omega (arith, is);
          own = λ h i a b. omega (arith, is);
          past = λ h i a b. omega (arith, is);
        })
  ]
]

-- A user without pages has an invalid segment.
pub no_segment : (user pages segment : ℕ) → pages ≡ 0 → 1 ≡ segment_entry user pages segment
no_segment user pages segment e = let past : segment_entry user pages segment ≡ 1 =
    grind (arith, nat_tests, common_steps) in sym past

-- what a page entry says
pub frame_in_entry : (o : Option ℕ) → frame_in (page_entry o) ≡ o
frame_in_entry None = refl
frame_in_entry (Some frame) =
    let out : (frame * 16 / 8 % 2 == 1) ≡ false = grind (arith, nat_tests) in
    rw out (ap Some (omega arith))

-- a page past a user's storage is in no frame
pub past_none : (owners : List (Option UserPage)) (user page pages : ℕ)
    → ((k : ℕ) (p : UserPage) → Holds owners k p → p.user ≡ user → p.page.0 < pages) → pages ≤ page
    → frame_of owners user page ≡ None
past_none owners user page pages inside past =
    stands_nowhere owners user page (λ k h. let lt = inside k (owned user page) h refl in absurd (omega arith))

-- A walk over the tables finds the frame that has the page.
pub walk_is : (owners : List (Option UserPage)) (sizes tables : List ℕ) (user page : ℕ) → IsMapped owners sizes tables
    → user < length sizes → page < 1024 →
    ((k : ℕ) (p : UserPage) → Holds owners k p → p.user ≡ user → p.page.0 < get_or sizes user 0)
    → walk tables user page ≡ frame_of owners user page
walk_is owners sizes tables user page mapped in_user in_page inside =
    let pages = get_or sizes user 0 in
    let segment = page / 16 in
    let index = page % 16 in
    let is : IsSegment user pages segment (segment_entry user pages segment) =
    segment_is user pages segment (omega (arith, mapped.users)) (omega arith) in
    let read : word_at tables (segment_place user segment) ≡ segment_entry user pages segment =
    mapped.segments user segment in_user (omega arith) in
    let by : (entry : ℕ) → IsSegment user pages segment entry
    → frame_through tables entry index ≡ frame_of owners user page = λ entry s.
    elim (dec_lt (segment * 16) pages) [
      | no none ↦ ap (λ (e : ℕ). frame_through tables e index) (s.none (omega arith)) ∙ through_none tables index ∙ sym
          (past_none owners user page pages inside (omega arith))
      | yes some ↦ elim (dec_lt page pages) [
        | no past ↦ through_past tables entry index (s.past some index (omega arith) (omega arith)) ∙ sym
            (past_none owners user page pages inside (omega arith))
        | yes lt ↦ (let place : entry / 8 % 2097152 * 8 + index * 2
            ≡ page_place user page = omega (arith, s.origin some) in
            through_entry tables entry index (s.even some) (s.own some index (omega arith) (omega arith)) ∙ ap
            (λ (n : ℕ). frame_in (half_at tables n)) place
            ∙ ap frame_in (mapped.pages user page in_user in_page) ∙ frame_in_entry (frame_of owners user page))
      ]
    ] in
    ap (λ (e : ℕ). frame_through tables e index) read ∙ by (segment_entry user pages segment) is

-- What a change of an owner or a byte does to each user's storage.
use Rattle.std.proofs.Common.{replicate, ◌≡◌, ◌≢◌, ℕ, zero, suc, ◌+◌, ◌-◌, ◌*◌, ◌/◌, ◌%◌, ◌<◌, ◌≤◌, List, [], ◌∷◌}
use Rattle.std.proofs.Common.{length, get_or, Bool, true, false, cond, map, ◌++◌, Option, Some, None, refl, zero-add}
use Rattle.std.proofs.Common.{get_or-set_other, get_or-set_same, sym, ◌∙◌, ap, arith}
use Rattle.std.proofs.Math.Decide.{dec_lt}
use Rattle.std.specs.Prelude.{◌==◌, if◌then◌else◌}
use Rattle.std.proofs.Math.ListN.{set, length-set, get_or-map, length-map}
use Rattle.std.specs.List.{position_from, range_with_len}
use Rattle.std.proofs.lemmas.List.FromFn.{fill_by_all, get_or-map-range_with_len, length-map-range_with_len}
use Rattle.std.proofs.lemmas.List.{get_or_past, get_or_append_left, set-append_left, set_past}
use Rattle.std.proofs.lemmas.Bool.Decides.{nat_tests}
use Rattle.std.proofs.lemmas.Grind.{common_steps}
use Rattle.cp_frames.specs.declared.numbers.UserPage.{UserPage}
use Rattle.cp_frames.specs.Layout.{owned, is_page, frame_of, byte_in, byte_at, storage_of, storages_of, Holds, IsWhole}
use Rattle.cp_frames.specs.Layout.{without, cleared_of, Pool, FrameSupply, IsZeroPage, put_page, written_page}
use Rattle.cp_frames.specs.Layout.{written_frame}

-- Two numbers are equal or they are not.
pub dec_eq : (m n : ℕ) → Dec (m ≡ n)
dec_eq m n = elim (dec_lt m n) [
  | yes below ↦ no (λ e. omega arith)
  | no above ↦ elim (dec_lt n m) [ yes below ↦ no (λ e. omega arith) | no equal ↦ yes (omega arith) ]
]

-- a list made from a function: the same where the function is
pub map_range_same : {X : Type 0} (f g : ℕ → X) (a n : ℕ) → ((k : ℕ) → a ≤ k → k < a + n → g k ≡ f k)
    → map g (range_with_len a n) ≡ map f (range_with_len a n)
map_range_same f g a zero same = refl
map_range_same f g a (suc n) same =
    let head : g a ≡ f a = same a (omega arith) (omega arith) in
    let tail : map g (range_with_len (a + 1) n) ≡ map f (range_with_len (a + 1) n) =
    map_range_same f g (a + 1) n (λ k low high. same k (omega arith) (omega arith)) in
    cc

-- and where it differs at one place, a list with that element set
pub map_range_set : {X : Type 0} (f g : ℕ → X) (a n i : ℕ) → ((k : ℕ) → k ≢ a + i → g k ≡ f k)
    → map g (range_with_len a n) ≡ set (map f (range_with_len a n)) i (g (a + i))
map_range_set f g a zero i same = refl
map_range_set f g a (suc n) zero same =
    let head : g a ≡ g (a + 0) = ap g (omega arith) in
    let tail : map g (range_with_len (a + 1) n) ≡ map f (range_with_len (a + 1) n) =
    map_range_same f g (a + 1) n (λ k low high. same k (λ e. absurd (omega arith))) in
    cc
map_range_set f g a (suc n) (suc i) same =
    let head : g a ≡ f a = same a (λ e. absurd (omega arith)) in
    let at : g (a + 1 + i) ≡ g (a + suc i) = ap g (omega arith) in
    let tail : map g (range_with_len (a + 1) n) ≡ set (map f (range_with_len (a + 1) n)) i (g (a + 1 + i)) =
    map_range_set f g (a + 1) n i (λ k ne. same k (λ e. ne (omega arith))) in
    cc

-- a write of an element that a search cannot say from the one before
pub position-set_same : {X : Type 0} (p : X → Bool) (k : ℕ) (xs : List X) (i : ℕ) (y d : X) → p y ≡ p (get_or xs i d)
    → position_from p k (set xs i y) ≡ position_from p k xs
position-set_same p k [] i y d same = refl
position-set_same p k (x ∷ xs) zero y d same = rw same refl
position-set_same p k (x ∷ xs) (suc i) y d same = rw (position-set_same p (k + 1) xs i y d same) refl

-- a write of the first element that passes
pub position-set_first : {X : Type 0} (p : X → Bool) (k : ℕ) (xs : List X) (i : ℕ) (y : X) → i < length xs → p y ≡ true
    → position_from p k xs ≡ None → position_from p k (set xs i y) ≡ Some (k + i)
position-set_first p k [] i y lt passes none = absurd (omega arith)
position-set_first p k (x ∷ xs) zero y lt passes none = rw passes (ap Some (omega arith))
position-set_first p k (x ∷ xs) (suc i) y lt passes none =
    elim (p x) as (λ b. cond b (Some k) (position_from p (k + 1) xs) ≡ None
    → cond b (Some k) (position_from p (k + 1) (set xs i y)) ≡ Some (k + suc i)) [
      | true ↦ λ e. cc
      | false ↦ λ e. position-set_first p (k + 1) xs i y (omega arith) passes e ∙ ap Some (omega arith)
    ] none

-- what is found is there
pub record IsFound {X : Type 0} (p : X → Bool) (k : ℕ) (xs : List X) (f : ℕ) : Type 0 where
  pub low : k ≤ f
  pub high : f < k + length xs
  pub passes : (d : X) → p (get_or xs (f - k) d) ≡ true

pub found : {X : Type 0} (p : X → Bool) (k : ℕ) (xs : List X) (f : ℕ) → position_from p k xs ≡ Some f → IsFound p k xs f
found p k [] f e = cc
found {X} p k (x ∷ xs) f e =
    let at : (b : Bool) → p x ≡ b → cond b (Some k) (position_from p (k + 1) xs) ≡ Some f
    → IsFound p k (x ∷ xs) f = elim [
      | true ↦ λ passes here.
          let same : k ≡ f = cc in
          let none : f - k ≡ 0 = omega arith in
          record { low = omega arith; high = omega arith; passes = λ d. rw none passes }
      | false ↦ λ fails there.
          let rest = found p (k + 1) xs f there in
          let one : f - k ≡ suc (f - (k + 1)) = omega (arith, rest.low) in
          record {
            low = omega (arith, rest.low);
            high = omega (arith, rest.high);
            passes = λ d. rw one (rest.passes d);
          }
    ] in
    at (p x) refl e

-- what is found in a frame is that page's
pub same_page : (user page other_user other : ℕ) (o : Option UserPage) → is_page user page o ≡ true
    → is_page other_user other o ≡ true → (user ≡ other_user) × (page ≡ other)
same_page user page other_user other None one two = cc
same_page user page other_user other (Some there) one two = grind (arith, nat_tests, common_steps)

-- a page's frame is one of the frames, and has that page
pub record IsFrame (owners : List (Option UserPage)) (user page frame : ℕ) : Type 0 where
  pub within : frame < length owners
  pub passes : is_page user page (get_or owners frame None) ≡ true

-- A frame that is found has the page.
pub frame_found : (owners : List (Option UserPage)) (user page frame : ℕ) → frame_of owners user page ≡ Some frame
    → IsFrame owners user page frame
frame_found owners user page frame e =
    let f = found {X = Option UserPage} (is_page user page) 0 owners frame e in
    let here : frame - 0 ≡ frame =
    omega arith in record { within = omega (arith, f.high); passes = rw here at (f.passes None) }

-- One frame has one page of one user alone.
pub same_frame : (owners : List (Option UserPage)) (user page other_user other frame : ℕ)
    → frame_of owners user page ≡ Some frame → frame_of owners other_user other ≡ Some frame
    → (user ≡ other_user) × (page ≡ other)
same_frame owners user page other_user other frame one two =
    same_page user page other_user other (get_or owners frame None) (frame_found owners user page frame one).passes
    (frame_found owners other_user other frame two).passes

-- the storage of one user
pub bytes_of-storages : (bytes : List (List ℕ)) (owners : List (Option UserPage)) (sizes : List ℕ) (user : ℕ)
    → user < length sizes →
    get_or (storages_of bytes owners sizes) user [] ≡ storage_of bytes owners user (get_or sizes user 0)
bytes_of-storages bytes owners sizes user within =
    get_or-map-range_with_len (λ h. storage_of bytes owners h (get_or sizes h 0)) 0 (length sizes) user user [] within
    (zero-add user)

-- A storage has 4,096 bytes for each of its pages.
pub length-storage_of : (bytes : List (List ℕ)) (owners : List (Option UserPage)) (user pages : ℕ)
    → length (storage_of bytes owners user pages) ≡ pages * 4096
length-storage_of bytes owners user pages = length-map-range_with_len (byte_at bytes owners user) 0 (pages * 4096)

pub get_or-storage_of : (bytes : List (List ℕ)) (owners : List (Option UserPage)) (user pages address : ℕ)
    → address < pages * 4096 →
    get_or (storage_of bytes owners user pages) address 0 ≡ byte_at bytes owners user address
get_or-storage_of bytes owners user pages address lt =
    get_or-map-range_with_len (byte_at bytes owners user) 0 (pages * 4096) address address 0 lt (zero-add address)

-- a page that was nowhere is given a free frame, whose bytes are cleared
pub record IsCleared (old new : List (List ℕ)) (frame : ℕ) : Type 0 where
  pub zeros : (offset : ℕ) → get_or (get_or new frame []) offset 0 ≡ 0
  pub others : (k : ℕ) → k ≢ frame → get_or new k [] ≡ get_or old k []

-- A frame that is set to a page of zeros is cleared.
pub cleared_by : (old : List (List ℕ)) (frame : ℕ) (page : List ℕ) → frame < length old
    → ((k : ℕ) → get_or page k 0 ≡ 0) → IsCleared old (set old frame page) frame
cleared_by old frame page lt zeros =
    record { zeros = λ k. rw get_or-set_same (zeros k); others = λ k ne. rw get_or-set_other refl }

not_page : (user page other_user other : ℕ) → ((user ≡ other_user) → page ≡ other → ⊥)
    → is_page other_user other (Some (owned user page)) ≡ false
not_page user page other_user other differ = grind (arith, nat_tests, common_steps)

-- The owner of a page is recognized as its owner.
pub is_this_page : (user page : ℕ) → is_page user page (Some (owned user page)) ≡ true
is_this_page user page = grind (arith, nat_tests, common_steps)

no_page : (user page : ℕ) (owners : List (Option UserPage)) (frame : ℕ) → get_or owners frame None ≡ None
    → is_page user page (get_or owners frame None) ≡ false
no_page user page owners frame e = rw e refl

brought_in : (old new : List (List ℕ)) (owners : List (Option UserPage)) (frame other_user other : ℕ) (o : Option ℕ)
    → frame_of owners other_user (other / 4096) ≡ o →
    get_or owners frame None ≡ None → IsCleared old new frame
    → byte_in new o (other % 4096) ≡ byte_in old o (other % 4096)
brought_in old new owners frame other_user other None e free cleared = refl
brought_in old new owners frame other_user other (Some there) e free cleared =
    let stands = (frame_found owners other_user (other / 4096) there e).passes in
    let ne : there ≢ frame = λ same. let no = no_page other_user (other / 4096) owners frame free in let at =
    ap (λ f. is_page other_user (other / 4096) (get_or owners f None)) same in cc in
    ap (λ page. get_or page (other % 4096) 0) (cleared.others there ne)

-- A page that was brought into a frame is found there.
pub frame_of-brought : (owners : List (Option UserPage)) (user page frame : ℕ) → frame_of owners user page ≡ None
    → frame < length owners →
    frame_of (set owners frame (Some (owned user page))) user page ≡ Some frame
frame_of-brought owners user page frame nowhere within =
    position-set_first (is_page user page) 0 owners frame (Some (owned user page)) within (is_this_page user page)
    nowhere ∙ ap Some (zero-add frame)

pub frame_of_other-brought : (owners : List (Option UserPage)) (user page frame other_user other : ℕ)
    → get_or owners frame None ≡ None → ((user ≡ other_user) → page ≡ other → ⊥) →
    frame_of (set owners frame (Some (owned user page))) other_user other ≡ frame_of owners other_user other
frame_of_other-brought owners user page frame other_user other free differ =
    position-set_same (is_page other_user other) 0 owners frame (Some (owned user page)) None
    (not_page user page other_user other differ ∙ sym (no_page other_user other owners frame free))

pub byte_at-brought : (old new : List (List ℕ)) (owners : List (Option UserPage)) (user page frame other_user other : ℕ)
    →
    frame_of owners user page ≡ None → frame < length owners → get_or owners frame None ≡ None
    → IsCleared old new frame →
    byte_at new (set owners frame (Some (owned user page))) other_user other ≡ byte_at old owners other_user other
byte_at-brought old new owners user page frame other_user other nowhere within free cleared =
    let after = set owners frame (Some (owned user page)) in
    let same : (user ≡ other_user) → page ≡ other / 4096
    → byte_at new after other_user other ≡ byte_at old owners other_user other =
    λ g p. let a : frame_of after other_user (other / 4096) ≡ Some frame =
    rw (← g, ← p) (frame_of-brought owners user page frame nowhere within) in
    let b : frame_of owners other_user (other / 4096) ≡ None = rw (← g, ← p) nowhere in
    rw (a, b) (cleared.zeros (other % 4096)) in
    let differs : ((user ≡ other_user) → page ≡ other / 4096 → ⊥)
    → byte_at new after other_user other ≡ byte_at old owners other_user other =
    λ d. rw (frame_of_other-brought owners user page frame other_user (other / 4096) free d)
    (brought_in old new owners frame other_user other (frame_of owners other_user (other / 4096)) refl free cleared)
    in
    elim (dec_eq user other_user) [
      | yes g ↦ elim (dec_eq page (other / 4096)) [ yes p ↦ same g p | no p ↦ differs (λ _ e. p e) ]
      | no g ↦ differs (λ e _. g e)
    ]

-- bringing a page changes no user's storage
pub storages-brought : (old new : List (List ℕ)) (owners : List (Option UserPage)) (sizes : List ℕ)
    (user page frame : ℕ) →
    frame_of owners user page ≡ None → frame < length owners → get_or owners frame None ≡ None
    → IsCleared old new frame →
    storages_of new (set owners frame (Some (owned user page))) sizes ≡ storages_of old owners sizes
storages-brought old new owners sizes user page frame nowhere within free cleared =
    let after = set owners frame (Some (owned user page)) in
    map_range_same (λ h. storage_of old owners h (get_or sizes h 0)) (λ h. storage_of new after h (get_or sizes h 0)) 0
    (length sizes)
    (λ h low high. map_range_same (byte_at old owners h) (byte_at new after h) 0 (get_or sizes h 0 * 4096)
    (λ k _ _. byte_at-brought old new owners user page frame h k nowhere within free cleared))

-- what is where, once a user gave its frames back
is_page-without : (user other_user page : ℕ) (o : Option UserPage) → user ≢ other_user
    → is_page other_user page (without user o) ≡ is_page other_user page o
is_page-without user other_user page None ne = refl
is_page-without user other_user page (Some there) ne = grind (arith, nat_tests, common_steps)

is_page_own-without : (user page : ℕ) (o : Option UserPage) → is_page user page (without user o) ≡ false
is_page_own-without user page None = refl
is_page_own-without user page (Some there) = grind (arith, nat_tests, common_steps)

position-map_same : {X : Type 0} (p : X → Bool) (f : X → X) → ((x : X) → p (f x) ≡ p x) → (k : ℕ) (xs : List X)
    → position_from p k (map f xs) ≡ position_from p k xs
position-map_same p f same k [] = refl
position-map_same p f same k (x ∷ xs) = rw (same x, position-map_same p f same (k + 1) xs) refl

position-map_none : {X : Type 0} (p : X → Bool) (f : X → X) → ((x : X) → p (f x) ≡ false) → (k : ℕ) (xs : List X)
    → position_from p k (map f xs) ≡ None
position-map_none p f none k [] = refl
position-map_none p f none k (x ∷ xs) = rw (none x, position-map_none p f none (k + 1) xs) refl

-- No page of a user is in a frame after his frames were cleared.
pub frame_of-cleared : (owners : List (Option UserPage)) (user page : ℕ)
    → frame_of (cleared_of user owners) user page ≡ None
frame_of-cleared owners user page =
    position-map_none (is_page user page) (without user) (is_page_own-without user page) 0 owners

-- Clearing one user's frames leaves another's where they are.
pub frame_of_other-cleared : (owners : List (Option UserPage)) (user other_user page : ℕ) → user ≢ other_user
    → frame_of (cleared_of user owners) other_user page ≡ frame_of owners other_user page
frame_of_other-cleared owners user other_user page ne =
    position-map_same (is_page other_user page) (without user) (λ o. is_page-without user other_user page o ne) 0 owners

map_range_const : (f : ℕ → ℕ) (a n : ℕ) → ((k : ℕ) → f k ≡ 0) → map f (range_with_len a n) ≡ replicate n 0
map_range_const f a zero zeros = refl
map_range_const f a (suc n) zeros = let head = zeros a in let tail = map_range_const f (a + 1) n zeros in cc

-- a user that gives its frames back has zeros, and each other user what it had
pub storages-cleared : (bytes : List (List ℕ)) (owners : List (Option UserPage)) (sizes : List ℕ) (user : ℕ) →
    storages_of bytes (cleared_of user owners) sizes
    ≡ set (storages_of bytes owners sizes) user (replicate (get_or sizes user 0 * 4096) 0)
storages-cleared bytes owners sizes user =
    let after = cleared_of user owners in
    map_range_set (λ h. storage_of bytes owners h (get_or sizes h 0)) (λ h. storage_of bytes after h (get_or sizes h 0))
    0 (length sizes) user
    (λ h ne. map_range_same (byte_at bytes owners h) (byte_at bytes after h) 0 (get_or sizes h 0 * 4096)
    (λ k low high. ap (λ o. byte_in bytes o (k % 4096))
    (frame_of_other-cleared owners user h (k / 4096) (λ e. ne (omega arith)))))
    ∙ ap (set (storages_of bytes owners sizes) user)
    (ap (λ h. storage_of bytes after h (get_or sizes h 0)) (zero-add user)
    ∙ map_range_const (byte_at bytes after user) 0 (get_or sizes user 0 * 4096)
    (λ k. ap (λ o. byte_in bytes o (k % 4096)) (frame_of-cleared owners user (k / 4096))))

-- A user's storage has 4,096 bytes for each page of his size.
pub length-bytes_of : (bytes : List (List ℕ)) (owners : List (Option UserPage)) (sizes : List ℕ) (user : ℕ) →
    length (get_or (storages_of bytes owners sizes) user []) ≡ get_or sizes user 0 * 4096
length-bytes_of bytes owners sizes user = elim (dec_lt user (length sizes)) [
  | yes within ↦ rw (bytes_of-storages bytes owners sizes user within)
      (length-storage_of bytes owners user (get_or sizes user 0))
  | no past ↦
      let long : length sizes ≤ user = omega arith in
      let made : length (storages_of bytes owners sizes) ≤ user =
      rw (length-map-range_with_len (λ h. storage_of bytes owners h (get_or sizes h 0)) 0 (length sizes)) long in
      rw (get_or_past (storages_of bytes owners sizes) user [] made, get_or_past sizes user 0 long) refl
]

-- a user with an address is one of the users
pub user_with : (bytes : List (List ℕ)) (owners : List (Option UserPage)) (sizes : List ℕ) (user address : ℕ)
    → address < length (get_or (storages_of bytes owners sizes) user []) →
    (user < length sizes) × (address < get_or sizes user 0 * 4096)
user_with bytes owners sizes user address lt =
    let long = length-bytes_of bytes owners sizes user in
    elim (dec_lt user (length sizes)) [
      | yes within ↦ (within, omega arith)
      | no past ↦ let none = get_or_past sizes user 0 (omega arith) in absurd (omega arith)
    ]

-- a page's frame is one of the frames
pub frame_room : (bytes : List (List ℕ)) (owners : List (Option UserPage)) (sizes : List ℕ) (user page frame : ℕ)
    → IsWhole bytes owners sizes → frame_of owners user page ≡ Some frame → frame < length bytes
frame_room bytes owners sizes user page frame whole there =
    omega (arith, (frame_found owners user page frame there).within, whole.room)

-- what a load reads
pub load-read : (bytes : List (List ℕ)) (owners : List (Option UserPage)) (sizes : List ℕ) (user address frame : ℕ)
    → address < length (get_or (storages_of bytes owners sizes) user []) →
    frame_of owners user (address / 4096) ≡ Some frame
    → get_or (get_or (storages_of bytes owners sizes) user []) address 0
    ≡ get_or (get_or bytes frame []) (address % 4096) 0
load-read bytes owners sizes user address frame lt there =
    let in_user = user_with bytes owners sizes user address lt in
    rw (
      bytes_of-storages bytes owners sizes user in_user.0,
      get_or-storage_of bytes owners user (get_or sizes user 0) address in_user.1,
      there,
    ) refl

-- what is written to a frame is the content of its page
written_in : (bytes : List (List ℕ)) (owners : List (Option UserPage)) (user page frame other_user other : ℕ)
    (written : List ℕ) (o : Option ℕ) → frame_of owners user page ≡ Some frame
    → frame_of owners other_user (other / 4096) ≡ o →
    ((user ≡ other_user) → page ≡ other / 4096 → ⊥)
    → byte_in (set bytes frame written) o (other % 4096) ≡ byte_in bytes o (other % 4096)
written_in bytes owners user page frame other_user other written None one two differ = refl
written_in bytes owners user page frame other_user other written (Some there) one two differ =
    let ne : there ≢ frame =
    λ e. (let same = same_frame owners user page other_user (other / 4096) frame one (two ∙ ap Some e) in differ
    same.0 same.1) in
    rw get_or-set_other refl

unwritten_in : (bytes : List (List ℕ)) (owners : List (Option UserPage)) (frame other_user other : ℕ) (written : List ℕ)
    (o : Option ℕ) → frame_of owners other_user (other / 4096) ≡ o →
    get_or owners frame None ≡ None
    → byte_in (set bytes frame written) o (other % 4096) ≡ byte_in bytes o (other % 4096)
unwritten_in bytes owners frame other_user other written None e free = refl
unwritten_in bytes owners frame other_user other written (Some there) e free =
    let stands = (frame_found owners other_user (other / 4096) there e).passes in
    let ne : there ≢ frame = λ same. let none = no_page other_user (other / 4096) owners frame free in let here =
    ap (λ f. is_page other_user (other / 4096) (get_or owners f None)) same in cc in
    rw get_or-set_other refl

pub storages-unwritten : (bytes : List (List ℕ)) (owners : List (Option UserPage)) (sizes : List ℕ) (frame : ℕ)
    (written : List ℕ) → get_or owners frame None ≡ None
    → storages_of (set bytes frame written) owners sizes ≡ storages_of bytes owners sizes
storages-unwritten bytes owners sizes frame written free =
    map_range_same (λ h. storage_of bytes owners h (get_or sizes h 0))
    (λ h. storage_of (set bytes frame written) owners h (get_or sizes h 0)) 0 (length sizes)
    (λ h _ _. map_range_same (byte_at bytes owners h) (byte_at (set bytes frame written) owners h) 0
    (get_or sizes h 0 * 4096)
    (λ k _ _. unwritten_in bytes owners frame h k written (frame_of owners h (k / 4096)) refl free))

-- Writing the bytes of a frame writes the page that is in it, and nothing else.
pub storages-written : (bytes : List (List ℕ)) (owners : List (Option UserPage)) (sizes : List ℕ) (frame : ℕ)
    (page : UserPage) (written : List ℕ) → IsWhole bytes owners sizes → frame < length bytes
    → get_or owners frame None ≡ Some page →
    storages_of (set bytes frame written) owners sizes
    ≡ set (storages_of bytes owners sizes) page.user
    (put_page (get_or (storages_of bytes owners sizes) page.user []) page.page.0 written)
storages-written bytes owners sizes frame page written whole lt holds =
    let after = set bytes frame written in
    let stands = whole.once frame page holds in
    let small = whole.inside frame page holds in
    let user = page.user in
    let in_user : user < length sizes =
    elim (dec_lt user (length sizes))
    [ yes h ↦ h | no past ↦ let none = get_or_past sizes user 0 (omega arith) in absurd (omega arith) ] in
    let before = bytes_of-storages bytes owners sizes user in_user in
    let old = storage_of bytes owners user (get_or sizes user 0) in
    let here : storage_of after owners user (get_or sizes user 0) ≡ put_page old page.page.0 written =
    map_range_same (λ a. if (a / 4096) == page.page.0 then get_or written (a % 4096) 0 else get_or old a 0)
    (byte_at after owners user) 0 (get_or sizes user 0 * 4096)
    (λ k low high.
    let at : (b : Bool) → ((k / 4096) == page.page.0) ≡ b
    → byte_at after owners user k ≡ (if b then get_or written (k % 4096) 0 else get_or old k 0) = elim [
      | true ↦ λ b. (let q : k / 4096
          ≡ page.page.0 = grind (arith, nat_tests, b) in let there : frame_of owners user (k / 4096) ≡ Some frame =
          rw q stands in rw there (rw get_or-set_same refl))
      | false ↦ λ b. (let q : page.page.0 ≡ k / 4096 → ⊥ = (λ e. grind (arith, nat_tests, b)) in
          written_in bytes owners user page.page.0 frame user k written (frame_of owners user (k / 4096)) stands refl
          (λ _ e. q e) ∙ sym (get_or-storage_of bytes owners user (get_or sizes user 0) k (omega arith)))
    ] in
    at ((k / 4096) == page.page.0) refl)
    ∙ ap (λ n. map (λ a. if (a / 4096) == page.page.0 then get_or written (a % 4096) 0 else get_or old a 0)
    (range_with_len 0 n)) (sym (length-storage_of bytes owners user (get_or sizes user 0))) in
    rw before (map_range_set (λ h. storage_of bytes owners h (get_or sizes h 0))
    (λ h. storage_of after owners h (get_or sizes h 0)) 0 (length sizes) user
    (λ h ne. map_range_same (byte_at bytes owners h) (byte_at after owners h) 0 (get_or sizes h 0 * 4096)
    (λ k _ _. written_in bytes owners user page.page.0 frame h k written (frame_of owners h (k / 4096)) stands refl
    (λ e _. ne (omega arith))))
    ∙ ap (set (storages_of bytes owners sizes) user)
    (ap (λ h. storage_of after owners h (get_or sizes h 0)) (zero-add user) ∙ here))

-- the frames stay whole where a page is brought
pub whole-brought : (old new : List (List ℕ)) (owners : List (Option UserPage)) (sizes : List ℕ) (user page frame : ℕ)
    → IsWhole old owners sizes →
    length new ≡ length old → frame_of owners user page ≡ None → frame < length owners → get_or owners frame None ≡ None
    → page < get_or sizes user 0 →
    IsWhole new (set owners frame (Some (owned user page))) sizes
whole-brought old new owners sizes user page frame whole same nowhere within free small =
    let wanted : UserPage = owned user page in
    let here : (f : ℕ) → f ≡ frame
    → get_or (set owners frame (Some wanted)) f None ≡ Some wanted = λ f e. rw e (rw get_or-set_same refl) in
    let there : (f : ℕ) → f ≢ frame
    → get_or (set owners frame (Some wanted)) f None ≡ get_or owners f None = λ f e. rw get_or-set_other refl in
    record {
      room = rw (same, length-set) whole.room;
      small = whole.small;
      once = λ f p holds. elim (dec_eq f frame) [
        | yes e ↦ let is : wanted ≡ p =
            (let h = here f e in cc) in rw (← is)
            (frame_of-brought owners user page frame nowhere within ∙ ap Some (sym e))
        | no ne ↦ let was : get_or owners f None ≡ Some p = sym (there f ne) ∙ holds in
            let at = whole.once f p was in
            frame_of_other-brought owners user page frame p.user p.page.0 free
            (λ g q. let n : frame_of owners p.user p.page.0 ≡ None = rw (← g, ← q) nowhere in cc) ∙ at
      ];
      inside = λ f p holds. elim (dec_eq f frame) [
        | yes e ↦ let is : wanted ≡ p = (let h = here f e in cc) in rw (← is) small
        | no ne ↦ whole.inside f p (sym (there f ne) ∙ holds)
      ];
    }

kept-without : (user : ℕ) (o : Option UserPage) (p : UserPage) → without user o ≡ Some p
    → (user ≢ p.user) × (o ≡ Some p)
kept-without user None p e = cc
kept-without user (Some there) p e =
    let at : (b : Bool) → (there.user == user) ≡ b → cond b None (Some there) ≡ Some p
    → (user ≢ p.user) × (Some there ≡ Some p) = elim [
      | true ↦ λ t h. cc
      | false ↦ λ t h. let is : there ≡ p = cc in let g =
          ap (λ (x : UserPage). x.user) is in (λ e. grind (arith, nat_tests), h)
    ] in
    at (there.user == user) refl e

-- the frames stay whole where a user gives its frames back
pub whole-cleared : (bytes : List (List ℕ)) (owners : List (Option UserPage)) (sizes : List ℕ) (user : ℕ)
    → IsWhole bytes owners sizes → IsWhole bytes (cleared_of user owners) sizes
whole-cleared bytes owners sizes user whole =
    let was : (f : ℕ) (p : UserPage) → Holds (cleared_of user owners) f p
    → (user ≢ p.user) × Holds owners f p =
    λ f p holds. kept-without user (get_or owners f None) p (sym (get_or-map (without user) owners f None) ∙ holds)
    in
    record {
      room = rw length-map whole.room;
      small = whole.small;
      once = λ f p holds. frame_of_other-cleared owners user p.user p.page.0 (was f p holds).0 ∙ whole.once f p
          (was f p holds).1;
      inside = λ f p holds. whole.inside f p (was f p holds).1;
    }

-- at first no page is in a frame, and each user has zeros
pub frame_of-none : (user page frames : ℕ) → frame_of (replicate frames None) user page ≡ None
frame_of-none user page frames = none_from frames 0 where
  none_from : (n k : ℕ) → position_from (is_page user page) k (replicate n None) ≡ None
  none_from zero k = refl
  none_from (suc n) k = none_from n (k + 1)

-- While no page has a place, all storages are zeros.
pub storages-none : (bytes : List (List ℕ)) (frames : ℕ) (sizes : List ℕ)
    → storages_of bytes (replicate frames None) sizes ≡ map (λ pages. replicate (pages * 4096) 0) sizes
storages-none bytes frames sizes =
    let zeros : ℕ → List ℕ = λ pages. replicate (pages * 4096) 0 in
    map_range_same (λ h. zeros (get_or sizes h 0)) (λ h. storage_of bytes (replicate frames None) h (get_or sizes h 0))
    0 (length sizes)
    (λ h _ _. map_range_const (byte_at bytes (replicate frames None) h) 0 (get_or sizes h 0 * 4096)
    (λ k. ap (λ o. byte_in bytes o (k % 4096)) (frame_of-none h (k / 4096) frames)))
    ∙ sym (fill_by_all (λ h. zeros (get_or sizes h 0)) (map zeros sizes) (length sizes) (zeros 0)
    (length-map sizes zeros) (λ k lt. get_or-map zeros sizes k 0))

-- a page that is in no frame is all zero
pub absent-zero : (bytes : List (List ℕ)) (owners : List (Option UserPage)) (sizes : List ℕ) (user page : ℕ)
    → frame_of owners user page ≡ None → IsZeroPage (get_or (storages_of bytes owners sizes) user []) page
absent-zero bytes owners sizes user page nowhere address e =
    let storage = get_or (storages_of bytes owners sizes) user [] in
    elim (dec_lt address (length storage)) [
      | yes lt ↦ (let in_user = user_with bytes owners sizes user address lt in
          let there : frame_of owners user (address / 4096) ≡ None = rw e nowhere in
          rw (
            bytes_of-storages bytes owners sizes user in_user.0,
            get_or-storage_of bytes owners user (get_or sizes user 0) address in_user.1,
            there,
          ) refl)
      | no past ↦ get_or_past storage address 0 (omega arith)
    ]

written-view_at : (bytes : List (List ℕ)) (owners : List (Option UserPage)) (sizes : List ℕ) (frame : ℕ)
    (written : List ℕ) (supply : FrameSupply) (o : Option UserPage) → IsWhole bytes owners sizes
    → get_or owners frame None ≡ o →
    let before : Pool = record { storages = storages_of bytes owners sizes; supply = supply } in
    let after : Pool = record { storages = storages_of (set bytes frame written) owners sizes; supply = supply } in
    after ≡ written_page before o written
written-view_at bytes owners sizes frame written supply None whole is =
    ap (λ (ss : List (List ℕ)). let g : Pool = record { storages = ss; supply = supply } in g)
    (storages-unwritten bytes owners sizes frame written is)
written-view_at bytes owners sizes frame written supply (Some page) whole is =
    let lt : frame < length bytes =
    elim (dec_lt frame (length owners))
    [ yes h ↦ omega (arith, whole.room) | no past ↦ let none = get_or_past owners frame None (omega arith) in cc ]
    in
    ap (λ (ss : List (List ℕ)). let g : Pool = record { storages = ss; supply = supply } in g)
    (storages-written bytes owners sizes frame page written whole lt is)

-- the view after a write to a frame
pub written-view : (frames slots : List (List ℕ)) (owners slot_owners : List (Option UserPage)) (sizes : List ℕ)
    (frame : ℕ) (written : List ℕ) (supply : FrameSupply) → IsWhole (frames ++ slots) (owners ++ slot_owners) sizes →
    length frames ≡ length owners → supply.owners ≡ owners →
    let before : Pool = record {
      storages = storages_of (frames ++ slots) (owners ++ slot_owners) sizes;
      supply = supply;
    } in
    let after : Pool = record {
      storages = storages_of (set frames frame written ++ slots) (owners ++ slot_owners)
          sizes;
      supply = supply;
    } in
    after ≡ written_frame before frame written
written-view frames slots owners slot_owners sizes frame written supply whole room is =
    let before : Pool = record {
      storages = storages_of (frames ++ slots) (owners ++ slot_owners) sizes;
      supply = supply;
    } in
    let over : List (List ℕ)
    → Pool = λ bytes. record { storages = storages_of bytes (owners ++ slot_owners) sizes; supply = supply } in
    elim (dec_lt frame (length frames)) [
      | yes lt ↦ (let at : get_or (owners ++ slot_owners) frame None
          ≡ get_or supply.owners frame None =
          get_or_append_left owners slot_owners None frame (omega arith) ∙ ap
          (λ (os : List (Option UserPage)). get_or os frame None) (sym is) in
          ap over (sym (set-append_left frames slots frame written lt)) ∙ written-view_at (frames ++ slots)
          (owners ++ slot_owners) sizes frame written supply (get_or supply.owners frame None) whole at)
      | no past ↦ (let none : get_or supply.owners frame None
          ≡ None = ap (λ (os : List (Option UserPage)). get_or os frame None) is ∙ get_or_past owners frame None
          (omega arith) in
          ap (λ (fs : List (List ℕ)). over (fs ++ slots)) (set_past frames frame written (omega arith)) ∙ ap
          (λ o. written_page before o written) (sym none))
    ]

-- Bytes that are copied out and put back, and pages that come for that.
use Rattle.std.proofs.Common.{ℕ, ◌+◌, ◌-◌, ◌*◌, ◌/◌, ◌%◌, ◌<◌, ◌≤◌, ◌≡◌, ◌≢◌, ◌==◌, ◌⊎◌, ◌++◌, List}
use Rattle.std.proofs.Common.{[], ◌∷◌, Bool, true, false, Result, Ok}
use Rattle.std.proofs.Common.{Err, OnOk, OnErr, length, get_or, take, drop, replicate, refl, sym, ap, subst, ◌∙◌, inl}
use Rattle.std.proofs.Common.{inr, arith}
use Rattle.std.specs.Prelude.{slice_range, slice_index_or}
use Rattle.std.specs.Bool.{⊤}
use Rattle.std.proofs.lemmas.Bool.{cases_eq, cases_lt}
use Rattle.std.proofs.lemmas.List.{ext_get_or, get_or-append_right, get_or_append_left, length-take-le}
use Rattle.std.proofs.lemmas.List.{get_or-replicate}
use Rattle.std.proofs.lemmas.Grind.{common_steps}
use Rattle.s370_store.specs.Access.{put}
use Rattle.s370_store.specs.Memory.{Memory, with_stored}
use Rattle.s370_store.specs.declared.supply.FramesOut.{FramesOut}
use Rattle.s370_store.proofs.Puts.{length-put, put_before, put_after}
use Rattle.cp_frames.specs.Layout.{IsZeroPage}
use Rattle.cp_frames.specs.Paging.{IsRefused}
use Rattle.cp_dat.specs.declared.dat.Dat.{Dat}
use Rattle.cp_dat.specs.Copies.{AllAre, EachAre, CameOnly, StandAll, counted, is_wanted, times_among}
use Rattle.cp_dat.specs.Copies.{times_in}
use Rattle.cp_dat.specs.Lent.{KeepsStored, is_lent_page, lent_bytes, lent_keys, lent_memory, lent_pool, user_of}
use Rattle.cp_dat.specs.Lent.{keeps_rest_present, keeps_stored_same}
use Rattle.cp_dat.proofs.Counted.{apart_test, counted_once}
use Rattle.cp_dat.specs.Letting.{between_kept, came_none, came_on, let_go_came, let_go_out}
use Rattle.cp_dat.specs.Supplied.{HasNoRoom, IsBetweenUnits, Stands, Supplied, TakesPins}

-- ---- bytes
-- A byte among those that were put is that of them.
pub put_within : (bytes xs : List ℕ) (start a : ℕ) → start + length xs ≤ length bytes → start ≤ a
    → a < start + length xs
    → get_or (put bytes start xs) a 0 ≡ get_or xs (a - start) 0
unfolding put
put_within bytes xs start a h low high =
    let long : length (take start bytes) ≡ start = length-take-le start bytes (omega arith) in
    get_or-append_right (take start bytes) (xs ++ drop (length xs) (drop start bytes)) start a 0 long low ∙
    get_or_append_left xs (drop (length xs) (drop start bytes)) 0 (a - start) (omega arith)

-- A part has as many bytes as lie between its ends.
pub length-part : (xs : List ℕ) (start end : ℕ) → start ≤ end → end ≤ length xs
    → length (slice_range xs start end) ≡ end - start
length-part xs start end ordered inside = grind (arith, common_steps)

-- A byte of a part is that of the whole.
pub part_at : (xs : List ℕ) (start end k : ℕ) → start ≤ end → end ≤ length xs → k < end - start
    → get_or (slice_range xs start end) k 0 ≡ get_or xs (start + k) 0
part_at xs start end k ordered inside few = grind (arith, common_steps)

-- A chunk of 256 bytes has 256 bytes.
pub length-chunk : (xs : List ℕ) (start : ℕ) → start + 256 ≤ length xs
    → length (slice_range xs start (start + 256)) ≡ 256
length-chunk xs start inside = grind (arith, common_steps)

-- A byte of a chunk is that of the whole.
pub chunk_at : (xs : List ℕ) (start k : ℕ) → start + 256 ≤ length xs → k < 256
    → get_or (slice_range xs start (start + 256)) k 0 ≡ get_or xs (start + k) 0
chunk_at xs start k inside few = grind (arith, common_steps)

-- what has the bytes of a part is the part
pub is_chunk : (xs ys : List ℕ) (start : ℕ) → start + 256 ≤ length xs → length ys ≡ 256
    → ((k : ℕ) → k < 256 → get_or ys k 0 ≡ get_or xs (start + k) 0) → ys ≡ slice_range xs start (start + 256)
is_chunk xs ys start inside long same =
    ext_get_or 0 ys (slice_range xs start (start + 256)) (long ∙ sym (length-chunk xs start inside))
    (λ k lt. (let few : k < 256 = omega (arith, lt, long) in same k few ∙ sym (chunk_at xs start k inside few)))

pub zero_chunk : (xs ys : List ℕ) (start : ℕ) → start + 256 ≤ length xs → start % 256 ≡ 0 → IsZeroPage xs (start / 4096)
    → ys ≡ replicate 256 0 → ys ≡ slice_range xs start (start + 256)
zero_chunk xs ys start inside aligned zeros is =
    let long : length ys ≡ 256 = ap length is ∙ refl in
    is_chunk xs ys start inside long
    (λ k few. (let page : (start + k) / 4096
    ≡ start / 4096 = omega (arith, aligned, few) in ap (λ zs. get_or zs k 0) is ∙ get_or-replicate 256 k 0 0 few ∙
    sym (zeros (start + k) page)))

-- the bytes below are those of one list, the others of another
pub record IsPutTo (start : ℕ) (from old new : List ℕ) : Type 0 where
  pub size : length new ≡ length old
  pub below : (a : ℕ) → a < start → get_or new a 0 ≡ get_or from a 0
  pub above : (a : ℕ) → start ≤ a → get_or new a 0 ≡ get_or old a 0

pub put_none : (from old : List ℕ) → IsPutTo 0 from old old
put_none from old = record { size = refl; below = λ a low. absurd (omega (arith, low)); above = λ a low. refl }

pub put_part : (start : ℕ) (from old middle new : List ℕ) → length from ≡ length old → start + 256 ≤ length old
    → IsPutTo start from old middle → new ≡ put middle start (slice_range from start (start + 256))
    → IsPutTo (start + 256) from old new
put_part start from old middle new long inside before is =
    let part : List ℕ = slice_range from start (start + 256) in
    let size : length part ≡ 256 = length-chunk from start (omega (arith, long, inside)) in
    let same : length middle ≡ length old = before.size in
    let fits : start + length part ≤ length middle = omega (arith, same, size, inside) in
    record {
      size = ap length is ∙ length-put middle part start fits ∙ before.size;
      below = λ a low. (elim (cases_lt a start) [
        | inl under ↦ ap (λ xs. get_or xs a 0) is ∙ put_before middle part start a fits under ∙ before.below a under
        | inr over ↦ (let e : start + (a - start) ≡ a = omega (arith, over) in
            ap (λ xs. get_or xs a 0) is ∙ put_within middle part start a fits over (omega (arith, size, low)) ∙ chunk_at
            from start (a - start) (omega (arith, long, inside)) (omega (arith, low, over)) ∙ ap
            (λ k. get_or from k 0) e)
      ]);
      above = λ a high. ap (λ xs. get_or xs a 0) is ∙ put_after middle part start a fits (omega (arith, size, high)) ∙
          before.above a (omega (arith, high));
    }

pub put_same : (start end : ℕ) (from old new : List ℕ) → start ≤ end → IsPutTo start from old new
    → ((a : ℕ) → start ≤ a → a < end → get_or from a 0 ≡ get_or old a 0) → IsPutTo end from old new
put_same start end from old new ordered before same = record {
  size = before.size;
  below = λ a low. (elim (cases_lt a start) [
    | inl under ↦ before.below a under
    | inr over ↦ before.above a over ∙ sym (same a over low)
  ]);
  above = λ a high. before.above a (omega (arith, ordered, high));
}

-- When all bytes were put, the new bytes are those that were put.
pub put_all : (start : ℕ) (from old new : List ℕ) → length from ≡ length old → IsPutTo start from old new
    → length old ≤ start → new ≡ from
put_all start from old new long before all =
    let size : length new ≡ length old = before.size in
    ext_get_or 0 new from (size ∙ sym long) (λ a lt. before.below a (omega (arith, lt, size, all)))

-- the bytes of pages that are not wanted are the same
abbrev pub SameBeside : List Bool → List ℕ → List ℕ → Type 0
SameBeside wanted old new = (address : ℕ) → slice_index_or wanted (address / 4096) false ≡ false
    → get_or new address 0 ≡ get_or old address 0

-- the address of the page after that of an address
abbrev pub next_page : ℕ → ℕ
next_page start = (start / 4096 + 1) * 4096

pub unwanted_same : (wanted : List Bool) (start : ℕ) (old from : List ℕ)
    → slice_index_or wanted (start / 4096) false ≡ false → SameBeside wanted old from → (a : ℕ) → start ≤ a
    → a < next_page start → get_or from a 0 ≡ get_or old a 0
unwanted_same wanted start old from away other_users a low high =
    let page : a / 4096 ≡ start / 4096 = omega (arith, low, high) in
    other_users a (ap (λ k. slice_index_or wanted k false) page ∙ away)

-- ---- pages

-- what came in some units and then in others came as often as in both
times_on : (page : ℕ) (before after : List (List ℕ))
    → times_in page (before ++ after) ≡ times_in page before + times_in page after
times_on page [] after = (let none : times_in page [] ≡ 0 = refl in omega (arith, none))
times_on page (pages ∷ before) after =
    let rest : times_in page (before ++ after) ≡ times_in page before + times_in page after =
    times_on page before after in
    omega (arith, rest)

never_among : (P : ℕ → Type 0) (page : ℕ) (pages : List ℕ) → AllAre P pages → (P page → ⊥)
    → times_among page pages ≡ 0
never_among P page [] all none = refl
never_among P page (other ∷ pages) all none =
    let this : counted (other == page) ≡ 0 =
    apart_test (other == page) other page refl (λ same. none (subst P same all.0)) in
    let rest : times_among page pages ≡ 0 = never_among P page pages all.1 none in
    omega (arith, this, rest)

-- a page that is not such never came
never : (P : ℕ → Type 0) (page : ℕ) (units : List (List ℕ)) → EachAre P units → (P page → ⊥)
    → times_in page units ≡ 0
never P page [] each none = refl
never P page (pages ∷ units) each none =
    let this : times_among page pages ≡ 0 = never_among P page pages each.0 none in
    let rest : times_in page units ≡ 0 = never P page units each.1 none in
    omega (arith, this, rest)

such_among : (P : ℕ → Type 0) (page : ℕ) (pages : List ℕ) → AllAre P pages → 0 < times_among page pages → P page
such_among P page [] all some = absurd (omega (arith, some))
such_among P page (other ∷ pages) all some = elim (cases_eq other page) [
  | inl same ↦ subst P same all.0
  | inr apart ↦ (let this : counted (other == page) ≡ 0 = apart_test (other == page) other page refl apart in
      such_among P page pages all.1 (omega (arith, this, some)))
]

-- a page that came is such
some_such : (P : ℕ → Type 0) (page : ℕ) (units : List (List ℕ)) → EachAre P units → 0 < times_in page units → P page
some_such P page [] each some = absurd (omega (arith, some))
some_such P page (pages ∷ units) each some = elim (cases_lt 0 (times_among page pages)) [
  | inl here ↦ such_among P page pages each.0 here
  | inr none ↦ some_such P page units each.1 (omega (arith, none, some))
]

module _ (s t u : Dat) (page : ℕ) where
  pub out_told : (r : Result ⊤ FramesOut) → IsBetweenUnits (lent_pool s).supply → OnErr r (Supplied s [] t)
      → OnErr r (IsRefused (lent_pool t).supply (user_of t) page) → TakesPins t u
      → OnErr r (HasNoRoom (lent_pool u).supply (user_of u) page)
  out_told (Ok _) between refused short let_go = tt
  out_told (Err e) between refused short let_go = let_go_out s t u [] page between refused (omega arith) short let_go

  pub came_told : (r : Result ⊤ FramesOut) → OnOk r (Supplied s (page ∷ []) t) → OnErr r (Supplied s [] t)
      → TakesPins t u → lent_keys u ≡ lent_keys s → CameOnly s (λ other. other ≡ page) 1 u
  came_told (Ok _) brought refused let_go keys =
      record {
        units = (page ∷ []) ∷ [];
        paged_in = let_go_came s t u (page ∷ []) brought let_go;
        only = ((refl, tt), tt);
        often = λ other. (let once : counted (page == other) ≤ 1 = counted_once (page == other) in
            omega (arith, once));
        keys = keys;
      }
  came_told (Err e) brought refused let_go keys =
      record {
        units = [] ∷ [];
        paged_in = let_go_came s t u [] refused let_go;
        only = (tt, tt);
        often = λ other. omega arith;
        keys = keys;
      }

-- If storage stays, no page came.
pub came_nothing : (s t : Dat) (is_such : ℕ → Type 0) (n : ℕ) → IsBetweenUnits (lent_pool s).supply → KeepsStored s t
    → CameOnly s is_such n t
came_nothing s t is_such n between kept = record {
  units = [];
  paged_in = came_none s t 0 between kept.rest;
  only = tt;
  often = λ page. omega arith;
  keys = kept.keys;
}

all_such : (P Q : ℕ → Type 0) → ((page : ℕ) → P page → Q page) → (pages : List ℕ) → AllAre P pages → AllAre Q pages
all_such P Q more [] all = tt
all_such P Q more (page ∷ pages) all = (more page all.0, all_such P Q more pages all.1)

each_such : (P Q : ℕ → Type 0) → ((page : ℕ) → P page → Q page) → (units : List (List ℕ)) → EachAre P units
    → EachAre Q units
each_such P Q more [] all = tt
each_such P Q more (pages ∷ units) all = (all_such P Q more pages all.0, each_such P Q more units all.1)

each_on : (P : ℕ → Type 0) (before after : List (List ℕ)) → EachAre P before → EachAre P after
    → EachAre P (before ++ after)
each_on P [] after a b = b
each_on P (pages ∷ before) after a b = (a.0, each_on P before after a.1 b)

-- Pages that come after others are all such pages, and each comes as often as both say.
pub came_more : (s t u : Dat) (P Q : ℕ → Type 0) (n m : ℕ) → ((page : ℕ) → P page → Q page) → CameOnly s Q n t
    → CameOnly t P m u → CameOnly s Q (n + m) u
came_more s t u P Q n m more a b = record {
  units = a.units ++ b.units;
  paged_in = came_on s t u a.units b.units a.paged_in b.paged_in;
  only = each_on Q a.units b.units a.only (each_such P Q more b.units b.only);
  often = λ page. (let both = times_on page a.units b.units in
      let first = a.often page in
      let second = b.often page in
      omega (arith, both, first, second));
  keys = b.keys ∙ a.keys;
}

-- What came at most so often came at most more often.
pub came_fewer : (s t : Dat) (P Q : ℕ → Type 0) (n m : ℕ) → ((page : ℕ) → P page → Q page) → n ≤ m
    → CameOnly s P n t → CameOnly s Q m t
came_fewer s t P Q n m more few a = record {
  units = a.units;
  paged_in = a.paged_in;
  only = each_such P Q more a.units a.only;
  often = λ page. (let once = a.often page in omega (arith, few, once));
  keys = a.keys;
}

few_of_one : (n m k : ℕ) → n ≤ 1 → m ≤ 1 → (n ≡ 0) ⊎ (m ≡ 0) → k ≡ n + m → k ≤ 1
few_of_one n m k first second (inl none) both = omega (arith, none, second, both)
few_of_one n m k first second (inr none) both = omega (arith, none, first, both)

-- pages that came once, and others than these that came once after them
came_apart : (s t u : Dat) (P R Q : ℕ → Type 0) → ((page : ℕ) → P page → Q page) → ((page : ℕ) → R page → Q page)
    → ((page : ℕ) → P page → R page → ⊥) → CameOnly s P 1 t → CameOnly t R 1 u → CameOnly s Q 1 u
came_apart s t u P R Q first second apart a b = record {
  units = a.units ++ b.units;
  paged_in = came_on s t u a.units b.units a.paged_in b.paged_in;
  only = each_on Q a.units b.units (each_such P Q first a.units a.only) (each_such R Q second b.units b.only);
  often = λ page. (let both = times_on page a.units b.units in
      let before = a.often page in
      let after = b.often page in
      few_of_one (times_in page a.units) (times_in page b.units) (times_in page (a.units ++ b.units)) before after
      (elim (cases_lt 0 (times_in page a.units)) [
        | inl some ↦ inr (never R page b.units b.only
            (λ such. apart page (some_such P page a.units a.only some) such))
        | inr none ↦ inl (omega (arith, none))
      ]) both);
  keys = b.keys ∙ a.keys;
}

-- what is somewhere goes on standing somewhere
pub stands_on : (s t : Dat) (is_such : ℕ → Type 0) (n page : ℕ) → CameOnly s is_such n t
    → Stands (lent_pool s).supply (user_of s) page → Stands (lent_pool t).supply (user_of t) page
stands_on s t is_such n page c stands =
    subst (λ (user : ℕ). Stands (lent_pool t).supply user page) (sym c.paged_in.kept.same_user)
    (c.paged_in.brought.brought.kept (user_of s) page stands)

-- ---- where pages are placed, and bytes put back
pub wanted_page : (wanted : List Bool) (page : ℕ) → slice_index_or wanted page false ≡ true → (other : ℕ) → other ≡ page
    → is_wanted wanted other
wanted_page wanted page it other same = ap (λ k. slice_index_or wanted k false) same ∙ it

-- one more page has its place
pub placed_on : (s t : Dat) (is_such : ℕ → Type 0) (wanted : List Bool) (n page : ℕ) → CameOnly s is_such n t
    → ((k : ℕ) → k < page → is_wanted wanted k → Stands (lent_pool s).supply (user_of s) k)
    → (is_wanted wanted page → Stands (lent_pool t).supply (user_of t) page) → (k : ℕ) → k < page + 1
    → is_wanted wanted k → Stands (lent_pool t).supply (user_of t) k
placed_on s t is_such wanted n page paged_in before this k low it =
    elim (cases_lt k page) [
      | inl under ↦ stands_on s t is_such n k paged_in (before k under it)
      | inr over ↦ (let same : k ≡ page = omega (arith, low, over) in
          subst (λ (i : ℕ). Stands (lent_pool t).supply (user_of t) i) (sym same)
          (this (ap (λ i. slice_index_or wanted i false) (sym same) ∙ it)))
    ]

pub stand_on : (s t : Dat) (is_such : ℕ → Type 0) (wanted : List Bool) (n : ℕ) → CameOnly s is_such n t
    → StandAll s wanted → StandAll t wanted
stand_on s t is_such wanted n paged_in all page it = stands_on s t is_such n page paged_in (all page it)

-- a wanted page below this one
abbrev pub wanted_below : List Bool → ℕ → ℕ → Type 0
wanted_below wanted page other = is_wanted wanted other × other < page

-- each wanted page below this one has its place, and only such have come, each once
pub record IsPlacedTo (old : Dat) (wanted : List Bool) (page : ℕ) (new : Dat) : Type 0 where
  pub few : page ≤ length wanted
  pub stand : (k : ℕ) → k < page → is_wanted wanted k → Stands (lent_pool new).supply (user_of new) k
  pub paged_in : CameOnly old (wanted_below wanted page) 1 new
  pub between : IsBetweenUnits (lent_pool new).supply
  pub memory : lent_memory new ≡ lent_memory old

-- Before the first page none is placed.
pub placed_none : (old : Dat) (wanted : List Bool) → IsBetweenUnits (lent_pool old).supply → IsPlacedTo old wanted 0 old
placed_none old wanted between = record {
  few = omega arith;
  stand = λ k low it. absurd (omega (arith, low));
  paged_in = came_nothing old old (wanted_below wanted 0) 1 between (keeps_stored_same old);
  between = between;
  memory = refl;
}

-- one more wanted page has come, once
pub placed_once : (old : Dat) (wanted : List Bool) (page : ℕ) (middle new : Dat)
    → slice_index_or wanted page false ≡ true → IsPlacedTo old wanted page middle
    → CameOnly middle (λ other. other ≡ page) 1 new → CameOnly old (wanted_below wanted (page + 1)) 1 new
placed_once old wanted page middle new it before paged_in =
    came_apart old middle new (wanted_below wanted page) (λ other. other ≡ page) (wanted_below wanted (page + 1))
    (λ other below. (below.0, (let under = below.1 in omega (arith, under))))
    (λ other same. (wanted_page wanted page it other same, omega (arith, same)))
    (λ other below same. (let under = below.1 in omega (arith, under, same))) before.paged_in paged_in

-- the wanted pages below one are wanted pages
pub placed_wanted : (old : Dat) (wanted : List Bool) (page : ℕ) (new : Dat)
    → CameOnly old (wanted_below wanted page) 1 new → CameOnly old (is_wanted wanted) 1 new
placed_wanted old wanted page new paged_in =
    came_fewer old new (wanted_below wanted page) (is_wanted wanted) 1 1 (λ other below. below.0) (omega arith) paged_in

-- One more wanted page that was brought is placed.
pub placed_page : (old : Dat) (wanted : List Bool) (page : ℕ) (middle new : Dat) → page < length wanted
    → slice_index_or wanted page false ≡ true → IsPlacedTo old wanted page middle
    → is_lent_page new page ≡ true → CameOnly middle (λ other. other ≡ page) 1 new
    → IsBetweenUnits (lent_pool new).supply
    → lent_memory new ≡ lent_memory middle → IsPlacedTo old wanted (page + 1) new
placed_page old wanted page middle new low it before there paged_in between memory = record {
  few = omega (arith, low);
  stand = placed_on middle new (λ other. other ≡ page) wanted 1 page paged_in before.stand (λ _. inl there);
  paged_in = placed_once old wanted page middle new it before paged_in;
  between = between;
  memory = memory ∙ before.memory;
}

differ : {b : Bool} → b ≡ false → b ≡ true → ⊥
differ away there = cc

-- A page that is not wanted is passed.
pub placed_by : (old : Dat) (wanted : List Bool) (page : ℕ) (new : Dat) → page < length wanted
    → slice_index_or wanted page false ≡ false → IsPlacedTo old wanted page new → IsPlacedTo old wanted (page + 1) new
placed_by old wanted page new low away before = record {
  few = omega (arith, low);
  stand = λ k under it. (elim (cases_lt k page) [
    | inl below ↦ before.stand k below it
    | inr over ↦ (let same : k ≡ page = omega (arith, under, over) in
        absurd (differ away (ap (λ i. slice_index_or wanted i false) (sym same) ∙ it)))
  ]);
  paged_in = came_fewer old new (wanted_below wanted page) (wanted_below wanted (page + 1)) 1 1
      (λ other below. (below.0, (let under = below.1 in omega (arith, under)))) (omega arith) before.paged_in;
  between = before.between;
  memory = before.memory;
}

-- a wanted page below this address
abbrev pub put_below : List Bool → ℕ → ℕ → Type 0
put_below wanted start page = is_wanted wanted page × page * 4096 < start

-- the bytes below this address are put back, and only wanted pages below it have come, each once
pub record IsBackTo (old : Dat) (from : List ℕ) (wanted : List Bool) (start : ℕ) (new : Dat) : Type 0 where
  pub aligned : start % 256 ≡ 0
  pub few : start ≤ length (lent_bytes old)
  pub put : IsPutTo start from (lent_bytes old) (lent_bytes new)
  pub stand : StandAll new wanted
  pub there : start % 4096 ≢ 0 → is_wanted wanted (start / 4096) → is_lent_page new (start / 4096) ≡ true
  pub paged_in : CameOnly old (put_below wanted start) 1 new
  pub between : IsBetweenUnits (lent_pool new).supply

-- Before the first page none is copied back.
pub back_none : (old : Dat) (from : List ℕ) (wanted : List Bool) → StandAll old wanted
    → IsBetweenUnits (lent_pool old).supply → IsBackTo old from wanted 0 old
back_none old from wanted stand between = record {
  aligned = refl;
  few = omega arith;
  put = put_none from (lent_bytes old);
  stand = stand;
  there = λ inner. absurd (inner refl);
  paged_in = came_nothing old old (put_below wanted 0) 1 between (keeps_stored_same old);
  between = between;
}

-- the wanted pages below an address are wanted pages
pub back_wanted : (old : Dat) (wanted : List Bool) (start : ℕ) (new : Dat)
    → CameOnly old (put_below wanted start) 1 new → CameOnly old (is_wanted wanted) 1 new
back_wanted old wanted start new paged_in =
    came_fewer old new (put_below wanted start) (is_wanted wanted) 1 1 (λ page below. below.0) (omega arith) paged_in

put_further : (wanted : List Bool) (start page : ℕ) → put_below wanted start page → put_below wanted (start + 256) page
put_further wanted start page below = (below.0, (let under = below.1 in omega (arith, under)))

put_first : (wanted : List Bool) (start : ℕ) → is_wanted wanted (start / 4096) → (page : ℕ) → page * 4096 ≡ start
    → put_below wanted (start + 256) page
put_first wanted start it page same =
    let here : page ≡ start / 4096 = omega (arith, same) in
    (ap (λ k. slice_index_or wanted k false) here ∙ it, omega (arith, same))

module _ (old : Dat) (from : List ℕ) (wanted : List Bool) (start : ℕ) (middle : Dat)
    (whole : length (lent_bytes old) % 4096 ≡ 0) (low : start < length (lent_bytes old))
    (long : length from ≡ length (lent_bytes old)) (before : IsBackTo old from wanted start middle) where
  pub inside : start + 256 ≤ length (lent_bytes old)
  inside = let aligned = before.aligned in omega (arith, aligned, whole, low)

  same_page : (start + 256) % 4096 ≢ 0 → (start + 256) / 4096 ≡ start / 4096
  same_page inner = let aligned = before.aligned in omega (arith, aligned, inner)

  -- A page that is not wanted is passed.
  pub back_past : SameBeside wanted (lent_bytes old) from → slice_index_or wanted (start / 4096) false ≡ false
      → IsBackTo old from wanted (next_page start) middle
  back_past other_users away = record {
    aligned = omega arith;
    few = omega (arith, whole, low);
    put = put_same start (next_page start) from (lent_bytes old) (lent_bytes middle) (omega arith) before.put
        (unwanted_same wanted start (lent_bytes old) from away other_users);
    stand = before.stand;
    there = λ inner. absurd (inner (omega arith));
    paged_in = came_fewer old middle (put_below wanted start) (put_below wanted (next_page start)) 1 1
        (λ page below. (below.0, (let under = below.1 in omega (arith, under)))) (omega arith) before.paged_in;
    between = before.between;
  }

  pub back_on : (fetched new : Dat) → slice_index_or wanted (start / 4096) false ≡ true
      → CameOnly middle (λ page. page * 4096 ≡ start) 1 fetched → is_lent_page fetched (start / 4096) ≡ true
      → IsBetweenUnits (lent_pool fetched).supply
      → lent_memory fetched ≡ lent_memory middle
      → KeepsStored fetched new
      → lent_memory new ≡ with_stored (lent_memory fetched) start (slice_range from start (start + 256))
      → IsBackTo old from wanted (start + 256) new
  back_on fetched new it paged_in here between same kept stored =
      let First : ℕ → Type 0 = λ page. page * 4096 ≡ start in
      let all : CameOnly middle First 1 new =
      came_more middle fetched new (λ page. ⊥) First 1 0 (λ page none. absurd none) paged_in
      (came_nothing fetched new (λ page. ⊥) 0 between kept) in
      let aligned = before.aligned in
      record {
        aligned = omega (arith, aligned);
        few = inside;
        put = put_part start from (lent_bytes old) (lent_bytes middle) (lent_bytes new) long inside before.put
            (ap (λ (m : Memory). m.bytes)
            (stored ∙ ap (λ (m : Memory). with_stored m start (slice_range from start (start + 256))) same));
        stand = stand_on middle new First wanted 1 all before.stand;
        there = λ inner wants. ap (λ k. is_lent_page new k) (same_page inner) ∙
            ap (λ (is : ℕ → Bool). is (start / 4096)) (keeps_rest_present fetched new kept.rest) ∙ here;
        paged_in = came_apart old middle new (put_below wanted start) First (put_below wanted (start + 256))
            (put_further wanted start) (put_first wanted start it)
            (λ page below is. (let under = below.1 in omega (arith, is, under))) before.paged_in all;
        between = between_kept fetched new kept.rest between;
      }

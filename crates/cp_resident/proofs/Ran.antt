-- What programs of a user's devices leave: those whose pages are held, and those that were tried.
use Rattle.std.proofs.Common.{◌≡◌, ◌∙◌, ap, sym, subst, ℕ, ◌*◌, ◌<◌, ◌≤◌, List, []}
use Rattle.std.proofs.Common.{◌∷◌, ◌++◌, length, refl, Option, None}
use Rattle.std.proofs.Common.{Some, Result, Ok, Err, arith, inl, inr}
use Rattle.std.specs.Prelude.{IfErr, IfOk, OnOk, slice_get}
use Rattle.std.proofs.lemmas.Option.{slice_get_cases}
use Rattle.s370_channel.specs.declared.words.Caw.{Caw}
use Rattle.s370_store.specs.declared.Page.{Page}
use Rattle.s370_store.specs.Memory.{Memory}
use Rattle.machine_channels.specs.Disks.{DiskAt}
use Rattle.cp_trial.specs.Holding.{HoldNeeds, IsFixedProgram}
use Rattle.cp_needs.specs.declared.kept.WordAt.{WordAt}
use Rattle.cp_volumes.specs.Running.{DiskLoadTouches, DiskTouches}
use Rattle.s370_channel.specs.declared.running.ChannelError.{ChannelError}
use Rattle.s370_channel.specs.declared.running.ChannelError.TheVariants as errors
use Rattle.s370_channel.specs.Supplied.{AllSuch}
use Rattle.s370_walk.specs.declared.parts.Ending.{Ending}
use Rattle.machine_channels.specs.Channels.{Brings, DiskLoads, DiskNeeds, WhereOut}
use Rattle.cp_dat.specs.declared.dat.Dat.{Dat}
use Rattle.cp_dat.specs.Bringing.{supplied_none, supplied_on}
use Rattle.cp_dat.specs.Copies.{CameOnly, times_among, times_in}
use Rattle.cp_dat.specs.Lent.{KeepsStored, is_lent_page, lent_bytes, lent_memory, lent_pool, user_of}
use Rattle.cp_dat.specs.Letting.{let_go_between, let_go_came}
use Rattle.cp_dat.specs.Supplied.{IsBetweenUnits, Supplied, TakesPins}
use Rattle.cp_dat.proofs.Once.{comes_once, distinct_once}
use Rattle.cp_frames.specs.Paging.{IsRefused}
use Rattle.cp_trial.specs.declared.DryRunError.{DryRunError}
use Rattle.cp_trial.specs.declared.DryRunError.TheVariants as tries
use Rattle.cp_trial.specs.DryRun.{LacksSuch}
use Rattle.cp_resident.specs.GuestChannels.{PagedIn, came_further, came_nowhere, told_by, error_of}
use Rattle.cp_resident.proofs.Refused.{each_for, no_room, room_of}

-- ---- lack of memory alone

-- A run that is out of memory lacks no page.
pub memory_whole : {E : Type 0} (r : Result E ChannelError) (size : ℕ) (Needs Out : ℕ → Type 0) (P : Type 0)
    → IfErr r (λ error. error ≡ errors.Memory) → IfErr r (WhereOut size Needs Out P)
memory_whole (Ok ending) size Needs Out P is = tt
memory_whole (Err error) size Needs Out P is = subst (λ (e : ChannelError). WhereOut size Needs Out P e) (sym is) tt

-- ---- nothing was brought

-- If storage stays, no page is brought.
pub still_came : (n : ℕ) (d0 d1 : Dat) (Needs : ℕ → Type 0) → IsBetweenUnits (lent_pool d0).supply
    → KeepsStored d0 d1 → Brings (PagedIn n) d0 Needs d1
still_came n d0 d1 Needs between kept = ([], came_further n d0 d0 d1 [] (came_nowhere n d0 between) kept, tt)

-- ---- pages that were held

-- pages that came for one unit came once each
once_in : (pages : List ℕ) (d0 d1 : Dat) → Supplied d0 pages d1 → (page : ℕ) → times_in page (pages ∷ []) ≤ 2
once_in pages d0 d1 supplied page =
    let once : times_among page pages ≤ 1 =
    distinct_once page pages (comes_once (user_of d0) pages (lent_pool d0).supply (lent_pool d1).supply
    supplied.paged.page_ins_are) in
    omega (arith, once)

such_on : (P : ℕ → Type 0) (first second : List ℕ) → AllSuch P first → AllSuch P second → AllSuch P (first ++ second)
such_on P [] second a b = b
such_on P (page ∷ first) second a b = (a.0, such_on P first second a.1 b)

such_for : (P Q : ℕ → Type 0) → ((page : ℕ) → P page → Q page) → (pages : List ℕ) → AllSuch P pages → AllSuch Q pages
such_for P Q more [] all = tt
such_for P Q more (page ∷ pages) all = (more page all.0, such_for P Q more pages all.1)

-- Pages that were locked are pages that the program needs.
pub held_came : (d0 d1 d2 d3 : Dat) (Holds Needs : ℕ → Type 0) → ((page : ℕ) → Holds page → Needs page)
    → ((pages : List ℕ) × Supplied d0 pages d1 × AllSuch Holds pages) → lent_memory d1 ≡ lent_memory d0
    → KeepsStored d1 d2 → TakesPins d2 d3 → lent_memory d3 ≡ lent_memory d2
    → Brings (PagedIn 2) d0 Needs d3
held_came d0 d1 d2 d3 Holds Needs more held first kept taken last =
    let pages = held.0 ++ [] in
    let supplied : Supplied d0 pages d2 = supplied_on d0 d1 d2 held.0 [] held.1 (supplied_none d1 d2 kept.rest) in (
      pages ∷ [],
      record {
        paged_in = let_go_came d0 d2 d3 pages supplied taken;
        often = once_in pages d0 d2 supplied;
        keys = ap (λ (m : Memory). m.keys) last ∙ kept.keys ∙ ap (λ (m : Memory). m.keys) first;
      },
      (such_on Needs held.0 [] (such_for Holds Needs more held.0 held.2) tt, tt),
    )

-- After pages were locked and taken back the pool lies between two units.
pub held_between : (d0 d1 d2 d3 : Dat) (Holds : ℕ → Type 0)
    → ((pages : List ℕ) × Supplied d0 pages d1 × AllSuch Holds pages) → IsBetweenUnits (lent_pool d0).supply
    → KeepsStored d1 d2 → TakesPins d2 d3 → IsBetweenUnits (lent_pool d3).supply
held_between d0 d1 d2 d3 Holds held between kept taken =
    let_go_between d0 d2 d3 (held.0 ++ []) between
    (supplied_on d0 d1 d2 held.0 [] held.1 (supplied_none d1 d2 kept.rest)) taken

-- ---- pages that were to be held, for one of which there was no room

-- Pages that came before a refusal are pages that the program needs.
pub refused_came : (d0 d1 d2 : Dat) (Holds Needs : ℕ → Type 0) → ((page : ℕ) → Holds page → Needs page)
    → ((pages : List ℕ) × Supplied d0 pages d1 × AllSuch Holds pages) → lent_memory d1 ≡ lent_memory d0
    → TakesPins d1 d2 → lent_memory d2 ≡ lent_memory d1
    → Brings (PagedIn 2) d0 Needs d2
refused_came d0 d1 d2 Holds Needs more held first taken last = (
  held.0 ∷ [],
  record {
    paged_in = let_go_came d0 d1 d2 held.0 held.1 taken;
    often = once_in held.0 d0 d1 held.1;
    keys = ap (λ (m : Memory). m.keys) (last ∙ first);
  },
  (such_for Holds Needs more held.0 held.2, tt),
)

-- After a refusal the pool lies between two units.
pub refused_between : (d0 d1 d2 : Dat) (Holds : ℕ → Type 0)
    → ((pages : List ℕ) × Supplied d0 pages d1 × AllSuch Holds pages) → IsBetweenUnits (lent_pool d0).supply
    → TakesPins d1 d2 → IsBetweenUnits (lent_pool d2).supply
refused_between d0 d1 d2 Holds held between taken = let_go_between d0 d1 d2 held.0 between held.1 taken

-- A refusal for want of frames names a page that the program needs and that is absent.
pub refused_whole : (error : DryRunError) (d0 d1 d2 : Dat) (Holds Needs : ℕ → Type 0) (P : Type 0)
    → ((page : ℕ) → Holds page → Needs page) → ((page : ℕ) → Holds page → page * 4096 < length (lent_bytes d0))
    → IsBetweenUnits (lent_pool d0).supply → ((pages : List ℕ) × Supplied d0 pages d1 × AllSuch Holds pages)
    → TakesPins d1 d2
    → (error ≡ tries.FramesOut → (page : ℕ) × Holds page × IsRefused (lent_pool d1).supply (user_of d1) page) → P
    → WhereOut (length (lent_bytes d0)) Needs (no_room d2 Needs) P (error_of error)
refused_whole tries.Memory d0 d1 d2 Holds Needs P more inside between held taken out p = tt
refused_whole tries.FramesOut d0 d1 d2 Holds Needs P more inside between held taken out p =
    let o = out refl in (
      record {
        page = o.0;
        inside = inside o.0 o.1;
        needed = more o.0 o.1;
        out = room_of d0 d1 d2 held.0 Needs o.0 between held.1 (such_for Holds Needs more held.0 held.2) o.2 taken;
      },
      p,
    )

-- ---- pages that were touched

-- Pages that a dry run brought are pages that the program needs.
pub tried_came : (n m : ℕ) (d0 d1 : Dat) (Touched Needs : ℕ → Type 0) → ((page : ℕ) → Touched page → Needs page)
    → n ≤ m → CameOnly d0 Touched n d1 → Brings (PagedIn m) d0 Needs d1
tried_came n m d0 d1 Touched Needs more few paged_in = (
  paged_in.units,
  record {
    paged_in = paged_in.paged_in;
    often = λ page. (let often = paged_in.often page in omega (arith, few, often));
    keys = paged_in.keys;
  },
  each_for Touched Needs more paged_in.units paged_in.only,
)

-- A dry run that is out of frames lacks a page that the program touches.
pub tried_whole : (ran : Result Ending DryRunError) (d0 d1 : Dat) (Touched Needs : ℕ → Type 0) (P : Type 0)
    → ((page : ℕ) → Touched page → Needs page) → length (lent_bytes d1) ≡ length (lent_bytes d0)
    → (ran ≡ Err tries.FramesOut → LacksSuch Touched d1) → (ran ≡ Err tries.FramesOut → P)
    → IfErr (told_by ran) (WhereOut (length (lent_bytes d0)) Needs (no_room d1 Needs) P)
tried_whole (Ok ending) d0 d1 Touched Needs P more size lacking same = tt
tried_whole (Err tries.Memory) d0 d1 Touched Needs P more size lacking same = tt
tried_whole (Err tries.FramesOut) d0 d1 Touched Needs P more size lacking same =
    let l = lacking refl in (
      record {
        page = l.page;
        inside = subst (λ (n : ℕ). l.page * 4096 < n) size l.inside;
        needed = more l.page l.such;
        out = inl l.out;
      },
      same refl,
    )

-- What holds of a dry run's end holds of the end that it reports.
pub tried_walk : (ran : Result Ending DryRunError) (P : Ending → Type 0) → IfOk ran P → IfOk (told_by ran) P
tried_walk (Ok ending) P p = p
tried_walk (Err error) P p = tt

-- one that does not run, for lack of memory or of room
pub stopped_whole : (error : DryRunError) (d0 d1 : Dat) (Touched Needs : ℕ → Type 0) (P : Type 0)
    → ((page : ℕ) → Touched page → Needs page) → length (lent_bytes d1) ≡ length (lent_bytes d0)
    → (error ≡ tries.FramesOut → LacksSuch Touched d1) → (error ≡ tries.FramesOut → P)
    → WhereOut (length (lent_bytes d0)) Needs (no_room d1 Needs) P (error_of error)
stopped_whole tries.Memory d0 d1 Touched Needs P more size lacking same = tt
stopped_whole tries.FramesOut d0 d1 Touched Needs P more size lacking same =
    let l = lacking refl in (
      record {
        page = l.page;
        inside = subst (λ (n : ℕ). l.page * 4096 < n) size l.inside;
        needed = more l.page l.such;
        out = inl l.out;
      },
      same refl,
    )

-- ---- the same bytes and keys

-- a walk between two storages is one between storages that are as they are
pub walk_moved : (r : Result Ending ChannelError) (W : Memory → Memory → Ending → Type 0) (m0 m1 m2 m3 : Memory)
    → m1 ≡ m0 → m3 ≡ m2 → IfOk r (W m1 m2) → IfOk r (W m0 m3)
walk_moved r W m0 m1 m2 m3 first last walk =
    subst (λ (m : Memory). IfOk r (W m0 m)) (sym last) (subst (λ (m : Memory). IfOk r (W m m2)) first walk)

-- A fixed program stays one at an equal address and in equal storage.
pub fixed_there : (old new : Dat) (a b : ℕ) (words : List WordAt) (pages : List Page)
    → lent_memory new ≡ lent_memory old → a ≡ b
    → IsFixedProgram (lent_memory old) a (is_lent_page new) words pages
    → IsFixedProgram (lent_memory new) b (is_lent_page new) words pages
fixed_there old new a b words pages same at fixed =
    subst (λ (m : Memory). IsFixedProgram m b (is_lent_page new) words pages) (sym same)
    (subst (λ (n : ℕ). IsFixedProgram (lent_memory old) n (is_lent_page new) words pages) at fixed)

-- ---- disks

pub disk_there : (disks : List DiskAt) (index : ℕ) → index < length disks → slice_get disks index ≡ None → ⊥
disk_there disks index inside none = elim (slice_get_cases disks index).1 [
  | inl here ↦ (let some = here.2 in cc)
  | inr past ↦ (let over = past.0 in omega (arith, inside, over))
]

pub disk_holds : (o : Option DiskAt) (start : Caw) (m : Memory) (page : ℕ) → (o ≡ None → ⊥)
    → HoldNeeds m start.address page → DiskNeeds HoldNeeds start m o page
disk_holds None start m page none it = absurd (none refl)
disk_holds (Some disk) start m page none it = inl it

pub disk_touches : (o : Option DiskAt) (start : Caw) (m : Memory) (page : ℕ) → DiskTouches start m o page
    → DiskNeeds HoldNeeds start m o page
disk_touches None start m page it = it
disk_touches (Some disk) start m page it = inr it

pub disk_loads : (o : Option DiskAt) (m : Memory) (page : ℕ) → DiskLoadTouches m o page → DiskLoads m o page
disk_loads None m page it = it
disk_loads (Some disk) m page it = inr it

pub disk_first : (o : Option DiskAt) (m : Memory) (page : ℕ) → (o ≡ None → ⊥) → page ≡ 0 → DiskLoads m o page
disk_first None m page none it = absurd (none refl)
disk_first (Some disk) m page none it = inl it

-- What holds on the end of a dry run holds on the end that it reports.
pub tried_there : (ran : Result Ending DryRunError) (P : Type 0) → OnOk ran P → OnOk (told_by ran) P
tried_there (Ok ending) P p = p
tried_there (Err error) P p = tt

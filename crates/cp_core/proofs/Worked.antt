-- What is done with a machine while its storage is borrowed, by what its own calls leave.
use Rattle.std.proofs.Common.{◌≡◌, ◌∙◌, MutBor, ap, sym, subst, ℕ, Bool, true, false, List, [], ◌∷◌, ◌++◌, ◌*◌, ◌<◌}
use Rattle.std.proofs.Common.{length, replicate, refl, Option, None, Some, Result, Ok, Err, inl, inr}
use Rattle.std.specs.Prelude.{All, IfOk, IsSome, OnErr, OnOk, is_some}
use Rattle.std.proofs.lemmas.Bool.{false≢true}
use Rattle.std.proofs.lemmas.List.{get_or_default, length-replicate}
use Rattle.s370_store.specs.Access.{Touches}
use Rattle.s370_channel.specs.Reading.{as_reached}
use Rattle.s370_channel.specs.Supplied.{AllSuch, EachSuch}
use Rattle.s370_intr.specs.Run.{AllNeeded, IsLacking}
use Rattle.s370_subchannels.specs.Programs.{program_of}
use Rattle.cp_frames.specs.declared.numbers.UserPage.{UserPage}
use Rattle.cp_frames.specs.Layout.{FrameSupply, Holds, is_page, is_there, owned}
use Rattle.cp_frames.specs.Paging.{IsRefused}
use Rattle.cp_frames.proofs.Layouts.{is_this_page}
use Rattle.cp_dat.specs.declared.dat.Dat.{Dat}
use Rattle.cp_dat.specs.Bringing.{found_from}
use Rattle.cp_dat.specs.Lent.{KeepsFrames, is_lent_page, keeps_frames_on, lent_bytes, lent_memory, lent_pool, user_of}
use Rattle.cp_dat.specs.Letting.{between_again, came_on, let_go_came}
use Rattle.cp_dat.specs.Supplied.{GivesBack, HasNoRoom, HasSuch, IsBetweenUnits, IsBroughtInUnits, IsPagedFor, Supplied}
use Rattle.cp_dat.specs.Supplied.{SuppliedUnits, TakesPins, unpinned}
use Rattle.machine_panel.specs.declared.line.LineError.{LineError}
use Rattle.machine_panel.specs.declared.line.LineError.TheVariants as errors
use Rattle.machine_devices.specs.Requests.{needs_of, switches}
use Rattle.machine_channels.specs.Channels.{Brings, IsOutOfFrames, NoRoom, load_times, serve_times}
use Rattle.machine_devices.specs.declared.line.LineOutcome.{LineOutcome}
use Rattle.machine_devices.specs.Equipped.{Equipped, storage_in}
use Rattle.machine_devices.specs.Lines.{IsLine, requested}
use Rattle.machine_devices.specs.Serve.{IsServedAt}
use Rattle.machine_devices.specs.UserDirectory.{UserDirectory}
use Rattle.cp_resident.specs.GuestChannels.{HadRoom, PagedIn, IsFilled}
use Rattle.cp_volumes.specs.Keeping.{neighbours_same}
use Rattle.machine_devices.proofs.Beside.{beside_same}
use Rattle.machine_panel.specs.Machine.{Parts}
use Rattle.cp_core.specs.Lending.{KeepsLent, disks_of}
use Rattle.cp_core.specs.declared.work.Lent.{Lent}
use Rattle.cp_core.specs.Supply.{IsGivenBack, IsShort, LineBrings, NeedsAll}
use Rattle.cp_core.specs.Typed.{IsLineLent}
use Rattle.machine_devices.specs.Comes.{LineHadRoom, LineMay, LoadWants, is_ipl}
use Rattle.machine_devices.specs.Stopped.{ServeHadRoom}
use Rattle.cp_trial.specs.DryRun.{HadRoomAfterFirst}
use Rattle.cp_core.specs.Room.{LineHadFrames}
use Rattle.cp_core.specs.Wants.{DeviceNeeds, LineWants}
use Rattle.cp_core.specs.UserOp.{HasServed, HasTyped, LineGivesBack, LineLeaves, ServeLeaves}
use Rattle.cp_core.proofs.Switches.{all_wanted, load_wanted, switch_no_ipl, wanted}
use Rattle.cp_core.proofs.Kept.{either, given_back, given_for, lengths_left, line_short, marks_left}

-- ---- no room

-- there is no room for a page, or each present page of the user is one of these, in each frame
abbrev pub no_room : Dat → (ℕ → Type 0) → ℕ → Type 0
no_room d needs page = NoRoom (λ (e : Dat) (p : ℕ). HasNoRoom (lent_pool e).supply (user_of e) p)
    (λ (e : Dat) (p : ℕ). IsFilled (lent_pool e).supply (user_of e) p) is_lent_page d needs page

is_taken : (o : Option UserPage) (page : UserPage) → o ≡ Some page → IsSome o
is_taken None page e = cc
is_taken (Some there) page e = refl

held_there : (owners : List (Option UserPage)) (user page frame : ℕ) → Holds owners frame (owned user page)
    → is_there owners user page ≡ true
held_there owners user page frame here =
    found_from (is_page user page) None 0 owners frame refl (ap (is_page user page) here ∙ is_this_page user page)

filled_full : (supply : FrameSupply) (user page : ℕ) → IsFilled supply user page → All IsSome supply.owners
filled_full supply user page filled = λ frame other within.
    (let one = filled.owned frame within in
    is_taken _ (owned user one.page) (get_or_default supply.owners frame other None within ∙ one.here))

room_short : (d : Dat) (needs : ℕ → Type 0) (page : ℕ) → no_room d needs page
    → IsShort (lent_pool d).supply (user_of d) needs page
room_short d needs page (inl out) =
    record { absent = out.absent; full = out.full; stuck = inl (out.full_slots, out.nowhere) }
room_short d needs page (inr h) = record {
  absent = h.0.absent;
  full = filled_full (lent_pool d).supply (user_of d) page h.0;
  stuck = inr (λ frame within.
      (let one = h.0.owned frame within in
      record {
        page = one.page;
        such = h.1 one.page (held_there (lent_pool d).supply.owners (user_of d) one.page frame one.here);
        here = one.here;
      }));
}

short_for : (supply : FrameSupply) (user : ℕ) (P Q : ℕ → Type 0) (page : ℕ) → ((p : ℕ) → P p → Q p)
    → IsShort supply user P page → IsShort supply user Q page
short_for supply user P Q page more short = record {
  absent = short.absent;
  full = short.full;
  stuck = elim short.stuck [
    | inl none ↦ inl none
    | inr each ↦ inr (λ frame within.
        (let one = each frame within in record { page = one.page; such = more one.page one.such; here = one.here }))
  ];
}

-- ---- what came

such_for : (P Q : ℕ → Type 0) → ((page : ℕ) → P page → Q page) → (pages : List ℕ) → AllSuch P pages → AllSuch Q pages
such_for P Q more [] all = tt
such_for P Q more (page ∷ pages) all = (more page all.0, such_for P Q more pages all.1)

each_for : (P Q : ℕ → Type 0) → ((page : ℕ) → P page → Q page) → (units : List (List ℕ)) → EachSuch P units
    → EachSuch Q units
each_for P Q more [] all = tt
each_for P Q more (pages ∷ units) all = (such_for P Q more pages all.0, each_for P Q more units all.1)

one_brings : (b : Bool) (needs : ℕ → Type 0) (pages : List ℕ) → b ≡ false → AllNeeded needs pages
    → LineBrings b needs (pages ∷ [])
one_brings b needs pages plain all = subst (λ (c : Bool). LineBrings c needs (pages ∷ [])) (sym plain)
    (pages, refl, all)

-- where no frame is pinned, nothing is taken away with the pins
still : (supply : FrameSupply) → IsBetweenUnits supply → unpinned supply ≡ supply
still supply rest =
    let count : length supply.owners ≡ length supply.pins =
    sym (ap (λ (ps : List Bool). length ps) rest.idle ∙ length-replicate (length supply.owners) false) in
    ap (λ (ps : List Bool). record supply { pins = ps }) (sym (rest.idle ∙ ap (λ (n : ℕ). replicate n false) count))

-- ---- a line

-- what it keeps, whether it switches the machine or not
kept_where : (r : Result LineOutcome LineError) (old between : Dat) → OnOk r (GivesBack old between)
    → OnErr r (Supplied old [] between) → KeepsFrames old between
kept_where (Ok reported) old between cleared not = cleared.kept
kept_where (Err error) old between cleared not = not.kept

owners_where : (r : Result LineOutcome LineError) (old between : Dat) → OnOk r (GivesBack old between)
    → OnErr r (Supplied old [] between)
    → length (lent_pool between).supply.owners ≡ length (lent_pool old).supply.owners
owners_where (Ok reported) old between cleared not = lengths_left old between cleared
owners_where (Err error) old between cleared not = not.paged.same_frames

pins_where : (r : Result LineOutcome LineError) (old between : Dat) → OnOk r (GivesBack old between)
    → OnErr r (Supplied old [] between) → length (lent_pool between).supply.pins ≡ length (lent_pool old).supply.pins
pins_where (Ok reported) old between cleared not = marks_left old between cleared
pins_where (Err error) old between cleared not = not.paged.same_marks

given_where : (r : Result LineOutcome LineError) (old between new : Dat) → TakesPins between new
    → OnOk r (GivesBack old between) → OnOk r (IsGivenBack (user_of old) (lent_pool old).supply (lent_pool new).supply)
given_where (Ok reported) old between new taken cleared =
    given_for (user_of old) (lent_pool old).supply (lent_pool between).supply (lent_pool new).supply
    (given_back old between cleared) taken.supply
given_where (Err error) old between new taken cleared = tt

same_where : (r : Result LineOutcome LineError) (old between new : Dat) → IsBetweenUnits (lent_pool old).supply
    → TakesPins between new → OnErr r (Supplied old [] between)
    → OnErr r ((lent_pool new).supply ≡ (lent_pool old).supply)
same_where (Ok reported) old between new rest taken not = tt
same_where (Err error) old between new rest taken not =
    taken.supply ∙ ap unpinned not.paged.page_ins_are ∙ still (lent_pool old).supply rest

-- a line promises it of the storage that is borrowed to it, once the pins are taken away
pub plainly_lent : (typed : List ℕ) (before : Equipped) (old between new : Dat) (r : Result LineOutcome LineError)
    → IsBetweenUnits (lent_pool old).supply → TakesPins between new
    → (r ≡ Err errors.FramesOut
    → IsLacking (Touches (needs_of (requested typed before))) (length before.machine.core.processor.bytes)
    (λ page. IsRefused (lent_pool between).supply (user_of between) page))
    → (switches (requested typed before) ≡ true → OnOk r (GivesBack old between))
    → (switches (requested typed before) ≡ true → OnErr r (Supplied old [] between))
    → (switches (requested typed before) ≡ false
    → (pages : List ℕ) × Supplied old pages between × AllNeeded (Touches (needs_of (requested typed before))) pages)
    → is_ipl (requested typed before) ≡ false
    → IsLineLent typed before old new r
plainly_lent typed before old between new r rest taken frames cleared not_cleared supply plain =
    let needs : ℕ → Type 0 = LineWants typed before in
    let kept : KeepsFrames old between =
    either (switches (requested typed before)) _ (λ on. kept_where r old between (cleared on) (not_cleared on))
    (λ off. (supply off).1.kept) in
    let owners = either (switches (requested typed before)) _
    (λ on. owners_where r old between (cleared on) (not_cleared on)) (λ off. (supply off).1.paged.same_frames) in
    let pins = either (switches (requested typed before)) _
    (λ on. pins_where r old between (cleared on) (not_cleared on)) (λ off. (supply off).1.paged.same_marks) in
    let paged : switches (requested typed before) ≡ false
    → (pages : List ℕ) × IsPagedFor (user_of old) pages (lent_pool old).supply (lent_pool between).supply
    × AllNeeded needs pages =
    λ off. (let s = supply off in (s.0, s.1.paged, all_wanted typed before s.0 s.2)) in
    record {
      kept = keeps_frames_on old between new kept taken.kept;
      frames = λ failed. (let l = frames failed in
          let need = wanted typed before l.page l.needed in
          record {
            page = l.page;
            inside = l.inside;
            needed = need;
            short = line_short typed before (user_of old) l.page (lent_pool old).supply (lent_pool between).supply
                (lent_pool new).supply rest paged need taken.supply
                (subst (λ (n : ℕ). IsRefused (lent_pool between).supply n l.page) kept.same_user l.short);
          });
      cleared = λ on. given_where r old between new taken (cleared on);
      not_cleared = λ on. same_where r old between new rest taken (not_cleared on);
      supply = λ off. (let s = supply off in (
        s.0 ∷ [],
        let_go_came old between new s.0 s.1 taken,
        one_brings (is_ipl (requested typed before)) needs s.0 plain (all_wanted typed before s.0 s.2),
      ));
      between = between_again (lent_pool old).supply (lent_pool between).supply (lent_pool new).supply rest owners pins
          taken.supply;
      roomy = λ refused. record { loading = λ ipl. absurd (false≢true (sym plain ∙ ipl)) };
    }

-- and so does a line that loads the machine: it is ready then, so there are no pins to take away
pub loading_lent : (typed : List ℕ) (before : Equipped) (old middle new : Dat) (r : Result LineOutcome LineError)
    → is_ipl (requested typed before) ≡ true → lent_memory old ≡ storage_in before.machine
    → length (lent_bytes old) ≡ length before.machine.core.processor.bytes → IsBetweenUnits (lent_pool middle).supply
    → TakesPins middle new
    → (r ≡ Err errors.FramesOut
    → IsOutOfFrames (length (lent_bytes old)) (LoadWants (requested typed before) before)
    (no_room middle (LoadWants (requested typed before) before)))
    → Brings (PagedIn load_times) old (LoadWants (requested typed before) before) middle
    → (r ≡ Err errors.Memory → LineHadRoom HadRoomAfterFirst old middle (requested typed before) before)
    → IsLineLent typed before old new r
loading_lent typed before old middle new r ipl stored size between taken out brought roomy =
    let loads : ℕ → Type 0 = LoadWants (requested typed before) before in
    let needs : ℕ → Type 0 = LineWants typed before in
    let more : (page : ℕ) → loads page → needs page = load_wanted typed before in
    let same : (lent_pool new).supply ≡ (lent_pool middle).supply =
    taken.supply ∙ still (lent_pool middle).supply between in
    let paged_in = brought.1.paged_in in
    record {
      kept = keeps_frames_on old middle new paged_in.kept taken.kept;
      frames = λ failed. (let l = out failed in
          let short : IsShort (lent_pool middle).supply (user_of old) needs l.page =
          subst (λ (n : ℕ). IsShort (lent_pool middle).supply n needs l.page) paged_in.kept.same_user
          (short_for (lent_pool middle).supply (user_of middle) loads needs l.page more
          (room_short middle loads l.page l.out)) in
          record {
            page = l.page;
            inside = subst (λ (n : ℕ). l.page * 4096 < n) size l.inside;
            needed = more l.page l.needed;
            short = subst (λ (s : FrameSupply). IsShort s (user_of old) needs l.page) (sym same) short;
          });
      cleared = λ on. absurd (switch_no_ipl typed before ipl on);
      not_cleared = λ on. absurd (switch_no_ipl typed before ipl on);
      supply = λ off. (
        brought.0,
        record {
          kept = keeps_frames_on old middle new paged_in.kept taken.kept;
          brought = subst (λ (s : FrameSupply). IsBroughtInUnits (user_of old) brought.0 (lent_pool old).supply s)
              (sym same) paged_in.brought;
        },
        subst (λ (b : Bool). LineBrings b needs brought.0) (sym ipl)
            (record { such = each_for loads needs more brought.0 brought.2; often = brought.1.often }),
      );
      between = subst (λ (s : FrameSupply). IsBetweenUnits s) (sym same) between;
      roomy = λ refused. record {
        loading = λ load. record {
          old = old;
          new = middle;
          lent = record { whose = refl; memory = stored; frames = refl };
          whose = paged_in.kept.same_user;
          frames = sym same;
          had = roomy refused;
        };
      };
    }

-- ---- what a line leaves

leaves_where : (world : UserDirectory) (user : ℕ) (typed : List ℕ) (before after : Equipped)
    (r : Result LineOutcome LineError) (supply : FrameSupply)
    → IfOk r (λ reported. IsLine world typed before reported after) → (r ≡ Err errors.FramesOut → after ≡ before)
    → (r ≡ Err errors.Memory → is_ipl (requested typed before) ≡ false → after ≡ before)
    → (r ≡ Err errors.Memory → LineMay world typed before)
    → (r ≡ Err errors.FramesOut
    → IsLacking (LineWants typed before) (length before.machine.core.processor.bytes)
    (IsShort supply user (LineWants typed before)))
    → LineLeaves world user typed before r after supply
leaves_where world user typed before after (Ok reported) supply ok same kept memory frames = ok
leaves_where world user typed before after (Err errors.Memory) supply ok same kept memory frames =
    (kept refl, memory refl)
leaves_where world user typed before after (Err errors.FramesOut) supply ok same kept memory frames =
    (same refl, frames refl)

gives_where : (user : ℕ) (before after : FrameSupply) (r : Result LineOutcome LineError)
    → OnOk r (IsGivenBack user before after) → OnErr r (after ≡ before) → LineGivesBack user before r after
gives_where user before after (Ok reported) given same = given
gives_where user before after (Err error) given same = same

-- A line that was lent the machine and the frames leaves what a typed line leaves.
pub typed_work : (world : UserDirectory) (user : ℕ) (typed : List ℕ) (before after : Equipped) (old new : Dat)
    (r : Result LineOutcome LineError)
    → user_of old ≡ user → IsLineLent typed before old new r
    → IfOk r (λ reported. IsLine world typed before reported after) → (r ≡ Err errors.FramesOut → after ≡ before)
    → (r ≡ Err errors.Memory → is_ipl (requested typed before) ≡ false → after ≡ before)
    → (r ≡ Err errors.Memory → LineMay world typed before)
    → HasTyped world user typed before (lent_pool old).supply r after (lent_pool new).supply
typed_work world user typed before after old new r u lent ok out kept memory =
    let needs : ℕ → Type 0 = LineWants typed before in
    record {
      leaves = leaves_where world user typed before after r (lent_pool new).supply ok out kept memory
          (subst (λ (n : ℕ). r ≡ Err errors.FramesOut
          → IsLacking needs (length before.machine.core.processor.bytes) (IsShort (lent_pool new).supply n needs)) u
          lent.frames);
      given_back = λ on. gives_where user (lent_pool old).supply (lent_pool new).supply r
          (subst (λ (n : ℕ). OnOk r (IsGivenBack n (lent_pool old).supply (lent_pool new).supply)) u (lent.cleared on))
          (lent.not_cleared on);
      brought = λ off. (let s = lent.supply off in (
        s.0,
        subst (λ (n : ℕ). IsBroughtInUnits n s.0 (lent_pool old).supply (lent_pool new).supply) u s.1.brought,
        s.2,
      ));
      roomy = λ refused. subst
          (λ (n : ℕ). LineHadFrames typed n before (lent_pool old).supply (lent_pool new).supply) u
          (lent.roomy refused);
    }

-- ---- what a serve leaves

serve_leaves : (device user : ℕ) (before after : Equipped) (r : Result Bool LineError) (supply : FrameSupply)
    → IfOk r (λ done. IsServedAt as_reached device before done after) → (r ≡ Err errors.FramesOut → after ≡ before)
    → (r ≡ Err errors.FramesOut
    → IsLacking (DeviceNeeds device before) (length before.machine.core.processor.bytes)
    (IsShort supply user (DeviceNeeds device before)))
    → (r ≡ Err errors.Memory → IsSome (program_of device before.machine.core.subchannels))
    → ServeLeaves device user before r after supply
serve_leaves device user before after (Ok done) supply ok same frames memory = ok
serve_leaves device user before after (Err errors.Memory) supply ok same frames memory = memory refl
serve_leaves device user before after (Err errors.FramesOut) supply ok same frames memory = (same refl, frames refl)

-- A serve that was lent the machine and the frames leaves what a serve leaves.
pub serve_work : (device user : ℕ) (before after : Equipped) (old new : Dat) (r : Result Bool LineError)
    → user_of old ≡ user → Brings (PagedIn serve_times) old (DeviceNeeds device before) new
    → IfOk r (λ done. IsServedAt as_reached device before done after) → (r ≡ Err errors.FramesOut → after ≡ before)
    → (r ≡ Err errors.FramesOut
    → IsOutOfFrames (length before.machine.core.processor.bytes) (DeviceNeeds device before)
    (no_room new (DeviceNeeds device before)))
    → (r ≡ Err errors.Memory → IsSome (program_of device before.machine.core.subchannels))
    → lent_memory old ≡ storage_in before.machine
    → (r ≡ Err errors.Memory → ServeHadRoom as_reached HadRoom old new device before)
    → HasServed device user before (lent_pool old).supply r after (lent_pool new).supply
serve_work device user before after old new r u brought ok same out memory stored roomy =
    let needs : ℕ → Type 0 = DeviceNeeds device before in
    let lacking : r ≡ Err errors.FramesOut
    → IsLacking needs (length before.machine.core.processor.bytes) (IsShort (lent_pool new).supply user needs) =
    λ failed. (let l = out failed in
    record {
      page = l.page;
      inside = l.inside;
      needed = l.needed;
      short = subst (λ (n : ℕ). IsShort (lent_pool new).supply n needs l.page) (brought.1.paged_in.kept.same_user ∙ u)
          (room_short new needs l.page l.out);
    }) in
    record {
      leaves = serve_leaves device user before after r (lent_pool new).supply ok same lacking memory;
      brought = (
        brought.0,
        subst
            (λ (n : ℕ). IsBroughtInUnits n brought.0 (lent_pool old).supply (lent_pool new).supply) u
            brought.1.paged_in.brought,
        record { such = brought.2; often = brought.1.often },
      );
      roomy = λ refused. record {
        old = old;
        new = new;
        lent = record { whose = u; memory = stored; frames = refl };
        whose = brought.1.paged_in.kept.same_user ∙ u;
        frames = refl;
        had = roomy refused;
      };
    }

-- ---- what is borrowed next to the storage

-- a work on the machine alone
pub lent_still : (lent : Lent) (machine : MutBor Parts) → machine.ghost_name ≡ lent.machine.ghost_name
    → KeepsLent lent (record lent { machine = machine })
lent_still lent machine same = record {
  same_machine = same;
  same_devices = refl;
  same_queues = refl;
  same_volumes = refl;
  same_minidisks = refl;
  same_reuse = refl;
  other_users = beside_same lent.devices.now lent.queues.now lent.queues.now refl;
  other_disks = neighbours_same (disks_of lent);
}

-- The reader that feeds from a queue runs programs and is loaded from as a reader that has the decks itself.
use Rattle.std.proofs.Common.{◌≡◌, ◌∙◌, ap, sym, subst, inl, inr, ℕ, Bool, List, [], ◌∷◌, true, Option, Result, Ok, Err}
use Rattle.std.specs.Prelude.{◌*◌, ◌<◌, IfErr, IfOk}
use Rattle.s370_walk.specs.declared.parts.Ending.{Ending}
use Rattle.s370_store.specs.Memory.{Memory}
use Rattle.s370_walk.specs.Short.{nothing_needed}
use Rattle.s370_channel.specs.declared.running.ChannelError.{ChannelError}
use Rattle.s370_channel.specs.declared.running.ChannelError.TheVariants as errors
use Rattle.s370_channel.specs.declared.words.Caw.{Caw}
use Rattle.s370_channel.specs.Guest.{guest_written}
use Rattle.s370_channel.specs.Loading.{loading, loading_limits}
use Rattle.s370_channel.specs.Progress.{setting}
use Rattle.s370_channel.specs.Reading.{Reading}
use Rattle.s370_channel.specs.Runs.{IsStopped, Walks, begun, limited}
use Rattle.s370_channel.specs.Supplied.{AllSuch, EachSuch, IsTouched}
use Rattle.unit_record.specs.Reader.{ReaderState, reader_machine}
use Rattle.machine_channels.specs.Channels.{Brings, IsOutOfFrames, LoadNeeds, NoRoom, ProgramNeeds, StopsForPage}
use Rattle.machine_channels.specs.Channels.{WalksLoading, WhereOut}
use Rattle.cp_spool.specs.Alike.{reader_of}
use Rattle.cp_spool.specs.Queues.{UserFiles, read_on}
use Rattle.cp_spool.specs.Reader.{FeedState, ReaderPart, fed_by, feed_machine}
use Rattle.cp_spool.proofs.Feeding.{fed_loads, fed_stops, fed_touches, fed_touches_loading, fed_walks}

-- what was read is reported
pub read_is : (files files' : UserFiles) (ended ended' : ℕ) (place place' : Option ℕ) → ended' ≡ ended → place' ≡ place
    → files' ≡ read_on ended' place' files → files' ≡ read_on ended place files
read_is files files' ended ended' place place' e p is = rw (← e, ← p) is

module _ (files : UserFiles) (part : ReaderPart) (before f : FeedState) (files' : UserFiles) (part' : ReaderPart)
    (is : before ≡ fed_by files part) (left : part' ≡ f.part) (now : files' ≡ read_on f.ended f.place files) where
  reader_is : reader_of (read_on f.ended f.place files) f.part ≡ reader_of files' part'
  reader_is = ap (λ (x : UserFiles). reader_of x f.part) (sym now) ∙ ap (λ (p : ReaderPart). reader_of files' p)
      (sym left)

  walks : (reads : Reading) (start : Caw) (m : Memory) (e : Ending) (n : Memory)
      → Walks reads feed_machine start m before e n f
      → Walks reads reader_machine start m (reader_of files part) e n (reader_of files' part')
  walks reads start m e n h =
      subst (λ (r : ReaderState). Walks reads reader_machine start m (reader_of files part) e n r) reader_is
      (fed_walks reads start m files part e n f
      (subst (λ (b : FeedState). Walks reads feed_machine start m b e n f) is h))

  pub walks_fed : (r : Result Ending ChannelError) (reads : Reading) (start : Caw) (m n : Memory)
      → IfOk r (λ e. Walks reads feed_machine start m before e n f)
      → IfOk r (λ e. Walks reads reader_machine start m (reader_of files part) e n (reader_of files' part'))
  walks_fed (Ok e) reads start m n h = walks reads start m e n h
  walks_fed (Err error) reads start m n h = tt

  pub loaded_fed : (m : Memory) (e : Ending) (n : Memory) → WalksLoading feed_machine m before e n f
      → WalksLoading reader_machine m (reader_of files part) e n (reader_of files' part')
  loaded_fed m e n h =
      subst (λ (r : ReaderState). WalksLoading reader_machine m (reader_of files part) e n r) reader_is
      (fed_loads m files part e n f (subst (λ (b : FeedState). WalksLoading feed_machine m b e n f) is h))

  -- where it is as it was, so are they
  pub same_fed : f ≡ before → (part' ≡ part) × (files' ≡ files)
  same_fed same =
      let f_is : f ≡ fed_by files part = same ∙ is in
      (left ∙ ap (λ (x : FeedState). x.part) f_is, now ∙ ap (λ (x : FeedState). read_on x.ended x.place files) f_is)

-- A feeding reader stops for a page as a reader with its decks does.
pub stops_fed : (r : Result Ending ChannelError) (present : ℕ → Bool) (start : Caw) (m : Memory) (files : UserFiles)
    (part : ReaderPart) (before : FeedState) → before ≡ fed_by files part
    → IfErr r (IsStopped feed_machine nothing_needed present start m before)
    → IfErr r (StopsForPage reader_machine present start m (reader_of files part))
stops_fed (Ok e) present start m files part before is h = tt
stops_fed (Err errors.Memory) present start m files part before is h = absurd (cc h.needed)
stops_fed (Err (errors.Absent page)) present start m files part before is h =
    fed_stops present start m files part (errors.Absent page)
    (subst (λ (b : FeedState). IsStopped feed_machine nothing_needed present start m b (errors.Absent page)) is h)

-- ---- what it needs, the reader needs

all_more : (P Q : ℕ → Type 0) → ((page : ℕ) → P page → Q page) → (pages : List ℕ) → AllSuch P pages → AllSuch Q pages
all_more P Q more [] all = tt
all_more P Q more (page ∷ pages) all = (more page all.0, all_more P Q more pages all.1)

each_more : (P Q : ℕ → Type 0) → ((page : ℕ) → P page → Q page) → (units : List (List ℕ)) → EachSuch P units
    → EachSuch Q units
each_more P Q more [] each = tt
each_more P Q more (pages ∷ units) each = (all_more P Q more pages each.0, each_more P Q more units each.1)

brings_more : {S : Type 0} (Came : S → List (List ℕ) → S → Type 0) (old new : S) (P Q : ℕ → Type 0)
    → ((page : ℕ) → P page → Q page) → Brings Came old P new → Brings Came old Q new
brings_more Came old new P Q more (units, paged_in, each) = (units, paged_in, each_more P Q more units each)

module _ {S : Type 0} (IsOut IsFilled : S → ℕ → Type 0) (present : S → ℕ → Bool) (storage : S) (P Q : ℕ → Type 0)
    (more : (page : ℕ) → P page → Q page) where
  room_more : (page : ℕ) → NoRoom IsOut IsFilled present storage P page → NoRoom IsOut IsFilled present storage Q page
  room_more page (inl out) = inl out
  room_more page (inr filled) = inr (filled.0, λ held there. more held (filled.1 held there))

  lacks_more : (size : ℕ) → IsOutOfFrames size P (NoRoom IsOut IsFilled present storage P)
      → IsOutOfFrames size Q (NoRoom IsOut IsFilled present storage Q)
  lacks_more size l = record {
    page = l.page;
    inside = l.inside;
    needed = more l.page l.needed;
    out = room_more l.page l.out;
  }

  where_more : (error : ChannelError) (size : ℕ) (A B : Type 0) → (A → B)
      → WhereOut size P (NoRoom IsOut IsFilled present storage P) A error
      → WhereOut size Q (NoRoom IsOut IsFilled present storage Q) B error
  where_more errors.Memory size A B to h = tt
  where_more (errors.Absent page) size A B to h = (lacks_more size h.0, to h.1)

module _ (files : UserFiles) (part : ReaderPart) (before : FeedState) (is : before ≡ fed_by files part)
    (m : Memory) where
  needs_fed : (holds : Memory → ℕ → ℕ → Type 0) (start : Caw) (page : ℕ)
      → ProgramNeeds holds feed_machine start m before page
      → ProgramNeeds holds reader_machine start m (reader_of files part) page
  needs_fed holds start page (inl held) = inl held
  needs_fed holds start page (inr touched) =
      inr (fed_touches start m files part page
      (subst (λ (b : FeedState). IsTouched guest_written (limited feed_machine start) (begun start m b) page) is
      touched))

  loads_fed : (page : ℕ) → LoadNeeds feed_machine m before page → LoadNeeds reader_machine m (reader_of files part) page
  loads_fed page (inl first) = inl first
  loads_fed page (inr touched) =
      inr (fed_touches_loading m files part page
      (subst (λ (b : FeedState).
      IsTouched guest_written (setting feed_machine loading_limits) (loading feed_machine m b) page) is touched))

  module _ {S : Type 0} (IsOut IsFilled : S → ℕ → Type 0) (present : S → ℕ → Bool)
      (Came : S → List (List ℕ) → S → Type 0) (old new : S) where
    pub came_fed : (holds : Memory → ℕ → ℕ → Type 0) (start : Caw)
        → Brings Came old (ProgramNeeds holds feed_machine start m before) new
        → Brings Came old (ProgramNeeds holds reader_machine start m (reader_of files part)) new
    came_fed holds start paged_in =
        brings_more Came old new (ProgramNeeds holds feed_machine start m before)
        (ProgramNeeds holds reader_machine start m (reader_of files part)) (needs_fed holds start) paged_in

    pub came_loaded : Brings Came old (LoadNeeds feed_machine m before) new
        → Brings Came old (LoadNeeds reader_machine m (reader_of files part)) new
    came_loaded paged_in = brings_more Came old new (LoadNeeds feed_machine m before)
        (LoadNeeds reader_machine m (reader_of files part)) loads_fed paged_in

    pub out_fed : {T : Type 0} (r : Result T ChannelError) (holds : Memory → ℕ → ℕ → Type 0) (start : Caw) (size : ℕ)
        (A B : Type 0) → (A → B)
        → (let needs = ProgramNeeds holds feed_machine start m before in IfErr r
        (WhereOut size needs (NoRoom IsOut IsFilled present new needs) A))
        → (let needs = ProgramNeeds holds reader_machine start m (reader_of files part) in IfErr r
        (WhereOut size needs (NoRoom IsOut IsFilled present new needs) B))
    out_fed (Ok done) holds start size A B to h = tt
    out_fed (Err error) holds start size A B to h =
        where_more IsOut IsFilled present new (ProgramNeeds holds feed_machine start m before)
        (ProgramNeeds holds reader_machine start m (reader_of files part)) (needs_fed holds start) error size A B to
        h

    pub out_loaded : (error : ChannelError) (size : ℕ) (A B : Type 0) → (A → B)
        → (let needs = LoadNeeds feed_machine m before in WhereOut size needs (NoRoom IsOut IsFilled present new needs)
        A error)
        → (let needs = LoadNeeds reader_machine m (reader_of files part) in WhereOut size needs
        (NoRoom IsOut IsFilled present new needs) B error)
    out_loaded error size A B to h =
        where_more IsOut IsFilled present new (LoadNeeds feed_machine m before)
        (LoadNeeds reader_machine m (reader_of files part)) loads_fed error size A B to h

-- what has not happened, said otherwise
pub out_as : {S : Type 0} (IsOut IsFilled : S → ℕ → Type 0) (present : S → ℕ → Bool) (storage : S) (P : ℕ → Type 0)
    (error : ChannelError) (size : ℕ) (A B : Type 0) → (A → B)
    → WhereOut size P (NoRoom IsOut IsFilled present storage P) A error
    → WhereOut size P (NoRoom IsOut IsFilled present storage P) B error
out_as IsOut IsFilled present storage P errors.Memory size A B to h = tt
out_as IsOut IsFilled present storage P (errors.Absent page) size A B to h = (h.0, to h.1)

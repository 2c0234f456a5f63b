-- Closed files that have lost their entries, once and again.
use Rattle.std.specs.Prelude.{◌⊎◌, IsSomeAnd, slice_get}
use Rattle.std.specs.List.{list_all}
use Rattle.std.proofs.Common.{◌≡◌, ◌∙◌, ◌<◌, ◌&&◌, ℕ, zero, suc, Bool, true, false, inl, inr, List, [], ◌∷◌, ◌++◌}
use Rattle.std.proofs.Common.{Option, None, Some, ap, append-nil, arith, get_or, length, refl, set, subst, sym}
use Rattle.unit_record.specs.Output.{EntryValue, FileValue}
use Rattle.unit_record.specs.Reader.{DeckValue}
use Rattle.cp_spool.specs.Forgotten.{LosesAtMost, emptied_at, without_entries, without_printed, without_punched}
use Rattle.cp_spool.specs.Queues.{UserFiles, files_of, no_files}
use Rattle.machine_devices.specs.Equipped.{Equipped}
use Rattle.machine_devices.specs.Written.{AreClosedAfter, IsFull, Lost, entries_or, has_entry, left_of, with_entries}
use Rattle.machine_devices.specs.declared.files.FileKind.{FileKind}
use Rattle.machine_devices.specs.declared.files.FileKind.TheVariants as kinds

-- ---- what files have lost

none_or : (entries : List EntryValue) → entries_or entries [] ≡ entries
none_or [] = refl
none_or (entry ∷ entries) = refl

none_left : (entries : List EntryValue) → left_of entries [] ≡ []
none_left [] = refl
none_left (entry ∷ entries) = refl

-- Files that have lost nothing are as they are.
pub with_none : (files : List FileValue) → with_entries [] files ≡ files
with_none [] = refl
with_none (file ∷ files) =
    let at = λ (es : List EntryValue). let f : FileValue = record file { entries = es } in f in
    ap (λ (es : List EntryValue). at es ∷ with_entries (left_of file.entries []) files) (none_or file.entries)
    ∙ ap (λ (lost : List (List EntryValue)). file ∷ with_entries lost files) (none_left file.entries)
    ∙ ap (λ (more : List FileValue). file ∷ more) (with_none files)

-- What files have lost in all that lost one part after another.
abbrev pub lost_twice : List (List EntryValue) → List (List EntryValue) → List (List EntryValue)
lost_twice first [] = first
lost_twice first (entries ∷ second) = entries_or entries first ∷ lost_twice (left_of entries first) second

-- Files that got back what they lost last and then what they lost first got back all.
abbrev pub Twice : List FileValue → Type 0
Twice files = (first second : List (List EntryValue))
    → with_entries first (with_entries second files) ≡ with_entries (lost_twice first second) files

twice_at : (first second : List (List EntryValue)) (lost entries : List EntryValue) (file : FileValue)
    (files : List FileValue) → Twice files
    → with_entries first (with_entries (lost ∷ second) (record file { entries = entries } ∷ files))
    ≡ with_entries (lost_twice first (lost ∷ second)) (record file { entries = entries } ∷ files)
twice_at first second lost [] file files again =
    ap (λ (more : List FileValue). record file { entries = entries_or lost first } ∷ more)
    (again (left_of lost first) second)
twice_at first second lost (entry ∷ entries) file files again =
    ap (λ (more : List FileValue). record file { entries = entry ∷ entries } ∷ more) (again first (lost ∷ second))

-- Files that lost one part after another have lost both.
pub with_twice : (files : List FileValue) → Twice files
with_twice [] first second = refl
with_twice (file ∷ files) first [] = ap (with_entries first) (with_none (file ∷ files))
with_twice (file ∷ files) first (lost ∷ second) =
    twice_at first second lost file.entries file files (with_twice files)

-- a file that was closed after others has its entries
own_entries : (entries : List EntryValue) (lost : List (List EntryValue)) → has_entry entries ≡ true
    → entries_or entries lost ≡ entries
own_entries [] lost e = absurd (cc)
own_entries (entry ∷ entries) lost e = refl

and_first : (a b : Bool) → (a && b) ≡ true → a ≡ true
and_first true b e = refl
and_first false b e = absurd (cc)

found_more : (lost : List (List EntryValue)) (old more : List FileValue)
    → list_all (λ (file : FileValue). has_entry file.entries) more ≡ true
    → slice_get (with_entries lost (old ++ more)) (length old) ≡ slice_get (old ++ more) (length old)
found_more lost [] [] full = refl
found_more lost [] (file ∷ more) full =
    let rest = list_all (λ (f : FileValue). has_entry f.entries) more in
    ap (λ (es : List EntryValue). let f : FileValue = record file { entries = es } in Some f)
    (own_entries file.entries lost (and_first (has_entry file.entries) rest full))
found_more lost (file ∷ old) more full = found_more (left_of file.entries lost) old more full

-- A file that was closed after others has lost nothing.
pub found_after : (lost : List (List EntryValue)) (old new : List FileValue) → AreClosedAfter old new
    → slice_get (with_entries lost new) (length old) ≡ slice_get new (length old)
found_after lost old new h =
    subst (λ (files : List FileValue). slice_get (with_entries lost files) (length old) ≡ slice_get files (length old))
    (sym h.same) (found_more lost old h.more h.full)

-- A closed file that has an entry has lost none.
pub full_same : (lost : List (List EntryValue)) (files : List FileValue) (index : ℕ) (file : FileValue)
    → slice_get files index ≡ Some file → has_entry file.entries ≡ true
    → slice_get (with_entries lost files) index ≡ Some file
full_same lost [] index file found full = absurd (cc)
full_same lost (first ∷ files) zero file found full =
    let is : first ≡ file = cc in
    ap (λ (es : List EntryValue). let f : FileValue = record first { entries = es } in Some f)
    (own_entries first.entries lost (ap (λ (f : FileValue). has_entry f.entries) is ∙ full)) ∙ found
full_same lost (first ∷ files) (suc index) file found full =
    full_same (left_of first.entries lost) files index file found full

-- ---- files that stay

-- closed files of a machine stay
abbrev pub FilesStay : Equipped → Equipped → Type 0
FilesStay old new = AreClosedAfter old.devices.punched new.devices.punched
    × AreClosedAfter old.devices.printed new.devices.printed

-- Files stay where nothing is closed.
pub none_closed : (files : List FileValue) → AreClosedAfter files files
none_closed files = record { more = []; same = sym (append-nil files); full = refl }

found_front : (old more : List FileValue) (place : ℕ) (file : FileValue) → slice_get old place ≡ Some file
    → slice_get (old ++ more) place ≡ Some file
found_front [] more place file found = absurd (cc)
found_front (first ∷ old) more zero file found = found
found_front (first ∷ old) more (suc place) file found = found_front old more place file found

-- A closed file stays at its place.
pub place_stays : (old new : List FileValue) (place : ℕ) (file : FileValue) → AreClosedAfter old new
    → slice_get old place ≡ Some file → slice_get new place ≡ Some file
place_stays old new place file h found =
    subst (λ (files : List FileValue). slice_get files place ≡ Some file) (sym h.same)
    (found_front old h.more place file found)

-- There is a file with an entry.
abbrev pub Full : Option FileValue → Type 0
Full o = IsSomeAnd o (λ (file : FileValue). has_entry file.entries ≡ true)

-- A file that is there with an entry is there where each that is there is.
pub full_stays : (o p : Option FileValue) → ((file : FileValue) → o ≡ Some file → p ≡ Some file) → Full o → Full p
full_stays None p stays h = absurd h
full_stays (Some file) p stays h = subst Full (sym (stays file refl)) h

-- A file that is there with an entry stays so.
pub kind_stays : (old new : Equipped) → FilesStay old new → (kind : FileKind) → IsFull old kind → IsFull new kind
kind_stays old new stay (kinds.Punch place) h =
    full_stays (slice_get old.devices.punched place) (slice_get new.devices.punched place)
    (λ file found. place_stays old.devices.punched new.devices.punched place file stay.0 found) h
kind_stays old new stay (kinds.Printer place) h =
    full_stays (slice_get old.devices.printed place) (slice_get new.devices.printed place)
    (λ file found. place_stays old.devices.printed new.devices.printed place file stay.1 found) h
kind_stays old new stay kinds.Deck h = tt

more_full : (old more : List FileValue) → list_all (λ (file : FileValue). has_entry file.entries) more ≡ true
    → length old < length (old ++ more) → Full (slice_get (old ++ more) (length old))
more_full [] [] full l = absurd (omega arith)
more_full [] (file ∷ more) full l =
    let rest = list_all (λ (f : FileValue). has_entry f.entries) more in
    and_first (has_entry file.entries) rest full
more_full (file ∷ old) more full l = more_full old more full (omega arith)

-- The first file that was closed after others has an entry.
pub first_full : (old new : List FileValue) → AreClosedAfter old new → length old < length new
    → Full (slice_get new (length old))
first_full old new h l =
    subst (λ (files : List FileValue). Full (slice_get files (length old))) (sym h.same)
    (more_full old h.more h.full (subst (λ (files : List FileValue). length old < length files) h.same l))

-- ---- files that lose their entries

-- each closed file is as it was, or has lost its entries
abbrev pub HaveLost : List FileValue → List FileValue → Type 0
HaveLost [] [] = Unit {0}
HaveLost [] (file ∷ files) = ⊥
HaveLost (file ∷ files) [] = ⊥
HaveLost (old ∷ olds) (new ∷ news) =
    ((new ≡ old) ⊎ (new ≡ without_entries old)) × HaveLost olds news

-- closed files of a user may have lost their entries, and his reader has the decks that it had
pub record HasLost (old new : UserFiles) : Type 0 where
  pub decks : new.decks ≡ old.decks
  pub place : new.place ≡ old.place
  pub punched : HaveLost old.punched new.punched
  pub printed : HaveLost old.printed new.printed

-- so is each user
abbrev pub EachHasLost : List UserFiles → List UserFiles → Type 0
EachHasLost [] [] = Unit {0}
EachHasLost [] (user ∷ users) = ⊥
EachHasLost (user ∷ users) [] = ⊥
EachHasLost (old ∷ olds) (new ∷ news) = HasLost old new × EachHasLost olds news

none_lost : (files : List FileValue) → HaveLost files files
none_lost [] = tt
none_lost (file ∷ files) = (inl refl, none_lost files)

emptied_lost : (index : ℕ) (files : List FileValue) → HaveLost files (emptied_at index files)
emptied_lost index [] = tt
emptied_lost zero (file ∷ files) = (inr refl, none_lost files)
emptied_lost (suc index) (file ∷ files) = (inl refl, emptied_lost index files)

user_kept : (user : UserFiles) → HasLost user user
user_kept user =
    record { decks = refl; place = refl; punched = none_lost user.punched; printed = none_lost user.printed }

each_kept : (users : List UserFiles) → EachHasLost users users
each_kept [] = tt
each_kept (user ∷ users) = (user_kept user, each_kept users)

one_lost : (loss : UserFiles → UserFiles) → ((user : UserFiles) → HasLost user (loss user)) → (users : List UserFiles)
    (user : ℕ) → EachHasLost users (set users user (loss (get_or users user no_files)))
one_lost loss law [] zero = tt
one_lost loss law [] (suc user) = tt
one_lost loss law (first ∷ users) zero = (law first, each_kept users)
one_lost loss law (first ∷ users) (suc user) = (user_kept first, one_lost loss law users user)

each_lost : (loss : UserFiles → UserFiles) → ((user : UserFiles) → HasLost user (loss user)) → (user : ℕ)
    (old new : List UserFiles) → LosesAtMost user loss old new → EachHasLost old new
each_lost loss law user old new (inl same) = subst (λ (users : List UserFiles). EachHasLost old users) (sym same)
    (each_kept old)
each_lost loss law user old new (inr lost) = subst (λ (users : List UserFiles). EachHasLost old users) (sym lost)
    (one_lost loss law old user)

-- Users of whom one has lost the entries of a punched file have lost at most entries.
pub punched_lost : (user index : ℕ) (old new : List UserFiles)
    → LosesAtMost user (without_punched index) old new → EachHasLost old new
punched_lost user index old new h =
    each_lost (without_punched index) (λ files.
    record {
      decks = refl;
      place = refl;
      punched = emptied_lost index files.punched;
      printed = none_lost files.printed;
    }) user old new h

-- Users of whom one has lost the entries of a printed file have lost at most entries.
pub printed_lost : (user index : ℕ) (old new : List UserFiles)
    → LosesAtMost user (without_printed index) old new → EachHasLost old new
printed_lost user index old new h =
    each_lost (without_printed index) (λ files.
    record {
      decks = refl;
      place = refl;
      punched = none_lost files.punched;
      printed = emptied_lost index files.printed;
    }) user old new h

abbrev lost_first : List EntryValue → List EntryValue → List (List EntryValue) → List (List EntryValue)
lost_first old [] rest = old ∷ rest
lost_first old (entry ∷ entries) rest = rest

-- what was lost of these files, of which those are left
abbrev lost_of : List FileValue → List FileValue → List (List EntryValue)
lost_of [] news = []
lost_of (old ∷ olds) [] = []
lost_of (old ∷ olds) (new ∷ news) = lost_first old.entries new.entries (lost_of olds news)

kept_first : (file : FileValue) (entries : List EntryValue) (rest : List (List EntryValue)) (olds news : List FileValue)
    → with_entries rest news ≡ olds
    → (let f : FileValue = record file { entries = entries } in
    with_entries (lost_first entries entries rest) (f ∷ news) ≡ f ∷ olds)
kept_first file [] rest olds news same = ap (λ (more : List FileValue). record file { entries = [] } ∷ more) same
kept_first file (entry ∷ entries) rest olds news same =
    ap (λ (more : List FileValue). record file { entries = entry ∷ entries } ∷ more) same

first_again : (old new : FileValue) (olds news : List FileValue) → ((new ≡ old) ⊎ (new ≡ without_entries old))
    → with_entries (lost_of olds news) news ≡ olds
    → with_entries (lost_first old.entries new.entries (lost_of olds news)) (new ∷ news) ≡ old ∷ olds
first_again old new olds news (inl same) rest =
    subst
    (λ (f : FileValue). with_entries (lost_first old.entries f.entries (lost_of olds news)) (f ∷ news) ≡ old ∷ olds)
    (sym same) (kept_first old old.entries (lost_of olds news) olds news rest)
first_again old new olds news (inr lost) rest =
    subst
    (λ (f : FileValue). with_entries (lost_first old.entries f.entries (lost_of olds news)) (f ∷ news) ≡ old ∷ olds)
    (sym lost) (ap (λ (more : List FileValue). old ∷ more) rest)

lost_again : (olds news : List FileValue) → HaveLost olds news → with_entries (lost_of olds news) news ≡ olds
lost_again [] [] h = refl
lost_again [] (new ∷ news) h = absurd h
lost_again (old ∷ olds) [] h = absurd h
lost_again (old ∷ olds) (new ∷ news) h = first_again old new olds news h.0 (lost_again olds news h.1)

-- what was lost of a user's files
abbrev pub lost_files : UserFiles → UserFiles → Lost
lost_files old new =
    record { punched = lost_of old.punched new.punched; printed = lost_of old.printed new.printed }

-- Files are those that have lost entries, with these.
pub files_again : (old new : UserFiles) → HasLost old new → (let gone = lost_files old new in
    old ≡ record new {
      punched = with_entries gone.punched new.punched;
      printed = with_entries gone.printed new.printed;
    })
files_again old new h =
    let gone = lost_files old new in
    ap (λ (decks : List DeckValue). let f : UserFiles = record old { decks = decks } in f) (sym h.decks)
    ∙ ap (λ (place : Option ℕ). let f : UserFiles = record old { decks = new.decks; place = place } in f) (sym h.place)
    ∙ ap (λ (files : List FileValue).
    let f : UserFiles = record new { punched = files; printed = old.printed } in f)
    (sym (lost_again old.punched new.punched h.punched))
    ∙ ap (λ (files : List FileValue).
    let f : UserFiles = record new { punched = with_entries gone.punched new.punched; printed = files } in f)
    (sym (lost_again old.printed new.printed h.printed))

-- Where each user has lost entries of his, so has this one.
pub lost_at : (olds news : List UserFiles) → EachHasLost olds news → (user : ℕ)
    → HasLost (files_of olds user) (files_of news user)
lost_at [] [] h user = record { decks = refl; place = refl; punched = tt; printed = tt }
lost_at [] (new ∷ news) h user = absurd h
lost_at (old ∷ olds) [] h user = absurd h
lost_at (old ∷ olds) (new ∷ news) h zero = h.0
lost_at (old ∷ olds) (new ∷ news) h (suc user) = lost_at olds news h.1 user

-- Users whose closed files have lost entries are as many.
pub as_many_lost : (olds news : List UserFiles) → EachHasLost olds news → length news ≡ length olds
as_many_lost [] [] h = refl
as_many_lost [] (new ∷ news) h = absurd h
as_many_lost (old ∷ olds) [] h = absurd h
as_many_lost (old ∷ olds) (new ∷ news) h = ap suc (as_many_lost olds news h.1)

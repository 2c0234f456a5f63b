-- Closed files stay as they are, so what the answers to parts have of them is what a session has.
use Rattle.std.specs.Prelude.{nat_lt}
use Rattle.std.proofs.Common.{◌≡◌, ◌∙◌, ◌+◌, ◌<◌, ℕ, Bool, true, false, List, [], ◌∷◌, ◌++◌, Option, Some, None}
use Rattle.std.proofs.Common.{ap, append-nil, append_assoc, arith, drop, length, length-append, refl, subst, sym}
use Rattle.std.proofs.lemmas.Bool.Decides.{nat_tests}
use Rattle.unit_record.specs.Output.{FileValue}
use Rattle.user_names.specs.Users.{name_of}
use Rattle.machine_devices.specs.Equipped.{Equipped}
use Rattle.machine_devices.specs.Notes.{closed_by, note_where}
use Rattle.machine_devices.specs.Written.{IsFull, has_entry}
use Rattle.machine_devices.specs.declared.files.FileKind.{FileKind}
use Rattle.machine_devices.specs.declared.files.FileKind.TheVariants as kinds
use Rattle.machine_devices.specs.declared.files.FileNote.{FileNote}
use Rattle.machine_devices.proofs.Lost.{FilesStay, Full, first_full, full_stays, kind_stays, place_stays}
use Rattle.sessions.specs.Continuing.{IsToGoOn}
use Rattle.sessions.specs.Files.{closed_in, found_lines, lines_from, lines_since, note_lines}
use Rattle.sessions.specs.Installed.{Installation, Installed, IsHistory, Step, names_of, user_at}
use Rattle.sessions.specs.Noted.{AreFull, HasFull, NotesFiles}
use Rattle.sessions.specs.Schedule.{Act, Scene, steps_of}
use Rattle.sessions.specs.Session.{IsPlayed}
use Rattle.sessions.specs.declared.files.Telling.{Telling}
use Rattle.sessions.proofs.Histories.{history}

-- ---- files that are noted

pub append_full : (s : Installed) (xs ys : List FileNote) → AreFull s xs → AreFull s ys → AreFull s (xs ++ ys)
append_full s [] ys h k = k
append_full s (x ∷ xs) ys h k = (h.0, append_full s xs ys h.1 k)

where_full : (s : Installed) (b : Bool) (user : ℕ) (kind : FileKind) → (b ≡ true → IsFull (user_at s user) kind)
    → AreFull s (note_where b user kind)
where_full s true user kind h = (h refl, tt)
where_full s false user kind h = tt

is_less : (m n : ℕ) → nat_lt m n ≡ true → m < n
is_less m n e = grind (arith, nat_tests)

-- The files that a user's punch and printer have closed are noted with their entries.
pub notes_full : (s : Installed) (user : ℕ) (old mid : Equipped) → FilesStay old mid → FilesStay mid (user_at s user)
    → AreFull s (closed_by user old mid)
notes_full s user old mid closed stay =
    let p = length old.devices.punched in
    let q = length mid.devices.punched in
    let r = length old.devices.printed in
    let t = length mid.devices.printed in
    append_full s (note_where (nat_lt p q) user (kinds.Punch p)) (note_where (nat_lt r t) user (kinds.Printer r))
    (where_full s (nat_lt p q) user (kinds.Punch p) (λ e. kind_stays mid (user_at s user) stay (kinds.Punch p)
    (first_full old.devices.punched mid.devices.punched closed.0 (is_less p q e))))
    (where_full s (nat_lt r t) user (kinds.Printer r) (λ e. kind_stays mid (user_at s user) stay (kinds.Printer r)
    (first_full old.devices.printed mid.devices.printed closed.1 (is_less r t e))))

-- Where the files of each user stay, each closed file does.
pub closed_stay : (s t : Installed) → ((user : ℕ) → FilesStay (user_at s user) (user_at t user))
    → (user : ℕ) (kind : FileKind) (file : FileValue)
    → closed_in s user kind ≡ Some file → closed_in t user kind ≡ Some file
closed_stay s t stay user (kinds.Punch place) file found =
    place_stays (user_at s user).devices.punched (user_at t user).devices.punched place file (stay user).0 found
closed_stay s t stay user (kinds.Printer place) file found =
    place_stays (user_at s user).devices.printed (user_at t user).devices.printed place file (stay user).1 found
closed_stay s t stay user kinds.Deck file found = absurd (cc)

-- ---- one event after another

-- An installation that nothing happened to has noted nothing.
pub notes_none : (s : Installed) → NotesFiles s s
notes_none s =
    record { more = []; noted = sym (append-nil s.files); full = tt; stay = λ user kind file found. found }

full_on : (s t : Installed) → ((user : ℕ) (kind : FileKind) (file : FileValue) → closed_in s user kind ≡ Some file
    → closed_in t user kind ≡ Some file) → (user : ℕ) (kind : FileKind) → IsFull (user_at s user) kind
    → IsFull (user_at t user) kind
full_on s t stay user (kinds.Punch place) h =
    full_stays (closed_in s user (kinds.Punch place)) (closed_in t user (kinds.Punch place))
    (stay user (kinds.Punch place)) h
full_on s t stay user (kinds.Printer place) h =
    full_stays (closed_in s user (kinds.Printer place)) (closed_in t user (kinds.Printer place))
    (stay user (kinds.Printer place)) h
full_on s t stay user kinds.Deck h = tt

all_on : (s t : Installed) → ((user : ℕ) (kind : FileKind) (file : FileValue) → closed_in s user kind ≡ Some file
    → closed_in t user kind ≡ Some file) → (notes : List FileNote) → AreFull s notes → AreFull t notes
all_on s t stay [] h = tt
all_on s t stay (note ∷ notes) h = (full_on s t stay note.user note.kind h.0, all_on s t stay notes h.1)

-- What is noted by two events is noted by both.
pub notes_then : (s t u : Installed) → NotesFiles s t → NotesFiles t u → NotesFiles s u
notes_then s t u one other = record {
  more = one.more ++ other.more;
  noted = other.noted ∙ ap (λ (l : List FileNote). l ++ other.more) one.noted
      ∙ append_assoc s.files one.more other.more;
  full = append_full u one.more other.more (all_on t u other.stay one.more one.full) other.full;
  stay = λ user kind file found. other.stay user kind file (one.stay user kind file found);
}

module _ {W : Type 0} (i : Installation W) (law : IsToGoOn i) where
  history_notes : (steps : List (Step W)) (first last : W) → IsHistory i first steps last
      → NotesFiles (i.seen first) (i.seen last)
  history_notes [] first last h =
      subst (λ (w : W). NotesFiles (i.seen first) (i.seen w)) (sym h) (notes_none (i.seen first))
  history_notes (step ∷ steps) first last h =
      notes_then (i.seen first) (i.seen step.left) (i.seen last) (law.notes first step h.0)
      (history_notes steps step.left last h.1)

  -- What was played has noted the files that it closed.
  pub played_notes : (acts : List Act) (old new : Scene W) (a b : Option (List ℕ)) → IsPlayed i acts old new a b
      → NotesFiles (i.seen old.world) (i.seen new.world)
  played_notes acts old new a b p =
      history_notes (steps_of p.entries) old.world new.world (history i acts old new p.entries p.done)

-- ---- their lines

same_full : (o p : Option FileValue) → Full o
    → ((file : FileValue) → o ≡ Some file → has_entry file.entries ≡ true → p ≡ Some file) → o ≡ p
same_full None p full same = absurd full
same_full (Some file) p full same = sym (same file refl full)

module _ (telling : Telling) (s t : Installed) (names : names_of s ≡ names_of t) (same : HasFull t s) where
  closed_same : (user : ℕ) (kind : FileKind) → IsFull (user_at s user) kind
      → closed_in s user kind ≡ closed_in t user kind
  closed_same user (kinds.Punch place) full =
      same_full (closed_in s user (kinds.Punch place)) (closed_in t user (kinds.Punch place)) full
      (same user (kinds.Punch place))
  closed_same user (kinds.Printer place) full =
      same_full (closed_in s user (kinds.Printer place)) (closed_in t user (kinds.Printer place)) full
      (same user (kinds.Printer place))
  closed_same user kinds.Deck full = refl

  lines_same : (notes : List FileNote) (number : ℕ) → AreFull s notes
      → lines_from telling s number notes ≡ lines_from telling t number notes
  lines_same [] number full = refl
  lines_same (note ∷ notes) number full =
      let found = λ (ns : List (List ℕ)) (o : Option FileValue).
      found_lines telling note.kind number (name_of ns note.user) o in
      ap (λ (l : List (List ℕ)). l ++ lines_from telling s (number + 1) notes)
      (ap (λ (ns : List (List ℕ)). found ns (closed_in s note.user note.kind)) names
      ∙ ap (found (names_of t)) (closed_same note.user note.kind full.0))
      ∙ ap (λ (l : List (List ℕ)). note_lines telling t number note ++ l) (lines_same notes (number + 1) full.1)

lines_append : (telling : Telling) (s : Installed) (number : ℕ) (xs ys : List FileNote)
    → lines_from telling s number (xs ++ ys)
    ≡ lines_from telling s number xs ++ lines_from telling s (number + length xs) ys
lines_append telling s number [] ys =
    let same : number ≡ number + length {A = FileNote} [] = omega arith in
    ap (λ (n : ℕ). lines_from telling s n ys) same
lines_append telling s number (x ∷ xs) ys =
    let further : (number + 1) + length xs ≡ number + length (x ∷ xs) = omega arith in
    ap (λ (l : List (List ℕ)). note_lines telling s number x ++ l) (lines_append telling s (number + 1) xs ys)
    ∙ ap (λ (n : ℕ). note_lines telling s number x ++ (lines_from telling s (number + 1) xs
    ++ lines_from telling s n ys)) further
    ∙ sym (append_assoc (note_lines telling s number x) (lines_from telling s (number + 1) xs)
    (lines_from telling s (number + length (x ∷ xs)) ys))

drop_front : (xs ys : List FileNote) → drop (length xs) (xs ++ ys) ≡ ys
drop_front [] ys = refl
drop_front (x ∷ xs) ys = drop_front xs ys

left_over : (olds news more : List FileNote) → news ≡ olds ++ more → drop (length olds) news ≡ more
left_over olds news more e = ap (λ (l : List FileNote). drop (length olds) l) e ∙ drop_front olds more

-- The files that were closed by two parts are those of the first and those of the second.
pub since_joined : (telling : Telling) (a b c : Installed) → NotesFiles a b → NotesFiles b c → names_of b ≡ names_of c
    → lines_since telling (length a.files) c
    ≡ lines_since telling (length a.files) b ++ lines_since telling (length b.files) c
since_joined telling a b c one other names =
    let first = length a.files + 1 in
    let noted : c.files ≡ a.files ++ (one.more ++ other.more) =
    other.noted ∙ ap (λ (l : List FileNote). l ++ other.more) one.noted ∙ append_assoc a.files one.more other.more in
    let count : length b.files ≡ length a.files + length one.more =
    ap length one.noted ∙ length-append a.files one.more in
    let next : first + length one.more ≡ length b.files + 1 = omega (arith, count) in
    ap (lines_from telling c first) (left_over a.files c.files (one.more ++ other.more) noted)
    ∙ lines_append telling c first one.more other.more
    ∙ ap (λ (l : List (List ℕ)). l ++ lines_from telling c (first + length one.more) other.more)
    (sym (lines_same telling b c names (λ user kind file found full. other.stay user kind file found) one.more first
    one.full)
    ∙ ap (lines_from telling b first) (sym (left_over a.files b.files one.more one.noted)))
    ∙ ap (λ (l : List (List ℕ)). lines_since telling (length a.files) b ++ l)
    (ap (λ (n : ℕ). lines_from telling c n other.more) next
    ∙ ap (lines_from telling c (length b.files + 1)) (sym (left_over b.files c.files other.more other.noted)))

-- The files that were closed where some were forgotten are those that were closed where none were.
pub since_same : (telling : Telling) (a b a' b' : Installed) → a.files ≡ b.files → a'.files ≡ b'.files
    → names_of b' ≡ names_of a' → HasFull a' b' → NotesFiles b b'
    → lines_since telling (length a.files) a' ≡ lines_since telling (length b.files) b'
since_same telling a b a' b' files files' names same notes =
    let left = left_over b.files b'.files notes.more notes.noted in
    let first = length b.files + 1 in
    ap (λ (n : ℕ). lines_since telling n a') (ap length files)
    ∙ ap (λ (l : List FileNote). lines_from telling a' first (drop (length b.files) l)) files'
    ∙ ap (lines_from telling a' first) left
    ∙ sym (lines_same telling b' a' names same notes.more first notes.full)
    ∙ ap (lines_from telling b' first) (sym left)

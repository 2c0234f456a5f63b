-- What coming and leaving make of the lists that are seen.
use Rattle.std.proofs.Common.{◌≡◌, ◌≢◌, ℕ, zero, suc, ◌+◌, ◌<◌, ◌≤◌, Bool, true, false, List, [], ◌∷◌, ◌++◌, length}
use Rattle.std.proofs.Common.{get_or, map, set, Option, Some, None, refl, sym, ◌∙◌, ap, subst, arith}
use Rattle.std.specs.Prelude.{IsSomeAnd, slice_get, unwrap_or}
use Rattle.std.specs.Option.{option_map}
use Rattle.std.proofs.lemmas.List.{map-set, map-append, length-map, get_or-set_same}
use Rattle.std.proofs.Math.Seq.{map-set_same}
use Rattle.std.proofs.lemmas.Option.{get_or_from_slice_get, slice_get-map}
use Rattle.slab.specs.Slab.{Slab, get, Updates}
use Rattle.unit_record.specs.declared.output.Target.{Target}
use Rattle.unit_record.specs.declared.output.Target.TheVariants as targets
use Rattle.unit_record.specs.declared.reader.Sender.{Sender}
use Rattle.unit_record.specs.Output.{EntryValue, FileValue}
use Rattle.unit_record.specs.Reader.{DeckValue}
use Rattle.cp_spool.specs.declared.queue.Waiting.{Waiting}
use Rattle.cp_spool.specs.File.{SpoolFileValue, ContentsValue, Cards, Entries, card_of_entry, cards_in, closed_file}
use Rattle.cp_spool.specs.Queues.{UserFiles, cards_of, deck_of, file_of, files_of, no_files, with_deck, with_files}
use Rattle.cp_spool.specs.Queues.{with_place, with_printed, with_punched, without_deck}
use Rattle.cp_spool.specs.Keys.{IsMade, IsSound, IsSoundOf, QueueKeys, StandsWith, closed_at, deck_at, file_at}
use Rattle.cp_spool.specs.Keys.{is_given, keys_in, no_file, no_keys, queue_of, user_files, with_printed_key}
use Rattle.cp_spool.specs.Keys.{with_punched_key, with_queue, with_waiting, without_waiting}
use Rattle.cp_spool.proofs.Sound.{IsFree, apart_printed, apart_punched, each_set, map-remove, sound_apart, sound_less}
use Rattle.cp_spool.proofs.Sound.{sound_placed, sound_printed}
use Rattle.cp_spool.proofs.Sound.{sound_punched, sound_roomier, sound_set, sound_waiting, taken_is_free, users_apart}
use Rattle.cp_spool.proofs.Sound.{vacant_is_free}

-- The files of a user among those of all are those of his queue.
pub files_there : (files : Slab SpoolFileValue) (queues : List QueueKeys) (user : ℕ)
    → get_or (map (user_files files) queues) user no_files ≡ user_files files (queue_of queues user)
files_there files [] user = refl
files_there files (q ∷ qs) zero = refl
files_there files (q ∷ qs) (suc user) = files_there files qs user

-- one queue is changed
pub users_changed : (files : Slab SpoolFileValue) (queues : List QueueKeys) (user : ℕ) (q : QueueKeys)
    (f : UserFiles → UserFiles) → user_files files q ≡ f (user_files files (queue_of queues user))
    → map (user_files files) (set queues user q)
    ≡ with_files user (f (files_of (map (user_files files) queues) user)) (map (user_files files) queues)
users_changed files queues user q f is =
    map-set (user_files files) queues user q
    ∙ ap (λ (x : UserFiles). set (map (user_files files) queues) user x)
    (is ∙ ap f (sym (files_there files queues user)))

-- so much as there is room for, as it is seen and as a queue has it
pub inside_of : (files : Slab SpoolFileValue) (queues : List QueueKeys) (users : List UserFiles) (user : ℕ)
    → map (user_files files) queues ≡ users → user < length users → user < length queues
inside_of files queues users user seen inside =
    let there : user < length (map (user_files files) queues) =
    subst (λ (us : List UserFiles). user < length us) (sym seen) inside in
    simp length-map at there

-- ---- a deck comes

user_waiting : (files : Slab SpoolFileValue) (w : Waiting) (q : QueueKeys)
    → user_files files (with_waiting w q) ≡ with_deck (deck_at files w) (user_files files q)
user_waiting files w q =
    ap (λ (ds : List DeckValue). let f : UserFiles = record (user_files files q) { decks = ds } in f)
    (map-append (deck_at files) q.decks (w ∷ []))

-- a new file under a key that had none
module _ (files files' : Slab SpoolFileValue) (queues : List QueueKeys) (user key : ℕ) (file : SpoolFileValue)
    (sound : IsSound files queues) (vacant : get files key ≡ None) (paged_in : Updates files files' key (Some file))
    (inside : user < length queues) where
  stands_now : (P : SpoolFileValue → Type 0) → P file → IsSomeAnd (get files' key) P
  stands_now P h = subst (λ (o : Option SpoolFileValue). IsSomeAnd o P) (sym paged_in.changed) h

  file_now : file_at files' key ≡ file
  file_now = ap (λ (o : Option SpoolFileValue). unwrap_or o no_file) paged_in.changed

  free : IsFree key queues
  free = vacant_is_free files queues key sound vacant

  still_sound : IsSound files' queues
  still_sound = sound_apart files files' key paged_in.others queues free sound

  users_still : map (user_files files') queues ≡ map (user_files files) queues
  users_still = users_apart files files' key paged_in.others queues free

  changed : (q : QueueKeys) (f : UserFiles → UserFiles)
      → user_files files' q ≡ f (user_files files' (queue_of queues user))
      → map (user_files files') (set queues user q)
      ≡ with_files user (f (files_of (map (user_files files) queues) user)) (map (user_files files) queues)
  changed q f is =
      users_changed files' queues user q f is
      ∙ ap (λ (us : List UserFiles). with_files user (f (files_of us user)) us) users_still

  -- a deck that is given
  pub sound_given : (w : Waiting) → w.key ≡ key → StandsWith user file
      → IsSound files' (with_queue user (with_waiting w (queue_of queues user)) queues)
  sound_given w is stands =
      sound_set files' queues user (with_waiting w (queue_of queues user)) inside refl refl
      (sound_waiting files' user w (queue_of queues user) (still_sound.0 user)
      (subst (λ (k : ℕ). IsSomeAnd (get files' k) (StandsWith user)) (sym is) (stands_now (StandsWith user) stands))
      (λ given. λ i l e. (free user).waiting i l (e ∙ is)))
      still_sound

  deck_now : (w : Waiting) → w.key ≡ key
      → deck_at files' w ≡ record { label = w.label; sender = w.sender; cards = cards_in file.contents }
  deck_now w is = ap (λ (k : ℕ).
      let d : DeckValue = record { label = w.label; sender = w.sender; cards = cards_in ((file_at files' k).contents) }
      in d) is
      ∙ ap (λ (x : SpoolFileValue).
      let d : DeckValue = record { label = w.label; sender = w.sender; cards = cards_in x.contents } in d) file_now

  pub users_given : (w : Waiting) → w.key ≡ key
      → map (user_files files') (with_queue user (with_waiting w (queue_of queues user)) queues)
      ≡ with_files user (with_deck (record { label = w.label; sender = w.sender; cards = cards_in file.contents })
      (files_of (map (user_files files) queues) user)) (map (user_files files) queues)
  users_given w is =
      changed (with_waiting w (queue_of queues user))
      (with_deck (record { label = w.label; sender = w.sender; cards = cards_in file.contents }))
      (user_waiting files' w (queue_of queues user) ∙ ap
      (λ (d : DeckValue). with_deck d (user_files files' (queue_of queues user))) (deck_now w is))

  -- a file that is closed
  pub sound_closed_punch : IsMade file
      → IsSound files' (with_queue user (with_punched_key key (queue_of queues user)) queues)
  sound_closed_punch made =
      let q = with_punched_key key (queue_of queues user) in
      let now = sound_punched files' user key (queue_of queues user) (still_sound.0 user) (stands_now IsMade made) in (
        each_set (λ u x. IsSoundOf files' u x) queues user q inside now still_sound.0,
        apart_punched queues user key inside free still_sound.1,
      )

  pub sound_closed_print : IsMade file
      → IsSound files' (with_queue user (with_printed_key key (queue_of queues user)) queues)
  sound_closed_print made =
      let q = with_printed_key key (queue_of queues user) in
      let now = sound_printed files' user key (queue_of queues user) (still_sound.0 user) (stands_now IsMade made) in (
        each_set (λ u x. IsSoundOf files' u x) queues user q inside now still_sound.0,
        apart_printed queues user key inside free still_sound.1,
      )

  closed_now : (keys : List ℕ)
      → map (closed_at files') (keys ++ key ∷ []) ≡ map (closed_at files') keys ++ closed_file file ∷ []
  closed_now keys =
      map-append (closed_at files') keys (key ∷ [])
      ∙ ap (λ (x : SpoolFileValue). map (closed_at files') keys ++ closed_file x ∷ []) file_now

  pub users_closed_punch : map (user_files files')
      (with_queue user (with_punched_key key (queue_of queues user)) queues)
      ≡ with_files user (with_punched (closed_file file) (files_of (map (user_files files) queues) user))
      (map (user_files files) queues)
  users_closed_punch =
      changed (with_punched_key key (queue_of queues user)) (with_punched (closed_file file))
      (ap (λ (fs : List FileValue).
      let f : UserFiles = record (user_files files' (queue_of queues user)) { punched = fs } in f)
      (closed_now (queue_of queues user).punched))

  pub users_closed_print : map (user_files files')
      (with_queue user (with_printed_key key (queue_of queues user)) queues)
      ≡ with_files user (with_printed (closed_file file) (files_of (map (user_files files) queues) user))
      (map (user_files files) queues)
  users_closed_print =
      changed (with_printed_key key (queue_of queues user)) (with_printed (closed_file file))
      (ap (λ (fs : List FileValue).
      let f : UserFiles = record (user_files files' (queue_of queues user)) { printed = fs } in f)
      (closed_now (queue_of queues user).printed))

-- ---- a closed file comes to a reader

there_is : (o : Option SpoolFileValue) (P : SpoolFileValue → Type 0) → IsSomeAnd o P → o ≡ Some (unwrap_or o no_file)
there_is None P h = absurd h
there_is (Some file) P h = refl

made_stands : (o : Option SpoolFileValue) (user : ℕ) → IsSomeAnd o IsMade → IsSomeAnd o (StandsWith user)
made_stands None user h = h
made_stands (Some file) user h = λ deck. absurd (cc (sym deck ∙ h))

made_not_given : (o : Option SpoolFileValue) → IsSomeAnd o IsMade → is_given o ≡ true → ⊥
made_not_given None h given = h
made_not_given (Some file) h given = absurd (cc (sym given ∙ h))

cards_entries : (contents : ContentsValue) (to : Target)
    → (let file : SpoolFileValue = record { target = to; contents = contents } in IsMade file)
    → (let file : SpoolFileValue = record { target = to; contents = contents } in cards_in contents
    ≡ map card_of_entry ((closed_file file).entries))
cards_entries (Cards cards) to h = absurd (cc)
cards_entries (Entries entries) to h = refl

cards_made : (o : Option SpoolFileValue) → IsSomeAnd o IsMade
    → (let file : SpoolFileValue = unwrap_or o no_file in cards_in file.contents
    ≡ map card_of_entry ((closed_file file).entries))
cards_made None h = absurd h
cards_made (Some file) h = cards_entries file.contents file.target h

module _ (files : Slab SpoolFileValue) (queues : List QueueKeys) (from index user key : ℕ)
    (sound : IsSound files queues) (inside : user < length queues)
    (within : index < length (queue_of queues from).punched)
    (found : slice_get (queue_of queues from).punched index ≡ Some key) where
  made_here : IsSomeAnd (get files key) IsMade
  made_here = subst (λ (k : ℕ). IsSomeAnd (get files k) IsMade)
      (get_or_from_slice_get (queue_of queues from).punched index key 0 found) ((sound.0 from).punched index within)

  pub sound_delivered : (w : Waiting) → w.key ≡ key
      → IsSound files (with_queue user (with_waiting w (queue_of queues user)) queues)
  sound_delivered w is =
      let here : IsSomeAnd (get files w.key) IsMade =
      subst (λ (k : ℕ). IsSomeAnd (get files k) IsMade) (sym is) made_here in
      sound_set files queues user (with_waiting w (queue_of queues user)) inside refl refl
      (sound_waiting files user w (queue_of queues user) (sound.0 user) (made_stands (get files w.key) user here)
      (λ given. absurd (made_not_given (get files w.key) here given)))
      sound

  file_seen : slice_get ((files_of (map (user_files files) queues) from).punched) index ≡ Some (closed_at files key)
  file_seen =
      ap (λ (f : UserFiles). slice_get f.punched index) (files_there files queues from)
      ∙ slice_get-map (closed_at files) (queue_of queues from).punched index
      ∙ ap (λ (o : Option ℕ). option_map (closed_at files) o) found

  deck_seen : (w : Waiting) → w.key ≡ key
      → deck_at files w ≡ deck_of ((files_of (map (user_files files) queues) from).punched) index w.label w.sender
  deck_seen w is =
      ap (λ (k : ℕ). let d : DeckValue = record {
        label = w.label;
        sender = w.sender;
        cards = cards_in ((file_at files k).contents);
      } in d) is
      ∙ ap (λ (cards : List (List ℕ)).
      let d : DeckValue = record { label = w.label; sender = w.sender; cards = cards } in d)
      (cards_made (get files key) made_here)
      ∙ ap (λ (o : Option FileValue).
      let d : DeckValue = record { label = w.label; sender = w.sender; cards = cards_of o } in d) (sym file_seen)

  pub users_delivered : (w : Waiting) → w.key ≡ key
      → map (user_files files) (with_queue user (with_waiting w (queue_of queues user)) queues)
      ≡ with_files user (with_deck
      (deck_of ((files_of (map (user_files files) queues) from).punched) index w.label w.sender)
      (files_of (map (user_files files) queues) user)) (map (user_files files) queues)
  users_delivered w is =
      users_changed files queues user (with_waiting w (queue_of queues user))
      (with_deck (deck_of ((files_of (map (user_files files) queues) from).punched) index w.label w.sender))
      (user_waiting files w (queue_of queues user) ∙ ap
      (λ (d : DeckValue). with_deck d (user_files files (queue_of queues user))) (deck_seen w is))

-- ---- a deck leaves

user_less : (files : Slab SpoolFileValue) (index : ℕ) (q : QueueKeys)
    → user_files files (without_waiting index q) ≡ without_deck index (user_files files q)
user_less files index q =
    ap (λ (ds : List DeckValue). let f : UserFiles = record (user_files files q) { decks = ds } in f)
    (map-remove (deck_at files) q.decks index)

module _ (files files' : Slab SpoolFileValue) (queues : List QueueKeys) (user index key : ℕ)
    (sound : IsSound files queues) (inside : user < length queues)
    (there : index < length (keys_in (queue_of queues user)))
    (is : get_or (keys_in (queue_of queues user)) index 0 ≡ key) where
  abbrev left : List QueueKeys
  left = set queues user (without_waiting index (queue_of queues user))

  sound_left : IsSound files left
  sound_left = sound_set files queues user (without_waiting index (queue_of queues user)) inside refl refl
      (sound_less files user index (queue_of queues user) there (sound.0 user)) sound

  users_left : map (user_files files) left
      ≡ with_files user (without_deck index (files_of (map (user_files files) queues) user))
      (map (user_files files) queues)
  users_left = users_changed files queues user (without_waiting index (queue_of queues user)) (without_deck index)
      (user_less files index (queue_of queues user))

  pub sound_taken : (b : Bool) → is_given (get files key) ≡ b → (b ≡ true → Updates files files' key None)
      → (b ≡ false → files' ≡ files) → IsSound files' left
  sound_taken true given gone kept =
      sound_apart files files' key (gone refl).others left
      (taken_is_free files queues user index key inside there is given sound) sound_left
  sound_taken false given gone kept = subst (λ (s : Slab SpoolFileValue). IsSound s left) (sym (kept refl)) sound_left

  pub users_taken : (b : Bool) → is_given (get files key) ≡ b → (b ≡ true → Updates files files' key None)
      → (b ≡ false → files' ≡ files)
      → map (user_files files') left
      ≡ with_files user (without_deck index (files_of (map (user_files files) queues) user))
      (map (user_files files) queues)
  users_taken true given gone kept =
      users_apart files files' key (gone refl).others left
      (taken_is_free files queues user index key inside there is given sound) ∙ users_left
  users_taken false given gone kept = ap (λ (s : Slab SpoolFileValue). map (user_files s) left) (kept refl) ∙ users_left

-- ---- a place, and room

-- The queues stay sound when a reader moves to another card.
pub placed_sound : (files : Slab SpoolFileValue) (queues : List QueueKeys) (user : ℕ) (place : Option ℕ)
    → user < length queues → IsSound files queues
    → IsSound files (with_queue user (record (queue_of queues user) { place = place }) queues)
placed_sound files queues user place inside sound =
    sound_set files queues user (record (queue_of queues user) { place = place }) inside refl refl
    (sound_placed files user place (queue_of queues user) (sound.0 user)) sound

-- Moving a reader to another card changes its user's place alone.
pub users_placed : (files : Slab SpoolFileValue) (queues : List QueueKeys) (user : ℕ) (place : Option ℕ)
    → map (user_files files) (with_queue user (record (queue_of queues user) { place = place }) queues)
    ≡ with_files user (with_place place (files_of (map (user_files files) queues) user)) (map (user_files files) queues)
users_placed files queues user place =
    users_changed files queues user (record (queue_of queues user) { place = place }) (with_place place) refl

-- The queues stay sound when there is more room for closed files.
pub roomier_sound : (files : Slab SpoolFileValue) (queues : List QueueKeys) (user m n : ℕ) → user < length queues
    → IsSound files queues → IsSound files
    (with_queue user (record (queue_of queues user) { punch_room = m; print_room = n }) queues)
roomier_sound files queues user m n inside sound =
    sound_set files queues user (record (queue_of queues user) { punch_room = m; print_room = n }) inside refl refl
    (sound_roomier files user m n (queue_of queues user) (sound.0 user)) sound

-- More room for closed files changes no file.
pub users_roomier : (files : Slab SpoolFileValue) (queues : List QueueKeys) (user m n : ℕ)
    → map (user_files files) (with_queue user (record (queue_of queues user) { punch_room = m; print_room = n }) queues)
    ≡ map (user_files files) queues
users_roomier files queues user m n =
    map-set_same (user_files files) queues user (record (queue_of queues user) { punch_room = m; print_room = n })
    no_keys refl

pub punch_room_there : (queues : List QueueKeys) (user : ℕ)
    → get_or (map (λ (q : QueueKeys). q.punch_room) queues) user 0 ≡ (queue_of queues user).punch_room
punch_room_there [] user = refl
punch_room_there (q ∷ qs) zero = refl
punch_room_there (q ∷ qs) (suc user) = punch_room_there qs user

pub print_room_there : (queues : List QueueKeys) (user : ℕ)
    → get_or (map (λ (q : QueueKeys). q.print_room) queues) user 0 ≡ (queue_of queues user).print_room
print_room_there [] user = refl
print_room_there (q ∷ qs) zero = refl
print_room_there (q ∷ qs) (suc user) = print_room_there qs user

-- whoever has room is there
pub punch_inside : (queues : List QueueKeys) (user : ℕ) → 1 ≤ (queue_of queues user).punch_room → user < length queues
punch_inside [] user h = absurd (omega arith)
punch_inside (q ∷ qs) zero h = omega arith
punch_inside (q ∷ qs) (suc user) h = let l = punch_inside qs user h in omega arith

pub print_inside : (queues : List QueueKeys) (user : ℕ) → 1 ≤ (queue_of queues user).print_room → user < length queues
print_inside [] user h = absurd (omega arith)
print_inside (q ∷ qs) zero h = omega arith
print_inside (q ∷ qs) (suc user) h = let l = print_inside qs user h in omega arith

-- A user with a deck in his queue is one of the users.
pub deck_inside : (queues : List QueueKeys) (user index : ℕ) → index < length (queue_of queues user).decks
    → user < length queues
deck_inside [] user index h = absurd (omega arith)
deck_inside (q ∷ qs) zero index h = omega arith
deck_inside (q ∷ qs) (suc user) index h = let l = deck_inside qs user index h in omega arith

pub punched_inside : (queues : List QueueKeys) (user index : ℕ) → index < length (queue_of queues user).punched
    → user < length queues
punched_inside [] user index h = absurd (omega arith)
punched_inside (q ∷ qs) zero index h = omega arith
punched_inside (q ∷ qs) (suc user) index h = let l = punched_inside qs user index h in omega arith

-- A user with room for a punch file is one of the users.
pub punch_there : (queues : List QueueKeys) (rooms : List ℕ) (user : ℕ)
    → map (λ (q : QueueKeys). q.punch_room) queues ≡ rooms → 1 ≤ get_or rooms user 0 → user < length queues
punch_there queues rooms user seen room =
    let there = subst (λ (rs : List ℕ). 1 ≤ get_or rs user 0) (sym seen) room in
    punch_inside queues user (omega (arith, punch_room_there queues user, there))

-- A user with room for a printer file is one of the users.
pub print_there : (queues : List QueueKeys) (rooms : List ℕ) (user : ℕ)
    → map (λ (q : QueueKeys). q.print_room) queues ≡ rooms → 1 ≤ get_or rooms user 0 → user < length queues
print_there queues rooms user seen room =
    let there = subst (λ (rs : List ℕ). 1 ≤ get_or rs user 0) (sym seen) room in
    print_inside queues user (omega (arith, print_room_there queues user, there))

pub punch_room_now : (queues : List QueueKeys) (user : ℕ) → 1 ≤ (queue_of queues user).punch_room
    → 1 ≤ get_or (map (λ (q : QueueKeys). q.punch_room) queues) user 0
punch_room_now queues user room = omega (arith, punch_room_there queues user, room)

pub print_room_now : (queues : List QueueKeys) (user : ℕ) → 1 ≤ (queue_of queues user).print_room
    → 1 ≤ get_or (map (λ (q : QueueKeys). q.print_room) queues) user 0
print_room_now queues user room = omega (arith, print_room_there queues user, room)

-- ---- as the code comes to it

-- A deck that is seen is one of the queue.
pub decks_seen : (files : Slab SpoolFileValue) (queues : List QueueKeys) (users : List UserFiles) (user index : ℕ)
    → map (user_files files) queues ≡ users → index < length ((files_of users user).decks)
    → index < length (queue_of queues user).decks
decks_seen files queues users user index seen h =
    let there : index < length (map (deck_at files) (queue_of queues user).decks) =
    subst (λ (f : UserFiles). index < length f.decks)
    (ap (λ (us : List UserFiles). files_of us user) (sym seen) ∙ files_there files queues user) h in
    simp length-map at there

-- A punch file that is seen is one of the queue.
pub punched_seen : (files : Slab SpoolFileValue) (queues : List QueueKeys) (users : List UserFiles) (user index : ℕ)
    → map (user_files files) queues ≡ users → index < length ((files_of users user).punched)
    → index < length (queue_of queues user).punched
punched_seen files queues users user index seen h =
    let there : index < length (map (closed_at files) (queue_of queues user).punched) =
    subst (λ (f : UserFiles). index < length f.punched)
    (ap (λ (us : List UserFiles). files_of us user) (sym seen) ∙ files_there files queues user) h in
    simp length-map at there

-- The key of a deck is one of the queue's keys.
pub keys_seen : (q : QueueKeys) (index : ℕ) → index < length q.decks → index < length (keys_in q)
keys_seen q index h = simp length-map h

some_there : (o : Option SpoolFileValue) (P : SpoolFileValue → Type 0) → IsSomeAnd o P → o ≡ None → ⊥
some_there None P h e = h
some_there (Some file) P h e = absurd (cc)

-- each deck has its file
pub file_there : (files : Slab SpoolFileValue) (queues : List QueueKeys) (user index : ℕ) (w : Waiting)
    → IsSound files queues → index < length (queue_of queues user).decks
    → slice_get (queue_of queues user).decks index ≡ Some w → get files w.key ≡ None → ⊥
file_there files queues user index w sound inside found none =
    let q = queue_of queues user in
    let at : slice_get (keys_in q) index ≡ Some w.key =
    slice_get-map (λ (x : Waiting). x.key) q.decks index ∙ ap
    (λ (o : Option Waiting). option_map (λ (x : Waiting). x.key) o) found in
    let key : get_or (keys_in q) index 0 ≡ w.key = get_or_from_slice_get (keys_in q) index w.key 0 at in
    let here : IsSomeAnd (get files w.key) (StandsWith user) =
    subst (λ (k : ℕ). IsSomeAnd (get files k) (StandsWith user)) key
    ((sound.0 user).waiting index (keys_seen q index inside)) in
    some_there (get files w.key) (StandsWith user) here none

module _ (files : Slab SpoolFileValue) (queues : List QueueKeys) (user index key : ℕ)
    (sound : IsSound files queues) where
  made_found : IsSomeAnd (get files key) IsMade → option_map closed_file (get files key) ≡ Some (closed_at files key)
  made_found here = ap (λ (o : Option SpoolFileValue). option_map closed_file o) (there_is (get files key) IsMade here)

  pub punched_found : index < length (queue_of queues user).punched
      → slice_get (queue_of queues user).punched index ≡ Some key
      → option_map closed_file (get files key)
      ≡ slice_get ((files_of (map (user_files files) queues) user).punched) index
  punched_found within found =
      made_found (subst (λ (k : ℕ). IsSomeAnd (get files k) IsMade)
      (get_or_from_slice_get (queue_of queues user).punched index key 0 found) ((sound.0 user).punched index within))
      ∙ sym (ap (λ (f : UserFiles). slice_get f.punched index) (files_there files queues user)
      ∙ slice_get-map (closed_at files) (queue_of queues user).punched index
      ∙ ap (λ (o : Option ℕ). option_map (closed_at files) o) found)

  pub printed_found : index < length (queue_of queues user).printed
      → slice_get (queue_of queues user).printed index ≡ Some key
      → option_map closed_file (get files key)
      ≡ slice_get ((files_of (map (user_files files) queues) user).printed) index
  printed_found within found =
      made_found (subst (λ (k : ℕ). IsSomeAnd (get files k) IsMade)
      (get_or_from_slice_get (queue_of queues user).printed index key 0 found) ((sound.0 user).printed index within))
      ∙ sym (ap (λ (f : UserFiles). slice_get f.printed index) (files_there files queues user)
      ∙ slice_get-map (closed_at files) (queue_of queues user).printed index
      ∙ ap (λ (o : Option ℕ). option_map (closed_at files) o) found)

-- A punch file that the queue has not is not seen.
pub punched_none : (files : Slab SpoolFileValue) (queues : List QueueKeys) (user index : ℕ)
    → slice_get (queue_of queues user).punched index ≡ None
    → None ≡ slice_get ((files_of (map (user_files files) queues) user).punched) index
punched_none files queues user index none =
    sym (ap (λ (f : UserFiles). slice_get f.punched index) (files_there files queues user)
    ∙ slice_get-map (closed_at files) (queue_of queues user).punched index
    ∙ ap (λ (o : Option ℕ). option_map (closed_at files) o) none)

-- A printer file that the queue has not is not seen.
pub printed_none : (files : Slab SpoolFileValue) (queues : List QueueKeys) (user index : ℕ)
    → slice_get (queue_of queues user).printed index ≡ None
    → None ≡ slice_get ((files_of (map (user_files files) queues) user).printed) index
printed_none files queues user index none =
    sym (ap (λ (f : UserFiles). slice_get f.printed index) (files_there files queues user)
    ∙ slice_get-map (closed_at files) (queue_of queues user).printed index
    ∙ ap (λ (o : Option ℕ). option_map (closed_at files) o) none)

-- Within a list there is an element at each index.
pub none_inside : (xs : List ℕ) (index : ℕ) → index < length xs → slice_get xs index ≡ None → ⊥
none_inside [] index h e = absurd (omega arith)
none_inside (x ∷ xs) zero h e = absurd (cc)
none_inside (x ∷ xs) (suc index) h e = none_inside xs index (omega arith) e

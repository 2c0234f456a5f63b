-- Closed files whose entries were dropped, in a system and in its queues.
use Rattle.std.proofs.Common.{◌≡◌, ◌∙◌, ℕ, ◌<◌, ◌≤◌, List, [], ◌∷◌, Option, Some, None, ap, get_or, length}
use Rattle.std.proofs.Common.{map, refl, subst, sym, inl, inr, arith}
use Rattle.std.specs.Prelude.{IsSomeAnd, slice_get}
use Rattle.std.proofs.Math.ListN.{get_or-map}
use Rattle.std.proofs.lemmas.Bool.{cases_lt}
use Rattle.std.proofs.lemmas.List.{get_or_default, get_or_past}
use Rattle.unit_record.specs.Output.{FileValue}
use Rattle.unit_record.specs.Reader.{DeckValue}
use Rattle.ckd_volume.specs.Volume.{VolumeFormat}
use Rattle.cp_directory.specs.Users.{DirectoryUser}
use Rattle.cp_spool.specs.File.{card_of_entry}
use Rattle.cp_spool.specs.Forgotten.{HasDeck, IsGone}
use Rattle.cp_spool.specs.Queues.{QueuesValue, UserFiles, files_of, no_files}
use Rattle.machine_devices.specs.Devices.{DevicesValue}
use Rattle.machine_devices.specs.Dropped.{HasDeckIn, IsDropped, closed_by_kind, closed_of, outputs_of}
use Rattle.machine_devices.specs.Equipped.{Equipped, nobody}
use Rattle.machine_devices.specs.Lent.{DevicesParts, devices_with}
use Rattle.machine_devices.specs.declared.files.FileKind.{FileKind}
use Rattle.machine_devices.specs.declared.files.FileKind.TheVariants as kinds
use Rattle.machine_devices.proofs.Dropping.{EachNoted, gone_stays}
use Rattle.machine_devices.proofs.Lost.{EachHasLost, lost_at}
use Rattle.cp_resident.specs.Reuse.{ReuseValue}
use Rattle.cp_core.specs.Owners.{AreOwners}
use Rattle.cp_core.specs.Forgotten.{GoesOnAs}
use Rattle.cp_core.specs.System.{SystemView, kept_of, users_of}
use Rattle.cp_core.specs.UserMachines.{SeatParts, UserParts, seat_on, seats_on, user_with}
use Rattle.cp_core.specs.Whole.{IsWhole}
use Rattle.cp_core.proofs.Owned.{length-seats, no_seat, owner_is}
use Rattle.cp_core.proofs.Systems.{get-users, has_seat, length-users}

-- ---- what of a user's files is seen in his machine

module _ (q : QueuesValue) (seats : List SeatParts) (volumes : List VolumeFormat) (storages : List (List ℕ))
    (directory : List DirectoryUser) (whole : IsWhole (seats_on q seats) storages directory)
    (owners : AreOwners seats q) where
  abbrev us : List Equipped
  us = users_of (seats_on q seats) volumes storages

  inside_is : {X : Type 0} (P : DevicesValue → X) (Q : UserFiles → X)
      → ((d : DevicesParts) (f : UserFiles) → P (devices_with d f) ≡ Q f)
      → (from : ℕ) → from < length us
      → P (get_or us from nobody).devices ≡ Q (files_of q.users from)
  inside_is P Q is from h =
      let seated : from < length (seats_on q seats) =
      has_seat (seats_on q seats) volumes storages directory us from whole refl h in
      let inside : from < length seats = subst (λ (n : ℕ). from < n) (length-seats q seats) seated in
      let same_length : length (seats_on q seats) ≡ length storages = omega (arith, whole.seated, whole.stored) in
      let s = get_or seats from no_seat in
      let at : get_or us from nobody ≡ user_with (seat_on q s) volumes (get_or storages from []) =
      get-users (seats_on q seats) volumes storages from (seat_on q no_seat) [] nobody seated same_length
      ∙ ap (λ (x : UserParts). user_with x volumes (get_or storages from [])) (get_or-map (seat_on q) seats from
      no_seat)
      in
      let owner : s.devices.user ≡ from =
      owner_is q seats from s owners inside (sym (get_or_default seats from s no_seat inside)) in
      ap (λ (x : Equipped). P x.devices) at ∙ (is s.devices (files_of q.users s.devices.user)
      ∙ ap (λ (u : ℕ). Q (files_of q.users u)) owner)

  -- what is seen of the files of a number is what they are, also where nobody has it
  pub seen_is : {X : Type 0} (P : DevicesValue → X) (Q : UserFiles → X)
      → ((d : DevicesParts) (f : UserFiles) → P (devices_with d f) ≡ Q f) → P nobody.devices ≡ Q no_files
      → (from : ℕ) → P (get_or us from nobody).devices ≡ Q (files_of q.users from)
  seen_is P Q is none from = elim (cases_lt from (length us)) [
    | inl h ↦ inside_is P Q is from h
    | inr past ↦ (
        let same_length : length (seats_on q seats) ≡ length storages = omega (arith, whole.seated, whole.stored) in
        let count = length-users (seats_on q seats) volumes storages same_length in
        let over : length q.users ≤ from = omega (arith, past, count, length-seats q seats, owners.as_many) in
        ap (λ (e : Equipped). P e.devices) (get_or_past us from nobody past)
        ∙ (none ∙ ap Q (sym (get_or_past q.users from no_files over))))
  ]

  deck_there : (cards : List (List ℕ)) → HasDeck q.users cards → HasDeckIn us cards
  deck_there cards (reader, place, there) = (
    reader,
    place,
    subst (λ (decks : List DeckValue). IsSomeAnd (slice_get decks place) (λ deck. deck.cards ≡ cards))
        (sym (seen_is (λ d. d.reader.decks) (λ f. f.decks) (λ d f. refl) refl reader)) there,
  )

  deck_back : (cards : List (List ℕ)) → HasDeckIn us cards → HasDeck q.users cards
  deck_back cards (reader, place, there) = (
    reader,
    place,
    subst (λ (decks : List DeckValue). IsSomeAnd (slice_get decks place) (λ deck. deck.cards ≡ cards))
        (seen_is (λ d. d.reader.decks) (λ f. f.decks) (λ d f. refl) refl reader) there,
  )

  dropped_there : (o : Option FileValue) → IsGone q.users o → IsDropped us o
  dropped_there None h = tt
  dropped_there (Some file) (inl none) = inl none
  dropped_there (Some file) (inr deck) = inr (deck_there (map card_of_entry file.entries) deck)

  dropped_back : (o : Option FileValue) → IsDropped us o → IsGone q.users o
  dropped_back None h = tt
  dropped_back (Some file) (inl none) = inl none
  dropped_back (Some file) (inr deck) = inr (deck_back (map card_of_entry file.entries) deck)

  punched_is : (user place : ℕ) → slice_get (get_or us user nobody).devices.punched place
      ≡ slice_get (files_of q.users user).punched place
  punched_is user place =
      ap (λ (files : List FileValue). slice_get files place)
      (seen_is (λ d. d.punched) (λ f. f.punched) (λ d f. refl) refl user)

  printed_is : (user place : ℕ) → slice_get (get_or us user nobody).devices.printed place
      ≡ slice_get (files_of q.users user).printed place
  printed_is user place =
      ap (λ (files : List FileValue). slice_get files place)
      (seen_is (λ d. d.printed) (λ f. f.printed) (λ d f. refl) refl user)

  -- the file of this kind and place of a user, among all files
  abbrev pub file_in : FileKind → ℕ → Option FileValue
  file_in (kinds.Punch place) user = slice_get (files_of q.users user).punched place
  file_in (kinds.Printer place) user = slice_get (files_of q.users user).printed place
  file_in kinds.Deck user = None

  file_is : (kind : FileKind) (user : ℕ) → closed_by_kind (get_or us user nobody) kind ≡ file_in kind user
  file_is (kinds.Punch place) user = punched_is user place
  file_is (kinds.Printer place) user = printed_is user place
  file_is kinds.Deck user = refl

  pub is_dropped : (kind : FileKind) (user : ℕ) → IsGone q.users (file_in kind user)
      → IsDropped us (closed_by_kind (get_or us user nobody) kind)
  is_dropped kind user h = dropped_there _ (subst (IsGone q.users) (sym (file_is kind user)) h)

  pub is_gone : (kind : FileKind) (user : ℕ) → IsDropped us (closed_by_kind (get_or us user nobody) kind)
      → IsGone q.users (file_in kind user)
  is_gone kind user h = subst (IsGone q.users) (file_is kind user) (dropped_back _ h)

-- ---- files that were dropped stay so

-- each file of a system that was dropped is dropped in the one whose files have lost more
pub stays : (q q' : QueuesValue) (seats : List SeatParts) (volumes : List VolumeFormat) (storages : List (List ℕ))
    (directory : List DirectoryUser) (lost : EachHasLost q.users q'.users)
    (whole : IsWhole (seats_on q seats) storages directory) (owners : AreOwners seats q)
    (whole' : IsWhole (seats_on q' seats) storages directory) (owners' : AreOwners seats q')
    (kind : FileKind) (user : ℕ)
    → IsDropped (users_of (seats_on q seats) volumes storages)
    (closed_by_kind (get_or (users_of (seats_on q seats) volumes storages) user nobody) kind)
    → IsDropped (users_of (seats_on q' seats) volumes storages)
    (closed_by_kind (get_or (users_of (seats_on q' seats) volumes storages) user nobody) kind)
stays q q' seats volumes storages directory lost whole owners whole' owners' (kinds.Punch place) user h =
    let kind = kinds.Punch place in
    is_dropped q' seats volumes storages directory whole' owners' kind user
    (gone_stays q.users q'.users lost (files_of q.users user).punched (files_of q'.users user).punched
    (lost_at q.users q'.users lost user).punched place
    (is_gone q seats volumes storages directory whole owners kind user h))
stays q q' seats volumes storages directory lost whole owners whole' owners' (kinds.Printer place) user h =
    let kind = kinds.Printer place in
    is_dropped q' seats volumes storages directory whole' owners' kind user
    (gone_stays q.users q'.users lost (files_of q.users user).printed (files_of q'.users user).printed
    (lost_at q.users q'.users lost user).printed place
    (is_gone q seats volumes storages directory whole owners kind user h))
stays q q' seats volumes storages directory lost whole owners whole' owners' kinds.Deck user h = tt

-- ---- what else is seen

-- consoles have printed what they had, whatever becomes of files
pub outputs_same : (q q' : QueuesValue) (seats : List SeatParts) (volumes : List VolumeFormat)
    (storages : List (List ℕ)) → outputs_of (users_of (seats_on q' seats) volumes storages)
    ≡ outputs_of (users_of (seats_on q seats) volumes storages)
outputs_same q q' [] volumes storages = refl
outputs_same q q' (s ∷ seats) volumes [] = refl
outputs_same q q' (s ∷ seats) volumes (bytes ∷ storages) =
    ap (λ (more : List (List (List ℕ))). s.parts.output ∷ more) (outputs_same q q' seats volumes storages)

-- what is kept of programs stays
pub kept_same : (q q' : QueuesValue) (seats : List SeatParts) → kept_of (seats_on q' seats) ≡ kept_of (seats_on q seats)
kept_same q q' [] = refl
kept_same q q' (s ∷ seats) = ap (λ (more : List ReuseValue). s.reuse ∷ more) (kept_same q q' seats)

-- ---- one file after another

-- so many were dropped, and nothing else has changed
pub record HasForgotten (first s : SystemView) (since k : ℕ) : Type 0 where
  pub on : GoesOnAs first s
  pub gone : EachNoted (λ note. IsDropped s.users (closed_of s.users note)) s.files since k
  pub lines : outputs_of s.users ≡ outputs_of first.users
  pub kept : s.kept ≡ first.kept
  pub files : s.files ≡ first.files

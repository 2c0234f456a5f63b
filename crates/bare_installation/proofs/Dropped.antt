-- Closed files whose entries were dropped, in a machine and in its queues, which have one user.
use Rattle.std.proofs.Common.{◌≡◌, ℕ, zero, suc, ◌<◌, List, [], ◌∷◌, Option, Some, None, ap, get_or, length, map, refl}
use Rattle.std.proofs.Common.{subst, sym, inl, inr, arith}
use Rattle.std.specs.Prelude.{IsSomeAnd, slice_get}
use Rattle.std.proofs.lemmas.List.{get_or_past}
use Rattle.unit_record.specs.Output.{FileValue}
use Rattle.unit_record.specs.Reader.{DeckValue}
use Rattle.s370_store.specs.Memory.{Memory}
use Rattle.machine_channels.specs.Disks.{DiskAt}
use Rattle.machine_panel.specs.Machine.{Parts}
use Rattle.cp_spool.specs.File.{card_of_entry}
use Rattle.cp_spool.specs.Forgotten.{HasDeck, IsGone}
use Rattle.cp_spool.specs.Queues.{UserFiles, files_of, no_files}
use Rattle.machine_devices.specs.Dropped.{HasDeckIn, IsDropped, closed_by_kind, closed_of}
use Rattle.machine_devices.specs.Equipped.{Equipped, equipped, nobody}
use Rattle.machine_devices.specs.Lent.{DevicesParts, devices_with}
use Rattle.machine_devices.specs.declared.files.FileKind.{FileKind}
use Rattle.machine_devices.specs.declared.files.FileKind.TheVariants as kinds
use Rattle.machine_devices.specs.declared.files.FileNote.{FileNote}
use Rattle.machine_devices.proofs.Dropping.{EachNoted, gone_stays}
use Rattle.machine_devices.proofs.Lost.{EachHasLost, lost_at}
use Rattle.bare_installation.specs.Bare.{Bare}
use Rattle.bare_installation.specs.Forgotten.{GoesOnAs}

-- the machine has the files of the first user of its queues
pub record HasFiles (e : Equipped) (users : List UserFiles) : Type 0 where
  pub decks : e.devices.reader.decks ≡ (files_of users 0).decks
  pub punched : e.devices.punched ≡ (files_of users 0).punched
  pub printed : e.devices.printed ≡ (files_of users 0).printed

-- its number is that of the first
pub first_user : (user : ℕ) (users : List UserFiles) → user < length users → length users ≡ 1 → user ≡ 0
first_user user users there one = omega (arith, there, one)

-- The machine with the files of that user has them.
pub has_files : (parts : Parts) (d : DevicesParts) (users : List UserFiles) (disks : List DiskAt) (m : Memory)
    → d.user ≡ 0 → HasFiles (equipped parts (devices_with d (files_of users d.user)) disks m) users
has_files parts d users disks m first = record {
  decks = ap (λ (u : ℕ). (files_of users u).decks) first;
  punched = ap (λ (u : ℕ). (files_of users u).punched) first;
  printed = ap (λ (u : ℕ). (files_of users u).printed) first;
}

module _ (e : Equipped) (users : List UserFiles) (one : length users ≡ 1) (has : HasFiles e users) where
  none_past : (reader : ℕ) → files_of users (suc reader) ≡ no_files
  none_past reader = get_or_past users (suc reader) no_files (omega (arith, one))

  deck_there : (cards : List (List ℕ)) → HasDeck users cards → HasDeckIn (e ∷ []) cards
  deck_there cards (zero, place, there) = (
    zero,
    place,
    subst (λ (decks : List DeckValue). IsSomeAnd (slice_get decks place) (λ deck. deck.cards ≡ cards)) (sym has.decks)
        there,
  )
  deck_there cards (suc reader, place, there) =
      absurd (subst (λ (f : UserFiles). IsSomeAnd (slice_get f.decks place) (λ deck. deck.cards ≡ cards))
      (none_past reader) there)

  deck_back : (cards : List (List ℕ)) → HasDeckIn (e ∷ []) cards → HasDeck users cards
  deck_back cards (zero, place, there) = (
    zero,
    place,
    subst (λ (decks : List DeckValue). IsSomeAnd (slice_get decks place) (λ deck. deck.cards ≡ cards)) has.decks there,
  )
  deck_back cards (suc reader, place, there) = absurd there

  dropped_there : (o : Option FileValue) → IsGone users o → IsDropped (e ∷ []) o
  dropped_there None h = tt
  dropped_there (Some file) (inl none) = inl none
  dropped_there (Some file) (inr deck) = inr (deck_there (map card_of_entry file.entries) deck)

  dropped_back : (o : Option FileValue) → IsDropped (e ∷ []) o → IsGone users o
  dropped_back None h = tt
  dropped_back (Some file) (inl none) = inl none
  dropped_back (Some file) (inr deck) = inr (deck_back (map card_of_entry file.entries) deck)

  -- the file of this kind and place of a user, among all files
  abbrev pub file_in : FileKind → ℕ → Option FileValue
  file_in (kinds.Punch place) user = slice_get (files_of users user).punched place
  file_in (kinds.Printer place) user = slice_get (files_of users user).printed place
  file_in kinds.Deck user = None

  file_is : (kind : FileKind) → closed_by_kind e kind ≡ file_in kind 0
  file_is (kinds.Punch place) = ap (λ (files : List FileValue). slice_get files place) has.punched
  file_is (kinds.Printer place) = ap (λ (files : List FileValue). slice_get files place) has.printed
  file_is kinds.Deck = refl

  -- A file of another user is none.
  pub is_dropped : (user : ℕ) (kind : FileKind) → IsGone users (file_in kind user)
      → IsDropped (e ∷ []) (closed_by_kind (get_or (e ∷ []) user nobody) kind)
  is_dropped zero kind h = dropped_there _ (subst (IsGone users) (sym (file_is kind)) h)
  is_dropped (suc user) (kinds.Punch place) h = tt
  is_dropped (suc user) (kinds.Printer place) h = tt
  is_dropped (suc user) kinds.Deck h = tt

  pub is_gone : (kind : FileKind) → IsDropped (e ∷ []) (closed_by_kind e kind) → IsGone users (file_in kind 0)
  is_gone kind h = subst (IsGone users) (file_is kind) (dropped_back _ h)

-- Each file that was dropped is dropped in the machine whose files have lost more.
pub stays : (e e' : Equipped) (users users' : List UserFiles) (one : length users ≡ 1) (one' : length users' ≡ 1)
    (has : HasFiles e users) (has' : HasFiles e' users') (lost : EachHasLost users users') (user : ℕ) (kind : FileKind)
    → IsDropped (e ∷ []) (closed_by_kind (get_or (e ∷ []) user nobody) kind)
    → IsDropped (e' ∷ []) (closed_by_kind (get_or (e' ∷ []) user nobody) kind)
stays e e' users users' one one' has has' lost zero (kinds.Punch place) h =
    is_dropped e' users' one' has' zero (kinds.Punch place)
    (gone_stays users users' lost (files_of users 0).punched (files_of users' 0).punched
    (lost_at users users' lost 0).punched place (is_gone e users one has (kinds.Punch place) h))
stays e e' users users' one one' has has' lost zero (kinds.Printer place) h =
    is_dropped e' users' one' has' zero (kinds.Printer place)
    (gone_stays users users' lost (files_of users 0).printed (files_of users' 0).printed
    (lost_at users users' lost 0).printed place (is_gone e users one has (kinds.Printer place) h))
stays e e' users users' one one' has has' lost zero kinds.Deck h = tt
stays e e' users users' one one' has has' lost (suc user) (kinds.Punch place) h = tt
stays e e' users users' one one' has has' lost (suc user) (kinds.Printer place) h = tt
stays e e' users users' one one' has has' lost (suc user) kinds.Deck h = tt

-- ---- one file after another

-- the file of a note is dropped in the machine
abbrev pub Drops : Bare → FileNote → Type 0
Drops b note = IsDropped (b.equipped ∷ []) (closed_of (b.equipped ∷ []) note)

-- so many were dropped, and nothing else has changed
pub record HasForgotten (first b : Bare) (since k : ℕ) : Type 0 where
  pub on : GoesOnAs first b
  pub gone : EachNoted (Drops b) b.files since k
  pub lines : b.equipped.machine.output ≡ first.equipped.machine.output
  pub files : b.files ≡ first.files

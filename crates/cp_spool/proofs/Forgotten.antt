-- Closed files that lose their entries.
use Rattle.std.proofs.Common.{◌≡◌, ◌≢◌, ◌<◌, ℕ, zero, suc, ◌==◌, inl, inr, Bool, true, false, List, [], ◌∷◌, length}
use Rattle.std.proofs.Common.{get_or, map, Option, Some, None, refl, sym, ◌∙◌, ap, subst, arith}
use Rattle.std.specs.Prelude.{◌⊎◌, ◌||◌, IsSomeAnd, slice_get, unwrap_or}
use Rattle.std.specs.List.{list_any}
use Rattle.std.specs.Option.{option_map}
use Rattle.std.proofs.lemmas.Bool.{cases_eq}
use Rattle.std.proofs.lemmas.Option.{get_or_from_slice_get, slice_get-map}
use Rattle.std.proofs.lemmas.Bool.Decides.{nat_tests}
use Rattle.slab.specs.Slab.{Slab, get}
use Rattle.unit_record.specs.Output.{EntryValue, FileValue}
use Rattle.unit_record.specs.Reader.{DeckValue}
use Rattle.cp_spool.specs.declared.queue.Waiting.{Waiting}
use Rattle.cp_spool.specs.File.{ContentsValue, Cards, Entries, SpoolFileValue, card_of_entry, cards_in, closed_file}
use Rattle.cp_spool.specs.File.{entries_in, is_deck}
use Rattle.cp_spool.specs.Forgotten.{HasDeck, IsGone, LosesAtMost, emptied, emptied_at, emptied_contents, has_key}
use Rattle.cp_spool.specs.Forgotten.{without_entries, without_printed, without_punched}
use Rattle.cp_spool.specs.Keys.{AllAt, AreApart, IsMade, IsSound, Lacks, QueueKeys, StandsWith, closed_at, closed_keys}
use Rattle.cp_spool.specs.Keys.{deck_at, file_at, keys_in, no_file, queue_of, user_files}
use Rattle.cp_spool.specs.Queues.{UserFiles, files_of, with_files}
use Rattle.cp_spool.proofs.Search.{equal}
use Rattle.cp_spool.proofs.Sound.{all_apart, closed_apart, decks_apart, once_apart, same_file, user_apart}

-- ---- a key that no deck has

or_first : (a b : Bool) → (a || b) ≡ false → a ≡ false
or_first true b e = e
or_first false b e = refl

or_second : (a b : Bool) → (a || b) ≡ false → b ≡ false
or_second true b e = cc
or_second false b e = e

other_key : (a key : ℕ) → (a == key) ≡ false → a ≢ key
other_key a key e is = cc (equal a key is, e)

lacks_key : (decks : List Waiting) (key : ℕ) → list_any (λ (w : Waiting). w.key == key) decks ≡ false
    → Lacks (map (λ (w : Waiting). w.key) decks) key
lacks_key [] key e i l is = absurd (omega arith)
lacks_key (w ∷ ws) key e zero l is =
    other_key w.key key (or_first (w.key == key) (list_any (λ (x : Waiting). x.key == key) ws) e) is
lacks_key (w ∷ ws) key e (suc i) l is =
    lacks_key ws key (or_second (w.key == key) (list_any (λ (x : Waiting). x.key == key) ws) e) i (omega arith) is

-- no reader has it
pub each_lacks : (queues : List QueueKeys) (key : ℕ) → list_any (has_key key) queues ≡ false → (user : ℕ)
    → Lacks (keys_in (queue_of queues user)) key
each_lacks [] key e user i l = absurd (omega arith)
each_lacks (q ∷ qs) key e zero i l =
    lacks_key q.decks key (or_first (has_key key q) (list_any (has_key key) qs) e) i l
each_lacks (q ∷ qs) key e (suc user) i l =
    each_lacks qs key (or_second (has_key key q) (list_any (has_key key) qs) e) user i l

-- ---- a file that is emptied

still_made : (c : ContentsValue) → is_deck c ≡ false → is_deck (emptied_contents c) ≡ false
still_made (Cards cards) h = h
still_made (Entries entries) h = refl

made_still : (o : Option SpoolFileValue) → IsSomeAnd o IsMade → IsSomeAnd (option_map emptied o) IsMade
made_still None h = h
made_still (Some file) h = still_made file.contents h

none_left : (c : ContentsValue) → entries_in (emptied_contents c) ≡ []
none_left (Cards cards) = refl
none_left (Entries entries) = refl

lost_here : (o : Option SpoolFileValue)
    → closed_file (unwrap_or (option_map emptied o) no_file) ≡ without_entries (closed_file (unwrap_or o no_file))
lost_here None = refl
lost_here (Some file) =
    ap (λ (entries : List EntryValue).
    let f : FileValue = record { target = file.target; entries = entries } in f) (none_left file.contents)

found_inside : (keys : List ℕ) (index key : ℕ) → slice_get keys index ≡ Some key → index < length keys
found_inside [] index key e = absurd (cc)
found_inside (k ∷ ks) zero key e = omega arith
found_inside (k ∷ ks) (suc index) key e = let l = found_inside ks index key e in omega arith

closed_inside : (kind : Bool) (queues : List QueueKeys) (user index : ℕ)
    → index < length (closed_keys kind (queue_of queues user)) → user < length queues
closed_inside true [] user index h = absurd (omega arith)
closed_inside false [] user index h = absurd (omega arith)
closed_inside kind (q ∷ qs) zero index h = omega arith
closed_inside kind (q ∷ qs) (suc user) index h = let l = closed_inside kind qs user index h in omega arith

same_all : (f g : QueueKeys → UserFiles) (queues : List QueueKeys)
    → ((user : ℕ) → f (queue_of queues user) ≡ g (queue_of queues user)) → map f queues ≡ map g queues
same_all f g [] same = refl
same_all f g (q ∷ qs) same =
    ap (λ (u : UserFiles). u ∷ map f qs) (same 0)
    ∙ ap (λ (us : List UserFiles). g q ∷ us) (same_all f g qs (λ user. same (suc user)))

-- one user's files are changed
one_changed : (f g : QueueKeys → UserFiles) (loss : UserFiles → UserFiles) (queues : List QueueKeys) (user : ℕ)
    → user < length queues → g (queue_of queues user) ≡ loss (f (queue_of queues user))
    → ((other : ℕ) → other ≢ user → g (queue_of queues other) ≡ f (queue_of queues other))
    → map g queues ≡ with_files user (loss (files_of (map f queues) user)) (map f queues)
one_changed f g loss [] user inside here there = absurd (omega arith)
one_changed f g loss (q ∷ qs) zero inside here there =
    ap (λ (u : UserFiles). u ∷ map g qs) here
    ∙ ap (λ (us : List UserFiles). loss (f q) ∷ us) (same_all g f qs (λ user. there (suc user) (λ e. absurd (cc))))
one_changed f g loss (q ∷ qs) (suc user) inside here there =
    ap (λ (u : UserFiles). u ∷ map g qs) (there 0 (λ e. absurd (cc)))
    ∙ ap (λ (us : List UserFiles). f q ∷ us) (one_changed f g loss qs user (omega arith) here
    (λ other apart. there (suc other) (λ e. apart (omega (arith, e)))))

module _ (files files' : Slab SpoolFileValue) (key : ℕ)
    (others : (other : ℕ) → other ≢ key → get files' other ≡ get files other)
    (here : get files' key ≡ option_map emptied (get files key)) where
  all_made : (keys : List ℕ) → AllAt files IsMade keys → AllAt files' IsMade keys
  all_made keys all i l =
      let at = get_or keys i 0 in
      elim (cases_eq at key) [
        | inl same ↦
            let was : IsSomeAnd (get files key) IsMade =
            subst (λ (k : ℕ). IsSomeAnd (get files k) IsMade) same (all i l) in
            subst (λ (o : Option SpoolFileValue). IsSomeAnd o IsMade) (sym (ap (get files') same ∙ here))
            (made_still (get files key) was)
        | inr apart ↦ subst (λ (o : Option SpoolFileValue). IsSomeAnd o IsMade) (sym (others at apart)) (all i l)
      ]

  -- the keys of all users lead to files of their kind, if no reader has that file
  pub sound_emptied : (queues : List QueueKeys) → ((user : ℕ) → Lacks (keys_in (queue_of queues user)) key)
      → IsSound files queues → IsSound files' queues
  sound_emptied queues lacks sound = (
    λ user.
        let q = queue_of queues user in
        record {
          waiting = all_apart files files' key others (StandsWith user) (keys_in q) (lacks user) (sound.0 user).waiting;
          once = once_apart files files' key others (keys_in q) (lacks user) (sound.0 user).once;
          punched = all_made q.punched (sound.0 user).punched;
          printed = all_made q.printed (sound.0 user).printed;
        },
    sound.1,
  )

  closed_emptied : (keys : List ℕ) (index : ℕ) → slice_get keys index ≡ Some key
      → ((i : ℕ) → i < length keys → get_or keys i 0 ≡ key → i ≡ index)
      → map (closed_at files') keys ≡ emptied_at index (map (closed_at files) keys)
  closed_emptied [] index found only = refl
  closed_emptied (k ∷ ks) zero found only =
      let is : k ≡ key = cc in
      let first : closed_at files' k ≡ without_entries (closed_at files k) =
      ap (closed_at files') is ∙ ap (λ (o : Option SpoolFileValue). closed_file (unwrap_or o no_file)) here
      ∙ lost_here (get files key) ∙ ap (λ (x : ℕ). without_entries (closed_at files x)) (sym is) in
      let lacks : Lacks ks key = λ i l e. absurd (let z = only (suc i) (omega arith) e in omega (arith, z)) in
      ap (λ (f : FileValue). f ∷ map (closed_at files') ks) first
      ∙ ap (λ (fs : List FileValue). without_entries (closed_at files k) ∷ fs)
      (closed_apart files files' key others ks lacks)
  closed_emptied (k ∷ ks) (suc index) found only =
      let apart : k ≢ key = λ e. absurd (let z = only 0 (omega arith) e in omega (arith, z)) in
      ap (λ (f : FileValue). f ∷ map (closed_at files') ks)
      (ap closed_file (same_file files files' key others k apart))
      ∙ ap (λ (fs : List FileValue). closed_at files k ∷ fs)
      (closed_emptied ks index found (λ i l e. let z = only (suc i) (omega arith) e in omega (arith, z)))

  module _ (queues : List QueueKeys) (waits : (user : ℕ) → Lacks (keys_in (queue_of queues user)) key)
      (apart : AreApart queues) (user index : ℕ) (kind : Bool)
      (found : slice_get (closed_keys kind (queue_of queues user)) index ≡ Some key) where
    inside : index < length (closed_keys kind (queue_of queues user))
    inside = found_inside (closed_keys kind (queue_of queues user)) index key found

    key_there : get_or (closed_keys kind (queue_of queues user)) index 0 ≡ key
    key_there = get_or_from_slice_get (closed_keys kind (queue_of queues user)) index key 0 found

    only : (i : ℕ) → i < length (closed_keys kind (queue_of queues user))
        → get_or (closed_keys kind (queue_of queues user)) i 0 ≡ key → i ≡ index
    only i l e = (apart user user kind kind i index l inside (e ∙ sym key_there)).2

    others_lack : (other : ℕ) (like : Bool) → (user ≡ other → kind ≡ like → ⊥)
        → Lacks (closed_keys like (queue_of queues other)) key
    others_lack other like unlike i l e =
        let same = apart user other kind like index i inside l (key_there ∙ sym e) in unlike same.0 same.1

    there : (other : ℕ) → other ≢ user
        → user_files files' (queue_of queues other) ≡ user_files files (queue_of queues other)
    there other not = user_apart files files' key others (queue_of queues other) (record {
      waiting = waits other;
      punched = others_lack other true (λ e like. not (sym e));
      printed = others_lack other false (λ e like. not (sym e));
    })

    same_decks : map (deck_at files') (queue_of queues user).decks ≡ map (deck_at files) (queue_of queues user).decks
    same_decks = decks_apart files files' key others (queue_of queues user).decks (waits user)

  -- a file that a punch closed
  pub lost_punched : (queues : List QueueKeys) → ((user : ℕ) → Lacks (keys_in (queue_of queues user)) key)
      → AreApart queues → (user index : ℕ) → slice_get (queue_of queues user).punched index ≡ Some key
      → map (user_files files') queues
      ≡ with_files user (without_punched index (files_of (map (user_files files) queues) user))
      (map (user_files files) queues)
  lost_punched queues waits apart user index found =
      let q = queue_of queues user in
      let at = λ (decks : List DeckValue) (punched printed : List FileValue). let f : UserFiles =
      record { decks = decks; place = q.place; punched = punched; printed = printed } in f in
      let printed = map (closed_at files') q.printed in
      let rest : printed ≡ map (closed_at files) q.printed = closed_apart files files' key others q.printed
      (others_lack queues waits apart user index true found user false (λ e like. absurd (cc))) in
      let own : map (closed_at files') q.punched ≡ emptied_at index (map (closed_at files) q.punched) =
      closed_emptied q.punched index found (only queues waits apart user index true found) in
      let here : user_files files' q ≡ without_punched index (user_files files q) =
      ap (λ (ds : List DeckValue). at ds (map (closed_at files') q.punched) printed)
      (same_decks queues waits apart user index true found)
      ∙ ap (λ (fs : List FileValue). at (map (deck_at files) q.decks) fs printed) own
      ∙ ap (λ (fs : List FileValue).
      at (map (deck_at files) q.decks) (emptied_at index (map (closed_at files) q.punched)) fs) rest in
      one_changed (user_files files) (user_files files') (without_punched index) queues user
      (closed_inside true queues user index (inside queues waits apart user index true found)) here
      (there queues waits apart user index true found)

  -- a file that a printer closed
  pub lost_printed : (queues : List QueueKeys) → ((user : ℕ) → Lacks (keys_in (queue_of queues user)) key)
      → AreApart queues → (user index : ℕ) → slice_get (queue_of queues user).printed index ≡ Some key
      → map (user_files files') queues
      ≡ with_files user (without_printed index (files_of (map (user_files files) queues) user))
      (map (user_files files) queues)
  lost_printed queues waits apart user index found =
      let q = queue_of queues user in
      let at = λ (decks : List DeckValue) (punched printed : List FileValue). let f : UserFiles =
      record { decks = decks; place = q.place; punched = punched; printed = printed } in f in
      let printed = map (closed_at files') q.printed in
      let rest : map (closed_at files') q.punched ≡ map (closed_at files) q.punched =
      closed_apart files files' key others q.punched
      (others_lack queues waits apart user index false found user true (λ e like. absurd (cc))) in
      let own : printed ≡ emptied_at index (map (closed_at files) q.printed) =
      closed_emptied q.printed index found (only queues waits apart user index false found) in
      let here : user_files files' q ≡ without_printed index (user_files files q) =
      ap (λ (ds : List DeckValue). at ds (map (closed_at files') q.punched) printed)
      (same_decks queues waits apart user index false found)
      ∙ ap (λ (fs : List FileValue). at (map (deck_at files) q.decks) fs printed) rest
      ∙ ap (λ (fs : List FileValue). at (map (deck_at files) q.decks) (map (closed_at files) q.punched) fs) own in
      one_changed (user_files files) (user_files files') (without_printed index) queues user
      (closed_inside false queues user index (inside queues waits apart user index false found)) here
      (there queues waits apart user index false found)

-- ---- a file that a reader has as a deck

same_key : (a key : ℕ) → (a == key) ≡ true → a ≡ key
same_key a key e = grind (arith, nat_tests)

-- the cards that the file of a key has
abbrev cards_at : Slab SpoolFileValue → ℕ → List (List ℕ)
cards_at files key = cards_in ((file_at files key).contents)

abbrev DeckIn : Slab SpoolFileValue → List Waiting → ℕ → Type 0
DeckIn files decks key = (place : ℕ)
    × IsSomeAnd (slice_get (map (deck_at files) decks) place) (λ (deck : DeckValue). deck.cards ≡ cards_at files key)

first_deck : (files : Slab SpoolFileValue) (w : Waiting) (ws : List Waiting) (key : ℕ) (b : Bool) → (w.key == key) ≡ b
    → (b || list_any (λ (x : Waiting). x.key == key) ws) ≡ true
    → (list_any (λ (x : Waiting). x.key == key) ws ≡ true → DeckIn files ws key) → DeckIn files (w ∷ ws) key
first_deck files w ws key true is e later = (0, ap (cards_at files) (same_key w.key key is))
first_deck files w ws key false is e later = let found = later e in (suc found.0, found.1)

deck_in : (files : Slab SpoolFileValue) (decks : List Waiting) (key : ℕ)
    → list_any (λ (w : Waiting). w.key == key) decks ≡ true → DeckIn files decks key
deck_in files [] key e = absurd (cc)
deck_in files (w ∷ ws) key e =
    first_deck files w ws key (w.key == key) refl e (λ later. deck_in files ws key later)

first_user : (files : Slab SpoolFileValue) (q : QueueKeys) (qs : List QueueKeys) (key : ℕ) (b : Bool)
    → has_key key q ≡ b → (b || list_any (has_key key) qs) ≡ true
    → (list_any (has_key key) qs ≡ true → HasDeck (map (user_files files) qs) (cards_at files key))
    → HasDeck (map (user_files files) (q ∷ qs)) (cards_at files key)
first_user files q qs key true is e later = let found = deck_in files q.decks key is in (0, found.0, found.1)
first_user files q qs key false is e later = let found = later e in (suc found.0, found.1, found.2)

deck_of_user : (files : Slab SpoolFileValue) (queues : List QueueKeys) (key : ℕ)
    → list_any (has_key key) queues ≡ true → HasDeck (map (user_files files) queues) (cards_at files key)
deck_of_user files [] key e = absurd (cc)
deck_of_user files (q ∷ qs) key e =
    first_user files q qs key (has_key key q) refl e (λ later. deck_of_user files qs key later)

-- what was made has a card for each entry
made_cards : (c : ContentsValue) → (entries_in c ≡ []) ⊎ (cards_in c ≡ map card_of_entry (entries_in c))
made_cards (Cards cards) = inl refl
made_cards (Entries entries) = inr refl

in_reader : (users : List UserFiles) (file : SpoolFileValue) → HasDeck users (cards_in file.contents)
    → (entries_in file.contents ≡ []) ⊎ (cards_in file.contents ≡ map card_of_entry (entries_in file.contents))
    → IsGone users (Some (closed_file file))
in_reader users file deck (inl none) = inl none
in_reader users file deck (inr same) = inr (subst (λ (cards : List (List ℕ)). HasDeck users cards) same deck)

no_entries : (o : Option SpoolFileValue) → entries_in ((unwrap_or (option_map emptied o) no_file).contents) ≡ []
no_entries None = refl
no_entries (Some file) = none_left file.contents

-- ---- a file that is forgotten

module _ (files files' : Slab SpoolFileValue) (queues : List QueueKeys) (key : ℕ) where
  abbrev waits : Bool
  waits = list_any (has_key key) queues

  abbrev Others : Type 0
  Others = (other : ℕ) → other ≢ key → get files' other ≡ get files other

  abbrev Here : Type 0
  Here = get files' key ≡ option_map emptied (get files key)

  sound_by : (b : Bool) → waits ≡ b → (b ≡ true → files' ≡ files) → (b ≡ false → Others) → (b ≡ false → Here)
      → IsSound files queues → IsSound files' queues
  sound_by true is same others here sound =
      subst (λ (f : Slab SpoolFileValue). IsSound f queues) (sym (same refl)) sound
  sound_by false is same others here sound =
      sound_emptied files files' key (others refl) (here refl) queues (each_lacks queues key is) sound

  punched_by : (b : Bool) → waits ≡ b → (b ≡ true → files' ≡ files) → (b ≡ false → Others) → (b ≡ false → Here)
      → AreApart queues → (user index : ℕ) → slice_get (queue_of queues user).punched index ≡ Some key
      → LosesAtMost user (without_punched index) (map (user_files files) queues) (map (user_files files') queues)
  punched_by true is same others here apart user index found =
      inl (ap (λ (f : Slab SpoolFileValue). map (user_files f) queues) (same refl))
  punched_by false is same others here apart user index found =
      let waiting = each_lacks queues key is in
      inr (lost_punched files files' key (others refl) (here refl) queues waiting apart user index found)

  printed_by : (b : Bool) → waits ≡ b → (b ≡ true → files' ≡ files) → (b ≡ false → Others) → (b ≡ false → Here)
      → AreApart queues → (user index : ℕ) → slice_get (queue_of queues user).printed index ≡ Some key
      → LosesAtMost user (without_printed index) (map (user_files files) queues) (map (user_files files') queues)
  printed_by true is same others here apart user index found =
      inl (ap (λ (f : Slab SpoolFileValue). map (user_files f) queues) (same refl))
  printed_by false is same others here apart user index found =
      let waiting = each_lacks queues key is in
      inr (lost_printed files files' key (others refl) (here refl) queues waiting apart user index found)

  gone_by : (b : Bool) → waits ≡ b → (b ≡ true → files' ≡ files) → (b ≡ false → Here)
      → IsGone (map (user_files files') queues) (Some (closed_at files' key))
  gone_by true is same here =
      let users = map (user_files files) queues in
      let file = file_at files key in
      let now = in_reader users file (deck_of_user files queues key is) (made_cards file.contents) in
      subst (λ (f : Slab SpoolFileValue). IsGone (map (user_files f) queues) (Some (closed_at f key)))
      (sym (same refl)) now
  gone_by false is same here =
      inl (ap (λ (o : Option SpoolFileValue). entries_in ((unwrap_or o no_file).contents)) (here refl)
      ∙ no_entries (get files key))

  module _ (same : waits ≡ true → files' ≡ files) (others : waits ≡ false → Others) (here : waits ≡ false → Here) where
    pub sound_forgotten : IsSound files queues → IsSound files' queues
    sound_forgotten sound = sound_by waits refl same others here sound

    pub punched_forgotten : AreApart queues → (user index : ℕ)
        → slice_get (queue_of queues user).punched index ≡ Some key
        → LosesAtMost user (without_punched index) (map (user_files files) queues) (map (user_files files') queues)
    punched_forgotten apart user index found = punched_by waits refl same others here apart user index found

    pub printed_forgotten : AreApart queues → (user index : ℕ)
        → slice_get (queue_of queues user).printed index ≡ Some key
        → LosesAtMost user (without_printed index) (map (user_files files) queues) (map (user_files files') queues)
    printed_forgotten apart user index found = printed_by waits refl same others here apart user index found

    pub gone_forgotten : (keys : List ℕ) (index : ℕ) → slice_get keys index ≡ Some key
        → IsGone (map (user_files files') queues) (slice_get (map (closed_at files') keys) index)
    gone_forgotten keys index at =
        subst (λ (o : Option FileValue). IsGone (map (user_files files') queues) o)
        (sym (slice_get-map (closed_at files') keys index ∙ ap (option_map (closed_at files')) at))
        (gone_by waits refl same here)

-- Each key has its file, whatever comes and goes.
use Rattle.std.proofs.Common.{◌≡◌, ◌≢◌, ℕ, zero, suc, ◌+◌, ◌<◌, inl, inr, Bool, true, false, List, [], ◌∷◌, ◌++◌}
use Rattle.std.proofs.Common.{length, get_or, map, set, Option, Some, None, refl, sym, ◌∙◌, ap, subst, arith}
use Rattle.std.specs.Prelude.{◌⊎◌, IsSomeAnd, remove, unwrap_or}
use Rattle.std.proofs.lemmas.Bool.{cases_eq, cases_lt}
use Rattle.std.proofs.lemmas.List.{map-append, get_or-set_same, get_or-set_other, get_or_append_left, length-append}
use Rattle.std.proofs.Math.Seq.{get_or-append_seam}
use Rattle.std.proofs.lemmas.List.Edits.{get_or-remove_below, get_or-remove_above, length-remove}
use Rattle.slab.specs.Slab.{Slab, get}
use Rattle.unit_record.specs.declared.output.Target.TheVariants as targets
use Rattle.cp_spool.specs.declared.queue.Waiting.{Waiting}
use Rattle.cp_spool.specs.File.{SpoolFileValue}
use Rattle.cp_spool.specs.Keys.{AllAt, AreApart, IsMade, IsSound, IsSoundOf, Lacks, Once, QueueKeys, StandsWith}
use Rattle.cp_spool.specs.Keys.{closed_keys, deck_at}
use Rattle.cp_spool.specs.Keys.{closed_at, file_at, is_given, keys_in, no_file, no_keys, queue_of, user_files}
use Rattle.cp_spool.specs.Keys.{with_printed_key, with_punched_key, with_waiting, without_waiting}

-- Removing an element and mapping the rest is mapping and then removing.
pub map-remove : {X Y : Type 0} (f : X → Y) (xs : List X) (index : ℕ)
    → map f (remove xs index) ≡ remove (map f xs) index
map-remove f [] zero = refl
map-remove f [] (suc index) = refl
map-remove f (x ∷ xs) zero = refl
map-remove f (x ∷ xs) (suc index) = ap (λ ys. f x ∷ ys) (map-remove f xs index)

keys_more : (q : QueueKeys) (w : Waiting) → keys_in (with_waiting w q) ≡ keys_in q ++ w.key ∷ []
keys_more q w = map-append (λ (x : Waiting). x.key) q.decks (w ∷ [])

keys_less : (q : QueueKeys) (index : ℕ) → keys_in (without_waiting index q) ≡ remove (keys_in q) index
keys_less q index = map-remove (λ (x : Waiting). x.key) q.decks index

-- ---- a key that nobody holds may get or lose its file

-- nobody's list has this key
pub record IsFreeIn (key : ℕ) (q : QueueKeys) : Type 0 where
  pub waiting : Lacks (keys_in q) key
  pub punched : Lacks q.punched key
  pub printed : Lacks q.printed key

abbrev pub IsFree : ℕ → List QueueKeys → Type 0
IsFree key queues = (user : ℕ) → IsFreeIn key (queue_of queues user)

none_there : (o : Option SpoolFileValue) (P : SpoolFileValue → Type 0) → o ≡ None → IsSomeAnd o P → ⊥
none_there None P e h = h
none_there (Some file) P e h = absurd (cc)

all_lacks : (files : Slab SpoolFileValue) (P : SpoolFileValue → Type 0) (keys : List ℕ) (key : ℕ) → AllAt files P keys
    → get files key ≡ None → Lacks keys key
all_lacks files P keys key all vacant i l e =
    none_there (get files (get_or keys i 0)) P (ap (get files) e ∙ vacant) (all i l)

-- one without a file is free
pub vacant_is_free : (files : Slab SpoolFileValue) (queues : List QueueKeys) (key : ℕ) → IsSound files queues
    → get files key ≡ None → IsFree key queues
vacant_is_free files queues key sound vacant user = record {
  waiting = all_lacks files (StandsWith user) (keys_in (queue_of queues user)) key (sound.0 user).waiting vacant;
  punched = all_lacks files IsMade (queue_of queues user).punched key (sound.0 user).punched vacant;
  printed = all_lacks files IsMade (queue_of queues user).printed key (sound.0 user).printed vacant;
}

module _ (files files' : Slab SpoolFileValue) (key : ℕ)
    (others : (other : ℕ) → other ≢ key → get files' other ≡ get files other) where
  pub all_apart : (P : SpoolFileValue → Type 0) (keys : List ℕ) → Lacks keys key → AllAt files P keys
      → AllAt files' P keys
  all_apart P keys free all i l =
      subst (λ (o : Option SpoolFileValue). IsSomeAnd o P) (sym (others (get_or keys i 0) (free i l))) (all i l)

  pub once_apart : (keys : List ℕ) → Lacks keys key → Once files keys → Once files' keys
  once_apart keys free once i j li lj e given =
      once i j li lj e (ap is_given (sym (others (get_or keys i 0) (free i li))) ∙ given)

  sound_apart_of : (user : ℕ) (q : QueueKeys) → IsFreeIn key q → IsSoundOf files user q → IsSoundOf files' user q
  sound_apart_of user q free sound = record {
    waiting = all_apart (StandsWith user) (keys_in q) free.waiting sound.waiting;
    once = once_apart (keys_in q) free.waiting sound.once;
    punched = all_apart IsMade q.punched free.punched sound.punched;
    printed = all_apart IsMade q.printed free.printed sound.printed;
  }

  pub sound_apart : (queues : List QueueKeys) → IsFree key queues → IsSound files queues → IsSound files' queues
  sound_apart queues free sound =
      (λ user. sound_apart_of user (queue_of queues user) (free user) (sound.0 user), sound.1)

  pub same_file : (k : ℕ) → k ≢ key → file_at files' k ≡ file_at files k
  same_file k other = ap (λ (o : Option SpoolFileValue). unwrap_or o no_file) (others k other)

  pub closed_apart : (keys : List ℕ) → Lacks keys key → map (closed_at files') keys ≡ map (closed_at files) keys
  closed_apart [] h = refl
  closed_apart (k ∷ ks) h = rw (same_file k (h 0 (omega arith)), closed_apart ks (λ i l. h (suc i) (omega arith))) refl

  pub decks_apart : (decks : List Waiting) → Lacks (map (λ (w : Waiting). w.key) decks) key
      → map (deck_at files') decks ≡ map (deck_at files) decks
  decks_apart [] h = refl
  decks_apart (w ∷ ws) h =
      rw (same_file w.key (h 0 (omega arith)), decks_apart ws (λ i l. h (suc i) (omega arith))) refl

  pub user_apart : (q : QueueKeys) → IsFreeIn key q → user_files files' q ≡ user_files files q
  user_apart q free = rw (
    decks_apart q.decks free.waiting,
    closed_apart q.punched free.punched,
    closed_apart q.printed free.printed,
  ) refl

  pub users_apart : (queues : List QueueKeys) → IsFree key queues
      → map (user_files files') queues ≡ map (user_files files) queues
  users_apart [] h = refl
  users_apart (q ∷ qs) h = rw (user_apart q (h 0), users_apart qs (λ user. h (suc user))) refl

-- more room changes no file
pub sound_like : (files files' : Slab SpoolFileValue) → ((k : ℕ) → get files' k ≡ get files k)
    → (queues : List QueueKeys) → IsSound files queues → IsSound files' queues
sound_like files files' like queues sound = (
  λ user. record {
    waiting = λ i l. subst (λ (o : Option SpoolFileValue). IsSomeAnd o (StandsWith user))
        (sym (like (get_or (keys_in (queue_of queues user)) i 0))) ((sound.0 user).waiting i l);
    once = λ i j li lj e given.
        (sound.0 user).once i j li lj e
        (ap is_given (sym (like (get_or (keys_in (queue_of queues user)) i 0))) ∙ given);
    punched = λ i l. subst (λ (o : Option SpoolFileValue). IsSomeAnd o IsMade)
        (sym (like (get_or (queue_of queues user).punched i 0))) ((sound.0 user).punched i l);
    printed = λ i l. subst (λ (o : Option SpoolFileValue). IsSomeAnd o IsMade)
        (sym (like (get_or (queue_of queues user).printed i 0))) ((sound.0 user).printed i l);
  },
  sound.1,
)

-- ---- one queue in the place of another

-- What holds of each user's queue holds after one is set to a queue of which it holds.
pub each_set : (P : ℕ → QueueKeys → Type 0) (queues : List QueueKeys) (user : ℕ) (q : QueueKeys) → user < length queues
    → P user q → ((other : ℕ) → P other (queue_of queues other)) → (other : ℕ)
    → P other (queue_of (set queues user q) other)
each_set P queues user q inside now before other =
    elim (cases_eq other user) [
      | inl same ↦
          let here : P user (queue_of (set queues user q) user) =
          subst (λ (x : QueueKeys). P user x) (sym (get_or-set_same queues user q no_keys inside)) now in
          subst (λ (u : ℕ). P u (queue_of (set queues user q) u)) (sym same) here
      | inr apart ↦ subst (λ (x : QueueKeys). P other x) (sym (get_or-set_other queues user other q no_keys apart))
          (before other)
    ]

-- ---- the keys of closed files

same_keys : (kind : Bool) (q p : QueueKeys) → q.punched ≡ p.punched → q.printed ≡ p.printed
    → closed_keys kind q ≡ closed_keys kind p
same_keys true q p punched printed = punched
same_keys false q p punched printed = printed

apart_same : (queues queues' : List QueueKeys)
    → ((user : ℕ) (kind : Bool) → closed_keys kind (queue_of queues' user) ≡ closed_keys kind (queue_of queues user))
    → AreApart queues → AreApart queues'
apart_same queues queues' same apart user other kind like i j li lj e =
    apart user other kind like i j (subst (λ (ks : List ℕ). i < length ks) (same user kind) li)
    (subst (λ (ks : List ℕ). j < length ks) (same other like) lj)
    (ap (λ (ks : List ℕ). get_or ks i 0) (sym (same user kind)) ∙ e
    ∙ ap (λ (ks : List ℕ). get_or ks j 0) (same other like))

keys_set : (queues : List QueueKeys) (user : ℕ) (q : QueueKeys) → user < length queues
    → q.punched ≡ (queue_of queues user).punched → q.printed ≡ (queue_of queues user).printed
    → (other : ℕ) (kind : Bool)
    → closed_keys kind (queue_of (set queues user q) other) ≡ closed_keys kind (queue_of queues other)
keys_set queues user q inside punched printed other kind =
    elim (cases_eq other user) [
      | inl same ↦
          ap (λ (u : ℕ). closed_keys kind (queue_of (set queues user q) u)) same
          ∙ ap (closed_keys kind) (get_or-set_same queues user q no_keys inside)
          ∙ same_keys kind q (queue_of queues user) punched printed
          ∙ ap (λ (u : ℕ). closed_keys kind (queue_of queues u)) (sym same)
      | inr apart ↦ ap (closed_keys kind) (get_or-set_other queues user other q no_keys apart)
    ]

-- The queues stay sound when one user's queue is set to a sound one with the same closed files.
pub sound_set : (files : Slab SpoolFileValue) (queues : List QueueKeys) (user : ℕ) (q : QueueKeys)
    → user < length queues → q.punched ≡ (queue_of queues user).punched → q.printed ≡ (queue_of queues user).printed
    → IsSoundOf files user q → IsSound files queues → IsSound files (set queues user q)
sound_set files queues user q inside punched printed now before = (
  each_set (λ u x. IsSoundOf files u x) queues user q inside now before.0,
  apart_same queues (set queues user q) (keys_set queues user q inside punched printed) before.1,
)

-- ---- one more closed file

lacks_closed : (kind : Bool) (key : ℕ) (q : QueueKeys) → IsFreeIn key q → Lacks (closed_keys kind q) key
lacks_closed true key q free = free.punched
lacks_closed false key q free = free.printed

kinds : (a b : Bool) → (a ≡ b) ⊎ (a ≢ b)
kinds true true = inl refl
kinds true false = inr (λ e. absurd (cc))
kinds false true = inr (λ e. absurd (cc))
kinds false false = inl refl

-- the closed files of all users, of which one list has one more key, that nobody holds
module _ (queues queues' : List QueueKeys) (user key : ℕ) (kind : Bool) (free : IsFree key queues)
    (here : closed_keys kind (queue_of queues' user) ≡ closed_keys kind (queue_of queues user) ++ key ∷ [])
    (there : (other : ℕ) (like : Bool) → (other ≡ user → like ≡ kind → ⊥)
    → closed_keys like (queue_of queues' other) ≡ closed_keys like (queue_of queues other)) where
  abbrev keys : ℕ → Bool → List ℕ
  keys u k = closed_keys k (queue_of queues u)

  abbrev key_now : ℕ → Bool → ℕ → ℕ
  key_now u k i = get_or (closed_keys k (queue_of queues' u)) i 0

  record IsNew (u : ℕ) (k : Bool) (i : ℕ) : Type 0 where
    user_is : u ≡ user
    kind_is : k ≡ kind
    last : i ≡ length (keys user kind)
    is : key_now u k i ≡ key

  record WasThere (u : ℕ) (k : Bool) (i : ℕ) : Type 0 where
    inside : i < length (keys u k)
    is : key_now u k i ≡ get_or (keys u k) i 0

  was_other : (u : ℕ) (k : Bool) (i : ℕ) → (u ≡ user → k ≡ kind → ⊥) → i < length (closed_keys k (queue_of queues' u))
      → WasThere u k i
  was_other u k i apart l = record {
    inside = subst (λ (ks : List ℕ). i < length ks) (there u k apart) l;
    is = ap (λ (ks : List ℕ). get_or ks i 0) (there u k apart);
  }

  was_here : (i : ℕ) → i < length (closed_keys kind (queue_of queues' user)) → IsNew user kind i ⊎ WasThere user kind i
  was_here i l =
      let within : i < length (keys user kind ++ key ∷ []) = subst (λ (ks : List ℕ). i < length ks) here l in
      let count : length (keys user kind ++ key ∷ []) ≡ length (keys user kind) + 1 =
      length-append (keys user kind) (key ∷ []) in
      elim (cases_lt i (length (keys user kind))) [
        | inl a ↦ inr (record {
          inside = a;
          is = ap (λ (ks : List ℕ). get_or ks i 0) here ∙ get_or_append_left (keys user kind) (key ∷ []) 0 i a;
        })
        | inr a ↦
            let last : i ≡ length (keys user kind) = omega arith in
            inl (record {
              user_is = refl;
              kind_is = refl;
              last = last;
              is = ap (λ (ks : List ℕ). get_or ks i 0) here
                  ∙ ap (λ (m : ℕ). get_or (keys user kind ++ key ∷ []) m 0) last
                  ∙ get_or-append_seam (keys user kind) key [] 0;
            })
      ]

  was : (u : ℕ) (k : Bool) (i : ℕ) → i < length (closed_keys k (queue_of queues' u)) → IsNew u k i ⊎ WasThere u k i
  was u k i l =
      elim (cases_eq u user) [
        | inl same ↦ elim (kinds k kind) [
          | inl like ↦
              let it : IsNew user kind i ⊎ WasThere user kind i =
              was_here i (subst (λ (x : Bool). i < length (closed_keys x (queue_of queues' user))) like
              (subst (λ (x : ℕ). i < length (closed_keys k (queue_of queues' x))) same l)) in
              subst (λ (x : ℕ). IsNew x k i ⊎ WasThere x k i) (sym same)
              (subst (λ (x : Bool). IsNew user x i ⊎ WasThere user x i) (sym like) it)
          | inr unlike ↦ inr (was_other u k i (λ a b. unlike b) l)
        ]
        | inr apart ↦ inr (was_other u k i (λ a b. apart a) l)
      ]

  is_not_there : (u : ℕ) (k : Bool) (i : ℕ) → WasThere u k i → key ≡ key_now u k i → ⊥
  is_not_there u k i w e = lacks_closed k key (queue_of queues u) (free u) i w.inside (sym w.is ∙ sym e)

  pub apart_more : AreApart queues → AreApart queues'
  apart_more apart u v k l i j li lj e =
      elim (was u k i li) [
        | inl a ↦ elim (was v l j lj) [
          | inl b ↦ (a.user_is ∙ sym b.user_is, a.kind_is ∙ sym b.kind_is, a.last ∙ sym b.last)
          | inr b ↦ absurd (is_not_there v l j b (sym a.is ∙ e))
        ]
        | inr a ↦ elim (was v l j lj) [
          | inl b ↦ absurd (is_not_there u k i a (sym b.is ∙ sym e))
          | inr b ↦ apart u v k l i j a.inside b.inside (sym a.is ∙ e ∙ b.is)
        ]
      ]

-- one user's queue is set to one with one more closed file
module _ (queues : List QueueKeys) (user key : ℕ) (inside : user < length queues) (free : IsFree key queues) where
  here_set : (kind : Bool) (q : QueueKeys) → closed_keys kind q ≡ closed_keys kind (queue_of queues user) ++ key ∷ []
      → closed_keys kind (queue_of (set queues user q) user) ≡ closed_keys kind (queue_of queues user) ++ key ∷ []
  here_set kind q is = ap (closed_keys kind) (get_or-set_same queues user q no_keys inside) ∙ is

  there_set : (kind : Bool) (q : QueueKeys)
      → ((like : Bool) → (like ≡ kind → ⊥) → closed_keys like q ≡ closed_keys like (queue_of queues user))
      → (other : ℕ) (like : Bool) → (other ≡ user → like ≡ kind → ⊥)
      → closed_keys like (queue_of (set queues user q) other) ≡ closed_keys like (queue_of queues other)
  there_set kind q rest other like unlike =
      elim (cases_eq other user) [
        | inl same ↦
            ap (λ (u : ℕ). closed_keys like (queue_of (set queues user q) u)) same
            ∙ ap (closed_keys like) (get_or-set_same queues user q no_keys inside)
            ∙ rest like (λ e. unlike same e)
            ∙ ap (λ (u : ℕ). closed_keys like (queue_of queues u)) (sym same)
        | inr apart ↦ ap (closed_keys like) (get_or-set_other queues user other q no_keys apart)
      ]

  not_printed : (like : Bool) → (like ≡ true → ⊥)
      → closed_keys like (with_punched_key key (queue_of queues user)) ≡ closed_keys like (queue_of queues user)
  not_printed true not = absurd (not refl)
  not_printed false not = refl

  not_punched : (like : Bool) → (like ≡ false → ⊥)
      → closed_keys like (with_printed_key key (queue_of queues user)) ≡ closed_keys like (queue_of queues user)
  not_punched true not = refl
  not_punched false not = absurd (not refl)

  -- The closed files stay apart when a punch file with a new key joins them.
  pub apart_punched : AreApart queues → AreApart (set queues user (with_punched_key key (queue_of queues user)))
  apart_punched =
      let q = with_punched_key key (queue_of queues user) in
      apart_more queues (set queues user q) user key true free (here_set true q refl) (there_set true q not_printed)

  -- The closed files stay apart when a printer file with a new key joins them.
  pub apart_printed : AreApart queues → AreApart (set queues user (with_printed_key key (queue_of queues user)))
  apart_printed =
      let q = with_printed_key key (queue_of queues user) in
      apart_more queues (set queues user q) user key false free (here_set false q refl) (there_set false q not_punched)

-- ---- a key comes

all_more : (files : Slab SpoolFileValue) (P : SpoolFileValue → Type 0) (key : ℕ) (keys : List ℕ) → AllAt files P keys
    → IsSomeAnd (get files key) P → AllAt files P (keys ++ key ∷ [])
all_more files P key [] all here zero inside = here
all_more files P key [] all here (suc i) inside = absurd (omega arith)
all_more files P key (k ∷ ks) all here zero inside = all 0 (omega arith)
all_more files P key (k ∷ ks) all here (suc i) inside =
    all_more files P key ks (λ n l. all (suc n) (omega arith)) here i (omega arith)

once_more : (files : Slab SpoolFileValue) (key : ℕ) (keys : List ℕ) → Once files keys
    → (is_given (get files key) ≡ true → Lacks keys key) → Once files (keys ++ key ∷ [])
once_more files key keys once apart i j li lj e given =
    let count : length (keys ++ key ∷ []) ≡ length keys + 1 = length-append keys (key ∷ []) in
    let left : (n : ℕ) → n < length keys
    → get_or (keys ++ key ∷ []) n 0 ≡ get_or keys n 0 = λ n l. get_or_append_left keys (key ∷ []) 0 n l in
    let last : (n : ℕ) → n ≡ length keys
    → get_or (keys ++ key ∷ []) n 0 ≡ key =
    λ n is. ap (λ (m : ℕ). get_or (keys ++ key ∷ []) m 0) is ∙ get_or-append_seam keys key [] 0 in
    elim (cases_lt i (length keys)) [
      | inl a ↦ elim (cases_lt j (length keys)) [
        | inl b ↦ once i j a b (sym (left i a) ∙ e ∙ left j b)
            (ap (λ (k : ℕ). is_given (get files k)) (sym (left i a)) ∙ given)
        | inr b ↦
            let its : is_given (get files key) ≡ true =
            ap (λ (k : ℕ). is_given (get files k)) (sym (e ∙ last j (omega arith))) ∙ given in
            absurd (apart its i a (sym (left i a) ∙ e ∙ last j (omega arith)))
      ]
      | inr a ↦ elim (cases_lt j (length keys)) [
        | inl b ↦
            let its : is_given (get files key) ≡ true =
            ap (λ (k : ℕ). is_given (get files k)) (sym (last i (omega arith))) ∙ given in
            absurd (apart its j b (sym (left j b) ∙ sym e ∙ last i (omega arith)))
        | inr b ↦ omega arith
      ]
    ]

-- A queue stays sound when a file that is there joins it.
pub sound_waiting : (files : Slab SpoolFileValue) (user : ℕ) (w : Waiting) (q : QueueKeys) → IsSoundOf files user q
    → IsSomeAnd (get files w.key) (StandsWith user) → (is_given (get files w.key) ≡ true → Lacks (keys_in q) w.key)
    → IsSoundOf files user (with_waiting w q)
sound_waiting files user w q sound here apart = record {
  waiting = subst (λ (ks : List ℕ). AllAt files (StandsWith user) ks) (sym (keys_more q w))
      (all_more files (StandsWith user) w.key (keys_in q) sound.waiting here);
  once = subst (λ (ks : List ℕ). Once files ks) (sym (keys_more q w))
      (once_more files w.key (keys_in q) sound.once apart);
  punched = sound.punched;
  printed = sound.printed;
}

-- A queue stays sound when a punch file that is there joins it.
pub sound_punched : (files : Slab SpoolFileValue) (user key : ℕ) (q : QueueKeys) → IsSoundOf files user q
    → IsSomeAnd (get files key) IsMade → IsSoundOf files user (with_punched_key key q)
sound_punched files user key q sound here = record {
  waiting = sound.waiting;
  once = sound.once;
  punched = all_more files IsMade key q.punched sound.punched here;
  printed = sound.printed;
}

-- A queue stays sound when a printer file that is there joins it.
pub sound_printed : (files : Slab SpoolFileValue) (user key : ℕ) (q : QueueKeys) → IsSoundOf files user q
    → IsSomeAnd (get files key) IsMade → IsSoundOf files user (with_printed_key key q)
sound_printed files user key q sound here = record {
  waiting = sound.waiting;
  once = sound.once;
  punched = sound.punched;
  printed = all_more files IsMade key q.printed sound.printed here;
}

-- A queue stays sound with other room.
pub sound_roomier : (files : Slab SpoolFileValue) (user m n : ℕ) (q : QueueKeys) → IsSoundOf files user q
    → IsSoundOf files user (record q { punch_room = m; print_room = n })
sound_roomier files user m n q sound =
    record { waiting = sound.waiting; once = sound.once; punched = sound.punched; printed = sound.printed }

-- A queue stays sound with its reader at another card.
pub sound_placed : (files : Slab SpoolFileValue) (user : ℕ) (place : Option ℕ) (q : QueueKeys) → IsSoundOf files user q
    → IsSoundOf files user (record q { place = place })
sound_placed files user place q sound =
    record { waiting = sound.waiting; once = sound.once; punched = sound.punched; printed = sound.printed }

-- ---- a deck leaves

-- where an element that is left was before
record Stood (keys : List ℕ) (index i : ℕ) : Type 0 where
  before : ℕ
  inside : before < length keys
  apart : before ≢ index
  same : get_or (remove keys index) i 0 ≡ get_or keys before 0
  below : before < index → i ≡ before
  above : index < before → i + 1 ≡ before

stood : (keys : List ℕ) (index i : ℕ) → index < length keys → i < length (remove keys index) → Stood keys index i
stood keys index i inside l =
    let count : length (remove keys index) + 1 ≡ length keys = length-remove keys index inside in
    elim (cases_lt i index) [
      | inl a ↦ record {
        before = i;
        inside = omega arith;
        apart = λ e. absurd (omega arith);
        same = get_or-remove_below keys index 0 i a inside;
        below = λ h. refl;
        above = λ h. absurd (omega arith);
      }
      | inr a ↦ record {
        before = i + 1;
        inside = omega arith;
        apart = λ e. absurd (omega arith);
        same = get_or-remove_above keys index 0 i a inside;
        below = λ h. absurd (omega arith);
        above = λ h. refl;
      }
    ]

all_less : (files : Slab SpoolFileValue) (P : SpoolFileValue → Type 0) (index : ℕ) (keys : List ℕ) → index < length keys
    → AllAt files P keys → AllAt files P (remove keys index)
all_less files P index keys inside all i l =
    let was = stood keys index i inside l in
    subst (λ (key : ℕ). IsSomeAnd (get files key) P) (sym was.same) (all was.before was.inside)

same_place : (index m n i j : ℕ) → m ≡ n → m ≢ index → (m < index → i ≡ m) → (index < m → i + 1 ≡ m)
    → (n < index → j ≡ n) → (index < n → j + 1 ≡ n) → i ≡ j
same_place index m n i j e apart a b c d =
    elim (cases_lt m index) [
      | inl l ↦ a l ∙ e ∙ sym (c (omega arith))
      | inr l ↦ elim (cases_eq m index) [
        | inl is ↦ absurd (apart is)
        | inr not ↦
            let more : index < m = omega arith in
            let one = b more in
            let other = d (omega arith) in
            omega (arith, one, other)
      ]
    ]

once_less : (files : Slab SpoolFileValue) (index : ℕ) (keys : List ℕ) → index < length keys → Once files keys
    → Once files (remove keys index)
once_less files index keys inside once i j li lj e given =
    let a = stood keys index i inside li in
    let b = stood keys index j inside lj in
    let its : is_given (get files (get_or keys a.before 0)) ≡ true =
    ap (λ (k : ℕ). is_given (get files k)) (sym a.same) ∙ given in
    same_place index a.before b.before i j (once a.before b.before a.inside b.inside (sym a.same ∙ e ∙ b.same) its)
    a.apart a.below a.above b.below b.above

-- A queue stays sound when a deck leaves it.
pub sound_less : (files : Slab SpoolFileValue) (user index : ℕ) (q : QueueKeys) → index < length (keys_in q)
    → IsSoundOf files user q → IsSoundOf files user (without_waiting index q)
sound_less files user index q there sound = record {
  waiting = subst (λ (ks : List ℕ). AllAt files (StandsWith user) ks) (sym (keys_less q index))
      (all_less files (StandsWith user) index (keys_in q) there sound.waiting);
  once = subst (λ (ks : List ℕ). Once files ks) (sym (keys_less q index))
      (once_less files index (keys_in q) there sound.once);
  punched = sound.punched;
  printed = sound.printed;
}

-- and nobody else has it, where it was given

given_not_made : (o : Option SpoolFileValue) → is_given o ≡ true → IsSomeAnd o IsMade → ⊥
given_not_made None given made = made
given_not_made (Some file) given made = cc (sym given ∙ made)

made_lacks : (files : Slab SpoolFileValue) (key : ℕ) (keys : List ℕ) → is_given (get files key) ≡ true
    → AllAt files IsMade keys → Lacks keys key
made_lacks files key keys given all i l e =
    given_not_made (get files (get_or keys i 0)) (ap (λ (k : ℕ). is_given (get files k)) e ∙ given) (all i l)

one_owner : (o : Option SpoolFileValue) (user other : ℕ) → is_given o ≡ true → IsSomeAnd o (StandsWith user)
    → IsSomeAnd o (StandsWith other) → user ≡ other
one_owner None user other given a b = absurd a
one_owner (Some file) user other given a b =
    let one : file.target ≡ targets.User user = a given in
    let two : file.target ≡ targets.User other = b given in
    cc

module _ (files : Slab SpoolFileValue) (queues : List QueueKeys) (user index key : ℕ) (inside : user < length queues)
    (there : index < length (keys_in (queue_of queues user)))
    (is : get_or (keys_in (queue_of queues user)) index 0 ≡ key) (given : is_given (get files key) ≡ true)
    (sound : IsSound files queues) where
  free_here : Lacks (keys_in (without_waiting index (queue_of queues user))) key
  free_here i l e =
      let keys : keys_in (without_waiting index (queue_of queues user))
      ≡ remove (keys_in (queue_of queues user)) index = keys_less (queue_of queues user) index in
      let within : i < length (remove (keys_in (queue_of queues user)) index) =
      subst (λ (ks : List ℕ). i < length ks) keys l in
      let was = stood (keys_in (queue_of queues user)) index i there within in
      let found : get_or (remove (keys_in (queue_of queues user)) index) i 0 ≡ key =
      subst (λ (ks : List ℕ). get_or ks i 0 ≡ key) keys e in
      let its : get_or (keys_in (queue_of queues user)) was.before 0 ≡ key = sym was.same ∙ found in
      was.apart ((sound.0 user).once was.before index was.inside there (its ∙ sym is)
      (ap (λ (k : ℕ). is_given (get files k)) its ∙ given))

  free_there : (other : ℕ) → other ≢ user → Lacks (keys_in (queue_of queues other)) key
  free_there other apart i l e =
      let its : IsSomeAnd (get files key) (StandsWith other) =
      subst (λ (k : ℕ). IsSomeAnd (get files k) (StandsWith other)) e ((sound.0 other).waiting i l) in
      let mine : IsSomeAnd (get files key) (StandsWith user) =
      subst (λ (k : ℕ). IsSomeAnd (get files k) (StandsWith user)) is ((sound.0 user).waiting index there) in
      apart (sym (one_owner (get files key) user other given mine its))

  made_free : (other : ℕ) (q : QueueKeys) → IsSoundOf files other q → Lacks (keys_in q) key → IsFreeIn key q
  made_free other q its lacks = record {
    waiting = lacks;
    punched = made_lacks files key q.punched given its.punched;
    printed = made_lacks files key q.printed given its.printed;
  }

  pub taken_is_free : IsFree key (set queues user (without_waiting index (queue_of queues user)))
  taken_is_free other =
      elim (cases_eq other user) [
        | inl same ↦
            let q = without_waiting index (queue_of queues user) in
            let now : IsFreeIn key q =
            made_free user q (sound_less files user index (queue_of queues user) there (sound.0 user)) free_here in
            let here : IsFreeIn key (queue_of (set queues user q) user) =
            subst (λ (x : QueueKeys). IsFreeIn key x) (sym (get_or-set_same queues user q no_keys inside)) now in
            subst (λ (u : ℕ). IsFreeIn key (queue_of (set queues user q) u)) (sym same) here
        | inr apart ↦
            subst (λ (x : QueueKeys). IsFreeIn key x)
            (sym (get_or-set_other queues user other (without_waiting index (queue_of queues user)) no_keys apart))
            (made_free other (queue_of queues other) (sound.0 other) (free_there other apart))
      ]

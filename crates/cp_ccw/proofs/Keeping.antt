-- A program that is kept runs as the guest's own, where all that it was copied from is as it was.
use Rattle.std.specs.Prelude.{ℕ, ◌+◌, ◌*◌, ◌/◌, ◌%◌, ◌<◌, ◌≤◌, ◌≡◌, ◌⊎◌, Bool, true, false, nat_le, All, Contains, List}
use Rattle.std.specs.Prelude.{[], ◌∷◌, ◌++◌, length, slice_index_or, Option, None, Some, is_some, Result, Ok, Err, IfOk}
use Rattle.std.specs.Prelude.{IfErr, if◌then◌else◌, refl}
use Rattle.std.specs.List.{slice_get}
use Rattle.std.proofs.Common.{ap, ◌∙◌, sym, subst, arith, inl, inr}
use Rattle.std.proofs.lemmas.Bool.Decides.{nat_tests}
use Rattle.std.proofs.lemmas.List.Elements.{All-contains, All-weaker, All-get_or, Contains-append_cases}
use Rattle.std.proofs.lemmas.List.{get_or_default, get_or_past}
use Rattle.std.proofs.Math.Decide.{dec_lt}
use Rattle.std.proofs.lemmas.Option.{slice_get_within}
use Rattle.s370_walk.specs.declared.parts.Ending.{Ending}
use Rattle.s370_store.specs.Memory.{Memory}
use Rattle.s370_walk.specs.Hardware.{Machine}
use Rattle.s370_walk.specs.Walk.{Fetching, live, start_spot}
use Rattle.s370_channel.specs.declared.limits.Limits.{Limits}
use Rattle.s370_channel.specs.declared.running.ChannelError.{ChannelError}
use Rattle.s370_channel.specs.declared.running.ChannelError.TheVariants as errors
use Rattle.s370_channel.specs.declared.words.Caw.{Caw}
use Rattle.s370_channel.specs.Guest.{guest_text, guest_written}
use Rattle.s370_channel.specs.Progress.{setting}
use Rattle.s370_walk.specs.declared.places.CcwLocation.{CcwLocation}
use Rattle.s370_walk.specs.Copy.{guest_of, IsCopyOf, IsPlace}
use Rattle.s370_walk.specs.Mapped.{Named, real_place}
use Rattle.cp_dat.specs.declared.dat.Dat.{Dat}
use Rattle.cp_dat.specs.Lent.{is_lent_page, lent_bytes, lent_frame, lent_memory}
use Rattle.cp_needs.specs.declared.program.Node.{Node}
use Rattle.cp_needs.specs.Table.{entry_in, program_of}
use Rattle.cp_ccw.specs.Layout.{at_frame, real_in}
use Rattle.cp_needs.specs.Kept.{IsKept}
use Rattle.cp_needs.specs.Needs.{IsFixed}
use Rattle.cp_needs.proofs.Standing.{kept_of}
use Rattle.cp_needs.proofs.Walking.{stays_as_kept}
use Rattle.cp_ccw.specs.declared.kept.PageInFrame.{PageInFrame}
use Rattle.cp_ccw.specs.CachedProgram.{AreNoted, AreNotedOnly, Grows, IsAtBase, IsFrame, IsMade, IsNoted, IsNotedAt}
use Rattle.cp_ccw.specs.CachedProgram.{IsOf, IsOfList, KeptProgram}
use Rattle.cp_ccw.specs.Moved.{AreRealNodes}
use Rattle.cp_ccw.specs.Runs.{IsGuestsRun, IsRunOf}
use Rattle.cp_ccw.specs.Translated.{IsTranslatedFor}
use Rattle.cp_ccw.proofs.Steady.{walk_same}

-- ---- what is noted

pub noted_on : (d : Dat) (old new : List PageInFrame) (o : Option ℕ) → Grows old new → IsNoted d old o → IsNoted d new o
noted_on d old new None grows noted = tt
noted_on d old new (Some a) grows noted = λ frame inside there. grows _ (noted frame inside there)

-- Pages that are noted stay noted when more are.
pub all_noted_on : (d : Dat) (old new : List PageInFrame) (list : List (Option ℕ)) → Grows old new
    → All (IsNoted d old) list → All (IsNoted d new) list
all_noted_on d old new list grows noted =
    All-weaker (IsNoted d old) (IsNoted d new) (λ o. noted_on d old new o grows) list noted

-- each address of a list
noted_in : (d : Dat) (held : List PageInFrame) (list : List (Option ℕ)) (j a : ℕ) → All (IsNoted d held) list
    → slice_index_or list j None ≡ Some a → IsNotedAt d held a
noted_in d held list j a noted is = elim (dec_lt j (length list)) [
  | yes lt ↦ subst (IsNoted d held) is (All-get_or (IsNoted d held) list j None lt noted)
  | no past ↦ absurd (let none : slice_index_or list j None
      ≡ None = get_or_past list j None (omega (arith, past)) in differ (sym none ∙ is))
]
  where
    differ : {x : ℕ} → None ≡ Some x → ⊥
    differ e = cc

pub are_noted : (d : Dat) (held : List PageInFrame) (nodes : List Node)
    → ((i : ℕ) (node : Node) → slice_get nodes i ≡ Some node → All (IsNoted d held) node.list.items)
    → AreNoted d held (program_of nodes)
are_noted d held nodes each at j a is = by_node (slice_get nodes at) refl is
  where
    by_node : (o : Option Node) → slice_get nodes at ≡ o → entry_in o j ≡ Some a → IsNotedAt d held a
    by_node None e none = cc
    by_node (Some node) e said = noted_in d held node.list.items j a (each at node e) said

-- one more node
pub nodes_on : (d : Dat) (nodes : List Node) (n : ℕ) (old new : List PageInFrame) (node : Node)
    → ((i : ℕ) → i < n → (other : Node) → slice_get nodes i ≡ Some other → All (IsNoted d old) other.list.items)
    → Grows old new
    → slice_get nodes n ≡ Some node → All (IsNoted d new) node.list.items → (i : ℕ) → i < n + 1 → (other : Node)
    → slice_get nodes i ≡ Some other → All (IsNoted d new) other.list.items
nodes_on d nodes n old new node before grows at noted i lt other there = elim (dec_lt i n) [
  | yes below ↦ all_noted_on d old new other.list.items grows (before i below other there)
  | no last ↦ (let is : i ≡ n = omega (arith, lt, last) in
      let same : Some node ≡ Some other = sym at ∙ ap (λ (k : ℕ). slice_get nodes k) (sym is) ∙ there in
      let one : node ≡ other = cc in
      subst (λ (x : Node). All (IsNoted d new) x.list.items) one noted)
]

-- all of them
pub nodes_all : (d : Dat) (nodes : List Node) (n : ℕ) (held : List PageInFrame) → length nodes ≤ n
    → ((i : ℕ) → i < n → (node : Node) → slice_get nodes i ≡ Some node → All (IsNoted d held) node.list.items)
    → AreNoted d held (program_of nodes)
nodes_all d nodes n held all each =
    are_noted d held nodes (λ i node at.
    each i (let lt = slice_get_within nodes i node at in omega (arith, lt, all)) node at)

-- ---- and no others

abbrev pub IsNamedOn : List Node → PageInFrame → Type 0
IsNamedOn nodes h = (at j a : ℕ) × ((program_of nodes).lists at j ≡ Some a) × (h.page.0 ≡ a / 4096)

of_entry : (list : List (Option ℕ)) (i : ℕ) (other : Option ℕ) (h : PageInFrame) → i < length list
    → IsOf (slice_index_or list i other) h → IsOfList list h
of_entry list i other h lt of = by_said (slice_index_or list i other) (get_or_default list i None other lt) of
  where
    by_said : (o : Option ℕ) → slice_index_or list i None ≡ o → IsOf o h → IsOfList list h
    by_said None is none = absurd none
    by_said (Some a) is at = (i, a, is, at)

-- A page noted for one more element of a list is one of that list.
pub list_only : (list : List (Option ℕ)) (i : ℕ) (other : Option ℕ) (h : PageInFrame) {Old Mid : Type 0}
    → i < length list → (Mid → Old ⊎ IsOfList list h) → Mid ⊎ IsOf (slice_index_or list i other) h
    → Old ⊎ IsOfList list h
list_only list i other h lt before (inl earlier) = before earlier
list_only list i other h lt before (inr one) = inr (of_entry list i other h lt one)

-- A page noted for a node is one that the node's list names.
pub node_only : (nodes : List Node) (i : ℕ) (node : Node) (h : PageInFrame) {Mid : Type 0}
    → slice_get nodes i ≡ Some node → (Mid → IsNamedOn nodes h) → Mid ⊎ IsOfList node.list.items h → IsNamedOn nodes h
node_only nodes i node h is before (inl earlier) = before earlier
node_only nodes i node h is before (inr (j, a, said, at)) =
    (i, j, a, ap (λ (o : Option Node). entry_in o j) is ∙ said, at)

pub none_named : (nodes : List Node) → AreNotedOnly [] (program_of nodes)
none_named nodes h (k, lt, e) = absurd (omega (arith, lt))

-- A page that was pushed last is the page of its address.
pub push_only : (old : List PageInFrame) (one : PageInFrame) (new : List PageInFrame) (a : ℕ) → new ≡ old ++ one ∷ []
    → one.page.0 ≡ a / 4096 → (h : PageInFrame) → Contains new h → Contains old h ⊎ (h.page.0 ≡ a / 4096)
push_only old one new a is at h there = elim (Contains-append_cases old (one ∷ []) h (rw is at there)) [
  | inl before ↦ inl before
  | inr (k, lt, e) ↦ (let first : k
      ≡ 0 = omega (arith, lt) in inr (ap (λ (x : PageInFrame). x.page.0) (sym (rw first at e)) ∙ at))
]

-- ---- frames as they were

some_of : {X : Type 0} (o : Option X) → is_some o ≡ true → (x : X) × (o ≡ Some x)
some_of None e = cc
some_of (Some x) e = (x, refl)

module _ (d e : Dat) (held : List PageInFrame) (size : length (lent_bytes e) ≡ length (lent_bytes d))
    (stay : All (IsFrame e) held) where
  -- the page of a noted address is in the frame in which it was
  frame_same : (a : ℕ) → IsNotedAt d held a → a / 4096 * 4096 + 4096 ≤ length (lent_bytes d)
      → is_lent_page d (a / 4096) ≡ true → lent_frame e (a / 4096) ≡ lent_frame d (a / 4096)
  frame_same a noted inside there =
      let at = some_of (lent_frame d (a / 4096)) there in
      let now = All-contains (IsFrame e) held (record { page = record { 0 = a / 4096 }; frame = record { 0 = at.0 } })
      stay (noted at.0 inside at.1) in
      now.1 ∙ sym at.1

  real_same : (a : ℕ) → IsNotedAt d held a → (a < length (lent_bytes d) → is_lent_page d (a / 4096) ≡ true)
      → real_in e a ≡ real_in d a
  real_same a noted there = rw size (by_le (nat_le (a / 4096 * 4096 + 4096) (length (lent_bytes d))) refl)
    where
      by_le : (b : Bool) → nat_le (a / 4096 * 4096 + 4096) (length (lent_bytes d)) ≡ b
          → at_frame (if b then lent_frame e (a / 4096) else None) (a % 4096)
          ≡ at_frame (if b then lent_frame d (a / 4096) else None) (a % 4096)
      by_le false is = refl
      by_le true is =
          let inside : a / 4096 * 4096 + 4096 ≤ length (lent_bytes d) = grind (arith, nat_tests) in
          ap (λ (o : Option ℕ). at_frame o (a % 4096)) (frame_same a noted inside (there (omega (arith, inside))))

-- it is as well translated for those who have the same pages in the same frames
pub translated_for : (d e : Dat) (places : List CcwLocation) (old new : List Node) (held : List PageInFrame)
    (m0 : Memory)
    → IsCopyOf places (program_of old) (live guest_written) m0 → AreRealNodes (real_in d) old new
    → AreNoted d held (program_of old)
    → ((a : ℕ) → Named (program_of old) a → a < length (lent_bytes d) → is_lent_page d (a / 4096) ≡ true)
    → length (lent_bytes d) % 4096 ≡ 0 → length (lent_bytes e) ≡ length (lent_bytes d) → All (IsFrame e) held
    → IsTranslatedFor e places new m0
translated_for d e places old new held m0 copy moved noted there whole size stay = record {
  guests = program_of old;
  copy = copy;
  words = moved.words;
  reals = λ at j. moved.lists at j ∙ by_said at j ((program_of old).lists at j) refl;
  held = λ a named low. (let inside : a / 4096 * 4096 + 4096
      ≤ length (lent_bytes d) = omega (arith, low, size, whole) in
      let here = there a named (omega (arith, low, size)) in
      ap (λ (o : Option ℕ). is_some o) (frame_same d e held size stay a (noted named.0 named.1 a named.2) inside here) ∙
      here);
}
  where
    by_said : (at j : ℕ) (o : Option ℕ) → (program_of old).lists at j ≡ o
        → real_place (real_in d) o ≡ real_place (real_in e) o
    by_said at j None is = refl
    by_said at j (Some a) is = sym (real_same d e held size stay a (noted at j a is) (there a (at, j, is)))

-- ---- its run

kept_run : {D : Type 0} (machine : Machine D) (limits : Limits) (start : ℕ) (m0 : Memory) (old : Dat) (d : D)
    (end : Ending) (new : Dat) (e : D) → IsFixed m0 start → IsKept m0 start (lent_memory old)
    → IsGuestsRun machine limits m0 start old d end new e
    → IsRunOf (live guest_written) machine limits start old d end new e
kept_run machine limits start m0 old d end new e fixed kept run =
    let h = setting machine limits in
    let s = Fetching (start_spot start) (lent_memory old) d in
    record {
      steps = run.frozen.steps;
      comes = walk_same h m0 s run.frozen.steps (stays_as_kept h (start_spot start) m0 (lent_memory old) d fixed kept) ∙
          run.frozen.comes;
    }

module _ (k : KeptProgram) (made : IsMade k.caw.address k.size k.text k.held k.places k.nodes k.first) (old : Dat)
    (caw : Caw) (base : IsAtBase k old caw) where
  pub for_now : IsTranslatedFor old k.places k.nodes made.memory
  for_now = made.translated old (sym base.same_size) base.frames

  words_kept : IsKept made.memory k.caw.address (lent_memory old)
  words_kept = kept_of made.memory (lent_memory old) k.caw.address k.text (is_lent_page old) made.text_is
      (sym base.same_size ∙ sym made.sized) base.words

  pub runs_itself : {D : Type 0} (r : Result Ending ChannelError) (machine : Machine D) (limits : Limits) (d : D)
      (new : Dat) (e : D)
      → IfOk r (λ end. (m0 : Memory) → IsTranslatedFor old k.places k.nodes m0
      → IsPlace k.places (guest_text m0) k.first
      → IsGuestsRun machine limits m0 (guest_of k.places k.first) old d end new e)
      → IfOk r (λ end. IsRunOf (live guest_written) machine limits caw.address old d end new e)
  runs_itself (Ok end) machine limits d new e runs =
      let start : k.caw.address ≡ caw.address = ap (λ (x : Caw). x.address) base.same_caw in
      subst (λ (a : ℕ). IsRunOf (live guest_written) machine limits a old d end new e) start
      (kept_run machine limits k.caw.address made.memory old d end new e made.fixed words_kept
      (subst (λ (a : ℕ). IsGuestsRun machine limits made.memory a old d end new e) made.at
      (runs made.memory for_now made.place)))
  runs_itself (Err error) machine limits d new e runs = tt

  pub stops_for_memory : (r : Result Ending ChannelError)
      → IfErr r (λ error. (m0 : Memory) → IsTranslatedFor old k.places k.nodes m0 → error ≡ errors.Memory)
      → IfErr r (λ error. error ≡ errors.Memory)
  stops_for_memory (Ok end) never = tt
  stops_for_memory (Err error) never = never made.memory for_now

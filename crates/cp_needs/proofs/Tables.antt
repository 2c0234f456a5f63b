-- Lemmas of specs/Table.
use Rattle.std.specs.Prelude.{ℕ, zero, suc, ◌+◌, ◌-◌, ◌*◌, ◌/◌, ◌%◌, ◌<◌, ◌≤◌, ◌≡◌, ◌==◌, ◌^◌, List, [], ◌∷◌, ◌++◌}
use Rattle.std.specs.Prelude.{length, slice_index_or, Option, None, Some, is_some, ◌⊎◌, refl, Bool, true, false, ◌||◌}
use Rattle.std.specs.Prelude.{◌&&◌, not, if◌then◌else◌}
use Rattle.std.specs.List.{slice_get}
use Rattle.std.proofs.Common.{sym, ◌∙◌, ap, subst, arith, inl, inr, length-append}
use Rattle.std.proofs.Math.Seq.{get_or-append_seam}
use Rattle.std.proofs.lemmas.List.{append-nil, get_or_append_left, get_or_past, append_assoc}
use Rattle.std.proofs.lemmas.Option.{slice_get_past, slice_get_within}
use Rattle.s370_walk.specs.declared.parts.Ccw.{Ccw}
use Rattle.s370_walk.specs.declared.parts.Position.{Position}
use Rattle.s370_store.specs.Memory.{Memory}
use Rattle.s370_walk.specs.Hardware.{is_in, area}
use Rattle.s370_store.specs.declared.Access.TheVariants.{Fetch}
use Rattle.s370_store.specs.declared.Fault.TheVariants.{Addressing, Protection}
use Rattle.s370_store.specs.Access.{first_fault, is_addressable, is_permitted, is_passed}
use Rattle.std.specs.Prelude.{nat_lt, nat_le, Result, Err, ⊤}
use Rattle.s370_store.specs.declared.Fault.{Fault}
use Rattle.s370_store.specs.Access.{Test, IsVerdict}
use Rattle.std.proofs.lemmas.Bool.Decides.{nat_tests}
use Rattle.std.proofs.Math.Decide.{dec_lt}
use Rattle.s370_walk.specs.Walk.{live, is_jump, chains_data, chains_command, is_indirect}
use Rattle.s370_channel.specs.Guest.{guest_text, guest_written, area_block, word_at, bare_word, list_of, said_by}
use Rattle.s370_channel.specs.Guest.{list_word, later}
use Rattle.s370_channel.specs.declared.words.StoredCcw.{StoredCcw}
use Rattle.s370_channel.specs.Words.{ccw_of}
use Rattle.std.specs.List.{slice_range}
use Rattle.s370_walk.specs.declared.places.CcwLocation.{CcwLocation}
use Rattle.s370_walk.specs.Renaming.{renamed_found, LeadsFrom}
use Rattle.s370_walk.specs.Mapped.{Named}
use Rattle.s370_walk.specs.Blocks.{straight}
use Rattle.s370_walk.specs.Tracks.{has_area, IsListOf}
use Rattle.s370_walk.proofs.Tracked.{tracks_begin, tracks_skip, tracks_on, tracks_place}
use Rattle.s370_walk.specs.Copy.{past, guest_of, IsPlace, IsCopyOf}
use Rattle.cp_needs.specs.declared.program.Node.{Node}
use Rattle.cp_needs.specs.Table.{word_in, entry_in, program_of, IsLink, HasLinks, IsGood, IsCopied, HasListOf, IsRow}
use Rattle.cp_needs.specs.Table.{AreRows, Grows, IsFollowed, IsLinked, leads_next, leads_skipped, IsJumpPlain, IsPart}
use Rattle.cp_needs.specs.Table.{IsPresent, AllPresent, AreHeldRows}

module _ (old rest : List CcwLocation) (room : length (old ++ rest) ≤ 2147483648) where
  longer : length old ≤ length (old ++ rest)
  longer = omega (arith, length-append old rest)

  link_same : (a : ℕ) → IsLink old a → guest_of (old ++ rest) a ≡ guest_of old a
  link_same a (inl lt) = ap (λ (p : CcwLocation). p.address) (get_or_append_left old rest (past a) a lt)
  link_same a (inr high) =
      let here : length (old ++ rest) ≤ a = omega (arith, high, room) in
      let there : length old ≤ a = omega (arith, high, room, longer) in
      ap (λ (p : CcwLocation). p.address) (get_or_past (old ++ rest) a (past a) here
      ∙ sym (get_or_past old a (past a) there))

  link_more : (a : ℕ) → IsLink old a → IsLink (old ++ rest) a
  link_more a (inl lt) = inl (omega (arith, longer, lt))
  link_more a (inr high) = inr high

  good_more : (text : ℕ → Option Ccw) (a : ℕ) → IsGood old text a → IsGood (old ++ rest) text a
  good_more text a (inl lt) = inl (omega (arith, longer, lt))
  good_more text a (inr high) = inr high

  renamed_more : (found : Option Ccw) → HasLinks old found → renamed_found
      (guest_of (old ++ rest)) found ≡ renamed_found (guest_of old) found
  renamed_more None links = refl
  renamed_more (Some w) links = rw (link_same w.next links.0, link_same w.skipped links.1) refl

  leads_more : (text : ℕ → Option Ccw) (found : Option Ccw) → LeadsFrom (IsGood old text) found
      → LeadsFrom (IsGood (old ++ rest) text) found
  leads_more text None leads = tt
  leads_more text (Some w) leads =
      record {
        jump = λ e f. good_more text w.next (leads.jump e f);
        data_next = λ e. good_more text w.next (leads.data_next e);
        command_next = λ e f. good_more text w.next (leads.command_next e f);
        skipped = λ e f. good_more text w.skipped (leads.skipped e f);
      }

  links_more : (found : Option Ccw) → HasLinks old found → HasLinks (old ++ rest) found
  links_more None links = tt
  links_more (Some w) links = (link_more w.next links.0, link_more w.skipped links.1)

  -- What is copied stays copied when places are added.
  copied_more : (text : ℕ → Option Ccw) (address : ℕ) (found : Option Ccw) → IsCopied old text address found
      → IsCopied (old ++ rest) text address found
  copied_more text address found c =
      record {
        same = c.same ∙ sym (renamed_more found c.links);
        leads = leads_more text found c.leads;
        links = links_more found c.links;
      }

pub copied_grown : (old new : List CcwLocation) (text : ℕ → Option Ccw) (address : ℕ) (found : Option Ccw)
    → Grows old new → length new ≤ 2147483648 → IsCopied old text address found → IsCopied new text address found
copied_grown old new text address found grown room c =
    let P : List CcwLocation → Type 0 = λ xs. length xs ≤ 2147483648 → IsCopied xs text address found in
    subst P (sym grown.is) (λ fits. copied_more old grown.rest fits text address found c) room

pub guest_grown : (old new : List CcwLocation) (i : ℕ) → Grows old new → i < length old
    → guest_of new i ≡ guest_of old i
guest_grown old new i grown lt = rw grown.is (ap (λ (p : CcwLocation). p.address)
    (get_or_append_left old grown.rest (past i) i lt))

-- A list that grows does not become shorter.
pub grown_length : (old new : List CcwLocation) → Grows old new → length old ≤ length new
grown_length old new grown = rw grown.is (omega (arith, length-append old grown.rest))

-- Following a place makes the list of places grow.
pub followed_grows : (leads : Bool) (place : CcwLocation) (old new : List CcwLocation) → IsFollowed leads place old new
    → Grows old new
followed_grows leads place old new (inl same) = record { rest = []; is = same ∙ sym (append-nil old) }
followed_grows leads place old new (inr (on, is)) = record { rest = place ∷ []; is = is }

-- Growing twice is growing.
pub grown_on : (a b c : List CcwLocation) → Grows a b → Grows b c → Grows a c
grown_on a b c one two = record {
  rest = one.rest ++ two.rest;
  is = two.is ∙ ap (λ xs. xs ++ two.rest) one.is
      ∙ append_assoc a one.rest two.rest;
}

word_plain : (a : ℕ) (c : StoredCcw) → IsJumpPlain (word_at a c)
word_plain a c = by_jump (is_jump (bare_word c)) refl
  where
    by_jump : (b : Bool) → is_jump (bare_word c) ≡ b → IsJumpPlain (word_at a c)
    by_jump true e = record { chained = λ h. rw e refl; commands = λ h. rw e refl }
    by_jump false e = record {
      chained = λ h. (let f : true ≡ false = sym h ∙ e in cc);
      commands = λ h. (let f : true ≡ false = sym h ∙ e in cc);
    }

-- A word of a guest's text jumps plainly.
pub text_plain : (m : Memory) (a : ℕ) (w : Ccw) → guest_text m a ≡ Some w → IsJumpPlain w
text_plain m a w = by_in (is_in m a 8)
  where
    by_in : (b : Bool) → (if b then Some (word_at a (ccw_of (slice_range m.bytes a (a + 8)))) else None) ≡ Some w
        → IsJumpPlain w
    by_in true e = let same : word_at a (ccw_of (slice_range m.bytes a (a + 8))) ≡ w = cc in
        subst IsJumpPlain same (word_plain a _)
    by_in false e = cc

-- A word whose links were made, one after the other, is copied.
copied_word : (first rest : List CcwLocation) (m : Memory) (address : ℕ) (w : Ccw) (n s : ℕ)
    → length (first ++ rest) ≤ 2147483648 → guest_text m address ≡ Some w
    → IsLinked first (guest_text m) (leads_next w) w.next n → IsLinked (first ++ rest) (guest_text m)
    (leads_skipped w) w.skipped s
    → IsCopied (first ++ rest) (guest_text m) address (Some (record {
      command = w.command;
      address = w.address;
      flags = w.flags;
      count = w.count;
      next = n;
      skipped = s;
    }))
copied_word first rest m address w n s room is next skipped =
    let same_next : guest_of (first ++ rest) n ≡ w.next = link_same first rest room n next.link ∙ next.same in
    let plain = text_plain m address w is in
    let in_place : leads_next w ≡ true → IsGood (first ++ rest) (guest_text m) n = λ e. good_more first rest room
    (guest_text m) n (next.good e) in
    record {
      same = is ∙ rw (same_next, skipped.same) refl;
      leads =
          record {
            jump = λ e f. in_place (rw e f);
            data_next = λ e. in_place (by_data (is_jump w) (chains_data w) (chains_command w) e plain.chained);
            command_next = λ e f. in_place (by_command (is_jump w) (chains_data w) (chains_command w) e plain.commands);
            skipped = λ e f. skipped.good (by_skip (is_jump w) (chains_data w) (chains_command w) e f plain.commands);
          };
      links = (link_more first rest room n next.link, skipped.link);
    }
  where
    by_data : (j d c : Bool) → d ≡ true → (j ≡ true → d ≡ false) → (if j then (w.address % 8 == 0) else (d || c)) ≡ true
    by_data true d c e plain = (let f : true ≡ false = sym e ∙ plain refl in cc)
    by_data false true c e plain = refl
    by_data false false c e plain = cc

    by_command : (j d c : Bool) → c ≡ true → (j ≡ true → c ≡ false)
        → (if j then (w.address % 8 == 0) else (d || c)) ≡ true
    by_command true d c e plain = (let f : true ≡ false = sym e ∙ plain refl in cc)
    by_command false true c e plain = refl
    by_command false false c e plain = e

    by_skip : (j d c : Bool) → c ≡ true → d ≡ false → (j ≡ true → c ≡ false) → not j && (c && not d) ≡ true
    by_skip true d c e f plain = (let g : true ≡ false = sym e ∙ plain refl in cc)
    by_skip false true c e f plain = cc
    by_skip false false true e f plain = refl
    by_skip false false false e f plain = e

-- The same, for places that grew.
pub copied_by : (first second : List CcwLocation) (m : Memory) (address : ℕ) (w : Ccw) (n s : ℕ) → Grows first second
    → length second ≤ 2147483648 → guest_text m address ≡ Some w
    → IsLinked first (guest_text m) (leads_next w) w.next n → IsLinked second (guest_text m)
    (leads_skipped w) w.skipped s
    → IsCopied second (guest_text m) address (Some (record {
      command = w.command;
      address = w.address;
      flags = w.flags;
      count = w.count;
      next = n;
      skipped = s;
    }))
copied_by first second m address w n s grown room is next skipped =
    let P : List CcwLocation → Type 0 = λ xs. length xs ≤ 2147483648
    → IsLinked xs (guest_text m) (leads_skipped w) w.skipped s
    → IsCopied xs (guest_text m) address (Some (record {
      command = w.command;
      address = w.address;
      flags = w.flags;
      count = w.count;
      next = n;
      skipped = s;
    })) in
    subst P (sym grown.is) (λ fits linked. copied_word first grown.rest m address w n s fits is next linked) room
    skipped

-- One more node.
pub rows_push : (old new : List CcwLocation) (nodes : List Node) (m : Memory) (node : Node) → Grows old new
    → length new ≤ 2147483648 → length nodes < length old
    → AreRows old nodes m → IsRow new m (guest_of old (length nodes)) node → AreRows new (nodes ++ node ∷ []) m
rows_push old new nodes m node grown room behind all one i n found =
    elim (before_or_at i (length nodes) (let k = length-append nodes (node ∷ []) in
    let w = slice_get_within (nodes ++ node ∷ []) i n found in omega (arith, w, k))) [
      | inl before ↦
          (let same = get_left nodes (node ∷ []) i before in
          let row = all i n (sym same ∙ found) in
          rw (guest_grown old new i grown (omega (arith, before, behind)))
          (record {
            copied = copied_grown old new (guest_text m) (guest_of old i) n.word grown room row.copied;
            list = row.list;
          }))
      | inr at ↦
          (let last : node ≡ n = some_same node n (sym (get_seam nodes node)
          ∙ ap (slice_get (nodes ++ node ∷ [])) (sym at) ∙ found) in
          rw (at, guest_grown old new (length nodes) grown behind, ← last) one)
    ]
  where
    before_or_at : (i n : ℕ) → i < n + 1 → (i < n) ⊎ (i ≡ n)
    before_or_at i n h = grind arith

    get_left : (xs ys : List Node) (i : ℕ) → i < length xs → slice_get (xs ++ ys) i ≡ slice_get xs i
    get_left [] ys i lt = (let no : ⊥ = omega (arith, lt) in absurd no)
    get_left (x ∷ xs) ys zero lt = refl
    get_left (x ∷ xs) ys (suc i) lt = get_left xs ys i (omega (arith, lt))

    get_seam : (xs : List Node) (y : Node) → slice_get (xs ++ y ∷ []) (length xs) ≡ Some y
    get_seam [] y = refl
    get_seam (x ∷ xs) y = get_seam xs y

    some_same : (r s : Node) → Some r ≡ Some s → r ≡ s
    some_same r s e = cc

good_place : (places : List CcwLocation) (text : ℕ → Option Ccw) (a : ℕ) → length places ≤ 2147483648
    → IsGood places text a → IsPlace places text a
good_place places text a room (inl lt) = inl lt
good_place places text a room (inr (high, none)) =
    let out : length places ≤ a = omega (arith, room, high) in
    inr (out, ap text (ap (λ (p : CcwLocation). p.address) (get_or_past places a (past a) out)) ∙ none)

not_here : (xs : List Node) (i : ℕ) → i < length xs → slice_get xs i ≡ None → ⊥
not_here [] i lt e = (let no : ⊥ = omega (arith, lt) in no)
not_here (x ∷ xs) zero lt e = cc
not_here (x ∷ xs) (suc i) lt e = not_here xs i (omega (arith, lt)) e

-- The rows of all places are a copy.
pub copy_of : (places : List CcwLocation) (nodes : List Node) (m : Memory) → length places ≤ 2147483648
    → length nodes ≡ length places → AreRows places nodes m → IsCopyOf places (program_of nodes) (live guest_written) m
copy_of places nodes m room whole all =
    record {
      words = λ n a there. by_place a there;
      places = λ n p there word tracked some plain. tracks_place (program_of nodes).lists p (area_block m p.word)
          (list_at p word tracked.has) tracked some plain;
      begins = λ spot started w t has. tracks_begin (program_of nodes).lists spot started w t has;
      skips = λ p t some skip. tracks_skip (program_of nodes).lists p t some skip;
      moves_on = λ n p a there word tracked some plain is. tracks_on (program_of nodes).lists p a
          ((list_at p word tracked.has).aligned) tracked some plain is;
      loads = λ n p. refl;
      same = λ n o a. refl;
      closed = λ n a there. closed_at a (slice_get nodes a) refl;
    }
  where
    by_place : (a : ℕ) → IsPlace places (guest_text m) a → guest_text m (guest_of places a) ≡ renamed_found
        (guest_of places) (word_in (slice_get nodes a))
    by_place a (inl lt) = by_node (slice_get nodes a) refl
      where
        by_node : (o : Option Node) → slice_get nodes a ≡ o → guest_text m (guest_of places a) ≡ renamed_found
            (guest_of places) (word_in o)
        by_node None e = (let no : ⊥ = not_here nodes a (omega (arith, lt, whole)) e in absurd no)
        by_node (Some node) e = (all a node e).copied.same
    by_place a (inr (out, none)) = rw (slice_get_past nodes a (omega (arith, out, whole))) none

    closed_at : (a : ℕ) (o : Option Node) → slice_get nodes a ≡ o
        → LeadsFrom (IsPlace places (guest_text m)) (word_in o)
    closed_at a None e = tt
    closed_at a (Some node) e = good_leads node.word (all a node e).copied.leads
      where
        good_leads : (found : Option Ccw) → LeadsFrom (IsGood places (guest_text m)) found
            → LeadsFrom (IsPlace places (guest_text m)) found
        good_leads None leads = tt
        good_leads (Some w) leads =
            record {
              jump = λ e f. good_place places (guest_text m) w.next room (leads.jump e f);
              data_next = λ e. good_place places (guest_text m) w.next room (leads.data_next e);
              command_next = λ e f. good_place places (guest_text m) w.next room (leads.command_next e f);
              skipped = λ e f. good_place places (guest_text m) w.skipped room (leads.skipped e f);
            }

    list_at : (p : Position) → ((n : Memory) → word_in (slice_get nodes p.at) ≡ Some p.word) → has_area p.word ≡ true
        → IsListOf ((program_of nodes).lists p.at) (area_block m p.word) p.word.count
    list_at p word has = by_node (slice_get nodes p.at) refl (word m)
      where
        by_word : (node : Node) (found : Option Ccw) → found ≡ Some p.word → HasListOf m found node.list.items
            → IsListOf (λ j. slice_index_or node.list.items j None) (area_block m p.word) p.word.count
        by_word node None e list = cc
        by_word node (Some w) e list = (let same : w ≡ p.word = cc in (rw same at list) has)

        by_node : (o : Option Node) → slice_get nodes p.at ≡ o → word_in o ≡ Some p.word
            → IsListOf (λ j. entry_in o j) (area_block m p.word) p.word.count
        by_node None e is = cc
        by_node (Some node) e is = by_word node node.word is (all p.at node e).list

pub none_here : (size : ℕ) (present : ℕ → Bool) → AllPresent size present []
none_here size present j a e = cc

-- What is below a successor is below or equal.
pub at_or_before : (i n : ℕ) → i < n + 1 → (i < n) ⊎ (i ≡ n)
at_or_before i n h = grind arith

pub part_push : (list : List (Option ℕ)) (f : ℕ → Option ℕ) (o : Option ℕ) → IsPart list f → o ≡ f (length list)
    → IsPart (list ++ o ∷ []) f
part_push list f o part is =
    record {
      same = λ i lt. elim (at_or_before i (length list) (let k = length-append list (o ∷ []) in omega (arith, lt, k))) [
        | inl before ↦ get_or_append_left list (o ∷ []) None i before ∙ part.same i before
        | inr at ↦ rw at (get_or-append_seam list o [] None ∙ is)
      ];
    }

pub here_push : (size : ℕ) (present : ℕ → Bool) (list : List (Option ℕ)) (o : Option ℕ) → AllPresent size present list
    → IsPresent size present o → AllPresent size present (list ++ o ∷ [])
here_push size present list o here one j a e lt =
    elim (place_of j (length list)) [
      | inl before ↦ here j a (sym (get_or_append_left list (o ∷ []) None j before) ∙ e) lt
      | inr (inl at) ↦ (let same : o ≡ Some a = sym (get_or-append_seam list o [] None)
          ∙ ap (λ k. slice_index_or (list ++ o ∷ []) k None) (sym at) ∙ e in (rw same at one) lt)
      | inr (inr past) ↦ (let out : slice_index_or (list ++ o ∷ []) j None ≡ None = get_or_past (list ++ o ∷ []) j None
          (let k = length-append list (o ∷ []) in omega (arith, past, k)) in let no : None ≡ Some a = sym out ∙ e in cc)
    ]
  where
    place_of : (i n : ℕ) → (i < n) ⊎ ((i ≡ n) ⊎ (n < i))
    place_of i n = grind arith

-- words of a list but the first say addresses of blocks
pub area_aligned : (m : Memory) (w : Ccw) (j a : ℕ) → 0 < j → area_block m w j ≡ Some a → a % 2048 ≡ 0
area_aligned m w zero a some e = (let no : ⊥ = omega (arith, some) in absurd no)
area_aligned m w (suc j) a some e = by_list (is_indirect w) e
  where
    block_even : (x : ℕ) (first b : Bool) → (suc j == 0) ≡ first
        → (if first then Some w.address else if b then Some (x * 2048) else None) ≡ Some a → a % 2048 ≡ 0
    block_even x true b none e = (let no : suc j ≡ 0 = grind (arith, nat_tests) in let out : ⊥ = omega (arith, no) in
        absurd out)
    block_even x false true none e = (let same : x * 2048 ≡ a = cc in omega (arith, same))
    block_even x false false none e = cc

    said_even : (v : ℕ) (low first even : Bool) → (suc j == 0) ≡ first → (v % 2048 == 0) ≡ even
        → (if low && (first || even) then Some v else None) ≡ Some a → a % 2048 ≡ 0
    said_even v true true even none is e = (let no : suc j ≡ 0 = grind (arith, nat_tests) in
        let out : ⊥ = omega (arith, no) in absurd out)
    said_even v true false true none is e = (let same : v ≡ a = cc in let z : v % 2048 ≡ 0 = grind (arith, nat_tests) in
        rw (← same) z)
    said_even v true false false none is e = cc
    said_even v false first even none is e = cc

    by_value : (o : Option ℕ) → said_by (suc j) o ≡ Some a → a % 2048 ≡ 0
    by_value None e = cc
    by_value (Some v) e = said_even v (nat_lt v (2 ^ 24)) (suc j == 0) (v % 2048 == 0) refl refl e

    by_list : (b : Bool) → (if b then list_of m w.address (suc j) else straight w.address (suc j)) ≡ Some a
        → a % 2048 ≡ 0
    by_list true e = by_value (list_word m (later w.address (4 * suc j))) e
    by_list false e = block_even (w.address / 2048 + suc j) (suc j == 0)
        (nat_lt ((w.address / 2048 + suc j) * 2048) (2 ^ 32)) refl e

-- a part of a list is all of it that is used, where what comes after it is not
list_of_part : (m : Memory) (w : Ccw) (list : List (Option ℕ)) (count : ℕ) → IsPart list (area_block m w)
    → ((j : ℕ) → length list ≤ j → 0 < count → ((i : ℕ) → i < j → is_some (slice_index_or list i None) ≡ true)
    → ((first : ℕ) → 0 < j → slice_index_or list 0 None ≡ Some first → j * 2048 < first % 2048 + count) → ⊥)
    → IsListOf (λ j. slice_index_or list j None) (area_block m w) count
list_of_part m w list count part stop =
    record {
      agrees = λ j some before counted. elim (dec_lt j (length list)) [
        | yes lt ↦ part.same j lt
        | no out ↦ absurd (stop j (omega (arith, out)) some before counted)
      ];
      aligned = λ j a some e. elim (dec_lt j (length list)) [
        | yes lt ↦ area_aligned m w j a some (sym (part.same j lt) ∙ e)
        | no out ↦ (let gone = get_or_past list j None (omega (arith, out)) in let no : None ≡ Some a = sym gone ∙ e in
            cc)
      ];
    }

-- A list that reaches the last block of the area is the whole list.
pub list_whole : (m : Memory) (w : Ccw) (list : List (Option ℕ)) (start : ℕ) → IsPart list (area_block m w)
    → slice_index_or list 0 None ≡ Some start → (start % 2048 + (w.count - 1)) / 2048 < length list
    → IsListOf (λ j. slice_index_or list j None) (area_block m w) w.count
list_whole m w list start part first long = list_of_part m w list w.count part
    (λ j out some before counted. (let lt = counted start (omega (arith, out, long)) first in
    omega (arith, lt, out, long, some)))

pub list_failed : (m : Memory) (w : Ccw) (list : List (Option ℕ)) (count : ℕ)
    → IsPart (list ++ None ∷ []) (area_block m w) → IsListOf (λ j. slice_index_or (list ++ None ∷ []) j None)
    (area_block m w) count
list_failed m w list count part =
    list_of_part m w (list ++ None ∷ []) count part
    (λ j out some before counted. (let k = length-append list (None ∷ []) in
    let here = before (length list) (omega (arith, out, k)) in
    let no : false ≡ true = sym (ap is_some (get_or-append_seam list None [] None)) ∙ here in absurd (false_true no)))
  where
    false_true : false ≡ true → ⊥
    false_true e = cc

pub list_empty : (m : Memory) (w : Ccw) → w.count ≡ 0 → IsListOf (λ j. slice_index_or [] j None)
    (area_block m w) w.count
list_empty m w none = record {
  agrees = λ j some before counted. (let no : ⊥ = omega (arith, some, none) in absurd no);
  aligned = λ j a some e. cc;
}

-- the key zero passes
pub zero_passes : (size : ℕ) (keys : List ℕ) (a : ℕ) → first_fault size keys 0 (area Fetch a 1 ∷ []) ≡ Some Protection
    → ⊥
unfolding is_addressable is_permitted is_passed
zero_passes size keys a = by_in (nat_le (a + 1) size)
  where
    by_in : (b : Bool) → (if (b && true) then None else Some Addressing) ≡ Some Protection → ⊥
    by_in true e = cc
    by_in false e = cc

-- no word lies past storage
pub text_past : (m : Memory) (a : ℕ) → length m.bytes < a + 8 → guest_text m a ≡ None
unfolding is_addressable
text_past m a past = let out : nat_le (a + 8) (length m.bytes) ≡ false = grind (arith, nat_tests) in rw out refl

-- where a word leads, there a doubleword begins
pub text_even : (m : Memory) (a : ℕ) (w : Ccw) → guest_text m a ≡ Some w → a % 8 ≡ 0 → leads_next w ≡ true
    → w.next % 8 ≡ 0
text_even m a w e even = by_in (is_in m a 8) e
  where
    of_word : (c : StoredCcw) → leads_next (word_at a c) ≡ true → (word_at a c).next % 8 ≡ 0
    of_word c = by_jump (is_jump (bare_word c)) refl
      where
        by_jump : (b : Bool) → is_jump (bare_word c) ≡ b → leads_next (word_at a c) ≡ true → (word_at a c).next % 8 ≡ 0
        by_jump true is leads = rw is (let l = rw is at leads in grind (arith, nat_tests))
        by_jump false is leads = rw is (let l = rw is at leads in
            by_chain (chains_data (bare_word c) || chains_command (bare_word c)))
          where
            by_chain : (b : Bool) → ◌≡◌ {A = ℕ} ((if b then later a 8 else 0) % 8) 0
            by_chain true = omega (arith, even)
            by_chain false = refl

    by_in : (b : Bool) → (if b then Some (word_at a (ccw_of (slice_range m.bytes a (a + 8)))) else None) ≡ Some w
        → leads_next w ≡ true → w.next % 8 ≡ 0
    by_in true e = let same : word_at a (ccw_of (slice_range m.bytes a (a + 8))) ≡ w = cc in
        subst (λ v. leads_next v ≡ true → v.next % 8 ≡ 0) same (of_word (ccw_of (slice_range m.bytes a (a + 8))))
    by_in false e = cc

-- A word at a doubleword boundary skips whole doublewords.
pub skipped_even : (m : Memory) (a : ℕ) (w : Ccw) → guest_text m a ≡ Some w → a % 8 ≡ 0 → w.skipped % 8 ≡ 0
skipped_even m a w e even = by_in (is_in m a 8) e
  where
    by_flags : (j b : Bool) → ◌≡◌ {A = ℕ} ((if j then 0 else if b then later a 16 else 0) % 8) 0
    by_flags true b = refl
    by_flags false true = omega (arith, even)
    by_flags false false = refl

    by_in : (b : Bool) → (if b then Some (word_at a (ccw_of (slice_range m.bytes a (a + 8)))) else None) ≡ Some w
        → w.skipped % 8 ≡ 0
    by_in true e = let same : word_at a (ccw_of (slice_range m.bytes a (a + 8))) ≡ w = cc in
        subst (λ v. v.skipped % 8 ≡ 0) same (by_flags (is_jump (bare_word (ccw_of (slice_range m.bytes a (a + 8)))))
        (chains_command (bare_word (ccw_of (slice_range m.bytes a (a + 8))))))
    by_in false e = cc

-- a link past the places
pub linked_past : (places : List CcwLocation) (m : Memory) (leads : Bool) (address : ℕ) → length places ≤ 2147483648
    → (leads ≡ true → length m.bytes < address + 8) → IsLinked places (guest_text m) leads address
    (2147483648 + address)
linked_past places m leads address few out =
    let back : 2147483648 + address - 2147483648 ≡ address = omega arith in
    record {
      link = inr (omega arith);
      same = ap (λ (p : CcwLocation). p.address) (get_or_past places (2147483648 + address)
          (past (2147483648 + address)) (omega (arith, few))) ∙ back;
      good = λ e. inr (omega arith, ap (guest_text m) back ∙ text_past m address (out e));
    }

pub linked_place : (places : List CcwLocation) (m : Memory) (leads : Bool) (place : CcwLocation) (number : ℕ)
    → number < length places → slice_index_or places number (past number) ≡ place
    → IsLinked places (guest_text m) leads place.address number
linked_place places m leads place number lt found = record {
  link = inl lt;
  same = ap (λ (p : CcwLocation). p.address) found;
  good = λ e. inl lt;
}

-- An address in storage raises no addressing exception.
pub in_storage : (size : ℕ) (keys : List ℕ) (key a : ℕ) → first_fault size keys key
    (area Fetch a 1 ∷ []) ≡ Some Addressing → a < size → ⊥
unfolding is_addressable
in_storage size keys key a e lt = (let fits : nat_le (a + 1) size ≡ true = grind (arith, nat_tests) in
    by_key (is_permitted keys key (area Fetch a 1)) (rw fits at e))
  where
    by_key : (b : Bool) → (if b && true then None else Some Protection) ≡ Some Addressing → ⊥
    by_key true e = cc
    by_key false e = cc

-- what a check says where it answers a fault
pub fault_verdict : (size : ℕ) (keys : List ℕ) (present : ℕ → Bool) (key : ℕ) (t : Test) (r : Result ⊤ Fault)
    (f g : Fault) → r ≡ Err f → f ≡ g → IsVerdict size keys present key (t ∷ []) r
    → IsVerdict size keys present key (t ∷ []) (Err g)
fault_verdict size keys present key t r f g e is v = let P : Result ⊤ Fault
    → Type 0 = λ x. IsVerdict size keys present key (t ∷ []) x in subst P (e ∙ ap Err is) v

-- one more word of a list
pub part_on : (list new : List (Option ℕ)) (f : ℕ → Option ℕ) (o : Option ℕ) → new ≡ list ++ o ∷ [] → IsPart list f
    → o ≡ f (length list) → IsPart new f
part_on list new f o is part said = rw is (part_push list f o part said)

-- Pages stay present when one more that is present is appended.
pub here_on : (size : ℕ) (present : ℕ → Bool) (list new : List (Option ℕ)) (o : Option ℕ) → new ≡ list ++ o ∷ []
    → AllPresent size present list → IsPresent size present o → AllPresent size present new
here_on size present list new o is here one = rw is (here_push size present list o here one)

-- The first element of a list stays when one is appended.
pub first_on : (list new : List (Option ℕ)) (o : Option ℕ) (start : ℕ) → new ≡ list ++ o ∷ [] → 0 < length list
    → slice_index_or list 0 None ≡ Some start → slice_index_or new 0 None ≡ Some start
first_on list new o start is some first = rw is (get_or_append_left list (o ∷ []) None 0 some ∙ first)

-- A list that ends at a fault is the list of its area.
pub failed_on : (m : Memory) (w : Ccw) (list new : List (Option ℕ)) (o : Option ℕ) → new ≡ list ++ o ∷ []
    → IsPart list (area_block m w) → o ≡ area_block m w (length list) → o ≡ None
    → IsListOf (λ j. slice_index_or new j None) (area_block m w) w.count
failed_on m w list new o is part said none =
    let whole : IsPart (list ++ None ∷ []) (area_block m w) = (let all = part_push list (area_block m w) o part said in
    rw none at all) in
    rw (is, none) (list_failed m w list w.count whole)

-- a link stays one when places are added
pub linked_grown : (old new : List CcwLocation) (m : Memory) (leads : Bool) (address number : ℕ) → Grows old new
    → length new ≤ 2147483648 → IsLinked old (guest_text m) leads address number
    → IsLinked new (guest_text m) leads address number
linked_grown old new m leads address number grown room l =
    let P : List CcwLocation → Type 0 = λ xs. length xs ≤ 2147483648
    → IsLinked xs (guest_text m) leads address number in
    subst P (sym grown.is) (λ fits. record {
      link = link_more old grown.rest fits number l.link;
      same = link_same old grown.rest fits number l.link ∙ l.same;
      good = λ e. good_more old grown.rest fits (guest_text m) number (l.good e);
    }) room

-- A linked place is a place of the program.
pub linked_is_place : (places : List CcwLocation) (m : Memory) (address number : ℕ) → length places ≤ 2147483648
    → IsLinked places (guest_text m) true address number → IsPlace places (guest_text m) number
linked_is_place places m address number room l = good_place places (guest_text m) number room (l.good refl)

-- No rows are held by no nodes.
pub held_none : (size : ℕ) (present : ℕ → Bool) → AreHeldRows [] size present
held_none size present = record { held = λ i node e. cc }

-- No nodes are the rows of no places.
pub rows_none : (places : List CcwLocation) (m : Memory) → AreRows places [] m
rows_none places m = λ i node e. cc

-- One more node whose pages are present keeps all pages present.
pub held_push : (nodes new : List Node) (node : Node) (size : ℕ) (present : ℕ → Bool) → new ≡ nodes ++ node ∷ []
    → AreHeldRows nodes size present → AllPresent size present node.list.items → AreHeldRows new size present
held_push nodes new node size present is all one = rw is (record { held = by_list nodes all.held })
  where
    by_list : (xs : List Node) → ((i : ℕ) (n : Node) → slice_get xs i ≡ Some n → AllPresent size present n.list.items)
        → (i : ℕ) (n : Node) → slice_get (xs ++ node ∷ []) i ≡ Some n → AllPresent size present n.list.items
    by_list [] before zero n e = (let same : node ≡ n = cc in rw (← same) one)
    by_list [] before (suc i) n e = cc
    by_list (x ∷ xs) before zero n e = before zero n e
    by_list (x ∷ xs) before (suc i) n e = by_list xs (λ k. before (suc k)) i n e

pub held_named : (nodes : List Node) (size : ℕ) (present : ℕ → Bool) → AreHeldRows nodes size present → (a : ℕ)
    → Named (program_of nodes) a → a < size → present (a / 4096) ≡ true
held_named nodes size present all a (at, j, e) lt = by_node (slice_get nodes at) refl e
  where
    by_node : (o : Option Node) → slice_get nodes at ≡ o → entry_in o j ≡ Some a → present (a / 4096) ≡ true
    by_node None is e = cc
    by_node (Some node) is e = all.held at node is j a e lt

-- One more node with its row keeps the nodes the rows of their places.
pub rows_on : (old new : List CcwLocation) (nodes after : List Node) (m : Memory) (address : ℕ) (node : Node)
    → after ≡ nodes ++ node ∷ [] → Grows old new → length new ≤ 2147483648 → length nodes < length old
    → address ≡ guest_of old (length nodes) → AreRows old nodes m → IsRow new m address node → AreRows new after m
rows_on old new nodes after m address node is grown room behind at all one = rw is
    (rows_push old new nodes m node grown room behind all (rw at at one))

-- What is found absent by the flag is None.
pub none_is : (o : Option ℕ) (r : Bool) → is_some o ≡ not r → r ≡ true → o ≡ None
none_is None r e is = refl
none_is (Some x) r e is = (let f : true ≡ not true = e ∙ ap not is in cc)

-- What is found present by the flag is there.
pub some_is : (o : Option ℕ) (r : Bool) → is_some o ≡ not r → r ≡ false → is_some o ≡ true
some_is o r e is = e ∙ ap not is

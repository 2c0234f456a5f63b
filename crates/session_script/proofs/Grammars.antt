-- What is read is in the grammar, and what is in the grammar is read.
use Rattle.std.proofs.Common.{◌≡◌, ℕ, zero, suc, ◌+◌, ◌≤◌, inl, inr, ◌&&◌, Bool, true, false, cond, leb, List, [], ◌∷◌}
use Rattle.std.proofs.Common.{◌++◌, length, map, take, drop, length-append, codes, Option, Some, None, Ok, Err, refl}
use Rattle.std.proofs.Common.{ap, sym, ◌∙◌, subst, append_assoc, append-nil, arith}
use Rattle.std.specs.Prelude.{is_some}
use Rattle.std.proofs.lemmas.List.{length-map, length-take-le, take-append-drop}
use Rattle.std.proofs.Math.Seq.{take-append_seam}
use Rattle.std.specs.Option.{option_map, option_and_then}
use Rattle.std.specs.Str.{bytes_eq}
use Rattle.std.proofs.lemmas.Option.{option_and_then_some}
use Rattle.std.proofs.lemmas.Slice.Eq.{bytes_eq-Decides}
use Rattle.std.proofs.lemmas.Bool.Decides.{nat_tests}
use Rattle.text_words.specs.Lines.{and_then, lines_of}
use Rattle.text_words.specs.Words.{word_of, after_word}
use Rattle.text_words.specs.Numbers.{decimal_of, hexadecimal_of}
use Rattle.user_names.specs.Users.{user_of}
use Rattle.text_words.proofs.Spellings.{chosen, parts, alone, word_whole, word_again, after_again, word_again_alone}
use Rattle.text_words.proofs.Spellings.{after_again_alone}
use Rattle.session_script.specs.Users.{KnownUser, has_device, names_of}
use Rattle.session_script.specs.Cards.{card_of, cards_in}
use Rattle.text_words.specs.Words.{NoBlank}
use Rattle.session_script.specs.Script.{EventValue, Run, Line, Tick, Serve, Auto, Deck, Transfer, auto_of, cards_after}
use Rattle.session_script.specs.Script.{counted, dealt, receiver_of, transfer_of}
use Rattle.session_script.specs.Script.{deck_of, is_ignored, joined, operands_of, read_on, run_of, said_of, serve_of}
use Rattle.session_script.specs.Script.{served, text_of, tick_of, turned, typed_of}
use Rattle.session_script.specs.Grammar.{IsName, SaysLine, Says, Reads, ReadsGrammar}

is_word : (xs ys : List ℕ) → bytes_eq xs ys ≡ true → xs ≡ ys
is_word xs ys h = (bytes_eq-Decides xs ys).0 h

counts : (user units : ℕ) (e : EventValue) → counted user units ≡ Some e → (e ≡ Run user units) × (1 ≤ units)
    × (units ≤ 1000000)
counts user units e h = elim (chosen (leb 1 units && leb units 1000000) (Some (Run user units)) None (Some e) h) [
  | inl k ↦ let both = k.0 in (cc, grind (arith, nat_tests), grind (arith, nat_tests))
  | inr k ↦ cc
]

run_found : (users : List KnownUser) (line operands : List ℕ) (after : List (List ℕ)) (e : EventValue)
    → line ≡ codes "RUN" ++ 32 ∷ operands → run_of (names_of users) operands ≡ Some e → Says users line after e
run_found users line operands after e spelled h =
    option_and_then_some (λ user. option_and_then (λ digits. option_and_then (counted user) (decimal_of 7 digits))
    (after_word operands)) (user_of (names_of users) (word_of operands)) e h (λ user named h1.
    option_and_then_some (λ digits. option_and_then (counted user) (decimal_of 7 digits)) (after_word operands) e h1
    (λ digits follows h2.
    option_and_then_some (counted user) (decimal_of 7 digits) e h2 (λ units number h3.
    let k = counts user units e h3 in
    subst (Says users line after) (sym k.0) (record {
      name = word_of operands;
      digits = digits;
      spelled = spelled ∙ ap (λ (l : List ℕ). codes "RUN" ++ 32 ∷ l) (parts operands digits follows);
      named = record { whole = word_whole operands; found = named };
      number = number;
      least = k.1;
      most = k.2;
    }))))

typed_on : (users : List KnownUser) (line operands : List ℕ) (user : ℕ) (o : Option (List ℕ)) → after_word operands ≡ o
    → user_of (names_of users) (word_of operands) ≡ Some user → line ≡ codes "LINE" ++ 32 ∷ operands
    → SaysLine (names_of users) line user (text_of o)
typed_on users line operands user None after named spelled = record {
  name = word_of operands;
  named = record { whole = word_whole operands; found = named };
  spelled = inr (refl, spelled ∙ ap (λ (l : List ℕ). codes "LINE" ++ 32 ∷ l) (sym (alone operands after)));
}
typed_on users line operands user (Some text) after named spelled = record {
  name = word_of operands;
  named = record { whole = word_whole operands; found = named };
  spelled = inl (spelled ∙ ap (λ (l : List ℕ). codes "LINE" ++ 32 ∷ l) (parts operands text after));
}

typed_by : (users : List KnownUser) (line operands : List ℕ) (after : List (List ℕ)) (e : EventValue) (o : Option ℕ)
    → user_of (names_of users) (word_of operands) ≡ o → line ≡ codes "LINE" ++ 32 ∷ operands
    → option_map (λ user. Line user (text_of (after_word operands))) o ≡ Some e → Says users line after e
typed_by users line operands after e None named spelled h = cc
typed_by users line operands after e (Some user) named spelled h =
    let same : Line user (text_of (after_word operands)) ≡ e = cc in
    subst (Says users line after) same (typed_on users line operands user (after_word operands) refl named spelled)

ticked_by : (users : List KnownUser) (line operands : List ℕ) (after : List (List ℕ)) (e : EventValue)
    (o : Option (List ℕ))
    (u : Option ℕ) → after_word operands ≡ o → user_of (names_of users) (word_of operands) ≡ u
    → line ≡ codes "TICK" ++ 32 ∷ operands → cond (is_some o) None (option_map Tick u) ≡ Some e
    → Says users line after e
ticked_by users line operands after e (Some rest) u follows named spelled h = cc
ticked_by users line operands after e None None follows named spelled h = cc
ticked_by users line operands after e None (Some user) follows named spelled h =
    let same : Tick user ≡ e = cc in
    subst (Says users line after) same (record {
      name = word_of operands;
      spelled = spelled ∙ ap (λ (l : List ℕ). codes "TICK" ++ 32 ∷ l) (sym (alone operands follows));
      named = record { whole = word_whole operands; found = named };
    })

serves : (users : List KnownUser) (user device : ℕ) (e : EventValue) → served users user device ≡ Some e
    → (e ≡ Serve user device) × (has_device users user device ≡ true)
serves users user device e h = elim (chosen (has_device users user device) (Some (Serve user device)) None (Some e) h) [
  | inl k ↦ (cc, k.0)
  | inr k ↦ cc
]

serve_found : (users : List KnownUser) (line operands : List ℕ) (after : List (List ℕ)) (e : EventValue)
    → line ≡ codes "SERVE" ++ 32 ∷ operands → serve_of users operands ≡ Some e → Says users line after e
serve_found users line operands after e spelled h =
    option_and_then_some (λ user. option_and_then (λ digits. option_and_then (served users user)
    (hexadecimal_of 3 3 digits)) (after_word operands)) (user_of (names_of users) (word_of operands)) e h
    (λ user named h1.
    option_and_then_some (λ digits. option_and_then (served users user) (hexadecimal_of 3 3 digits))
    (after_word operands) e h1 (λ digits follows h2.
    option_and_then_some (served users user) (hexadecimal_of 3 3 digits) e h2 (λ device number h3.
    let k = serves users user device e h3 in
    subst (Says users line after) (sym k.0) (record {
      name = word_of operands;
      digits = digits;
      spelled = spelled ∙ ap (λ (l : List ℕ). codes "SERVE" ++ 32 ∷ l) (parts operands digits follows);
      named = record { whole = word_whole operands; found = named };
      number = number;
      had = k.1;
    }))))

turns_are : (turns : ℕ) (e : EventValue) → turned turns ≡ Some e → (e ≡ Auto turns) × (1 ≤ turns) × (turns ≤ 100000)
turns_are turns e h = elim (chosen (leb 1 turns && leb turns 100000) (Some (Auto turns)) None (Some e) h) [
  | inl k ↦ let both = k.0 in (cc, grind (arith, nat_tests), grind (arith, nat_tests))
  | inr k ↦ cc
]

auto_found : (users : List KnownUser) (line operands : List ℕ) (after : List (List ℕ)) (e : EventValue)
    → line ≡ codes "AUTO" ++ 32 ∷ operands → auto_of operands ≡ Some e → Says users line after e
auto_found users line operands after e spelled h =
    option_and_then_some turned (decimal_of 7 operands) e h (λ turns number h1.
    let k = turns_are turns e h1 in
    subst (Says users line after) (sym k.0) (record {
      digits = operands;
      spelled = spelled;
      number = number;
      least = k.1;
      most = k.2;
    }))

deals_on : (user count : ℕ) (after : List (List ℕ)) (e : EventValue) (b : Bool)
    → option_map (Deck user) (cond b (Some (map card_of (take count after))) None) ≡ Some e → (b ≡ true)
    × (e ≡ Deck user (map card_of (take count after)))
deals_on user count after e true h = (refl, cc)
deals_on user count after e false h = cc

deals : (user count : ℕ) (after : List (List ℕ)) (e : EventValue) → dealt user after count ≡ Some e
    → (e ≡ Deck user (map card_of (take count after))) × (1 ≤ count) × (count ≤ 1000) × (count ≤ length after)
deals user count after e h = elim (chosen (leb 1 count && leb count 1000)
    (option_map (Deck user) (cards_in count after)) None (Some e) h) [
      | inl k ↦
          let both = k.0 in
          let there = deals_on user count after e (leb count (length after)) k.1 in
          let enough = there.0 in
          (there.1, grind (arith, nat_tests), grind (arith, nat_tests), grind (arith, nat_tests))
      | inr k ↦ cc
    ]

deck_found : (users : List KnownUser) (line operands : List ℕ) (after : List (List ℕ)) (e : EventValue)
    → line ≡ codes "DECK" ++ 32 ∷ operands → deck_of (names_of users) operands after ≡ Some e → Says users line after e
deck_found users line operands after e spelled h =
    option_and_then_some (λ user. option_and_then (λ digits. option_and_then (dealt user after) (decimal_of 7 digits))
    (after_word operands)) (user_of (names_of users) (word_of operands)) e h (λ user named h1.
    option_and_then_some (λ digits. option_and_then (dealt user after) (decimal_of 7 digits)) (after_word operands) e h1
    (λ digits follows h2.
    option_and_then_some (dealt user after) (decimal_of 7 digits) e h2 (λ count number h3.
    let k = deals user count after e h3 in
    let long = length-take-le count after k.3 in
    subst (Says users line after) (sym k.0) (record {
      name = word_of operands;
      digits = digits;
      own = take count after;
      others = drop count after;
      spelled = spelled ∙ ap (λ (l : List ℕ). codes "DECK" ++ 32 ∷ l) (parts operands digits follows);
      named = record { whole = word_whole operands; found = named };
      number = number ∙ ap Some (sym long);
      least = rw long k.1;
      most = rw long k.2;
      follow = sym (take-append-drop count after);
      punched = refl;
    }))))

received_by : (users : List KnownUser) (line operands following receiver : List ℕ) (after : List (List ℕ))
    (e : EventValue) (user id : ℕ) (o : Option ℕ) → user_of (names_of users) receiver ≡ o
    → line ≡ codes "TRANSFER" ++ 32 ∷ operands → after_word operands ≡ Some following
    → after_word following ≡ Some receiver → user_of (names_of users) (word_of operands) ≡ Some user
    → decimal_of 7 (word_of following) ≡ Some id → option_map (Transfer user id) o ≡ Some e → Says users line after e
received_by users line operands following receiver after e user id None found spelled follows last named number h = cc
received_by users line operands following receiver after e user id (Some to) found spelled follows last named number h =
    let same : Transfer user id to ≡ e = cc in
    subst (Says users line after) same (record {
      name = word_of operands;
      digits = word_of following;
      receiver = receiver;
      spelled = spelled ∙ ap (λ (l : List ℕ). codes "TRANSFER" ++ 32 ∷ l) (parts operands following follows
          ∙ ap (λ (l : List ℕ). word_of operands ++ 32 ∷ l) (parts following receiver last));
      named = record { whole = word_whole operands; found = named };
      whole = word_whole following;
      number = number;
      found = found;
    })

transfer_found : (users : List KnownUser) (line operands : List ℕ) (after : List (List ℕ)) (e : EventValue)
    → line ≡ codes "TRANSFER" ++ 32 ∷ operands → transfer_of (names_of users) operands ≡ Some e
    → Says users line after e
transfer_found users line operands after e spelled h =
    let names = names_of users in
    option_and_then_some (λ user. option_and_then (receiver_of names user) (after_word operands))
    (user_of names (word_of operands)) e h (λ user named h1.
    option_and_then_some (receiver_of names user) (after_word operands) e h1 (λ following follows h2.
    option_and_then_some (λ id. option_and_then (λ name. option_map (Transfer user id) (user_of names name))
    (after_word following)) (decimal_of 7 (word_of following)) e h2 (λ id number h3.
    option_and_then_some (λ name. option_map (Transfer user id) (user_of names name)) (after_word following) e h3
    (λ receiver last h4.
    received_by users line operands following receiver after e user id (user_of names receiver) refl spelled follows
    last named number h4))))

-- what one of the words names, where the line's first word is it
picked : (users : List KnownUser) (line verb operands : List ℕ) (after : List (List ℕ)) (e : EventValue) (word : List ℕ)
    (own others : Option EventValue) → line ≡ verb ++ 32 ∷ operands
    → (line ≡ word ++ 32 ∷ operands → own ≡ Some e → Says users line after e)
    → (others ≡ Some e → Says users line after e)
    → cond (bytes_eq verb word) own others ≡ Some e → Says users line after e
picked users line verb operands after e word own others spelled here there h = elim
    (chosen (bytes_eq verb word) own others (Some e) h) [
      | inl k ↦ here (spelled ∙ ap (λ (v : List ℕ). v ++ 32 ∷ operands) (is_word verb word k.0)) k.1
      | inr k ↦ there k.1
    ]

found_on : (users : List KnownUser) (line verb operands : List ℕ) (after : List (List ℕ)) (e : EventValue)
    → line ≡ verb ++ 32 ∷ operands → operands_of users verb operands after ≡ Some e → Says users line after e
found_on users line verb operands after e spelled h =
    let transfer = cond (bytes_eq verb (codes "TRANSFER")) (transfer_of (names_of users) operands) None in
    let deck = cond (bytes_eq verb (codes "DECK")) (deck_of (names_of users) operands after) transfer in
    let auto = cond (bytes_eq verb (codes "AUTO")) (auto_of operands) deck in
    let serve = cond (bytes_eq verb (codes "SERVE")) (serve_of users operands) auto in
    let tick = cond (bytes_eq verb (codes "TICK")) (tick_of (names_of users) operands) serve in
    let typed = cond (bytes_eq verb (codes "LINE")) (typed_of (names_of users) operands) tick in
    picked users line verb operands after e (codes "RUN") (run_of (names_of users) operands) typed spelled
    (λ s k. run_found users line operands after e s k)
    (picked users line verb operands after e (codes "LINE") (typed_of (names_of users) operands) tick spelled
    (λ s k. typed_by users line operands after e (user_of (names_of users) (word_of operands)) refl s k)
    (picked users line verb operands after e (codes "TICK") (tick_of (names_of users) operands) serve spelled
    (λ s k. ticked_by users line operands after e (after_word operands)
    (user_of (names_of users) (word_of operands)) refl refl s k)
    (picked users line verb operands after e (codes "SERVE") (serve_of users operands) auto spelled
    (λ s k. serve_found users line operands after e s k)
    (picked users line verb operands after e (codes "AUTO") (auto_of operands) deck spelled
    (λ s k. auto_found users line operands after e s k)
    (picked users line verb operands after e (codes "DECK") (deck_of (names_of users) operands after) transfer spelled
    (λ s k. deck_found users line operands after e s k)
    (picked users line verb operands after e (codes "TRANSFER") (transfer_of (names_of users) operands) None spelled
    (λ s k. transfer_found users line operands after e s k) (λ k. cc))))))) h

found : (users : List KnownUser) (line : List ℕ) (after : List (List ℕ)) (e : EventValue)
    → said_of users line after ≡ Some e
    → Says users line after e
found users line after e h = option_and_then_some (λ operands. operands_of users (word_of line) operands after)
    (after_word line) e h (λ operands follows h1.
    found_on users line (word_of line) operands after e (parts line operands follows) h1)

counts_again : (user units : ℕ) → 1 ≤ units → units ≤ 1000000 → counted user units ≡ Some (Run user units)
counts_again user units h k =
    let low : leb 1 units ≡ true = grind (arith, nat_tests) in
    let high : leb units 1000000 ≡ true = grind (arith, nat_tests) in
    rw (low, high) refl

run_again : (users : List KnownUser) (user units : ℕ) (name digits : List ℕ) → IsName (names_of users) user name
    → decimal_of 7 digits ≡ Some units → 1 ≤ units → units ≤ 1000000
    → run_of (names_of users) (name ++ 32 ∷ digits) ≡ Some (Run user units)
run_again users user units name digits named number least most =
    rw (word_again name digits named.whole, named.found, after_again name digits named.whole, number)
    (counts_again user units least most)

serve_again : (users : List KnownUser) (user device : ℕ) (name digits : List ℕ) → IsName (names_of users) user name
    → hexadecimal_of 3 3 digits ≡ Some device → has_device users user device ≡ true
    → serve_of users (name ++ 32 ∷ digits) ≡ Some (Serve user device)
serve_again users user device name digits named number had =
    rw (word_again name digits named.whole, named.found, after_again name digits named.whole, number) (rw had refl)

auto_again : (turns : ℕ) (digits : List ℕ) → decimal_of 7 digits ≡ Some turns → 1 ≤ turns → turns ≤ 100000
    → auto_of digits ≡ Some (Auto turns)
auto_again turns digits number least most =
    let low : leb 1 turns ≡ true = grind (arith, nat_tests) in
    let high : leb turns 100000 ≡ true = grind (arith, nat_tests) in
    rw number (rw (low, high) refl)

deal_again : (user count : ℕ) (own others : List (List ℕ)) → count ≡ length own → 1 ≤ count → count ≤ 1000
    → dealt user (own ++ others) count ≡ Some (Deck user (map card_of own))
deal_again user count own others long least most =
    let low : leb 1 count ≡ true = grind (arith, nat_tests) in
    let high : leb count 1000 ≡ true = grind (arith, nat_tests) in
    let sum = length-append own others in
    let there : leb count (length (own ++ others)) ≡ true = grind (arith, nat_tests) in
    let cut : take count (own ++ others) ≡ own = rw long (take-append_seam own others) in
    rw (low, high, there, cut) refl

deck_again : (users : List KnownUser) (user : ℕ) (name digits : List ℕ) (own others : List (List ℕ))
    → IsName (names_of users) user name → decimal_of 7 digits ≡ Some (length own) → 1 ≤ length own → length own ≤ 1000
    → deck_of (names_of users) (name ++ 32 ∷ digits) (own ++ others) ≡ Some (Deck user (map card_of own))
deck_again users user name digits own others named number least most =
    rw (word_again name digits named.whole, named.found, after_again name digits named.whole, number)
    (deal_again user (length own) own others refl least most)

transfer_again : (users : List KnownUser) (user id to : ℕ) (name digits receiver : List ℕ)
    → IsName (names_of users) user name → NoBlank digits → decimal_of 7 digits ≡ Some id
    → user_of (names_of users) receiver ≡ Some to
    → transfer_of (names_of users) (name ++ 32 ∷ (digits ++ 32 ∷ receiver)) ≡ Some (Transfer user id to)
transfer_again users user id to name digits receiver named whole number found =
    let following = digits ++ 32 ∷ receiver in
    rw (
      word_again name following named.whole,
      named.found,
      after_again name following named.whole,
      word_again digits receiver whole,
      number,
      after_again digits receiver whole,
      found,
    ) refl

again : (users : List KnownUser) (line : List ℕ) (after : List (List ℕ)) (e : EventValue) → Says users line after e
    → said_of users line after ≡ Some e
again users line after (Run user units) h =
    rw h.spelled (run_again users user units h.name h.digits h.named h.number h.least h.most)
again users line after (Line user text) h = elim h.spelled [
  | inl spelled ↦ rw spelled (rw (
    word_again h.name text h.named.whole,
    h.named.found,
    after_again h.name text h.named.whole,
  ) refl)
  | inr k ↦ rw (k.1, k.0) (rw (
    word_again_alone h.name h.named.whole,
    h.named.found,
    after_again_alone h.name h.named.whole,
  ) refl)
]
again users line after (Tick user) h =
    rw h.spelled (rw (
      after_again_alone h.name h.named.whole,
      word_again_alone h.name h.named.whole,
      h.named.found,
    ) refl)
again users line after (Serve user device) h =
    rw h.spelled (serve_again users user device h.name h.digits h.named h.number h.had)
again users line after (Auto turns) h =
    rw h.spelled (auto_again turns h.digits h.number h.least h.most)
again users line after (Deck user cards) h =
    rw (h.spelled, h.follow, h.punched) (deck_again users user h.name h.digits h.own h.others h.named h.number h.least
    h.most)
again users line after (Transfer user id to) h =
    rw h.spelled (transfer_again users user id to h.name h.digits h.receiver h.named h.whole h.number h.found)

-- the cards of an event are among the lines after it
few : (users : List KnownUser) (line : List ℕ) (after : List (List ℕ)) (e : EventValue) → Says users line after e
    → cards_after e ≤ length after
few users line after (Run user units) h = omega arith
few users line after (Line user text) h = omega arith
few users line after (Tick user) h = omega arith
few users line after (Serve user device) h = omega arith
few users line after (Auto turns) h = omega arith
few users line after (Transfer user id to) h = omega arith
few users line after (Deck user cards) h =
    let own = ap length h.punched in
    let mapped = length-map h.own card_of in
    let whole = ap length h.follow in
    let sum = length-append h.own h.others in
    omega arith

-- what is read of lines, the first so many of which are cards, after what was read before them
record Read (users : List KnownUser) (lines : List (List ℕ)) (cards : ℕ) (front events : List EventValue) : Type 0 where
  own : List EventValue
  joins : events ≡ front ++ own
  is : Reads users cards lines [] own 0

card_on : (users : List KnownUser) (line : List ℕ) (lines : List (List ℕ)) (n left : ℕ) (front events : List EventValue)
    (b : Bool) → leb (length line) 80 ≡ b
    → (read_on users (n + 1) (record { events = front; cards = left }) lines ≡ Ok events
    → Read users lines left front events)
    → and_then (cond b (Ok (record { events = front; cards = left })) (Err n))
    (λ next. read_on users (n + 1) next lines) ≡ Ok events → Read users (line ∷ lines) (suc left) front events
card_on users line lines n left front events true fits hyp h = let r = hyp h in
    record { own = r.own; joins = r.joins; is = (grind (arith, nat_tests), r.is) }
card_on users line lines n left front events false fits hyp h = cc

entry_on : (users : List KnownUser) (line : List ℕ) (lines : List (List ℕ)) (n : ℕ) (front events : List EventValue)
    (b : Bool) (o : Option EventValue) → is_ignored line ≡ b → said_of users line lines ≡ o
    → ((before : List EventValue) (cards : ℕ) → cards ≤ length lines
    → read_on users (n + 1) (record { events = before; cards = cards }) lines ≡ Ok events
    → Read users lines cards before events)
    → and_then (cond b (Ok (record { events = front; cards = 0 })) (joined n front o))
    (λ next. read_on users (n + 1) next lines) ≡ Ok events → Read users (line ∷ lines) zero front events
entry_on users line lines n front events true o e s hyp h = let r = hyp front 0 (omega arith) h in
    record { own = r.own; joins = r.joins; is = inl (e, r.is) }
entry_on users line lines n front events false None e s hyp h = cc
entry_on users line lines n front events false (Some one) e s hyp h =
    let says = found users line lines one s in
    let r = hyp (front ++ one ∷ []) (cards_after one) (few users line lines one says) h in
    record {
      own = one ∷ r.own;
      joins = r.joins ∙ append_assoc front (one ∷ []) r.own;
      is = inr (e, one, r.own, refl, rw append-nil says, r.is);
    }

read_found : (users : List KnownUser) (lines : List (List ℕ)) (n cards : ℕ) (front events : List EventValue)
    → cards ≤ length lines → read_on users n (record { events = front; cards = cards }) lines ≡ Ok events
    → Read users lines cards front events
read_found users [] n cards front events there h = let same : front ≡ events = cc in
    record { own = []; joins = sym same ∙ sym (append-nil front); is = (refl, omega arith) }
read_found users (line ∷ lines) n (suc left) front events there h = card_on users line lines n left front events
    (leb (length line) 80) refl (λ k. read_found users lines (n + 1) left front events (omega arith) k) h
read_found users (line ∷ lines) n zero front events there h = entry_on users line lines n front events (is_ignored line)
    (said_of users line lines) refl refl (λ before cards few_enough. read_found users lines
    (n + 1) cards before events few_enough) h

read_again : (users : List KnownUser) (lines : List (List ℕ)) (n cards : ℕ) (front own : List EventValue)
    → Reads users cards lines [] own 0 → read_on users n (record { events = front; cards = cards }) lines ≡ Ok
    (front ++ own)
read_again users [] n cards front own h = rw h.0 (ap Ok (sym (append-nil front)))
read_again users (line ∷ lines) n (suc left) front own h =
    let fits = h.0 in
    let test : leb (length line) 80 ≡ true = grind (arith, nat_tests) in
    rw test (read_again users lines (n + 1) left front own h.1)
read_again users (line ∷ lines) n zero front own h = elim h [
  | inl k ↦ rw k.0 (read_again users lines (n + 1) 0 front own k.1)
  | inr k ↦
      let says : Says users line lines k.1 = rw append-nil at k.4 in
      let said = again users line lines k.1 says in
      rw (k.0, said, k.3) (read_again users lines (n + 1) (cards_after k.1) (front ++ k.1 ∷ []) k.2 k.5
      ∙ ap Ok (append_assoc front (k.1 ∷ []) k.2))
]

-- the first bad line, counted from n, where the first so many lines are cards
record Bad (users : List KnownUser) (lines : List (List ℕ)) (cards n number : ℕ) : Type 0 where
  before : List (List ℕ)
  bad : List ℕ
  after : List (List ℕ)
  split : lines ≡ before ++ bad ∷ after
  numbered : number ≡ n + length before
  events : List EventValue
  left : ℕ
  accepted : Reads users cards before (bad ∷ after) events left
  refused : (es : List EventValue) (more : ℕ) → Reads users left (bad ∷ []) after es more → ⊥

bad_card : (users : List KnownUser) (line : List ℕ) (lines : List (List ℕ)) (n number left : ℕ)
    (front : List EventValue)
    (b : Bool) → leb (length line) 80 ≡ b
    → (read_on users (n + 1) (record { events = front; cards = left }) lines ≡ Err number
    → Bad users lines left (n + 1) number)
    → and_then (cond b (Ok (record { events = front; cards = left })) (Err n))
    (λ next. read_on users (n + 1) next lines) ≡ Err number → Bad users (line ∷ lines) (suc left) n number
bad_card users line lines n number left front true fits hyp h =
    let r = hyp h in
    record {
      before = line ∷ r.before;
      bad = r.bad;
      after = r.after;
      split = ap (λ (l : List (List ℕ)). line ∷ l) r.split;
      numbered = omega (arith, r.numbered);
      events = r.events;
      left = r.left;
      accepted = (grind (arith, nat_tests), r.accepted);
      refused = r.refused;
    }
bad_card users line lines n number left front false fits hyp h =
    let same : n ≡ number = cc in
    record {
      before = [];
      bad = line;
      after = lines;
      split = refl;
      numbered = omega arith;
      events = [];
      left = suc left;
      accepted = (refl, refl);
      refused = λ es more reads. let short = reads.0 in grind (arith, nat_tests);
    }

bad_entry : (users : List KnownUser) (line : List ℕ) (lines : List (List ℕ)) (n number : ℕ) (front : List EventValue)
    (b : Bool) (o : Option EventValue) → is_ignored line ≡ b → said_of users line lines ≡ o
    → ((before : List EventValue) (cards : ℕ) → read_on users (n + 1)
    (record { events = before; cards = cards }) lines ≡ Err number → Bad users lines cards (n + 1) number)
    → and_then (cond b (Ok (record { events = front; cards = 0 })) (joined n front o))
    (λ next. read_on users (n + 1) next lines) ≡ Err number → Bad users (line ∷ lines) zero n number
bad_entry users line lines n number front true o e s hyp h =
    let r = hyp front 0 h in
    record {
      before = line ∷ r.before;
      bad = r.bad;
      after = r.after;
      split = ap (λ (l : List (List ℕ)). line ∷ l) r.split;
      numbered = omega (arith, r.numbered);
      events = r.events;
      left = r.left;
      accepted = inl (e, r.accepted);
      refused = r.refused;
    }
bad_entry users line lines n number front false None e s hyp h =
    let same : n ≡ number = cc in
    record {
      before = [];
      bad = line;
      after = lines;
      split = refl;
      numbered = omega arith;
      events = [];
      left = 0;
      accepted = (refl, refl);
      refused = λ es more reads. elim reads [
        | inl k ↦ let ignored = k.0 in cc
        | inr k ↦ let twice : None ≡ Some k.1 = sym s ∙ again users line lines k.1 k.4 in cc
      ];
    }
bad_entry users line lines n number front false (Some one) e s hyp h =
    let r = hyp (front ++ one ∷ []) (cards_after one) h in
    record {
      before = line ∷ r.before;
      bad = r.bad;
      after = r.after;
      split = ap (λ (l : List (List ℕ)). line ∷ l) r.split;
      numbered = omega (arith, r.numbered);
      events = one ∷ r.events;
      left = r.left;
      accepted = inr (
        e,
        one,
        r.events,
        refl,
        subst (λ (l : List (List ℕ)). Says users line l one) r.split
            (found users line lines one s),
        r.accepted,
      );
      refused = r.refused;
    }

bad_found : (users : List KnownUser) (lines : List (List ℕ)) (n number cards : ℕ) (front : List EventValue)
    → read_on users n (record { events = front; cards = cards }) lines ≡ Err number → Bad users lines cards n number
bad_found users [] n number cards front h = cc
bad_found users (line ∷ lines) n number (suc left) front h = bad_card users line lines n number left front
    (leb (length line) 80) refl (λ k. bad_found users lines (n + 1) number left front k) h
bad_found users (line ∷ lines) n number zero front h = bad_entry users line lines n number front (is_ignored line)
    (said_of users line lines) refl refl (λ before cards. bad_found users lines (n + 1) number cards before) h

-- A script is read exactly as its grammar says.
pub reads : ReadsGrammar
reads users text = (
  λ events h. let r = read_found users (lines_of text) 1 0 [] events (omega arith) h in
      subst (λ (l : List EventValue). Reads users 0 (lines_of text) [] l 0) (sym r.joins) r.is,
  λ events h. read_again users (lines_of text) 1 0 [] events h,
  λ number h. let r = bad_found users (lines_of text) 1 number 0 [] h in
      record {
        before = r.before;
        bad = r.bad;
        after = r.after;
        split = r.split;
        numbered = omega (arith, r.numbered);
        events = r.events;
        cards = r.left;
        accepted = r.accepted;
        refused = r.refused;
      },
)

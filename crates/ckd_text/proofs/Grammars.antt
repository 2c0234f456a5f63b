-- What is made of a text is in the grammar, and what is in the grammar is made.
use Rattle.std.proofs.Common.{◌≡◌, ℕ, ◌+◌, ◌≤◌, ◌⊎◌, inl, inr, ◌&&◌, true, cond, leb, List, [], ◌∷◌, ◌++◌, length}
use Rattle.std.proofs.Common.{codes, Option, Some, None, Ok, Err, refl, ap, sym, ◌∙◌, subst, arith}
use Rattle.std.specs.Option.{option_map, option_and_then}
use Rattle.std.specs.Str.{bytes_eq}
use Rattle.std.proofs.lemmas.Option.{option_and_then_some}
use Rattle.std.proofs.lemmas.Slice.Eq.{bytes_eq-Decides}
use Rattle.std.proofs.lemmas.Bool.Decides.{nat_tests}
use Rattle.text_words.specs.Lines.{and_then, lines_of, read_lines}
use Rattle.text_words.specs.Words.{word_of, after_word}
use Rattle.text_words.specs.Numbers.{decimal_of}
use Rattle.text_words.proofs.Spellings.{chosen, parts, word_whole, word_again, after_again}
use Rattle.text_words.proofs.Firsts.{first_fault_of}
use Rattle.ckd_track.specs.Track.{Record}
use Rattle.ckd_volume.specs.Volume.{VolumeFormat, blank_cylinders}
use Rattle.ckd_text.specs.Fields.{bytes_of, five_of, is_serial, padded, serial_of}
use Rattle.ckd_text.specs.Text.{Stated, Home, Add, Placed, counted, volume_by, first_of, placed_of, home_by, record_of}
use Rattle.ckd_text.specs.Text.{add_by, stated_by, stated_of, with_stated, reported, line_step, stated_volume}
use Rattle.ckd_text.specs.Grammar.{SaysVolume, SaysPlace, SaysRecord, Says, Fills, IsText, BeginsWrong, IsFirstWrong}
use Rattle.ckd_text.specs.Grammar.{ReadsGrammar}

is_word : (xs ys : List ℕ) → bytes_eq xs ys ≡ true → xs ≡ ys
is_word xs ys h = (bytes_eq-Decides xs ys).0 h

-- what was mapped to a value
mapped : {A B P : Type 0} (f : A → B) (o : Option A) (y : B) → option_map f o ≡ Some y
    → ((x : A) → o ≡ Some x → f x ≡ y → P) → P
mapped f None y e k = cc
mapped f (Some x) y e k = let same : f x ≡ y = cc in k x refl same

counts : (serial : List ℕ) (n : ℕ) (v : VolumeFormat) → counted serial n ≡ Some v
    → (v ≡ record { volser = serial; cylinders = blank_cylinders 0 n }) × (1 ≤ n) × (n ≤ 808)
counts serial n v h = elim (chosen (leb 1 n && leb n 808) (Some
    (record { volser = serial; cylinders = blank_cylinders 0 n })) None (Some v) h) [
      | inl k ↦ let both = k.0 in (cc, grind (arith, nat_tests), grind (arith, nat_tests))
      | inr k ↦ cc
    ]

serial_found : (word serial : List ℕ) → serial_of word ≡ Some serial → (is_serial word ≡ true) × (serial ≡ padded word)
serial_found word serial h = elim (chosen (is_serial word) (Some (padded word)) None (Some serial) h) [
  | inl k ↦ (k.0, cc)
  | inr k ↦ cc
]

volume_found : (line operands : List ℕ) (v : VolumeFormat) → line ≡ codes "VOLUME" ++ 32 ∷ operands
    → volume_by operands ≡ Some v → SaysVolume line v
volume_found line operands v spelled h =
    option_and_then_some (λ serial. option_and_then (λ digits. option_and_then (counted serial) (decimal_of 7 digits))
    (after_word operands)) (serial_of (word_of operands)) v h (λ serial named h1.
    option_and_then_some (λ digits. option_and_then (counted serial) (decimal_of 7 digits)) (after_word operands) v h1
    (λ digits after h2.
    option_and_then_some (counted serial) (decimal_of 7 digits) v h2 (λ n number h3.
    let k = counts serial n v h3 in
    let lawful = serial_found (word_of operands) serial named in
    record {
      serial = word_of operands;
      digits = digits;
      cylinders = n;
      spelled = spelled ∙ ap (λ (l : List ℕ). codes "VOLUME" ++ 32 ∷ l) (parts operands digits after);
      whole = word_whole operands;
      lawful = lawful.0;
      number = number;
      least = k.1;
      most = k.2;
      blank = k.0 ∙ ap (λ (l : List ℕ). record { volser = l; cylinders = blank_cylinders 0 n }) lawful.1;
    })))

first_found : (line : List ℕ) (v : VolumeFormat) → first_of line ≡ Some v → SaysVolume line v
first_found line v h = elim (chosen (bytes_eq (word_of line) (codes "VOLUME"))
    (option_and_then volume_by (after_word line)) None (Some v) h) [
      | inl k ↦ option_and_then_some volume_by (after_word line) v k.1 (λ operands after h1.
          volume_found line operands v (parts line operands after
          ∙ ap (λ (w : List ℕ). w ++ 32 ∷ operands) (is_word (word_of line) (codes "VOLUME") k.0)) h1)
      | inr k ↦ cc
    ]

place_found : (operands : List ℕ) (at : Placed) → placed_of operands ≡ Some at
    → SaysPlace operands at.cylinder at.head at.rest
place_found operands at h =
    option_and_then_some (λ c. option_and_then (λ more. option_and_then
    (λ h. option_map (λ rest. record { cylinder = c; head = h; rest = rest }) (after_word more))
    (decimal_of 7 (word_of more))) (after_word operands)) (decimal_of 7 (word_of operands)) at h (λ c cylinder h1.
    option_and_then_some (λ more. option_and_then (λ h. option_map
    (λ rest. record { cylinder = c; head = h; rest = rest }) (after_word more)) (decimal_of 7 (word_of more)))
    (after_word operands) at h1 (λ more after h2.
    option_and_then_some (λ h. option_map (λ rest. record { cylinder = c; head = h; rest = rest }) (after_word more))
    (decimal_of 7 (word_of more)) at h2 (λ head number h3.
    mapped (λ rest. record { cylinder = c; head = head; rest = rest }) (after_word more) at h3 (λ rest last same.
    subst (λ (p : Placed). SaysPlace operands p.cylinder p.head p.rest) same (record {
      cylinder = word_of operands;
      head = word_of more;
      spelled = parts operands more after ∙ ap (λ (l : List ℕ). word_of operands ++ 32 ∷ l) (parts more rest last);
      cylinder_whole = word_whole operands;
      head_whole = word_whole more;
      cylinder_number = cylinder;
      head_number = number;
    })))))

record_found : (fields : List ℕ) (r : Record) → record_of fields ≡ Some r → SaysRecord fields r
record_found fields r h =
    option_and_then_some (λ id. option_and_then (λ more. option_and_then
    (λ key. option_and_then (λ last. option_map (λ content. record { id = id; key = key; content = content })
    (bytes_of last)) (after_word more)) (bytes_of (word_of more))) (after_word fields))
    (five_of (word_of fields)) r h (λ id id_bytes h1.
    option_and_then_some (λ more. option_and_then (λ key. option_and_then
    (λ last. option_map (λ content. record { id = id; key = key; content = content }) (bytes_of last))
    (after_word more)) (bytes_of (word_of more))) (after_word fields) r h1 (λ more after h2.
    option_and_then_some (λ key. option_and_then (λ last. option_map
    (λ content. record { id = id; key = key; content = content }) (bytes_of last)) (after_word more))
    (bytes_of (word_of more)) r h2 (λ key key_bytes h3.
    option_and_then_some (λ last. option_map (λ content. record { id = id; key = key; content = content })
    (bytes_of last)) (after_word more) r h3 (λ last after_key h4.
    mapped (λ content. record { id = id; key = key; content = content }) (bytes_of last) r h4
    (λ content content_bytes same.
    subst (SaysRecord fields) same (record {
      id = word_of fields;
      key = word_of more;
      content = last;
      spelled = parts fields more after ∙ ap (λ (l : List ℕ). word_of fields ++ 32 ∷ l) (parts more last after_key);
      id_whole = word_whole fields;
      key_whole = word_whole more;
      id_bytes = id_bytes;
      key_bytes = key_bytes;
      content_bytes = content_bytes;
    }))))))

home_found : (line operands : List ℕ) (s : Stated) → line ≡ codes "HOME" ++ 32 ∷ operands
    → option_and_then home_by (placed_of operands) ≡ Some s → Says line s
home_found line operands s spelled h =
    option_and_then_some home_by (placed_of operands) s h (λ at place h1.
    mapped (Home at.cylinder at.head) (five_of at.rest) s h1 (λ home five same.
    subst (Says line) same (record {
      operands = operands;
      address = at.rest;
      spelled = spelled;
      place = place_found operands at place;
      five = five;
    })))

add_found : (line operands : List ℕ) (s : Stated) → line ≡ codes "REC" ++ 32 ∷ operands
    → option_and_then add_by (placed_of operands) ≡ Some s → Says line s
add_found line operands s spelled h =
    option_and_then_some add_by (placed_of operands) s h (λ at place h1.
    mapped (Add at.cylinder at.head) (record_of at.rest) s h1 (λ r said same.
    subst (Says line) same (record {
      operands = operands;
      fields = at.rest;
      spelled = spelled;
      place = place_found operands at place;
      said = record_found at.rest r said;
    })))

found_on : (line verb operands : List ℕ) (s : Stated) → line ≡ verb ++ 32 ∷ operands → stated_by verb operands ≡ Some s
    → Says line s
found_on line verb operands s spelled h = elim (chosen (bytes_eq verb (codes "HOME"))
    (option_and_then home_by (placed_of operands)) (cond (bytes_eq verb (codes "REC"))
    (option_and_then add_by (placed_of operands)) None) (Some s) h) [
      | inl k ↦ home_found line operands s (spelled ∙ ap (λ (w : List ℕ). w ++ 32 ∷ operands)
          (is_word verb (codes "HOME") k.0)) k.1
      | inr k ↦ elim (chosen (bytes_eq verb (codes "REC")) (option_and_then add_by (placed_of operands)) None (Some s) k.1) [
        | inl j ↦ add_found line operands s (spelled ∙ ap (λ (w : List ℕ). w ++ 32 ∷ operands)
            (is_word verb (codes "REC") j.0)) j.1
        | inr j ↦ cc
      ]
    ]

found : (line : List ℕ) (s : Stated) → stated_of line ≡ Some s → Says line s
found line s h = option_and_then_some (stated_by (word_of line)) (after_word line) s h (λ operands after h1.
    found_on line (word_of line) operands s (parts line operands after) h1)

counts_again : (serial : List ℕ) (n : ℕ) → 1 ≤ n → n ≤ 808 → counted serial n ≡ Some
    (record { volser = serial; cylinders = blank_cylinders 0 n })
counts_again serial n h k =
    let low : leb 1 n ≡ true = grind (arith, nat_tests) in
    let high : leb n 808 ≡ true = grind (arith, nat_tests) in
    rw (low, high) refl

serial_again : (word : List ℕ) → is_serial word ≡ true → serial_of word ≡ Some (padded word)
serial_again word h = rw h refl

volume_again : (serial digits : List ℕ) (n : ℕ) (v : VolumeFormat) → is_serial serial ≡ true
    → decimal_of 7 digits ≡ Some n → counted (padded serial) n ≡ Some v
    → after_word (serial ++ 32 ∷ digits) ≡ Some digits → word_of (serial ++ 32 ∷ digits) ≡ serial
    → volume_by (serial ++ 32 ∷ digits) ≡ Some v
volume_again serial digits n v lawful number count after word = rw
    (word, serial_again serial lawful, after, number) count

first_again : (line : List ℕ) (v : VolumeFormat) → SaysVolume line v → first_of line ≡ Some v
first_again line v h =
    rw h.spelled (volume_again h.serial h.digits h.cylinders v h.lawful h.number
    (counts_again (padded h.serial) h.cylinders h.least h.most ∙ ap Some (sym h.blank))
    (after_again h.serial h.digits h.whole) (word_again h.serial h.digits h.whole))

place_again : (operands : List ℕ) (c h : ℕ) (rest : List ℕ) → SaysPlace operands c h rest
    → placed_of operands ≡ Some (record { cylinder = c; head = h; rest = rest })
place_again operands c h rest p =
    rw (
      p.spelled,
      word_again p.cylinder (p.head ++ 32 ∷ rest) p.cylinder_whole,
      p.cylinder_number,
      after_again p.cylinder (p.head ++ 32 ∷ rest) p.cylinder_whole,
      word_again p.head rest p.head_whole,
      p.head_number,
      after_again p.head rest p.head_whole,
    ) refl

record_again : (fields : List ℕ) (r : Record) → SaysRecord fields r → record_of fields ≡ Some r
record_again fields r s =
    rw (
      s.spelled,
      word_again s.id (s.key ++ 32 ∷ s.content) s.id_whole,
      s.id_bytes,
      after_again s.id (s.key ++ 32 ∷ s.content) s.id_whole,
      word_again s.key s.content s.key_whole,
      s.key_bytes,
      after_again s.key s.content s.key_whole,
      s.content_bytes,
    ) refl

home_again : (operands : List ℕ) (c h : ℕ) (address home : List ℕ) → SaysPlace operands c h address
    → five_of address ≡ Some home → option_and_then home_by (placed_of operands) ≡ Some (Home c h home)
home_again operands c h address home place five = rw (place_again operands c h address place, five) refl

add_again : (operands : List ℕ) (c h : ℕ) (fields : List ℕ) (r : Record) → SaysPlace operands c h fields
    → SaysRecord fields r → option_and_then add_by (placed_of operands) ≡ Some (Add c h r)
add_again operands c h fields r place said = rw (place_again operands c h fields place, record_again fields r said) refl

again : (line : List ℕ) (s : Stated) → Says line s → stated_of line ≡ Some s
again line (Home c h home) s = rw s.spelled (home_again s.operands c h s.address home s.place s.five)
again line (Add c h r) s = rw s.spelled (add_again s.operands c h s.fields r s.place s.said)

-- what a line states has a place
fill_with : (v made : VolumeFormat) (line : List ℕ) (lines : List (List ℕ)) (n : ℕ) (s : Stated)
    (o : Option VolumeFormat) → Says line s → with_stated v s ≡ o
    → ((next : VolumeFormat) → read_lines line_step (n + 1) next lines ≡ Ok made → Fills next lines made)
    → and_then (reported n o) (λ next. read_lines line_step (n + 1) next lines) ≡ Ok made → Fills v (line ∷ lines) made
fill_with v made line lines n s None says e hyp h = cc
fill_with v made line lines n s (Some next) says e hyp h = (s, next, says, e, hyp next h)

fill_on : (v made : VolumeFormat) (line : List ℕ) (lines : List (List ℕ)) (n : ℕ) (o : Option Stated)
    → stated_of line ≡ o
    → ((next : VolumeFormat) → read_lines line_step (n + 1) next lines ≡ Ok made → Fills next lines made)
    → and_then (reported n (option_and_then (with_stated v) o))
    (λ next. read_lines line_step (n + 1) next lines) ≡ Ok made → Fills v (line ∷ lines) made
fill_on v made line lines n None e hyp h = cc
fill_on v made line lines n (Some s) e hyp h = fill_with v made line lines n s (with_stated v s)
    (found line s e) refl hyp h

fills_found : (v made : VolumeFormat) (lines : List (List ℕ)) (n : ℕ) → read_lines line_step n v lines ≡ Ok made
    → Fills v lines made
fills_found v made [] n h = cc
fills_found v made (line ∷ lines) n h = fill_on v made line lines n (stated_of line) refl
    (λ next. fills_found next made lines (n + 1)) h

fills_again : (v made : VolumeFormat) (lines : List (List ℕ)) (n : ℕ) → Fills v lines made
    → read_lines line_step n v lines ≡ Ok made
fills_again v made [] n h = ap Ok h
fills_again v made (line ∷ lines) n h = rw (again line h.0 h.2, h.3) (fills_again h.1 made lines (n + 1) h.4)

begin_on : (first : List ℕ) (lines : List (List ℕ)) (made : VolumeFormat) (o : Option VolumeFormat) → first_of first ≡ o
    → and_then (reported 1 o) (λ v. read_lines line_step 2 v lines) ≡ Ok made → IsText (first ∷ lines) made
begin_on first lines made None e h = cc
begin_on first lines made (Some v) e h = (v, first_found first v e, fills_found v made lines 2 h)

text_found : (lines : List (List ℕ)) (made : VolumeFormat) → stated_volume lines ≡ Ok made → IsText lines made
text_found [] made h = cc
text_found (first ∷ lines) made h = begin_on first lines made (first_of first) refl h

text_again : (lines : List (List ℕ)) (made : VolumeFormat) → IsText lines made → stated_volume lines ≡ Ok made
text_again [] made h = absurd h
text_again (first ∷ lines) made h = rw (first_again first h.0 h.1) (fills_again h.0 made lines 2 h.2)

told_err : (n number : ℕ) (o : Option VolumeFormat) → reported n o ≡ Err number → (n ≡ number) × (o ≡ None)
told_err n number None h = (cc, refl)
told_err n number (Some v) h = cc

-- a line that was refused states nothing for which there is a place
no_place : (v next : VolumeFormat) (line : List ℕ) (s : Stated)
    → option_and_then (with_stated v) (stated_of line) ≡ None → Says line s → with_stated v s ≡ Some next → ⊥
no_place v next line s none says put =
    let placed : option_and_then (with_stated v) (stated_of line) ≡ Some next = rw (again line s says) put in
    let twice : None ≡ Some next = sym none ∙ placed in
    cc

wrong_on : (first : List ℕ) (lines : List (List ℕ)) (number : ℕ) (o : Option VolumeFormat) → first_of first ≡ o
    → and_then (reported 1 o) (λ v. read_lines line_step 2 v lines) ≡ Err number
    → ((number ≡ 1) × BeginsWrong (first ∷ lines)) ⊎ IsFirstWrong (first ∷ lines) number
wrong_on first lines number None e h =
    let same : 1 ≡ number = cc in
    inl (sym same, λ v says. let twice : None ≡ Some v = sym e ∙ first_again first v says in cc)
wrong_on first lines number (Some v) e h =
    let f = first_fault_of line_step 2 v lines number h in
    let t = told_err (2 + length f.before) number (option_and_then (with_stated f.so_far) (stated_of f.bad)) f.refused
    in
    inr (record {
      before = first ∷ f.before;
      wrong = f.bad;
      after = f.after;
      split = ap (λ (l : List (List ℕ)). first ∷ l) f.split;
      numbered = omega (arith, t.0);
      so_far = f.so_far;
      accepted = (v, first_found first v e, fills_found v f.so_far f.before 2 f.read);
      refused = λ s next says put. no_place f.so_far next f.bad s t.1 says put;
    })

wrong_found : (lines : List (List ℕ)) (number : ℕ) → stated_volume lines ≡ Err number
    → ((number ≡ 1) × BeginsWrong lines) ⊎ IsFirstWrong lines number
wrong_found [] number h = let same : 1 ≡ number = cc in inl (sym same, tt)
wrong_found (first ∷ lines) number h = wrong_on first lines number (first_of first) refl h

-- The words of each tool are read exactly as its grammar says.
pub reads : ReadsGrammar
reads text = (
  λ v h. text_found (lines_of text) v h,
  λ v h. text_again (lines_of text) v h,
  λ number h. wrong_found (lines_of text) number h,
)

-- Bytes moved in a slice are moved one by one.
use Rattle.std.proofs.Common.{◌≡◌, ◌≢◌, ℕ, zero, suc, ◌+◌, ◌-◌, ◌%◌, ◌^◌, ◌==◌, ◌<◌, ◌≤◌, Bool, false, List, [], ◌∷◌}
use Rattle.std.proofs.Common.{length, take, drop, Option, Some, None, refl, sym, ap, ◌∙◌, arith, subst}
use Rattle.std.specs.Prelude.{slice_range, slice_index}
use Rattle.std.proofs.lemmas.Bool.{lt-ltb}
use Rattle.std.proofs.Math.Seq.{drop-cons}
use Rattle.std.proofs.lemmas.Bool.Decides.{nat_tests}
use Rattle.s370_store.specs.declared.Access.TheVariants.{Fetch, Store}
use Rattle.s370_store.specs.Access.{put, IsGranted}
use Rattle.s370_store.proofs.Verdicts.{part_fine}
use Rattle.s370_store.proofs.Puts.{put-nothing, length-put}
use Rattle.s370_walk.specs.declared.parts.Position.{Position}
use Rattle.s370_walk.specs.declared.parts.Direction.TheVariants.{Gives, Takes, TakesUpTo}
use Rattle.s370_walk.specs.Blocks.{served}
use Rattle.s370_store.specs.Memory.{Memory, memory_of, with_stored}
use Rattle.s370_walk.specs.Hardware.{area, fault_of, given, after_giving, after_taking, put_byte, byte_at}
use Rattle.s370_walk.specs.Walk.{Form, Setting, State, Moving, Written, Reaches, next, live, rest, place_in, stepped}
use Rattle.s370_walk.specs.Walk.{skips, given_to, given_at, moved, byte_moved, taken_from, taken_at}
use Rattle.s370_walk.specs.declared.parts.Direction.{Direction}
use Rattle.s370_channel.specs.declared.moving.Moved.{Moved}
use Rattle.s370_channel.specs.declared.moving.Moved.TheVariants.{Done}
use Rattle.s370_channel.specs.Progress.{onward, IsFurther, HasMoved, moved_state}
use Rattle.s370_walk.proofs.Moved.{length-given}
use Rattle.s370_walk.proofs.Reaching.{reach_here, reach_from}

-- where the last of n bytes from a lies, or what was before where there is none
abbrev pub last_of : Option ℕ → ℕ → ℕ → Option ℕ
last_of before a zero = before
last_of before a (suc n) = Some (a + n)

onward-none : (p : Position) → onward p 0 p.before ≡ p
onward-none p =
    let c : p.count - 0 ≡ p.count = omega arith in
    let l : p.transfer.left - 0 ≡ p.transfer.left = omega arith in
    rw (c, l) refl

onward-more : (p : Position) (n : ℕ) (a : ℕ) (before : Option ℕ)
    → onward (stepped p (Some a)) n before ≡ onward p (suc n) before
onward-more p n a before =
    let c : p.count - 1 - n ≡ p.count - suc n = omega arith in
    let l : p.transfer.left - 1 - n ≡ p.transfer.left - suc n = omega arith in
    rw (c, l) refl

last-more : (before : Option ℕ) (a n : ℕ) → last_of (Some a) (a + 1) n ≡ last_of before a (suc n)
last-more before a zero = let e : a ≡ a + 0 = omega arith in ap Some e
last-more before a (suc n) = let e : a + 1 + n ≡ a + suc n = omega arith in ap Some e

put-suc : (bytes xs : List ℕ) (a b : ℕ) → suc a + length xs ≤ length bytes
    → put (put bytes a (b ∷ [])) (suc a) xs ≡ put bytes a (b ∷ xs)
unfolding put
put-suc [] xs a b h = absurd (omega arith)
put-suc (x ∷ bytes) xs zero b h = refl
put-suc (x ∷ bytes) xs (suc a) b h = ap (λ l. x ∷ l) (put-suc bytes xs a b (omega arith))

put-more : (bytes xs : List ℕ) (a b : ℕ) → a + 1 + length xs ≤ length bytes
    → put (put bytes a (b ∷ [])) (a + 1) xs ≡ put bytes a (b ∷ xs)
put-more bytes xs a b h =
    let e : a + 1 ≡ suc a = omega arith in
    ap (λ k. put (put bytes a (b ∷ [])) k xs) e ∙ put-suc bytes xs a b (omega arith)

slice-more : (bytes : List ℕ) (a n : ℕ) → a < length bytes → slice_range bytes a
    (a + suc n) ≡ slice_index bytes a ∷ slice_range bytes (a + 1) (a + 1 + n)
slice-more bytes a n lt =
    let one : a + suc n - a ≡ suc n = omega arith in
    let two : a + 1 + n - (a + 1) ≡ n = omega arith in
    let three : a + 1 ≡ suc a = omega arith in
    ap (λ k. take k (drop a bytes)) one ∙ ap (take (suc n)) (drop-cons bytes a 0 lt)
    ∙ ap (λ k. slice_index bytes a ∷ take n (drop k bytes)) (sym three)
    ∙ ap (λ k. slice_index bytes a ∷ take k (drop (a + 1) bytes)) (sym two)

moved_byte : {D : Type 0} (h : Setting D) (p : Position) (place : Option ℕ) (load : ℕ → ℕ) (count left : ℕ) (m : Memory)
    (d : D) → 0 < count → 0 < left → moved h p place load count left m d ≡ byte_moved h p place load p.transfer.kind m d
moved_byte h p place load zero left m d some more = absurd (omega arith)
moved_byte h p place load (suc count) zero m d some more = absurd (omega arith)
moved_byte h p place load (suc count) (suc left) m d some more = refl

byte_given : {D : Type 0} (h : Setting D) (p : Position) (place : Option ℕ) (load : ℕ → ℕ) (k : Direction) (m : Memory)
    (d : D) → k ≡ Gives → skips p.word ≡ false → byte_moved h p place load k m d ≡ given_to h p place m d
byte_given h p place load k m d e all = rw (e, all) refl

byte_taken : {D : Type 0} (h : Setting D) (p : Position) (place : Option ℕ) (load : ℕ → ℕ) (k : Direction) (m : Memory)
    (d : D) → k ≢ Gives → byte_moved h p place load k m d ≡ taken_from h p place load m d
byte_taken h p place load Gives m d ne = absurd (ne refl)
byte_taken h p place load Takes m d ne = refl
byte_taken h p place load TakesUpTo m d ne = refl

next_given : {D : Type 0} (w : Written) (h : Setting D) (p : Position) (m : Memory) (d : D) (a : ℕ) → 0 < p.count
    → 0 < p.transfer.left → p.transfer.kind ≡ Gives → skips p.word ≡ false → h.machine.done d ≡ false
    → place_in w m p ≡ Some a → fault_of m h.key (area Store a 1) ≡ None
    → next (live w) h (Moving p m d) ≡ Moving (stepped p (Some a)) (put_byte m a (h.machine.gives d)) (h.machine.gave d)
next_given w h p m d a count left gives all on at fine =
    let here : rest h.machine p d ≡ p.transfer.left = rw on refl in
    let more : 0 < rest h.machine p d = rw here left in
    moved_byte h p (place_in w m p) (λ x. byte_at m x) p.count (rest h.machine p d) m d count more
    ∙ byte_given h p (place_in w m p) (λ x. byte_at m x) p.transfer.kind m d gives all
    ∙ ap (λ x. given_to h p x m d) at
    ∙ ap (λ f. given_at h p a f m d) fine

next_taken : {D : Type 0} (w : Written) (h : Setting D) (p : Position) (m : Memory) (d : D) (a : ℕ) → 0 < p.count
    → 0 < p.transfer.left → p.transfer.kind ≢ Gives → h.machine.done d ≡ false → place_in w m p ≡ Some a
    → fault_of m h.key (area Fetch a 1) ≡ None
    → next (live w) h (Moving p m d) ≡ Moving (stepped p (Some a)) m (h.machine.took d (byte_at m a))
next_taken w h p m d a count left takes on at fine =
    let here : rest h.machine p d ≡ p.transfer.left = rw on refl in
    let more : 0 < rest h.machine p d = rw here left in
    moved_byte h p (place_in w m p) (λ x. byte_at m x) p.count (rest h.machine p d) m d count more
    ∙ byte_taken h p (place_in w m p) (λ x. byte_at m x) p.transfer.kind m d takes
    ∙ ap (λ x. taken_from h p x (λ y. byte_at m y) m d) at
    ∙ ap (λ f. taken_at h p a (λ y. byte_at m y) f m d) fine

-- the byte after one that ends no block lies after it
place_after : (w : Written) (m : Memory) (p : Position) (a : ℕ) → p.before ≡ Some a → a % 2048 + 2 ≤ 2048
    → a + 1 < 2 ^ 32 → place_in w m p ≡ Some (a + 1)
place_after w m p a is inside low =
    let no : (a % 2048 == 2047) ≡ false = grind (arith, nat_tests) in
    ap (λ b. served (w.block m p) (p.word.count - p.count) b) is ∙ rw (no, lt-ltb (a + 1) (2 ^ 32) low) refl

reach_to : {D : Type 0} (w : Written) (h : Setting D) (s t u : State D) → Reaches (live w) h s t → t ≡ u
    → Reaches (live w) h s u
reach_to w h s t u a e = subst (λ x. Reaches (live w) h s x) e a

next_block : (a n : ℕ) → a % 2048 + suc n ≤ 2048 → 0 < n → (a + 1) % 2048 + n ≤ 2048
next_block a n inside some = grind arith

still_inside : (a n : ℕ) → a % 2048 + suc n ≤ 2048 → (a + 1) % 2048 + n ≤ 2048
still_inside a zero inside = let lt : (a + 1) % 2048 < 2048 = grind arith in omega arith
still_inside a (suc n) inside = next_block a (suc n) inside (omega arith)

-- n bytes that a device gives, in one piece of a block whose bytes may all be stored
pub gives_slice : {D : Type 0} (w : Written) (h : Setting D) (n : ℕ) (p : Position) (m : Memory) (d : D) (a : ℕ)
    → n ≤ p.count → n ≤ p.transfer.left → p.transfer.kind ≡ Gives → skips p.word ≡ false
    → ((k : ℕ) → k < n → h.machine.done (after_giving h.machine d k) ≡ false) → (0 < n → place_in w m p ≡ Some a)
    → a % 2048 + n ≤ 2048 → a + n < 2 ^ 32 → a + n ≤ length m.bytes → fault_of m h.key (area Store a n) ≡ None
    → Reaches (live w) h (Moving p m d) (Moving (onward p n (last_of p.before a n))
    (memory_of (put m.bytes a (given h.machine d n)) m.keys) (after_giving h.machine d n))
gives_slice w h zero p m d a count left gives all on at inside low room fine =
    reach_to w h (Moving p m d) (Moving p m d) (Moving (onward p 0 p.before) (memory_of (put m.bytes a []) m.keys) d)
    (reach_here (live w) h (Moving p m d))
    (ap (λ x. Moving x m d) (sym (onward-none p)) ∙ ap (λ bs. Moving (onward p 0 p.before) (memory_of bs m.keys) d)
    (sym (put-nothing m.bytes a)))
gives_slice w h (suc n) p m d a count left gives all on at inside low room fine =
    let machine = h.machine in
    let q = stepped p (Some a) in
    let b = machine.gives d in
    let e = machine.gave d in
    let m' = put_byte m a b in
    let size : length m'.bytes ≡ length m.bytes = length-put m.bytes (b ∷ []) a (omega arith) in
    let one : fault_of m h.key (area Store a 1) ≡ None = part_fine (length m.bytes) m.keys h.key Store a
    (suc n) a 1 fine (omega arith) (omega arith) (omega arith) in
    let step : next (live w) h (Moving p m d) ≡ Moving q m' e = next_given w h p m d a (omega arith)
    (omega arith) gives all (on 0 (omega arith)) (at (omega arith)) one in
    let others : fault_of m' h.key (area Store (a + 1) n) ≡ None = rw size
    (part_fine (length m.bytes) m.keys h.key Store a (suc n) (a + 1) n fine (omega arith) (omega arith)
    (omega arith)) in
    let later : 0 < n → place_in w m' q ≡ Some (a + 1) = λ some. place_after w m' q a refl (omega arith)
    (omega arith) in
    let long : a + 1 + length (given machine e n) ≤ length m.bytes = rw (length-given machine e n) (omega arith) in
    let more = gives_slice w h n q m' e (a + 1) (omega arith) (omega arith) gives all
    (λ k lt. on (suc k) (omega arith)) later (still_inside a n inside) (omega arith)
    (rw size (omega arith)) others in
    reach_from step (reach_to w h (Moving q m' e) _ _ more
    (ap (λ x. Moving x (memory_of (put m'.bytes (a + 1) (given machine e n)) m.keys) (after_giving machine e n))
    (onward-more p n a (last_of (Some a) (a + 1) n) ∙ ap (onward p (suc n)) (last-more p.before a n))
    ∙ ap (λ bs. Moving (onward p (suc n) (last_of p.before a (suc n))) (memory_of bs m.keys) (after_giving machine e n))
    (put-more m.bytes (given machine e n) a b long)))

-- n bytes that a device takes, from one piece of a block whose bytes may all be fetched
pub takes_slice : {D : Type 0} (w : Written) (h : Setting D) (n : ℕ) (p : Position) (m : Memory) (d : D) (a : ℕ)
    → n ≤ p.count → n ≤ p.transfer.left → p.transfer.kind ≢ Gives
    → ((bs : List ℕ) → length bs < n → h.machine.done (after_taking h.machine d bs) ≡ false)
    → (0 < n → place_in w m p ≡ Some a) → a % 2048 + n ≤ 2048 → a + n < 2 ^ 32 → a + n ≤ length m.bytes
    → fault_of m h.key (area Fetch a n) ≡ None
    → Reaches (live w) h (Moving p m d) (Moving (onward p n (last_of p.before a n)) m
    (after_taking h.machine d (slice_range m.bytes a (a + n))))
takes_slice w h zero p m d a count left takes on at inside low room fine =
    let none : a + 0 - a ≡ 0 = omega arith in
    reach_to w h (Moving p m d) (Moving p m d) (Moving (onward p 0 p.before) m
    (after_taking h.machine d (slice_range m.bytes a (a + 0)))) (reach_here (live w) h (Moving p m d))
    (ap (λ x. Moving x m d) (sym (onward-none p)) ∙ ap (λ k. Moving (onward p 0 p.before) m
    (after_taking h.machine d (take k (drop a m.bytes)))) (sym none))
takes_slice w h (suc n) p m d a count left takes on at inside low room fine =
    let machine = h.machine in
    let q = stepped p (Some a) in
    let b = byte_at m a in
    let e = machine.took d b in
    let one : fault_of m h.key (area Fetch a 1) ≡ None = part_fine (length m.bytes) m.keys h.key Fetch a
    (suc n) a 1 fine (omega arith) (omega arith) (omega arith) in
    let step : next (live w) h (Moving p m d) ≡ Moving q m e = next_taken w h p m d a (omega arith) (omega arith) takes
    (on [] (omega arith)) (at (omega arith)) one in
    let others : fault_of m h.key (area Fetch (a + 1) n) ≡ None = part_fine (length m.bytes) m.keys h.key Fetch a
    (suc n) (a + 1) n fine (omega arith) (omega arith) (omega arith) in
    let later : 0 < n → place_in w m q ≡ Some (a + 1) = λ some. place_after w m q a refl (omega arith) (omega arith) in
    let more = takes_slice w h n q m e (a + 1) (omega arith) (omega arith) takes
    (λ bs lt. on (b ∷ bs) (omega arith)) later (still_inside a n inside) (omega arith) (omega arith) others in
    reach_from step (reach_to w h (Moving q m e) _ _ more
    (ap (λ x. Moving x m (after_taking machine e (slice_range m.bytes (a + 1) (a + 1 + n))))
    (onward-more p n a (last_of (Some a) (a + 1) n) ∙ ap (onward p (suc n)) (last-more p.before a n))
    ∙ ap (λ bs. Moving (onward p (suc n) (last_of p.before a (suc n))) m (after_taking machine d bs))
    (sym (slice-more m.bytes a n (omega arith)))))

last_is : (before : Option ℕ) (a n last : ℕ) → 0 < n → last + 1 ≡ a + n → last_of before a n ≡ Some last
last_is before a zero last some e = absurd (omega arith)
last_is before a (suc n) last some e = let f : a + n ≡ last = omega arith in ap Some f

-- the same in the words of the code
pub gives_piece : {D : Type 0} (w : Written) (h : Setting D) {present : ℕ
    → Bool} {n a last : ℕ} {p : Position} {m m' : Memory} {d d' : D} → 0 < n → n ≤ p.count → n ≤ p.transfer.left
    → p.transfer.kind ≡ Gives → skips p.word ≡ false
    → ((k : ℕ) → k < n → h.machine.done (after_giving h.machine d k) ≡ false) → place_in w m p ≡ Some a
    → a % 2048 + n ≤ 2048 → a + n < 2 ^ 32 → IsGranted (length m.bytes) present a n
    → fault_of m h.key (area Store a n) ≡ None
    → last + 1 ≡ a + n → m' ≡ with_stored m a (given h.machine d n) → d' ≡ after_giving h.machine d n
    → Reaches (live w) h (Moving p m d) (Moving (onward p n (Some last)) m' d')
gives_piece w h {n = n} {a = a} {last = last} {p = p} {m = m} {d = d} some count left gives all on at inside low granted
    fine e stored moved_on =
    reach_to w h (Moving p m d) _ _ (gives_slice w h n p m d a count left gives all on
    (λ _. at) inside low granted.inside fine)
    (rw (last_is p.before a n last some e, stored, moved_on) refl)

-- Bytes that are taken in one piece are taken as if one by one.
pub takes_piece : {D : Type 0} (w : Written) (h : Setting D) {present : ℕ
    → Bool} {n a last : ℕ} {p : Position} {m : Memory} {d d' : D} → 0 < n → n ≤ p.count → n ≤ p.transfer.left
    → p.transfer.kind ≢ Gives
    → ((bs : List ℕ) → length bs < n → h.machine.done (after_taking h.machine d bs) ≡ false) → place_in w m p ≡ Some a
    → a % 2048 + n ≤ 2048 → a + n < 2 ^ 32 → IsGranted (length m.bytes) present a n
    → fault_of m h.key (area Fetch a n) ≡ None
    → last + 1 ≡ a + n → d' ≡ after_taking h.machine d (slice_range m.bytes a (a + n))
    → Reaches (live w) h (Moving p m d) (Moving (onward p n (Some last)) m d')
takes_piece w h {n = n} {a = a} {last = last} {p = p} {m = m} {d = d} some count left takes on at inside low granted
    fine e moved_on =
    reach_to w h (Moving p m d) _ _ (takes_slice w h n p m d a count left takes on
    (λ _. at) inside low granted.inside fine)
    (rw (last_is p.before a n last some e, moved_on) refl)

-- what a part of a transfer says, of the position that it came to
pub further_done : {old new : Position} {r : Moved} → r ≡ Done new → IsFurther old r → HasMoved old new
further_done {old = old} e a = subst (λ x. IsFurther old x) e a

-- A move that is done comes to the state from which the program goes on.
pub reach_done : {D : Type 0} (form : Form) (h : Setting D) (s : State D) (m : Memory)
    (d : D) {new : Position} {r : Moved} → r ≡ Done new → Reaches form h s (moved_state r m d)
    → Reaches form h s (Moving new m d)
reach_done form h s m d e a = subst (λ x. Reaches form h s (moved_state x m d)) e a

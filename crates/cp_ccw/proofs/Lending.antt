-- What is at a user's addresses is at those of his frames.
use Rattle.std.specs.Prelude.{◌≡◌, ◌≢◌, ℕ, ◌+◌, ◌*◌, ◌/◌, ◌%◌, ◌<◌, ◌≤◌, Bool, true, false, nat_le, if◌then◌else◌, List}
use Rattle.std.specs.Prelude.{[], ◌∷◌, length, Option, Some, None, refl}
use Rattle.std.proofs.Common.{get_or, sym, ◌∙◌, ap, arith, length-append}
use Rattle.std.proofs.lemmas.List.{get_or_append_left}
use Rattle.std.proofs.lemmas.Bool.Decides.{nat_tests}
use Rattle.s370_store.specs.declared.Access.{Access}
use Rattle.s370_store.specs.Access.{first_fault}
use Rattle.s370_store.specs.Access.{is_permitted, is_addressable}
use Rattle.cp_frames.specs.declared.numbers.UserPage.{UserPage}
use Rattle.cp_frames.specs.Layout.{frame_of}
use Rattle.cp_frames.proofs.Layouts.{frame_found, same_frame}
use Rattle.cp_ccw.specs.Layout.{at_frame, real_of, is_real_page, real_bytes, real_keys, page_at, byte_of, key_of}
use Rattle.cp_ccw.specs.Layout.{framed_bytes}
use Rattle.cp_ccw.proofs.Framed.{real_is, page_at_some, get_framed, key_framed}
use Rattle.cp_ccw.specs.Layout.{length-framed}
use Rattle.s370_store.specs.Memory.{memory_of}
use Rattle.s370_walk.specs.Hardware.{fault_of, area}
use Rattle.s370_walk.specs.Mapped.{IsMapped, Named, Program}
use Rattle.s370_walk.specs.Unstuck.{ArePresent}
use Rattle.s370_store.specs.declared.Fault.TheVariants.{Addressing}
use Rattle.std.proofs.Math.Decide.{dec_lt}
use Rattle.std.proofs.lemmas.Bool.{lt-ltb}
use Rattle.std.specs.Prelude.{is_some, nat_lt}
use Rattle.cp_ccw.specs.Mapped.{IsLent, AreHeld}

record IsReal (owners : List (Option UserPage)) (user size a r : ℕ) : Type 0 where
  frame : ℕ
  found : frame_of owners user (a / 4096) ≡ Some frame
  whole : a / 4096 * 4096 + 4096 ≤ size
  is : r ≡ frame * 4096 + a % 4096
  room : frame < length owners

module _ (owners : List (Option UserPage)) (user size a : ℕ) where
  by_frame : (o : Option ℕ) (r : ℕ) → frame_of owners user (a / 4096) ≡ o → a / 4096 * 4096 + 4096 ≤ size
      → at_frame o (a % 4096) ≡ Some r → IsReal owners user size a r
  by_frame None r e whole is = cc
  by_frame (Some f) r e whole is =
      let same : r ≡ f * 4096 + a % 4096 = cc in
      record { frame = f; found = e; whole = whole; is = same; room = (frame_found owners user (a / 4096) f e).within }

  is_real : (r : ℕ) → real_of owners user size a ≡ Some r → IsReal owners user size a r
  is_real r e = by_size (nat_le (a / 4096 * 4096 + 4096) size) refl e
    where
      by_size : (b : Bool) → nat_le (a / 4096 * 4096 + 4096) size ≡ b
          → at_frame (if b then frame_of owners user (a / 4096) else None) (a % 4096) ≡ Some r
          → IsReal owners user size a r
      by_size true fits is = by_frame (frame_of owners user (a / 4096)) r refl
          (let le : a / 4096 * 4096 + 4096 ≤ size = grind (arith, nat_tests) in le) is
      by_size false fits is = cc

next_in : (owners : List (Option UserPage)) (user size a r : ℕ) → IsReal owners user size a r → a % 2048 ≢ 2047
    → real_of owners user size (a + 1) ≡ Some (r + 1)
next_in owners user size a r x inner =
    let same_page : (a + 1) / 4096 ≡ a / 4096 = grind arith in
    let found : frame_of owners user ((a + 1) / 4096) ≡ Some x.frame = ap (frame_of owners user) same_page ∙ x.found in
    let place : x.frame * 4096 + (a + 1) % 4096 ≡ r + 1 = (let e = x.is in grind arith) in
    real_is owners user size (a + 1) x.frame found (let w = x.whole in omega arith) ∙ ap Some place

module _ (storage keys own : List ℕ) (owners : List (Option UserPage)) (user : ℕ) where
  same_byte : (a r : ℕ) → IsReal owners user (length storage) a r
      → get_or storage a 0 ≡ get_or (real_bytes storage owners user own) r 0
  same_byte a r x =
      let is = x.is in let whole = x.whole in let room = x.room in
      let long = length-framed storage owners user in
      let frame : r / 4096 ≡ x.frame = omega arith in
      let offset : r % 4096 ≡ a % 4096 = omega arith in
      let low : r < 4096 * length owners = omega arith in
      let at : page_at owners user (length storage) (r / 4096) ≡ Some (a / 4096) =
      ap (page_at owners user (length storage)) frame ∙ page_at_some owners user (length storage) x.frame (a / 4096)
      x.found whole in
      let place : a / 4096 * 4096 + a % 4096 ≡ a = omega arith in
      sym (get_or_append_left (framed_bytes storage owners user) own 0 r (omega (arith, long, low)) ∙ get_framed storage
      owners user r low
      ∙ ap (λ o. byte_of storage o (r % 4096)) at ∙ ap (λ k. get_or storage (a / 4096 * 4096 + k) 0) offset ∙ ap
      (λ k. get_or storage k 0) place)

  same_key : (a r : ℕ) → IsReal owners user (length storage) a r
      → get_or keys ((a + 0) / 2048) 0 ≡ get_or (real_keys storage keys owners user (length own)) ((r + 0) / 2048) 0
  same_key a r x =
      let is = x.is in let whole = x.whole in let room = x.room in
      let frame : (r + 0) / 2048 / 2 ≡ x.frame = grind arith in
      let low : (r + 0) / 2048 < 2 * length owners = grind arith in
      let at : page_at owners user (length storage) ((r + 0) / 2048 / 2) ≡ Some (a / 4096) =
      ap (page_at owners user (length storage)) frame ∙ page_at_some owners user (length storage) x.frame (a / 4096)
      x.found whole in
      let place : 2 * (a / 4096) + (r + 0) / 2048 % 2 ≡ (a + 0) / 2048 = grind arith in
      sym (key_framed storage keys owners user (length own) ((r + 0) / 2048) low ∙ ap
      (λ o. key_of keys o ((r + 0) / 2048 % 2)) at ∙ ap (λ k. get_or keys k 0) place)

-- one byte inside is tested by its key alone
one_test : (size : ℕ) (keys : List ℕ) (key : ℕ) (access : Access) (a : ℕ) → a < size
    → first_fault size keys key (area access a 1 ∷ [])
    ≡ first_fault 1 (get_or keys ((a + 0) / 2048) 0 ∷ []) key (area access 0 1 ∷ [])
unfolding is_addressable is_permitted
one_test size keys key access a lt = let fits : nat_le (a + 1) size ≡ true = grind (arith, nat_tests) in rw fits refl

-- A user's storage is lent as the frames have it.
pub lent : (storage keys own : List ℕ) (owners : List (Option UserPage)) (user : ℕ) → length storage ≤ 4294967295
    → length owners ≤ 4096 → IsLent storage keys own owners user
lent storage keys own owners user small few =
    let long = length-framed storage owners user in
    let all = length-append (framed_bytes storage owners user) own in
    record {
      paged = record {
        step = λ a r e inner. next_in owners user (length storage) a r (is_real owners user (length storage) a r e)
            inner;
        same = λ a r e. (let x = is_real owners user (length storage) a r e in let is = x.is in grind arith);
        low = λ a r e. (let x = is_real owners user (length storage) a r e in let w = x.whole in omega arith);
        small = λ a r e. (let x = is_real owners user (length storage) a r e in let is = x.is in let room = x.room in
            omega arith);
      };
      bytes = λ a r e. same_byte storage keys own owners user a r (is_real owners user (length storage) a r e);
      tests = λ access key a r e.
          (let x = is_real owners user (length storage) a r e in let is = x.is in let w = x.whole in let room = x.room
          in
          let high : r < length (real_bytes storage owners user own) = omega (arith, long, all, is, room) in
          one_test (length storage) keys key access a (omega arith)
          ∙ ap (λ k. first_fault 1 (k ∷ []) key (area access 0 1 ∷ [])) (same_key storage keys own owners user a r x)
          ∙ sym (one_test (length (real_bytes storage owners user own))
          (real_keys storage keys owners user (length own)) key access r high));
      here = λ a r e. (let x = is_real owners user (length storage) a r e in let w = x.whole in omega arith);
      there = λ a r e. (let x = is_real owners user (length storage) a r e in let is = x.is in let room = x.room in
          omega (arith, long, all));
      apart = λ a b r e f. both a b r (is_real owners user (length storage) a r e)
          (is_real owners user (length storage) b r f);
    }
  where
    both : (a b r : ℕ) → IsReal owners user (length storage) a r → IsReal owners user (length storage) b r → a ≡ b
    both a b r x y =
        let ex = x.is in let ey = y.is in
        let frame : x.frame ≡ y.frame = omega arith in
        let page = (same_frame owners user (a / 4096) user (b / 4096) y.frame (x.found ∙ ap Some frame) y.found).1 in
        omega arith

module _ (storage keys : List ℕ) (owners : List (Option UserPage)) (user : ℕ) (c : Program)
    (pages : length storage % 4096 ≡ 0) (held : AreHeld c owners user (length storage)) where
  in_frame : (a : ℕ) (o : Option ℕ) → frame_of owners user (a / 4096) ≡ o → is_some o ≡ true → a < length storage
      → real_of owners user (length storage) a ≡ None → ⊥
  in_frame a None e there lt none = cc
  in_frame a (Some f) e there lt none =
      (let is = real_is owners user (length storage) a f e (omega (arith, pages, lt)) in let no : None
      ≡ Some (f * 4096 + a % 4096) = sym none ∙ is in cc)

  outside_is : (access : Access) (key a : ℕ) → length storage ≤ a
      → fault_of (memory_of storage keys) key (area access a 1) ≡ Some Addressing
  unfolding is_addressable
  outside_is access key a past = let out : nat_le (a + 1) (length storage) ≡ false =
      grind (arith, nat_tests) in rw out refl

  pub named_outside : (access : Access) (key a : ℕ) → Named c a → real_of owners user (length storage) a ≡ None
      → fault_of (memory_of storage keys) key (area access a 1) ≡ Some Addressing
  named_outside access key a named none =
      elim (dec_lt a (length storage)) [
        | yes lt ↦ absurd (in_frame a (frame_of owners user (a / 4096)) refl (held a named lt) lt none)
        | no past ↦ outside_is access key a (omega (arith, past))
      ]

-- what is in frames is there for a program whose pages do
pub lent_mapped : (storage keys own : List ℕ) (owners : List (Option UserPage)) (user : ℕ) (c : Program)
    → length storage ≤ 4294967295 → length owners ≤ 4096 → length storage % 4096 ≡ 0
    → AreHeld c owners user (length storage)
    → IsMapped (real_of owners user (length storage)) (Named c) (memory_of storage keys)
    (memory_of (real_bytes storage owners user own) (real_keys storage keys owners user (length own)))
lent_mapped storage keys own owners user c small few pages held =
    let all = lent storage keys own owners user small few in
    record {
      tests = all.tests;
      outside = named_outside storage keys owners user c pages held;
      bytes = all.bytes;
      here = all.here;
      there = all.there;
      apart = all.apart;
    }

-- each real address lies in a frame that is present
pub lent_present : (storage : List ℕ) (owners : List (Option UserPage)) (user : ℕ)
    → ArePresent (real_of owners user (length storage)) (is_real_page storage owners user)
lent_present storage owners user a r e =
    let x = is_real owners user (length storage) a r e in
    let is = x.is in let room = x.room in
    let frame : r / 4096 ≡ x.frame = omega (arith, is) in
    let low : nat_lt (r / 4096) (length owners) ≡ true =
    lt-ltb (r / 4096) (length owners) (omega (arith, frame, room)) in
    let there : page_at owners user (length storage) (r / 4096) ≡ Some (a / 4096) =
    ap (page_at owners user (length storage)) frame ∙ page_at_some owners user (length storage) x.frame (a / 4096)
    x.found x.whole in
    rw (low, there) refl

use Rattle.std.proofs.Common.{◌≡◌, ℕ, Bool, List, ◌/◌, ◌%◌, ◌≤◌, ◌<◌, ◌+◌, ◌-◌, ◌++◌, true, sym, ◌∙◌, ap, arith, subst}
use Rattle.std.proofs.Common.{length, length-append, take-append-drop}
use Rattle.std.proofs.lemmas.Bool.Decides.{nat_tests}
use Rattle.std.proofs.lemmas.Grind.{common_steps}
use Rattle.s370_store.specs.Access.{put}
use Rattle.s370_store.specs.Memory.{Memory, memory_of, with_stored}
use Rattle.cp_dat.specs.Lent.{lent_bytes, lent_pool, user_of}
use Rattle.cp_frames.proofs.Parts.{put_put, put_none}
use Rattle.cp_ccw.specs.Layout.{framed_bytes}
use Rattle.cp_ccw.specs.Shown.{real_bytes_of, real_keys_of, is_real_page_of, keeps_real_on}
use Rattle.cp_ccw.specs.Layout.{length-framed}
use Rattle.cp_ccw.proofs.real.RealStorage.store.Goals as goal

pub returns-then-is_empty-clause-stored : goal.returns-then-is_empty-clause-stored
returns-then-is_empty-clause-stored c =
    let none : length c.args.from.now ≡ 0 = grind (arith, nat_tests, common_steps) in
    ap (λ (bytes : List ℕ). memory_of bytes (real_keys_of c.args.self.now))
    (sym (put_none (real_bytes_of c.args.self.now) c.args.from.now c.args.start
    (omega (arith, c.requires.granted.inside)) none))

pub store_part-requires-clause-here : goal.store_part-requires-clause-here
store_part-requires-clause-here c =
    let some : 0 < length c.args.from.now = grind (arith, nat_tests, common_steps) in
    let e : c.args.start + 0 ≡ c.args.start = omega arith in
    subst (λ (s : ℕ). is_real_page_of c.args.self.now (s / 4096) ≡ true) e (c.requires.granted.here 0 some)

pub store_part-requires-else-from-left-clause-here : goal.store_part-requires-else-from-left-clause-here
store_part-requires-else-from-left-clause-here c =
    let e : c.args.start + 0 ≡ c.args.start = omega arith in
    subst (λ (s : ℕ). is_real_page_of c.args.self.now (s / 4096) ≡ true) e (c.requires.granted.here 0 (omega arith))

pub overflow_add-start : goal.overflow_add-start
overflow_add-start c =
    let r = c.args.self.now in
    let d = r.dat.now in
    let f = length-framed (lent_bytes d) (lent_pool d).supply.owners (user_of d) in
    let a = length-append (framed_bytes (lent_bytes d) (lent_pool d).supply.owners (user_of d)) r.area.now in
    omega (arith, f, a, r.counted, r.few, r.small, c.requires.granted.inside)

pub store_part-requires-else-from-left-2-clause-here : goal.store_part-requires-else-from-left-2-clause-here
store_part-requires-else-from-left-2-clause-here c =
    let left = 4096 - c.args.start % 4096 in
    ap (λ (f : ℕ → Bool). f ((c.args.start + left) / 4096)) c.store_part-else-from-left.ensures.present ∙
    c.requires.granted.here left (omega arith)

pub returns-else-from-left-clause-stored : goal.returns-else-from-left-clause-stored
returns-else-from-left-clause-stored c =
    let bytes = real_bytes_of c.args.self.now in
    let left = 4096 - c.args.start % 4096 in
    let n : length c.split_at.result.0.now ≡ left = omega (arith, c.split_at.ensures.front_len) in
    let m : length c.split_at.result.1.now ≡ length c.args.from.now - left =
    omega (arith, c.split_at.ensures.back_len) in
    let fits : c.args.start + length c.split_at.result.0.now + length c.split_at.result.1.now ≤ length bytes =
    omega (arith, c.requires.granted.inside) in
    let whole : c.split_at.result.0.now
    ++ c.split_at.result.1.now ≡ c.args.from.now =
    rw (c.split_at.ensures.front, c.split_at.ensures.back) (take-append-drop left c.args.from.now) in
    c.store_part-else-from-left-2.ensures.stored
    ∙ ap (λ (m : Memory). with_stored m (c.args.start + left) c.split_at.result.1.now)
    c.store_part-else-from-left.ensures.stored
    ∙ ap (λ (l : List ℕ). memory_of l (real_keys_of c.args.self.now)) (
    ap (λ k. put (put bytes c.args.start c.split_at.result.0.now) (c.args.start + k) c.split_at.result.1.now) (sym n)
    ∙ put_put bytes c.split_at.result.0.now c.split_at.result.1.now c.args.start fits
    ∙ ap (put bytes c.args.start) whole)

pub returns-else-from-left-clause-rest : goal.returns-else-from-left-clause-rest
returns-else-from-left-clause-rest c =
    keeps_real_on c.args.self.now c.store_part-else-from-left.new.self c.store_part-else-from-left-2.new.self
    c.store_part-else-from-left.ensures.rest c.store_part-else-from-left-2.ensures.rest

use Rattle.std.proofs.Common.{◌≡◌, ℕ, ◌+◌, ◌/◌, ◌%◌, ◌<◌, ◌≤◌, List, length, ap, ◌∙◌, rules, arith, sym, subst}
use Rattle.std.specs.Prelude.{slice_index_or, slice_range, true, false}
use Rattle.s370_store.specs.Memory.{Memory, with_stored}
use Rattle.cp_dat.specs.Copies.{written_over}
use Rattle.cp_dat.specs.Lent.{lent_bytes, lent_memory, is_lent_page}
use Rattle.cp_dat.proofs.Copying.{back_none, back_past, back_on, inside, put_all, length-chunk, back_wanted}
use Rattle.cp_dat.proofs.Written.{length-over, over_beside, part_over}
use Rattle.cp_dat.proofs.dat.Dat.put_back.Goals as goal

pub loop-start-init : goal.loop-start-init
loop-start-init c = record {
  back = back_none c.args.self.now (written_over c.args.wanted.now (lent_bytes c.args.self.now) c.args.from.now)
      c.args.wanted.now c.requires.stand c.requires.between;
  chunk = search rules;
}

pub store-requires-clause-granted : goal.store-requires-clause-granted
store-requires-clause-granted c =
    let before = c.loop-start.invariant.back in
    let bytes = lent_bytes c.args.self.now in
    let over = written_over c.args.wanted.now bytes c.args.from.now in
    let whole : length bytes % 4096 ≡ 0 = search (rules, c.args.self.now.whole, c.args.self.now.sized) in
    let size : length (lent_bytes c.loop-start.self) ≡ length bytes = before.put.size in
    let low : c.loop-start.start < length bytes =
    search (rules, c.loop-start-test.true, c.loop-start.self.sized, size) in
    let within : c.loop-start.start + 256 ≤ length bytes =
    inside c.args.self.now over c.args.wanted.now c.loop-start.start c.loop-start.self whole low
    (length-over c.args.wanted.now bytes c.args.from.now ∙ c.requires.long) before in
    let aligned = before.aligned in
    let same : length (lent_bytes c.fetch_at.new.self) ≡ length bytes =
    ap (λ (m : Memory). length m.bytes) c.fetch_at.ensures.memory ∙ size in
    let long = c.requires.long in
    let chunk = c.loop-start.invariant.chunk in
    let count : length c.read.new.into ≡ 256 =
    ap length (c.read.ensures ∙ ap (λ n. slice_range c.args.from.now c.loop-start.start (c.loop-start.start + n)) chunk)
    ∙ length-chunk c.args.from.now c.loop-start.start (omega (arith, long, within)) in
    record {
      inside = omega (arith, count, same, within);
      here = λ k few. (let page : (c.loop-start.start + k) / 4096
          ≡ c.loop-start.start / 4096 = omega (arith, aligned, few, count) in
          ap (λ i. is_lent_page c.fetch_at.new.self i) page ∙ c.fetch_at.ensures.there);
    }

pub loop-start-preserved-then-wanted-start : goal.loop-start-preserved-then-wanted-start
loop-start-preserved-then-wanted-start c =
    let before = c.loop-start.invariant.back in
    let bytes : List ℕ = lent_bytes c.args.self.now in
    let over : List ℕ = written_over c.args.wanted.now bytes c.args.from.now in
    let start = c.loop-start.start in
    let whole : length bytes % 4096 ≡ 0 = search (rules, c.args.self.now.whole, c.args.self.now.sized) in
    let size : length (lent_bytes c.loop-start.self) ≡ length bytes = before.put.size in
    let low : start < length bytes = search (rules, c.loop-start-test.true, c.loop-start.self.sized, size) in
    let long : length over ≡ length bytes = length-over c.args.wanted.now bytes c.args.from.now ∙ c.requires.long in
    let within : start + 256 ≤ length bytes =
    inside c.args.self.now over c.args.wanted.now start c.loop-start.self whole low long before in
    let aligned = before.aligned in
    let chunk = c.loop-start.invariant.chunk in
    let there : (a : ℕ) → start ≤ a → a < start + 256 → slice_index_or c.args.wanted.now (a / 4096) false ≡ true =
    λ a below above. (let page : a / 4096 ≡ start / 4096 = omega (arith, aligned, below, above) in
    ap (λ k. slice_index_or c.args.wanted.now k false) page ∙ c.if-wanted-start.true) in
    let part : slice_range over start (start + 256) ≡ slice_range c.args.from.now start (start + 256) =
    part_over c.args.wanted.now bytes c.args.from.now start (start + 256) c.requires.long (omega arith) within there in
    let read : c.read.new.into ≡ slice_range c.args.from.now start (start + 256) =
    c.read.ensures ∙ ap (λ n. slice_range c.args.from.now start (start + n)) chunk in
    let fits = c.requires.long in
    record {
      back = back_on c.args.self.now over c.args.wanted.now start c.loop-start.self whole low long before
          c.fetch_at.new.self c.store.new.self c.if-wanted-start.true c.fetch_at.ensures.paged_in
          c.fetch_at.ensures.there c.fetch_at.ensures.between c.fetch_at.ensures.memory c.store.ensures.rest
          (c.store.ensures.stored ∙ ap (λ xs. with_stored (lent_memory c.fetch_at.new.self) start xs)
          (read ∙ sym part));
      chunk = ap length read ∙ length-chunk c.args.from.now start (omega (arith, fits, within));
    }

pub loop-start-preserved : goal.loop-start-preserved
loop-start-preserved c =
    let before = c.loop-start.invariant.back in
    let bytes : List ℕ = lent_bytes c.args.self.now in
    let over : List ℕ = written_over c.args.wanted.now bytes c.args.from.now in
    let start = c.loop-start.start in
    let whole : length bytes % 4096 ≡ 0 = search (rules, c.args.self.now.whole, c.args.self.now.sized) in
    let size : length (lent_bytes c.loop-start.self) ≡ length bytes = before.put.size in
    let low : start < length bytes = search (rules, c.loop-start-test.true, c.loop-start.self.sized, size) in
    let long : length over ≡ length bytes = length-over c.args.wanted.now bytes c.args.from.now ∙ c.requires.long in
    record {
      back = back_past c.args.self.now over c.args.wanted.now start c.loop-start.self whole low long before
          (over_beside c.args.wanted.now bytes c.args.from.now c.requires.long) c.if-wanted-start.false;
      chunk = c.loop-start.invariant.chunk;
    }

pub returns-clause-bytes : goal.returns-clause-bytes
returns-clause-bytes c =
    let before = c.loop-start.invariant.back in
    let bytes = lent_bytes c.args.self.now in
    let size : length (lent_bytes c.loop-start.self) ≡ length bytes = before.put.size in
    let all : length bytes ≤ c.loop-start.start =
    search (rules, c.loop-start-test.false, c.loop-start.self.sized, size) in
    put_all c.loop-start.start (written_over c.args.wanted.now bytes c.args.from.now) bytes
    (lent_bytes c.loop-start.self) (length-over c.args.wanted.now bytes c.args.from.now ∙ c.requires.long) before.put
    all

pub returns-clause-paged_in : goal.returns-clause-paged_in
returns-clause-paged_in c =
    back_wanted c.args.self.now c.args.wanted.now c.loop-start.start c.loop-start.self
    c.loop-start.invariant.back.paged_in

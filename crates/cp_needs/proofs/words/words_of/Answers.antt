use Rattle.std.proofs.Common.{◌≡◌, ◌+◌, ◌*◌, ◌/◌, ◌<◌, ◌≤◌, ◌∙◌, List, ap, arith, length, refl, slice_index, sym, ℕ}
use Rattle.std.proofs.lemmas.List.{get_or_read, length-replicate}
use Rattle.cp_needs.specs.Words.{AreSteps}
use Rattle.cp_needs.proofs.Programs.{first_size, needed_at, none_of, reached_at, reached_first, steps_length}
use Rattle.cp_needs.proofs.Programs.{visited_size, visited_steps, words_all, words_held}
use Rattle.cp_needs.proofs.words.words_of.Goals as goal

pub words-init : goal.words-init
words-init g c =
    let m = g.S.Storage.memory c.args.storage.now in
    record {
      known = c.in_ok-follow.ensures.known;
      reached = reached_first m c.args.start _ c.follow.new.words.items c.new-words.ensures.items
          c.in_ok-follow.ensures.words;
      visited = λ i lt. (let no : ⊥ = omega (arith, lt) in absurd no);
      first = c.in_ok-follow.ensures.found refl;
      behind = omega arith;
      room = c.in_ok-follow.ensures.size ∙ ap (λ (seen : List ℕ). length seen) c.new-seen.ensures ∙ length-replicate _ 0
          ∙ ap (λ n. (n + 4095) / 4096 * 512) c.size.ensures.bytes;
    }

pub returns-clause-words : goal.returns-clause-words
returns-clause-words g c =
    let m = g.S.Storage.memory c.args.storage.now in
    let all : length c.words.words.items ≤ c.words.done =
    omega (arith, c.words-test.false, c.len.ensures, c.words.words.ok.0) in
    words_all m c.args.start (g.S.Storage.present c.args.storage.now) _ c.words.words.items c.requires.even
    c.words.invariant.room
    (λ i lt. c.words.invariant.visited i (omega (arith, lt, all))) c.words.invariant.first c.words.invariant.reached

pub returns-clause-held : goal.returns-clause-held
returns-clause-held g c =
    let m = g.S.Storage.memory c.args.storage.now in
    let all : length c.words.words.items ≤ c.words.done =
    omega (arith, c.words-test.false, c.len.ensures, c.words.words.ok.0) in
    words_held m c.args.start (g.S.Storage.present c.args.storage.now) _ c.words.words.items c.requires.even
    c.words.invariant.room
    (λ i lt. c.words.invariant.visited i (omega (arith, lt, all))) c.words.invariant.first

pub returns-in-Some-clause-needed : goal.returns-in-Some-clause-needed
returns-in-Some-clause-needed g c =
    let m = g.S.Storage.memory c.args.storage.now in
    let words = c.words.words.items in
    let lt : c.words.done < length words = omega (arith, c.words-test.true, c.len.ensures, c.words.words.ok.0) in
    let is : c.index-address.result.now ≡ slice_index words c.words.done =
    get_or_read words c.words.done _ lt c.index-address.ensures 0 in
    needed_at m c.args.start words c.words.done c.index-address.result.now (g.S.Storage.present c.args.storage.now)
    c.in_ok-page.field-0 c.in-Some.page c.in-Some.is c.words.invariant.reached lt is c.in_ok-page.ensures.asked
    c.in_ok-page.ensures.absent

pub words-preserved : goal.words-preserved
words-preserved g c =
    let m = g.S.Storage.memory c.args.storage.now in
    let present = g.S.Storage.present c.args.storage.now in
    let words = c.words.words.items in
    let new = c.visit.new.words.items in
    let address = c.index-address.result.now in
    let lt : c.words.done < length words = omega (arith, c.words-test.true, c.len.ensures, c.words.words.ok.0) in
    let is : address ≡ slice_index words c.words.done = get_or_read words c.words.done _ lt c.index-address.ensures 0 in
    let steps : AreSteps m address words new =
    none_of c.in_ok-page.field-0 c.in_default.is c.in_ok-page.ensures.steps in
    let size = c.in_ok-page.ensures.size in
    record {
      known = none_of c.in_ok-page.field-0 c.in_default.is c.in_ok-page.ensures.known;
      reached = reached_at m c.args.start words c.words.done address new lt is steps c.words.invariant.reached;
      visited = visited_steps m present _ address c.words.done words new steps lt (sym is)
          (visited_size m present _ _ words c.words.done size c.words.invariant.visited)
          (none_of c.in_ok-page.field-0 c.in_default.is c.in_ok-page.ensures.visited);
      first = first_size m _ _ c.args.start address words new size steps c.words.invariant.first;
      behind = (let long = steps_length m address words new steps in omega (arith, lt, long, c.visit.new.words.ok.0));
      room = size ∙ c.words.invariant.room;
    }

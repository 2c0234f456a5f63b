use Rattle.std.proofs.Common.{◌≡◌, ◌+◌, ◌<◌, true, false, length, rules}
use Rattle.std.specs.Prelude.{slice_index_or}
use Rattle.cp_dat.proofs.Copying.{placed_none, placed_page, placed_by, placed_once, placed_wanted}
use Rattle.cp_dat.proofs.dat.Dat.page_in_wanted.Goals.{then-wanted-page+in_ok-page_in_unpinned, else-wanted-page}
use Rattle.cp_dat.proofs.dat.Dat.page_in_wanted.Goals as goal

pub loop-page-init : goal.loop-page-init
loop-page-init c = placed_none c.args.self.now c.args.wanted.now c.requires.between

pub returns-in_err-page_in_unpinned-clause-paged_in : goal.returns-in_err-page_in_unpinned-clause-paged_in
returns-in_err-page_in_unpinned-clause-paged_in c =
    let it : slice_index_or c.args.wanted.now c.loop-page.page false ≡ true = search (rules, c.if-wanted-page.true) in
    placed_wanted c.args.self.now c.args.wanted.now (c.loop-page.page + 1) c.page_in_unpinned.new.self
    (placed_once c.args.self.now c.args.wanted.now c.loop-page.page c.loop-page.self c.page_in_unpinned.new.self it
    c.loop-page.invariant c.page_in_unpinned.ensures.paged_in)

pub returns-clause-paged_in : goal.returns-clause-paged_in
returns-clause-paged_in c =
    placed_wanted c.args.self.now c.args.wanted.now c.loop-page.page c.loop-page.self c.loop-page.invariant.paged_in

pub loop-page-preserved : goal.loop-page-preserved
loop-page-preserved c =
    let low : c.loop-page.page < length c.args.wanted.now = search (rules, c.loop-page-test.true) in
    elim c.if-wanted-page.branch [
      | then-wanted-page+in_ok-page_in_unpinned w ↦ (
          let there = w.in_ok-page_in_unpinned.ensures.there in
          rw w.self-is (placed_page c.args.self.now c.args.wanted.now c.loop-page.page c.loop-page.self
          w.page_in_unpinned.new.self
          low w.if-wanted-page.true c.loop-page.invariant there w.page_in_unpinned.ensures.paged_in
          w.page_in_unpinned.ensures.between
          w.page_in_unpinned.ensures.memory))
      | else-wanted-page w ↦ rw w.self-is
          (placed_by c.args.self.now c.args.wanted.now c.loop-page.page c.loop-page.self low w.if-wanted-page.false
          c.loop-page.invariant)
    ]

use Rattle.std.proofs.Common.{◌<◌, ◌+◌, ◌-◌, ◌*◌, ◌/◌, ◌++◌, ◌∙◌, ap, sym, arith, length, drop}
use Rattle.std.proofs.lemmas.List.{append-nil}
use Rattle.cp_frames.specs.Layout.{bytes_of}
use Rattle.cp_frames.specs.Saved.{pages_bytes}
use Rattle.cp_frames.proofs.Packed.{pages_on, pages_done}
use Rattle.cp_frames.proofs.pool.Frames.save_pages.Goals as goal

pub loop-page-preserved : goal.loop-page-preserved
loop-page-preserved c =
    let bytes = bytes_of c.args.self.now c.args.user in
    let page = c.loop-page.page in
    let lt : page < length bytes / 4096 = omega (arith, c.loop-page-test.true, c.size-count.ensures.bytes) in
    ap (λ l. l ++ pages_bytes (length bytes / 4096 - (page + 1)) (drop ((page + 1) * 4096) bytes))
    c.in_ok-save_page.ensures
    ∙ pages_on c.loop-page.out.items bytes (length bytes / 4096) page lt ∙ c.loop-page.invariant

pub returns : goal.returns
returns c =
    let bytes = bytes_of c.args.self.now c.args.user in
    let page = c.loop-page.page in
    let whole = c.size-count.ensures.whole in
    let many = c.size-count.ensures.bytes in
    let none = pages_done bytes (length bytes / 4096) page (omega arith) (omega (arith, whole, many))
    (omega (arith, c.loop-page-test.false, many)) in
    sym (append-nil c.loop-page.out.items) ∙ ap (λ l. c.loop-page.out.items ++ l) (sym none) ∙ c.loop-page.invariant

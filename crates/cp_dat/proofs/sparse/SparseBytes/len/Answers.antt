use Rattle.std.proofs.Common.{rules, ◌≡◌, ◌*◌, ◌∙◌, length, ap, sym, arith}
use Rattle.cp_dat.proofs.SparsePages.{length-sparse}
use Rattle.cp_dat.proofs.sparse.SparseBytes.len.Goals as goal

pub returns : goal.returns
returns c =
    let f = c.self.inside in
    let count : length c.args.self.now ≡ 4096 * length f.places.items =
    ap length (sym c.self.view_is) ∙ length-sparse f.written.items f.places.items in
    let len : c.len.result ≡ length f.places.items = search rules in
    omega (arith, count, len)

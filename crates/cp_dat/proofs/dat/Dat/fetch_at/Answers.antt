use Rattle.std.proofs.Common.{◌≡◌, ◌*◌, ◌/◌, ◌%◌, arith, rules}
use Rattle.cp_dat.specs.Lent.{keeps_stored_same}
use Rattle.cp_dat.proofs.Copying.{came_fewer, came_nothing}
use Rattle.cp_dat.proofs.dat.Dat.fetch_at.Goals as goal

pub returns-clause-paged_in : goal.returns-clause-paged_in
returns-clause-paged_in c =
    let aligned : c.args.start % 4096 ≡ 0 = search rules in
    came_fewer c.args.self.now c.page_in_unpinned.new.self (λ page. page ≡ c.args.start / 4096)
    (λ page. page * 4096 ≡ c.args.start) 1 1 (λ page same. omega (arith, same, aligned)) (omega arith)
    c.page_in_unpinned.ensures.paged_in

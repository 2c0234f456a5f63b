use Rattle.std.proofs.Common.{arith, ap, refl, ◌*◌}
use Rattle.std.proofs.lemmas.List.{get_or_read, get_or_past}
use Rattle.cp_frames.proofs.Layouts.{length-bytes_of}
use Rattle.cp_frames.proofs.Inside.{places_in, owners_in}
use Rattle.cp_frames.proofs.pool.Frames.size.Goals as goal

pub returns-then-user-len-clause-bytes : goal.returns-then-user-len-clause-bytes
returns-then-user-len-clause-bytes c =
    let long = length-bytes_of (places_in c.self.inside) (owners_in c.self.inside) c.self.inside.sizes.items c.args.user
    in
    rw (← c.self.view_is, long)
    (ap (λ n. n * 4096) (get_or_read c.self.inside.sizes.items _ _ (omega arith)
    (rw c.index-user.ensures.value at c.index.ensures) 0))

pub returns-else-user-len-clause-bytes : goal.returns-else-user-len-clause-bytes
returns-else-user-len-clause-bytes c =
    let long = length-bytes_of (places_in c.self.inside) (owners_in c.self.inside) c.self.inside.sizes.items c.args.user
    in
    let none = get_or_past c.self.inside.sizes.items c.args.user 0 (omega arith) in
    rw (← c.self.view_is, long, none) refl

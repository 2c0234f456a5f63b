use Rattle.std.proofs.Common.{ℕ, List, ◌*◌, ◌++◌, sym, ◌∙◌, ap, ap₂, arith, length-append}
use Rattle.s370_store.specs.Memory.{memory_of}
use Rattle.cp_dat.specs.Lent.{lent_bytes, lent_keys, lent_pool, user_of}
use Rattle.cp_ccw.specs.Layout.{framed_bytes, real_keys}
use Rattle.cp_ccw.proofs.Framed.{put_second}
use Rattle.cp_ccw.specs.Layout.{length-framed}
use Rattle.cp_ccw.proofs.real.Real.store_area.Goals as goal

pub put_at-requires : goal.put_at-requires
put_at-requires c =
    let d = c.args.self.now.dat.now in
    let f = length-framed (lent_bytes d) (lent_pool d).supply.owners (user_of d) in
    let a = length-append (framed_bytes (lent_bytes d) (lent_pool d).supply.owners (user_of d)) c.args.self.now.area.now
    in
    omega (arith, f, a, c.args.self.now.counted, c.requires.inside)

pub returns-clause-stored : goal.returns-clause-stored
returns-clause-stored c =
    let d = c.args.self.now.dat.now in
    let framed = framed_bytes (lent_bytes d) (lent_pool d).supply.owners (user_of d) in
    let f = length-framed (lent_bytes d) (lent_pool d).supply.owners (user_of d) in
    let a = length-append framed c.args.self.now.area.now in
    ap₂ memory_of (ap (λ (l : List ℕ). framed ++ l) c.put_at.ensures.bytes
    ∙ sym (put_second framed c.args.self.now.area.now c.args.from.now (c.args.self.now.frames * 4096) c.args.start
    (omega (arith, f, c.args.self.now.counted)) (omega arith)
    (omega (arith, f, a, c.args.self.now.counted, c.requires.inside))))
    (ap (λ (n : ℕ). real_keys (lent_bytes d) (lent_keys d) (lent_pool d).supply.owners (user_of d) n)
    c.put_at.ensures.size)

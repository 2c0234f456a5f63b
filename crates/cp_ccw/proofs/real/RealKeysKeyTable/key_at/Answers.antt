use Rattle.std.proofs.Common.{◌%◌, length, sym, ◌∙◌, ap, arith}
use Rattle.cp_dat.specs.Lent.{lent_bytes, lent_keys, lent_pool, user_of}
use Rattle.cp_ccw.specs.Layout.{key_of}
use Rattle.cp_ccw.proofs.Framed.{key_framed, key_area}
use Rattle.cp_ccw.proofs.real.RealKeysKeyTable.key_at.Goals as goal

pub returns-then-frame-self : goal.returns-then-frame-self
returns-then-frame-self c =
    let r = c.args.self.now.real.now in
    let d = r.dat.now in
    sym (key_area (lent_bytes d) (lent_keys d) (lent_pool d).supply.owners (user_of d) (length r.area.now) c.args.block
    (omega (arith, r.counted)))

pub returns : goal.returns
returns c =
    let r = c.args.self.now.real.now in
    let d = r.dat.now in
    c.key_of.ensures ∙ sym (key_framed (lent_bytes d) (lent_keys d) (lent_pool d).supply.owners (user_of d)
    (length r.area.now) c.args.block (omega (arith, r.counted))
    ∙ ap (λ o. key_of (lent_keys d) o (c.args.block % 2)) (sym c.page_at.ensures.page ∙ c.in-Some.is))

pub returns-in_default : goal.returns-in_default
returns-in_default c =
    let r = c.args.self.now.real.now in
    let d = r.dat.now in
    sym (key_framed (lent_bytes d) (lent_keys d) (lent_pool d).supply.owners (user_of d) (length r.area.now)
    c.args.block (omega (arith, r.counted))
    ∙ ap (λ o. key_of (lent_keys d) o (c.args.block % 2)) (sym c.page_at.ensures.page ∙ c.in_default.is))

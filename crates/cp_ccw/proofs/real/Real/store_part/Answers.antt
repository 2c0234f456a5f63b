use Rattle.std.proofs.Common.{refl, get_or, sym, ◌∙◌, ap, ap₂, arith}
use Rattle.s370_store.specs.Memory.{Memory, memory_of}
use Rattle.cp_dat.specs.Lent.{lent_bytes, lent_pool, user_of}
use Rattle.cp_frames.specs.Layout.{FrameSupply}
use Rattle.cp_ccw.specs.Shown.{keeps_real_keys, keeps_real_size}
use Rattle.cp_ccw.proofs.Framed.{away_put, real_put}
use Rattle.cp_ccw.proofs.real.Real.store_part.Goals as goal

pub returns-in-Some-clause-rest : goal.returns-in-Some-clause-rest
returns-in-Some-clause-rest c =
    let d = c.args.self.now.dat.now in
    record {
      lent = c.store.ensures.rest;
      away = λ a none. ap (λ (m : Memory). get_or m.bytes a 0) c.store.ensures.stored
          ∙ away_put (lent_bytes d) c.args.from.now (lent_pool d).supply.owners (user_of d) c.args.start c.in-Some.page
          (sym c.page_at.ensures.page ∙ c.in-Some.is) c.requires.one_page a none;
      same_dat = refl;
      same_area = refl;
      area = refl;
    }

pub returns-in-Some-clause-stored : goal.returns-in-Some-clause-stored
returns-in-Some-clause-stored c =
    let d = c.args.self.now.dat.now in
    let e = c.store.new.self in
    ap₂ memory_of (real_put (lent_bytes d) (lent_bytes e) c.args.self.now.area.now c.args.from.now
    (lent_pool d).supply.owners (lent_pool e).supply.owners (user_of d) (user_of e) c.args.start c.in-Some.page
    (sym c.page_at.ensures.page ∙ c.in-Some.is) (omega (arith, c.args.self.now.counted)) c.requires.one_page
    (ap (λ (m : Memory). m.bytes) c.store.ensures.stored)
    (ap (λ (s : FrameSupply). s.owners) c.store.ensures.rest.rest.same_supply) c.store.ensures.rest.rest.same_user)
    (keeps_real_keys _ _ (returns-in-Some-clause-rest c))

pub returns-in-Some-clause-size : goal.returns-in-Some-clause-size
returns-in-Some-clause-size c = keeps_real_size _ _ (returns-in-Some-clause-rest c)

pub returns-else-frame-self-clause-size : goal.returns-else-frame-self-clause-size
returns-else-frame-self-clause-size c = keeps_real_size c.args.self.now c.store_area.new.self c.store_area.ensures.rest

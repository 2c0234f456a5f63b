use Rattle.std.proofs.Common.{◌∙◌, ap, sym}
use Rattle.cp_frames.specs.Layout.{frame_of}
use Rattle.cp_dat.specs.Lent.{lent_pool, keeps_frames_on}
use Rattle.cp_dat.proofs.Brought.{brought_one, fewer_left}
use Rattle.cp_dat.proofs.dat.DatSupply.bring.Goals as goal

pub returns-in-Ok-clause-fewer : goal.returns-in-Ok-clause-fewer
returns-in-Ok-clause-fewer c =
    fewer_left c.args.self.now.user c.args.page.0 c.in-Ok.frame.0 (lent_pool c.args.self.now).supply
    (lent_pool c.bring.new.self).supply (lent_pool c.pin.new.self).supply c.requires.away c.in-Ok.ensures.brought
    (c.in-Ok.ensures.unpinned c.requires.away)
    (ap (λ u. frame_of (lent_pool c.bring.new.self).supply.owners u c.args.page.0)
    (sym c.in-Ok.ensures.rest.same_user) ∙ c.in-Ok.ensures.there) c.pin.ensures.supply

pub returns-in-Ok-clause-brought : goal.returns-in-Ok-clause-brought
returns-in-Ok-clause-brought c =
    record {
      kept = keeps_frames_on c.args.self.now c.bring.new.self c.pin.new.self c.in-Ok.ensures.rest c.pin.ensures.rest;
      paged = brought_one c.args.self.now.user c.args.page.0 c.in-Ok.frame.0 (lent_pool c.args.self.now).supply
          (lent_pool c.bring.new.self).supply (lent_pool c.pin.new.self).supply c.requires.away c.in-Ok.ensures.brought
          (c.in-Ok.ensures.unpinned c.requires.away)
          (ap (λ u. frame_of (lent_pool c.bring.new.self).supply.owners u c.args.page.0)
          (sym c.in-Ok.ensures.rest.same_user) ∙ c.in-Ok.ensures.there) c.pin.ensures.supply;
    }

use Rattle.cp_frames.proofs.Mapped.{walk_is}
use Rattle.cp_frames.proofs.Inside.{users_in, page_within}
use Rattle.cp_frames.proofs.pool.Frames.tables.Goals as goal

pub returns-clause-size : goal.returns-clause-size
returns-clause-size c = rw (← c.self.view_is, c.deref.ensures.value, users_in c.self.inside)
    c.self.invariant.mapped.room

pub returns-clause-map : goal.returns-clause-map
returns-clause-map c = rw (← c.self.view_is, c.deref.ensures.value, users_in c.self.inside)
    (λ user page in_user in_page.
    walk_is c.self.inside.owners.items c.self.inside.sizes.items c.self.inside.tables.items user page
    c.self.invariant.mapped in_user in_page (page_within c.self.inside user c.self.invariant))

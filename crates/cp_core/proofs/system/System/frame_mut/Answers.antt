use Rattle.std.proofs.Common.{◌≡◌, ◌∙◌, ap, refl, subst, sym, Option, None, Some}
use Rattle.std.specs.Prelude.{IfSome}
use Rattle.cp_frames.specs.Layout.{Pool}
use Rattle.cp_core.specs.System.{SystemView}
use Rattle.cp_core.specs.Owners.{AreOwners}
use Rattle.cp_core.specs.Whole.{IsSystem}
use Rattle.cp_core.specs.Loan.{written_frame}
use Rattle.cp_core.proofs.Loans.{seen_with, seen_written, system_written}
use Rattle.cp_core.specs.UserMachines.{seats_on}
use Rattle.cp_core.proofs.system.System.frame_mut.Goals as goal

pub invariant_of-self-lent : goal.invariant_of-self-lent
invariant_of-self-lent c =
    let seats = (seats_on c.self.inside.queues c.self.inside.users.items) in
    let users = c.self.inside.directory in
    let volumes = c.self.inside.volumes in
    let pool = c.self.inside.frames in
    let fits : (p q : Pool) → p ≡ q → IsSystem seats volumes q users
    → IsSystem seats volumes p users
    × AreOwners c.self.inside.users.items c.self.inside.queues =
    λ p q e whole. (subst (λ (p : Pool). IsSystem seats volumes p users) (sym e) whole, c.self.invariant.1) in
    λ lent. (
      λ w. fits (c.frame_mut.follows.lender w) _ (c.frame_mut.follows.holds w)
          (system_written seats volumes pool users c.args.frame.0 w c.self.invariant.0),
      fits c.frame_mut.follows.lender-at-none pool c.frame_mut.follows.holds-at-none c.self.invariant.0,
    )

some_so : {X : Type 0} (o : Option X) (P Q : X → Type 0) → ((x : X) → P x → Q x) → IfSome o P → IfSome o Q
some_so None P Q f h = tt
some_so (Some x) P Q f h = f x h

pub returns : goal.returns
returns c =
    let seats = (seats_on c.self.inside.queues c.self.inside.users.items) in
    let users = c.self.inside.directory in
    let volumes = c.self.inside.volumes in
    let pool = c.self.inside.frames in
    let see = seen_with seats users c.self.inside.files.items volumes c.self.inside.is_spent in (
      (
        refl,
        λ w. ap see (c.frame_mut.follows.holds w) ∙
            (seen_written seats users c.self.inside.files.items volumes c.self.inside.is_spent pool c.args.frame.0 w ∙
            ap (λ (s : SystemView). written_frame s c.args.frame.0 w) c.self.view_is),
        ap see c.frame_mut.follows.holds-at-none ∙ c.self.view_is,
      ),
      record {
        writes_back = tt;
        content = rw (← c.self.view_is)
            (some_so c.frame_mut.result _ _
            (λ lent same. sym (seen_written seats users c.self.inside.files.items volumes c.self.inside.is_spent pool
            c.args.frame.0 lent.now) ∙ ap see same) c.frame_mut.ensures.content);
        some = rw (← c.self.view_is) c.frame_mut.ensures.some;
      },
    )

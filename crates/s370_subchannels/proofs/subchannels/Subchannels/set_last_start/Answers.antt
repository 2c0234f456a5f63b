use Rattle.std.proofs.Common.{◌∙◌, ◌≡◌, Some, sym, ap, arith, List, length-set}
use Rattle.std.specs.List.{position}
use Rattle.s370_subchannels.specs.declared.subchannel.Subchannel.{Subchannel}
use Rattle.s370_subchannels.specs.Subchannels.{is_at, pending_masks, with_last_start, last_started}
use Rattle.s370_subchannels.proofs.Lists.{a_place, ascending_set, no_place}
use Rattle.s370_subchannels.proofs.subchannels.Subchannels.set_last_start.Goals as goal

pub invariant_of-self : goal.invariant_of-self
invariant_of-self c =
    let old = c.self.inside.list.items in
    let x = c.index_mut.result.now in
    let e : old ≡ c.args.self.now = c.self.view_is in
    let at : position (is_at c.args.device) old ≡ Some c.in-Some.place = ap (position (is_at c.args.device)) e
    ∙ (sym c.place_of.ensures ∙ c.in-Some.is) in
    let p = a_place c.args.device (last_started c.args.number) old c.in-Some.place x at c.index_mut.ensures.value in (
      c.pending_masks-self-inside.ensures ∙ ap pending_masks c.as_slice.ensures.value,
      ascending_set old c.in-Some.place (last_started c.args.number x) x c.self.invariant.1 p.2
          (ap (λ (y : Subchannel). y.address) c.index_mut.ensures.value),
      omega (arith, c.self.invariant.2, length-set old c.in-Some.place (last_started c.args.number x)),
    )

pub returns-in-Some : goal.returns-in-Some
returns-in-Some c =
    let old = c.self.inside.list.items in
    let e : old ≡ c.args.self.now = c.self.view_is in
    let at : position (is_at c.args.device) old ≡ Some c.in-Some.place = ap (position (is_at c.args.device)) e
    ∙ (sym c.place_of.ensures ∙ c.in-Some.is) in
    (a_place c.args.device (last_started c.args.number) old c.in-Some.place c.index_mut.result.now at
    c.index_mut.ensures.value).1 ∙ ap (λ (ss : List Subchannel). with_last_start c.args.device c.args.number ss) e

pub returns-in-None : goal.returns-in-None
returns-in-None c = sym (no_place c.args.device (last_started c.args.number) c.args.self.now (sym c.place_of.ensures
    ∙ c.in-None.is)).1

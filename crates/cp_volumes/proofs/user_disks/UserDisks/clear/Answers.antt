use Rattle.std.proofs.Common.{◌≡◌, ◌∙◌, ap, arith, List, map, subst, sym}
use Rattle.std.specs.Vec.{with_items}
use Rattle.std.proofs.lemmas.List.{with_items_is}
use Rattle.machine_channels.specs.Disks.{cleared_disk}
use Rattle.cp_volumes.specs.Shared.{DisksValue, IsUsers, KeepsOtherDisks, SharedMinidisk, Placement, cleared_minidisk}
use Rattle.cp_volumes.specs.Shared.{disks_on, seen, placements_of}
use Rattle.cp_volumes.proofs.Seats.{neighbours_still, cleared_seen, cleared_placements}
use Rattle.cp_volumes.proofs.user_disks.UserDisks.clear.Goals as goal

pub invariant_of-self : goal.invariant_of-self
invariant_of-self c =
    let ds = c.self.inside.minidisks.items in
    let new = c.clear_each.new.minidisks in
    let same : (with_items c.self.inside.minidisks new).items ≡ new =
    with_items_is c.self.inside.minidisks new (omega (arith, c.clear_each.auto.minidisks, c.deref_mut.ensures.len))
    in
    let whole : (with_items c.self.inside.minidisks new).items ≡ map cleared_minidisk ds =
    same ∙ c.clear_each.ensures ∙ ap (map cleared_minidisk) c.deref_mut.ensures.value in
    subst (λ (xs : List SharedMinidisk). IsUsers c.self.inside.volumes (placements_of xs)) (sym whole)
    (subst (λ (s : List Placement). IsUsers c.self.inside.volumes s) (sym (cleared_placements ds)) c.self.invariant)

pub returns-clause-cleared : goal.returns-clause-cleared
returns-clause-cleared c =
    let ds = c.self.inside.minidisks.items in
    let new = c.clear_each.new.minidisks in
    let same : (with_items c.self.inside.minidisks new).items ≡ new =
    with_items_is c.self.inside.minidisks new (omega (arith, c.clear_each.auto.minidisks, c.deref_mut.ensures.len))
    in
    let whole : (with_items c.self.inside.minidisks new).items ≡ map cleared_minidisk ds =
    same ∙ c.clear_each.ensures ∙ ap (map cleared_minidisk) c.deref_mut.ensures.value in
    ap (disks_on c.self.inside.volumes) whole ∙ cleared_seen c.self.inside.volumes ds ∙ ap
    (λ (d : DisksValue). map cleared_disk (seen d)) c.self.view_is

pub returns-clause-others : goal.returns-clause-others
returns-clause-others c =
    let ds = c.self.inside.minidisks.items in
    let new = c.clear_each.new.minidisks in
    let volumes = c.self.inside.volumes in
    let same : (with_items c.self.inside.minidisks new).items ≡ new =
    with_items_is c.self.inside.minidisks new (omega (arith, c.clear_each.auto.minidisks, c.deref_mut.ensures.len))
    in
    let whole : (with_items c.self.inside.minidisks new).items ≡ map cleared_minidisk ds =
    same ∙ c.clear_each.ensures ∙ ap (map cleared_minidisk) c.deref_mut.ensures.value in
    let left : DisksValue = record { volumes = volumes; minidisks = (with_items c.self.inside.minidisks new).items } in
    let was : DisksValue = record { volumes = volumes; minidisks = ds } in
    subst (λ (d : DisksValue). KeepsOtherDisks d left) c.self.view_is
    (subst (λ (xs : List SharedMinidisk). KeepsOtherDisks was (record { volumes = volumes; minidisks = xs }))
    (sym whole) (neighbours_still volumes ds (map cleared_minidisk ds) (cleared_placements ds)))

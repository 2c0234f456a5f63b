use Rattle.std.proofs.Common.{◌≡◌, List, ℕ, Option, None, Some, ◌∙◌, ◌++◌, ap, refl, arith, sym, set}
use Rattle.std.specs.Prelude.{IfSome}
use Rattle.std.proofs.lemmas.List.{set-get_or}
use Rattle.cp_frames.specs.Layout.{FrameSupply, Pool, storages_of, written_frame}
use Rattle.cp_frames.proofs.Layouts.{written-view}
use Rattle.cp_frames.proofs.pool.Frames.frame_mut.Goals as goal

some_so : {X : Type 0} (o : Option X) (P Q : X → Type 0) → ((x : X) → P x → Q x) → IfSome o P → IfSome o Q
some_so None P Q f h = tt
some_so (Some x) P Q f h = f x h

pub returns : goal.returns
returns c =
    let f = c.self.inside in
    let i = c.args.frame.0 in
    let supply : FrameSupply =
    record {
      owners = f.owners.items;
      slots = f.slot_owners.items;
      pins = f.pins;
      order = f.order;
      page_ins = f.page_ins;
    } in
    let over : List (List ℕ)
    → Pool = λ frames. record {
      storages = storages_of (frames ++ f.slots.items)
          (f.owners.items ++ f.slot_owners.items) f.sizes.items;
      supply = supply;
    } in
    let view : (w : List ℕ) → over (set f.frames.items i w) ≡ written_frame (over f.frames.items) i w =
    λ w. written-view f.frames.items f.slots.items f.owners.items f.slot_owners.items f.sizes.items i w supply
    c.self.invariant.whole c.self.invariant.frame_room refl in (
      (refl, λ w. view w ∙ ap (λ (g : Pool). written_frame g i w) c.self.view_is, c.self.view_is),
      record {
        writes_back = tt;
        content = rw (← c.self.view_is)
            (some_so c.get_mut.result _ _
            (λ lent same. sym (view lent.now) ∙ ap over
            (ap (set f.frames.items i) same ∙ set-get_or f.frames.items i lent.now)) c.get_mut.ensures.value);
        some = rw (← c.self.view_is) (
          λ h. omega (arith, c.get_mut.ensures.variant.0 h, c.self.invariant.frame_room, c.self.inside.frames.ok.0),
          λ h. c.get_mut.ensures.variant.1 (omega (arith, c.self.invariant.frame_room, c.self.inside.frames.ok.0)),
        );
      },
    )

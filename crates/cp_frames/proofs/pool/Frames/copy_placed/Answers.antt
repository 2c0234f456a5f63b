use Rattle.std.proofs.Common.{◌≡◌, Some, ℕ, ◌/◌, ◌%◌, ◌≤◌, ◌+◌, ◌++◌, List, [], length, get_or, take, drop, ap, sym}
use Rattle.std.proofs.Common.{subst, refl, ◌∙◌, arith}
use Rattle.std.proofs.Math.ListN.{set}
use Rattle.std.proofs.lemmas.List.{get_or_append_left, length-set}
use Rattle.std.specs.List.{slice_range}
use Rattle.s370_store.specs.Access.{put}
use Rattle.cp_frames.specs.Layout.{frame_of, storages_of}
use Rattle.cp_frames.proofs.Copied.{copied, copied_among, items_are}
use Rattle.cp_frames.proofs.Inside.{bytes_in, of_user, slot_in, places_in, owners_in}
use Rattle.cp_frames.proofs.pool.Frames.copy_placed.Goals as goal

pub copy_over-requires-clause-source : goal.copy_over-requires-clause-source
copy_over-requires-clause-source c =
    let f = c.self.inside in
    let long : c.args.from + c.args.count ≤ length (bytes_in f c.args._user) =
    rw (← c.self.view_is) at c.requires.source in
    let there : frame_of f.owners.items c.args._user (c.args.from / 4096) ≡ Some (c.args.source / 4096) =
    rw (← c.self.view_is) at c.requires.source_there in
    let slot = slot_in f c.args._user (c.args.from / 4096) (c.args.source / 4096) c.self.invariant there in
    rw c.deref_mut.ensures.value slot.room

pub copy_over-requires-clause-target : goal.copy_over-requires-clause-target
copy_over-requires-clause-target c =
    let f = c.self.inside in
    let long_2 : c.args.to + c.args.count ≤ length (bytes_in f c.args._user) =
    rw (← c.self.view_is) at c.requires.target in
    let there_2 : frame_of f.owners.items c.args._user (c.args.to / 4096) ≡ Some (c.args.target / 4096) =
    rw (← c.self.view_is) at c.requires.target_there in
    let slot_2 = slot_in f c.args._user (c.args.to / 4096) (c.args.target / 4096) c.self.invariant there_2 in
    rw c.deref_mut.ensures.value slot_2.room

pub returns-clause-bytes : goal.returns-clause-bytes
returns-clause-bytes c =
    let f = c.self.inside in
    let items : List (List ℕ) = f.frames.items in
    let long : c.args.from + c.args.count ≤ length (bytes_in f c.args._user) =
    rw (← c.self.view_is) at c.requires.source in
    let there : frame_of f.owners.items c.args._user (c.args.from / 4096) ≡ Some (c.args.source / 4096) =
    rw (← c.self.view_is) at c.requires.source_there in
    let slot = slot_in f c.args._user (c.args.from / 4096) (c.args.source / 4096) c.self.invariant there in
    let long_2 : c.args.to + c.args.count ≤ length (bytes_in f c.args._user) =
    rw (← c.self.view_is) at c.requires.target in
    let there_2 : frame_of f.owners.items c.args._user (c.args.to / 4096) ≡ Some (c.args.target / 4096) =
    rw (← c.self.view_is) at c.requires.target_there in
    let slot_2 = slot_in f c.args._user (c.args.to / 4096) (c.args.target / 4096) c.self.invariant there_2 in
    let xs : List ℕ = slice_range (bytes_in f c.args._user) c.args.from (c.args.from + c.args.count) in
    let now : List (List ℕ) → List (List ℕ) =
    λ fs. set fs (c.args.target / 4096)
    (put (get_or fs (c.args.target / 4096) []) (c.args.to % 4096)
    (slice_range (get_or fs (c.args.source / 4096) []) (c.args.from % 4096) (c.args.from % 4096 + c.args.count))) in
    let made : c.copy_over.new.frames ≡ now items =
    (rw (c.requires.source_offset, c.requires.target_offset) at c.copy_over.ensures.made) ∙ ap now
    c.deref_mut.ensures.value in
    let all : length c.copy_over.new.frames ≡ length items = ap length made ∙ rw length-set refl in
    let left : take f.frames.len (c.copy_over.new.frames ++ drop (length c.copy_over.new.frames) items)
    ++ f.slots.items ≡ now (places_in f) =
    ap (λ (fs : List (List ℕ)). fs ++ f.slots.items)
    (items_are items c.copy_over.new.frames f.frames.len (omega (arith, all, f.frames.ok.0)) ∙ made)
    ∙ copied_among items f.slots.items (c.args.source / 4096) (c.args.target / 4096) c.args.from c.args.to c.args.count
    slot.room slot_2.room in
    let full : length (get_or (places_in f) (c.args.source / 4096) []) ≡ 4096 =
    ap length (get_or_append_left items f.slots.items [] (c.args.source / 4096) slot.room) ∙
    (rw c.deref_mut.ensures.value at c.copy_over.ensures.full_source) in
    let full_2 : length (get_or (places_in f) (c.args.target / 4096) []) ≡ 4096 =
    ap length (get_or_append_left items f.slots.items [] (c.args.target / 4096) slot_2.room) ∙
    (rw c.deref_mut.ensures.value at c.copy_over.ensures.full) in
    let stored = copied (places_in f) (owners_in f) f.sizes.items c.args._user c.args.from c.args.to
    (c.args.source / 4096) (c.args.target / 4096) c.args.count c.self.invariant.whole
    (of_user f c.args._user c.args.from long c.requires.some) slot.there slot_2.there
    full full_2 c.requires.page_of_source c.requires.page_of_target long long_2 in
    rw (← c.self.view_is) (subst
    (λ (fs : List (List ℕ)). get_or (storages_of fs (owners_in f) f.sizes.items) c.args._user []
    ≡ put (bytes_in f c.args._user) c.args.to xs) (sym left) stored.bytes)

pub returns-clause-size : goal.returns-clause-size
returns-clause-size c =
    let f = c.self.inside in
    let items : List (List ℕ) = f.frames.items in
    let long : c.args.from + c.args.count ≤ length (bytes_in f c.args._user) =
    rw (← c.self.view_is) at c.requires.source in
    let there : frame_of f.owners.items c.args._user (c.args.from / 4096) ≡ Some (c.args.source / 4096) =
    rw (← c.self.view_is) at c.requires.source_there in
    let slot = slot_in f c.args._user (c.args.from / 4096) (c.args.source / 4096) c.self.invariant there in
    let long_2 : c.args.to + c.args.count ≤ length (bytes_in f c.args._user) =
    rw (← c.self.view_is) at c.requires.target in
    let there_2 : frame_of f.owners.items c.args._user (c.args.to / 4096) ≡ Some (c.args.target / 4096) =
    rw (← c.self.view_is) at c.requires.target_there in
    let slot_2 = slot_in f c.args._user (c.args.to / 4096) (c.args.target / 4096) c.self.invariant there_2 in
    let xs : List ℕ = slice_range (bytes_in f c.args._user) c.args.from (c.args.from + c.args.count) in
    let now : List (List ℕ) → List (List ℕ) =
    λ fs. set fs (c.args.target / 4096)
    (put (get_or fs (c.args.target / 4096) []) (c.args.to % 4096)
    (slice_range (get_or fs (c.args.source / 4096) []) (c.args.from % 4096) (c.args.from % 4096 + c.args.count))) in
    let made : c.copy_over.new.frames ≡ now items =
    (rw (c.requires.source_offset, c.requires.target_offset) at c.copy_over.ensures.made) ∙ ap now
    c.deref_mut.ensures.value in
    let all : length c.copy_over.new.frames ≡ length items = ap length made ∙ rw length-set refl in
    let left : take f.frames.len (c.copy_over.new.frames ++ drop (length c.copy_over.new.frames) items)
    ++ f.slots.items ≡ now (places_in f) =
    ap (λ (fs : List (List ℕ)). fs ++ f.slots.items)
    (items_are items c.copy_over.new.frames f.frames.len (omega (arith, all, f.frames.ok.0)) ∙ made)
    ∙ copied_among items f.slots.items (c.args.source / 4096) (c.args.target / 4096) c.args.from c.args.to c.args.count
    slot.room slot_2.room in
    let full : length (get_or (places_in f) (c.args.source / 4096) []) ≡ 4096 =
    ap length (get_or_append_left items f.slots.items [] (c.args.source / 4096) slot.room) ∙
    (rw c.deref_mut.ensures.value at c.copy_over.ensures.full_source) in
    let full_2 : length (get_or (places_in f) (c.args.target / 4096) []) ≡ 4096 =
    ap length (get_or_append_left items f.slots.items [] (c.args.target / 4096) slot_2.room) ∙
    (rw c.deref_mut.ensures.value at c.copy_over.ensures.full) in
    let stored = copied (places_in f) (owners_in f) f.sizes.items c.args._user c.args.from c.args.to
    (c.args.source / 4096) (c.args.target / 4096) c.args.count c.self.invariant.whole
    (of_user f c.args._user c.args.from long c.requires.some) slot.there slot_2.there
    full full_2 c.requires.page_of_source c.requires.page_of_target long long_2 in
    rw (← c.self.view_is) (subst
    (λ (fs : List (List ℕ)). length (get_or (storages_of fs (owners_in f) f.sizes.items) c.args._user [])
    ≡ length (bytes_in f c.args._user)) (sym left) stored.size)

pub returns-clause-others : goal.returns-clause-others
returns-clause-others c =
    let f = c.self.inside in
    let items : List (List ℕ) = f.frames.items in
    let long : c.args.from + c.args.count ≤ length (bytes_in f c.args._user) =
    rw (← c.self.view_is) at c.requires.source in
    let there : frame_of f.owners.items c.args._user (c.args.from / 4096) ≡ Some (c.args.source / 4096) =
    rw (← c.self.view_is) at c.requires.source_there in
    let slot = slot_in f c.args._user (c.args.from / 4096) (c.args.source / 4096) c.self.invariant there in
    let long_2 : c.args.to + c.args.count ≤ length (bytes_in f c.args._user) =
    rw (← c.self.view_is) at c.requires.target in
    let there_2 : frame_of f.owners.items c.args._user (c.args.to / 4096) ≡ Some (c.args.target / 4096) =
    rw (← c.self.view_is) at c.requires.target_there in
    let slot_2 = slot_in f c.args._user (c.args.to / 4096) (c.args.target / 4096) c.self.invariant there_2 in
    let xs : List ℕ = slice_range (bytes_in f c.args._user) c.args.from (c.args.from + c.args.count) in
    let now : List (List ℕ) → List (List ℕ) =
    λ fs. set fs (c.args.target / 4096)
    (put (get_or fs (c.args.target / 4096) []) (c.args.to % 4096)
    (slice_range (get_or fs (c.args.source / 4096) []) (c.args.from % 4096) (c.args.from % 4096 + c.args.count))) in
    let made : c.copy_over.new.frames ≡ now items =
    (rw (c.requires.source_offset, c.requires.target_offset) at c.copy_over.ensures.made) ∙ ap now
    c.deref_mut.ensures.value in
    let all : length c.copy_over.new.frames ≡ length items = ap length made ∙ rw length-set refl in
    let left : take f.frames.len (c.copy_over.new.frames ++ drop (length c.copy_over.new.frames) items)
    ++ f.slots.items ≡ now (places_in f) =
    ap (λ (fs : List (List ℕ)). fs ++ f.slots.items)
    (items_are items c.copy_over.new.frames f.frames.len (omega (arith, all, f.frames.ok.0)) ∙ made)
    ∙ copied_among items f.slots.items (c.args.source / 4096) (c.args.target / 4096) c.args.from c.args.to c.args.count
    slot.room slot_2.room in
    let full : length (get_or (places_in f) (c.args.source / 4096) []) ≡ 4096 =
    ap length (get_or_append_left items f.slots.items [] (c.args.source / 4096) slot.room) ∙
    (rw c.deref_mut.ensures.value at c.copy_over.ensures.full_source) in
    let full_2 : length (get_or (places_in f) (c.args.target / 4096) []) ≡ 4096 =
    ap length (get_or_append_left items f.slots.items [] (c.args.target / 4096) slot_2.room) ∙
    (rw c.deref_mut.ensures.value at c.copy_over.ensures.full) in
    let stored = copied (places_in f) (owners_in f) f.sizes.items c.args._user c.args.from c.args.to
    (c.args.source / 4096) (c.args.target / 4096) c.args.count c.self.invariant.whole
    (of_user f c.args._user c.args.from long c.requires.some) slot.there slot_2.there
    full full_2 c.requires.page_of_source c.requires.page_of_target long long_2 in
    rw (← c.self.view_is) (subst
    (λ (fs : List (List ℕ)). storages_of fs (owners_in f) f.sizes.items
    ≡ set (storages_of (places_in f) (owners_in f) f.sizes.items) c.args._user
    (get_or (storages_of fs (owners_in f) f.sizes.items) c.args._user [])) (sym left) stored.others)

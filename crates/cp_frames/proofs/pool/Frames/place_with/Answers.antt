use Rattle.std.proofs.Common.{◌≡◌, ◌/◌, ◌<◌, ap, arith, length, refl, sym, ◌∙◌, Some}
use Rattle.std.specs.Prelude.{IsSome}
use Rattle.std.proofs.lemmas.List.{get_or_read}
use Rattle.cp_frames.specs.Layout.{frame_of}
use Rattle.cp_frames.proofs.Tables.{has_frame}
use Rattle.cp_frames.proofs.Inside.{bytes_in, look_place, looked_at}
use Rattle.cp_frames.proofs.pool.Frames.place_with.Goals as goal

pub index-requires : goal.index-requires
index-requires c =
    let f = c.self.inside in
    let inside : c.args.start < length (bytes_in f c.args.user) = rw (← c.self.view_is) at c.requires.inside in
    let at = look_place f c.args.user c.args.start c.self.invariant inside in
    omega (arith, at.room, f.lookup.ok.0, c.entry_of.ensures)

pub returns : goal.returns
returns c =
    let f = c.self.inside in
    let start = c.args.start in
    let kept = c.self.invariant in
    let inside : start < length (bytes_in f c.args.user) = rw (← c.self.view_is) at c.requires.inside in
    let present : IsSome (frame_of f.owners.items c.args.user (start / 4096)) =
    rw (← c.self.view_is) at c.requires.present in
    let at = look_place f c.args.user start kept inside in
    let read = get_or_read f.lookup.items _ _ at.room (rw c.entry_of.ensures at c.index.ensures) 0 in
    let reported = looked_at f c.args.user start c.index.result.now kept inside read in
    let found = has_frame f.owners.items c.args.user (start / 4096) (frame_of f.owners.items c.args.user (start / 4096))
    refl present kept.looked.few c.index.result.now reported in
    let place = c.place_in.ensures found.frame found.low (omega (arith, at.of_page)) found.reported in
    let frame : c.place_in.result / 4096 ≡ found.frame = omega (arith, place) in
    rw (← c.self.view_is) (record { there = found.there ∙ ap Some (sym frame); offset = omega (arith, place) })

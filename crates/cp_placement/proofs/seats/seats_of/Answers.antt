use Rattle.std.proofs.Common.{◌≡◌, ◌∙◌, ◌+◌, ◌++◌, List, [], ◌∷◌, ap, sym, take}
use Rattle.std.proofs.lemmas.List.{map-append, take_more}
use Rattle.std.proofs.lemmas.List.Elements.{All-push}
use Rattle.ckd_volume.specs.Volume.{VolumeFormat}
use Rattle.cp_directory.specs.declared.minidisk.MinidiskStatement.{MinidiskStatement}
use Rattle.cp_volumes.specs.Shared.{SharedMinidisk}
use Rattle.cp_placement.specs.Seating.{AreLawful, IsLawful, seat_of, seats_of}
use Rattle.cp_placement.proofs.seats.seats_of.Goals as goal

-- one minidisk more
seats_more : (volumes : List VolumeFormat) (ms : List MinidiskStatement) (m : MinidiskStatement)
    (seats : List SharedMinidisk)
    (seat : SharedMinidisk) → seats ≡ seats_of volumes ms → seat ≡ seat_of volumes m
    → seats ++ seat ∷ [] ≡ seats_of volumes (ms ++ m ∷ [])
seats_more volumes ms m seats seat h s = rw (h, s) (sym (map-append (seat_of volumes) ms (m ∷ [])))

pub loop-minidisk-preserved : goal.loop-minidisk-preserved
loop-minidisk-preserved c =
    let volumes = c.args.volumes.now in
    let minidisks = c.args.minidisks.now in
    let i = c.loop-minidisk.minidisk-index in
    let m = c.minidisk-item.result in
    let taken : take (i + 1) minidisks ≡ take i minidisks
    ++ m ∷ [] = take_more minidisks i m c.loop-minidisk-test.true ∙ ap
    (λ (x : MinidiskStatement). take i minidisks ++ x ∷ []) (sym c.minidisk-item.is) in
    let lawful : AreLawful (take i minidisks ++ m ∷ []) =
    All-push IsLawful (take i minidisks) m c.loop-minidisk.invariant.1 c.seat_of.ensures.lawful in
    rw (c.in_ok-push.ensures.items, taken) (
      seats_more volumes (take i minidisks) m c.loop-minidisk.seats.items c.seat_of.result
          c.loop-minidisk.invariant.0 c.seat_of.ensures.seat,
      lawful,
    )

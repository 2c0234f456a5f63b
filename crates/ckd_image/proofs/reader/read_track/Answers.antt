use Rattle.std.proofs.Common.{◌-◌, length, take, drop, get_or, subst, arith}
use Rattle.std.proofs.lemmas.List.{take_rest}
use Rattle.ckd_image.specs.Parts.{ReadRecords, EndsInRecord}
use Rattle.ckd_image.proofs.Tracks.{full_track, cut_records, cut_home}
use Rattle.ckd_image.proofs.reader.read_track.Goals as goal

pub returns-then-bytes-lt6-clause-err : goal.returns-then-bytes-lt6-clause-err
returns-then-bytes-lt6-clause-err c = cut_home c.args.bytes.now c.if-bytes-lt6.true

pub returns-in-Some-false-default-clause-err : goal.returns-in-Some-false-default-clause-err
returns-in-Some-false-default-clause-err c =
    let l = c.args.bytes.now in
    let behind = c.in-Some-false-default.field-0-1.now in
    let some : ReadRecords c.set_home.new.self c.read_records.new.track (get_or l 5 0)
    (take (length l - 6) (drop 6 l)) c.in-Some-false-default.field-0-0 behind = c.in-Some-false-default.ensures.some
    in
    full_track l behind c.set_home.new.self c.read_records.new.track c.if-bytes-lt6.false
    (omega (arith, c.type_inv.bytes 5))
    (subst (λ b. ReadRecords c.set_home.new.self c.read_records.new.track (get_or l 5 0) (drop 6 l) b behind)
    c.in-Some-false-default.field-0-0-test
    (subst (λ x. ReadRecords c.set_home.new.self c.read_records.new.track
    (get_or l 5 0) x c.in-Some-false-default.field-0-0 behind) (take_rest l 6) some))

pub returns-in-None-clause-err : goal.returns-in-None-clause-err
returns-in-None-clause-err c =
    let l = c.args.bytes.now in
    let none : EndsInRecord (get_or l 5 0) (take (length l - 6) (drop 6 l)) = c.in-None.ensures.none in
    cut_records l c.if-bytes-lt6.false (omega (arith, c.type_inv.bytes 5))
    (subst (EndsInRecord (get_or l 5 0)) (take_rest l 6) none)

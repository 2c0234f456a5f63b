use Rattle.std.proofs.Common.{◌*◌, length, drop, Err, ap, subst, sym, ◌∙◌}
use Rattle.std.proofs.lemmas.List.{take_rest}
use Rattle.std.proofs.lemmas.Result.{err_from_is_err_and}
use Rattle.ckd_volume.specs.Volume.{blank_cylinders}
use Rattle.ckd_image.specs.Reading.{IsReadingOrMemory, end_of}
use Rattle.ckd_image.specs.Parts.{IsTracksFault, ReadTracks}
use Rattle.ckd_image.proofs.Volumes.{blank_count}
use Rattle.ckd_image.proofs.Images.{fault_read, tracks_fault, all_read, image_read, end_fault}
use Rattle.ckd_image.proofs.reader.volume_of.Goals as goal

pub read_tracks-requires : goal.read_tracks-requires
read_tracks-requires c =
    let made = ap (λ v. v.cylinders) c.in-Ok.ensures.volume in
    made ∙ ap (blank_cylinders 0) (sym (ap length made ∙ blank_count 0 c.in_ok-header.header.cylinders))

pub returns-in_err-rest : goal.returns-in_err-rest
returns-in_err-rest c =
    let reported = err_from_is_err_and c.from_residual-in_err-rest.result c.from_residual-in_err-rest.ensures.1 in
    let l = c.args.bytes.now in
    let long = ap (λ v. length v.cylinders) c.in-Ok.ensures.volume ∙ blank_count 0 c.in_ok-header.header.cylinders in
    let fault : IsTracksFault c.in_ok-header.header.cylinders (drop 12 l) c.in_err-rest.field-0.0 =
    subst (λ n. IsTracksFault n (drop 12 l) c.in_err-rest.field-0.0) long
    (subst (λ x. IsTracksFault (length c.in-Ok.volume.cylinders) x c.in_err-rest.field-0.0)
    (take_rest l 12) c.in_err-rest.ensures.err) in
    let read = fault_read l c.in_err-rest.field-0.0 (tracks_fault l c.in_ok-header.header.version
    c.in_ok-header.header.volser c.in_ok-header.header.cylinders c.in_ok-header.ensures.ok c.in_err-rest.field-0.0
    fault) in
    subst (IsReadingOrMemory l) (ap Err (sym reported.2) ∙ sym reported.1) read

pub returns-in_err-check_end : goal.returns-in_err-check_end
returns-in_err-check_end c =
    let reported = err_from_is_err_and c.from_residual-in_err-check_end.result
    c.from_residual-in_err-check_end.ensures.1 in
    let l = c.args.bytes.now in
    let long = ap (λ v. length v.cylinders) c.in-Ok.ensures.volume ∙ blank_count 0 c.in_ok-header.header.cylinders in
    let all = all_read l c.in_ok-header.header.version c.in_ok-header.header.volser c.in_ok-header.header.cylinders
    c.in-Ok.volume c.read_tracks.new.volume c.in_ok-rest.rest.now
    c.in_ok-header.ensures.ok (ap (λ v. v.volser) c.in-Ok.ensures.volume) long
    (subst (λ x. ReadTracks c.in-Ok.volume c.read_tracks.new.volume
    (19 * length c.in-Ok.volume.cylinders) x c.in_ok-rest.rest.now) (take_rest l 12) c.in_ok-rest.ensures.ok) in
    let fault = end_fault l c.in_ok-header.header.version c.read_tracks.new.volume c.in_ok-rest.rest.now
    c.total_of.result all c.total_of.ensures c.in_err-check_end.field-0.0 c.in_err-check_end.ensures.err in
    subst (IsReadingOrMemory l) (ap Err (sym reported.2) ∙ sym reported.1)
    (fault_read l c.in_err-check_end.field-0.0 fault)

pub returns : goal.returns
returns c =
    let l = c.args.bytes.now in
    let long = ap (λ v. length v.cylinders) c.in-Ok.ensures.volume ∙ blank_count 0 c.in_ok-header.header.cylinders in
    let all = all_read l c.in_ok-header.header.version c.in_ok-header.header.volser c.in_ok-header.header.cylinders
    c.in-Ok.volume c.read_tracks.new.volume c.in_ok-rest.rest.now
    c.in_ok-header.ensures.ok (ap (λ v. v.volser) c.in-Ok.ensures.volume) long
    (subst (λ x. ReadTracks c.in-Ok.volume c.read_tracks.new.volume
    (19 * length c.in-Ok.volume.cylinders) x c.in_ok-rest.rest.now) (take_rest l 12) c.in_ok-rest.ensures.ok) in
    image_read l c.in_ok-header.header.version c.read_tracks.new.volume c.in_ok-rest.rest.now all
    (c.in_ok-check_end.ensures.ok ∙ ap (end_of c.in_ok-header.header.version) c.total_of.ensures)

use Rattle.std.proofs.Common.{◌≡◌, ◌∙◌, ◌+◌, ap, ℕ, Bool, List, arith, sym, Err, Result, length}
use Rattle.std.proofs.lemmas.Result.{err_from_is_err_and}
use Rattle.s370_subchannels.specs.declared.subchannel.Subchannel.{Subchannel}
use Rattle.cp_spool.specs.Queues.{no_files}
use Rattle.machine_devices.specs.Lent.{devices_with}
use Rattle.machine_devices.specs.declared.attaching.AttachError.TheVariants as errors
use Rattle.machine_devices.specs.declared.places.Places.{Places}
use Rattle.machine_devices.specs.Devices.{has_at, places_of, subchannels_below}
use Rattle.machine_devices.proofs.Attached.{all_apart, attached_at, not_added, not_apart, on}
use Rattle.machine_devices.proofs.devices.Devices.subchannels_at.Goals as goal

err_same : {A E : Type 0} (x y : E) → (let reported : Result A E = Err x in reported ≡ Err y) → x ≡ y
err_same x y e = cc

pub loop-address-preserved : goal.loop-address-preserved
loop-address-preserved c =
    let has : ℕ → Bool = has_at (devices_with c.args.self.now no_files) c.args.addresses.now in
    record {
      are = rw (c.in_ok-attach_if.ensures.ok, c.new.ensures)
          (on has c.loop-address.address c.loop-address.subchannels c.has_device-is_there.result
          c.has_device-is_there.ensures c.loop-address.invariant.are);
      few = c.in_ok-attach_if.ensures.few c.loop-address.invariant.few;
    }

pub returns-in_err-attach_if-clause-address : goal.returns-in_err-attach_if-clause-address
returns-in_err-attach_if-clause-address c = λ failed. (
    let p = err_from_is_err_and c.from_residual.result c.from_residual.ensures.1 in
    let h = c.in_err-attach_if.ensures in
    let reported = ap Err (err_same c.in_err-attach_if.field-0.0 errors.Address (sym (p.1 ∙ ap Err p.2) ∙ failed)) in
    not_added (devices_with c.args.self.now no_files) c.args.addresses.now c.loop-address.address
    c.loop-address.subchannels c.loop-address-test.true c.loop-address.invariant.are
    (sym c.has_device-is_there.ensures ∙ h.there reported) (rw (← c.new.ensures) (h.address reported)))

pub returns-then-list-count-clause-address : goal.returns-then-list-count-clause-address
returns-then-list-count-clause-address c = λ failed. (
    let end : c.loop-address.address ≡ 0x600 =
    omega (arith, c.loop-address-test.false, c.loop-address.auto.address-end) in
    let are : c.loop-address.subchannels
    ≡ subchannels_below (has_at (devices_with c.args.self.now no_files) c.args.addresses.now) 0x600 =
    c.loop-address.invariant.are ∙ ap
    (subchannels_below (has_at (devices_with c.args.self.now no_files) c.args.addresses.now)) end in
    let size : c.count.result ≡ length (places_of c.args.self.now.places) =
    c.count.ensures.count ∙ ap (λ (p : Places). length (places_of p)) c.places.ensures in
    not_apart (devices_with c.args.self.now no_files) c.args.addresses.now c.loop-address.subchannels are
    (λ e. c.if-list-count.true
    (ap (λ (l : List Subchannel). length l) c.list.ensures.list ∙
    (e ∙ ap (λ (n : ℕ). n + length c.args.addresses.now) (sym size)))))

pub returns-clause-ok : goal.returns-clause-ok
returns-clause-ok c = λ files disks same. (
    let end : c.loop-address.address ≡ 0x600 =
    omega (arith, c.loop-address-test.false, c.loop-address.auto.address-end) in
    attached_at (devices_with c.args.self.now files) c.args.addresses.now disks same c.loop-address.subchannels
    (c.loop-address.invariant.are ∙ ap
    (subchannels_below (has_at (devices_with c.args.self.now no_files) c.args.addresses.now)) end))

pub returns-clause-apart : goal.returns-clause-apart
returns-clause-apart c = λ ok. (
    let end : c.loop-address.address ≡ 0x600 =
    omega (arith, c.loop-address-test.false, c.loop-address.auto.address-end) in
    let are : c.loop-address.subchannels
    ≡ subchannels_below (has_at (devices_with c.args.self.now no_files) c.args.addresses.now) 0x600 =
    c.loop-address.invariant.are ∙ ap
    (subchannels_below (has_at (devices_with c.args.self.now no_files) c.args.addresses.now)) end in
    let size : c.count.result ≡ length (places_of c.args.self.now.places) =
    c.count.ensures.count ∙ ap (λ (p : Places). length (places_of p)) c.places.ensures in
    all_apart (devices_with c.args.self.now no_files) c.args.addresses.now c.loop-address.subchannels are
    c.loop-address.invariant.few
    (ap (λ (l : List Subchannel). length l) (sym c.list.ensures.list) ∙
    (c.if-list-count.false ∙ ap (λ (n : ℕ). n + length c.args.addresses.now) size)))

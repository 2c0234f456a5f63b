use Rattle.cp_spool.specs.Queues.{files_of}
use Rattle.machine_devices.specs.Lent.{devices_on}
use Rattle.std.proofs.Common.{◌≡◌, subst}
use Rattle.machine_devices.specs.Devices.{DevicesValue}
use Rattle.machine_devices.specs.Lines.{outcome, spool_answered}
use Rattle.machine_devices.proofs.Beside.{devices_are}
use Rattle.machine_devices.proofs.Requested.{sent_from}
use Rattle.machine_devices.proofs.devices.Devices.obey.Goals as goal

pub returns-in-Close-clause-ok : goal.returns-in-Close-clause-ok
returns-in-Close-clause-ok g c = λ m disks. rw c.in-Close.is (c.answer_close.ensures.ok m disks)

pub returns-in-Spool-clause-ok : goal.returns-in-Spool-clause-ok
returns-in-Spool-clause-ok g c = λ m disks.
    let q = c.args.queues.now in
    let reported = rw c.as_slice.ensures at c.answer_spool.ensures.reported m (files_of q.users c.args.self.now.user)
    disks in
    let now = subst (λ (d : DevicesValue).
    outcome (record { machine = m; devices = d; disks = disks }) c.answer_spool.result
    ≡ spool_answered (g.W.UserDirectory.known c.args.world.now) c.in-Spool.device c.in-Spool.name
    (record { machine = m; devices = devices_on c.args.self.now q; disks = disks }))
    (devices_are c.args.self.now c.answer_spool.new.self q c.answer_spool.ensures.user) reported in
    rw c.in-Spool.is now

pub returns-in-Message-clause-ok : goal.returns-in-Message-clause-ok
returns-in-Message-clause-ok g c = λ m disks.
    let sent = rw (c.as_slice-in-Message.ensures, c.as_slice-in-Message-2.ensures) at c.message_outcome.ensures.ok in
    rw c.in-Message.is (sent_from c.message_outcome.result (g.W.UserDirectory.known c.args.world.now) c.in-Message.name
    c.in-Message.text (record {
      machine = m;
      devices = devices_on c.args.self.now c.args.queues.now;
      disks = disks;
    }) sent)

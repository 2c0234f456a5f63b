use Rattle.std.proofs.Common.{ℕ, ap, subst}
use Rattle.ckd_volume.specs.Unit.{Disk}
use Rattle.machine_channels.specs.Channels.{RestsLoaded}
use Rattle.machine_channels.specs.Disks.{DiskAt}
use Rattle.machine_channels.proofs.disks.AttachedDisk.load.Goals as goal

abbrev at : ℕ → Disk → DiskAt
at address unit = record { address = address; unit = unit }

pub returns-clause-walk : goal.returns-clause-walk
returns-clause-walk g c =
    let old = g.S.Storage.memory c.args.storage.now in
    let new = g.S.Storage.memory c.run_ipl.new.storage in
    subst (λ (d : DiskAt). RestsLoaded old d c.in_ok-ending.ending new (at c.self.inside.address c.rest.new.self))
    c.self.view_is
    (record {
      unit = c.run_ipl.new.device;
      walk = c.in_ok-ending.ensures.reaches;
      rest = ap (λ (unit : Disk). at c.self.inside.address unit) c.rest.ensures;
    })

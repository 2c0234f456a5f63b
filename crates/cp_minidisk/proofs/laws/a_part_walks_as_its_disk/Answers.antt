use Rattle.cp_minidisk.proofs.Parting.{walks_as_its_disk, leaves_its_neighbours}
use Rattle.cp_minidisk.proofs.laws.a_part_walks_as_its_disk.Goals as goal

pub returns-clause-walks : goal.returns-clause-walks
returns-clause-walks c = walks_as_its_disk

pub returns-clause-other_disks : goal.returns-clause-other_disks
returns-clause-other_disks c = leaves_its_neighbours

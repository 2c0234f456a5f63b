use Rattle.cp_minidisk.proofs.Parting.{keeps_its_extent, never_writes}
use Rattle.cp_minidisk.proofs.laws.a_part_keeps_its_extent.Goals as goal

pub returns-clause-extent : goal.returns-clause-extent
returns-clause-extent c = keeps_its_extent

pub returns-clause-read_only : goal.returns-clause-read_only
returns-clause-read_only c = never_writes

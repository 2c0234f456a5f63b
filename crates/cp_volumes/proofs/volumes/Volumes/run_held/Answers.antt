use Rattle.cp_volumes.proofs.Confined.{confined_by}
use Rattle.cp_volumes.proofs.volumes.Volumes.run_held.Goals as goal

pub returns-clause-confined : goal.returns-clause-confined
returns-clause-confined g c =
    confined_by c.args.self.now c.mount-mounted.new.self c.dismount.new.self c.args.disk.now c.mount-mounted.result
    c.run_mounted_held-ending.new.mounted c.requires.seated c.mount-mounted.ensures.inside
    c.mount-mounted.ensures.mounted c.run_mounted_held-ending.ensures.volume c.mount-mounted.ensures.moved_out
    c.dismount.ensures.volumes

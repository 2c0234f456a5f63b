use Rattle.std.proofs.Common.{◌-◌}
use Rattle.cp_directory.proofs.Apart.{device_more}
use Rattle.cp_directory.proofs.directory.Directory.put_device.Goals as goal

pub invariant_of-self : goal.invariant_of-self
invariant_of-self c = device_more c.args.kind c.args.address c.self.inside.users.items
    (c.len-last.result - 1) c.index_mut.result.now c.put.new.self c.self.invariant c.index_mut.ensures.value
    c.put.ensures

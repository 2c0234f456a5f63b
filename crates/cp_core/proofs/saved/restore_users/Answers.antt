use Rattle.std.proofs.Common.{◌∙◌}
use Rattle.std.proofs.Math.Seq.{map-set_same}
use Rattle.cp_core.specs.Saved.{base_of}
use Rattle.cp_core.proofs.saved.restore_users.Goals as goal

pub returns-in_err-restore : goal.returns-in_err-restore
returns-in_err-restore c = record {
  bases = map-set_same base_of c.loop-user.users c.loop-user.user-index c.restore.new.self c.user-item.result
      c.restore.ensures.base ∙ c.loop-user.invariant.bases;
  queues = c.restore.ensures.queues ∙ c.loop-user.invariant.queues;
}

pub loop-user-preserved : goal.loop-user-preserved
loop-user-preserved c = record {
  bases = map-set_same base_of c.loop-user.users c.loop-user.user-index c.restore.new.self c.user-item.result
      c.restore.ensures.base ∙ c.loop-user.invariant.bases;
  queues = c.restore.ensures.queues ∙ c.loop-user.invariant.queues;
}

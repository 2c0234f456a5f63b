use Rattle.std.proofs.Common.{[], refl, rules}
use Rattle.machine_devices.proofs.Beside.{beside_same}
use Rattle.cp_core.proofs.serving.serve_supplied.Goals as goal

pub returns-then-is_none : goal.returns-then-is_none
returns-then-is_none g c = record {
  served = search rules;
  unchanged_without_frames = search rules;
  frames = search rules;
  memory = search rules;
  roomy = search rules;
  paged_in = ([], g.met.C.Channels.came_none _ c.args.storage.now c.requires.ready, tt);
  ready = search rules;
  kept = search rules;
  kept_if_refused = search rules;
  others = search rules;
  other_users = beside_same c.args.devices.now c.args.queues.now c.args.queues.now refl;
}

use Rattle.std.proofs.Common.{append_assoc, rules}
use Rattle.frame_map.proofs.map.frame_map.Goals as goal

pub returns : goal.returns
returns c = record {
  frames = c.in_ok-text.text.items;
  slots = c.in_ok-slots.slots.items;
  in_frames = rw c.frames.ensures.value at c.in_ok-text.ensures;
  in_slots = rw c.slots.ensures.value at c.in_ok-slots.ensures;
  whole = search (rules, append_assoc);
}

use Rattle.std.proofs.Common.{◌≡◌, ◌+◌, ◌++◌, ◌≤◌}
use Rattle.std.specs.Vec.{vec_capacity, vec_len}
use Rattle.std.specs.VecDeque.{deque_capacity, deque_len}
use Rattle.cp_frames.proofs.order.shorten.Given as goal

abbrev pub invariant-loop-first : goal.invariant-loop-first
invariant-loop-first l = record {
  same : l.first.items ++ l.rest.items ≡ l.fn.first.items ++ l.fn.rest.items;
  all : vec_len l.first + deque_len l.rest ≡ vec_len l.fn.first + deque_len l.fn.rest;
  enough : l.count ≤ vec_len l.fn.first → l.count ≤ vec_len l.first;
  first_room : vec_capacity l.first ≡ vec_capacity l.fn.first;
  rest_room : deque_capacity l.rest ≡ deque_capacity l.fn.rest;
}

abbrev pub decreases-loop-first : goal.decreases-loop-first
decreases-loop-first l = vec_len l.first

use Rattle.std.proofs.Common.{◌≡◌, ◌+◌, ◌-◌, ◌++◌}
use Rattle.std.specs.Vec.{vec_capacity, vec_len}
use Rattle.std.specs.VecDeque.{deque_capacity, deque_len}
use Rattle.cp_frames.proofs.order.lengthen.Given as goal

abbrev pub invariant-loop-rest : goal.invariant-loop-rest
invariant-loop-rest l = record {
  same : l.first.items ++ l.rest.items ≡ l.fn.first.items ++ l.fn.rest.items;
  all : vec_len l.first + deque_len l.rest ≡ vec_len l.fn.first + deque_len l.fn.rest;
  first_room : vec_capacity l.first ≡ vec_capacity l.fn.first;
  rest_room : deque_capacity l.rest ≡ deque_capacity l.fn.rest;
}

abbrev pub decreases-loop-rest : goal.decreases-loop-rest
decreases-loop-rest l = l.count - vec_len l.first

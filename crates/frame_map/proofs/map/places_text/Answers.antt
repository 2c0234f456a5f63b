use Rattle.std.proofs.Common.{◌≡◌, arith, length, map, rules}
use Rattle.frame_map.proofs.Printed.{no_run, run_added}
use Rattle.frame_map.proofs.map.places_text.Goals as goal

pub loop-rest-preserved : goal.loop-rest-preserved
loop-rest-preserved c = record {
  whole = omega (arith, c.split_at.ensures.back_len);
  printed = run_added c.args.word.now (map (λ user. user.name) c.args.users.now) c.args.places.now
      c.loop-rest.rest.now c.split_at.result.0.now c.split_at.result.1.now c.loop-rest.first c.run_length-count.result
      c.loop-rest.text.items c.append_run.new.out.items c.split_at.ensures.front c.split_at.ensures.back
      c.in_ok-append_run.ensures c.run_length-count.ensures c.loop-rest.invariant.printed;
}

pub returns : goal.returns
returns c =
    let none : length c.loop-rest.rest.now ≡ 0 = first_of (omega arith, search rules) in
    record {
      runs = c.loop-rest.text.items;
      printed = no_run c.args.word.now (map (λ user. user.name) c.args.users.now) c.args.places.now
          c.loop-rest.rest.now c.loop-rest.first c.loop-rest.text.items none c.loop-rest.invariant.printed;
      free = c.in_ok-append_free.ensures;
    }

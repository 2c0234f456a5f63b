use Rattle.std.proofs.Common.{rules, ◌≡◌, ◌<◌, ◌∙◌, true, false, refl, arith}
use Rattle.sessions.specs.Schedule.{scene}
use Rattle.sessions.specs.Seek.{found_in}
use Rattle.sessions.proofs.Histories.{on_err}
use Rattle.sessions.proofs.SingleUnits.{quiet_more, quiet_none, sought_all, sought_found, sought_partly}
use Rattle.sessions.proofs.seek.seek_units.Goals as goal

pub loop-unit-init : goal.loop-unit-init
loop-unit-init g c = record {
  so_far = quiet_none g.I.Installation.goes c.args.seek.now
      (scene c.args.installation.now c.args.policy.now c.args.detail) (g.W.HostWriter.contents c.args.writer.now)
      c.requires.dealing;
  spent = λ e. e;
  same = refl;
}

pub returns-in_err-run_unit-clause-err : goal.returns-in_err-run_unit-clause-err
returns-in_err-run_unit-clause-err g c =
    let contents = g.W.HostWriter.contents in
    let old = scene c.args.installation.now c.args.policy.now c.args.detail in
    let mid = scene c.loop-unit.installation c.loop-unit.policy c.args.detail in
    let few : c.loop-unit._unit < c.args.seek.now.units = omega (arith, c.loop-unit-test.true) in
    on_err c.from_residual.result
    (sought_partly g.I.Installation.goes c.args.seek.now c.loop-unit._unit old mid c.run_unit.new.installation
    (contents c.args.writer.now) (contents c.loop-unit.writer) (contents c.run_unit.new.writer) few
    c.loop-unit.invariant.so_far c.in_err-run_unit.ensures.err)

pub returns-then-is_found-clause-ok : goal.returns-then-is_found-clause-ok
returns-then-is_found-clause-ok g c =
    let i = g.I.Installation.goes in
    let contents = g.W.HostWriter.contents in
    let old = scene c.args.installation.now c.args.policy.now c.args.detail in
    let mid = scene c.loop-unit.installation c.loop-unit.policy c.args.detail in
    let new = scene c.run_unit.new.installation c.run_unit.new.policy c.args.detail in
    let few : c.loop-unit._unit < c.args.seek.now.units = omega (arith, c.loop-unit-test.true) in
    let found : found_in i c.args.seek.now old.world new.world ≡ true = search rules in
    sought_found i c.args.seek.now c.loop-unit._unit old mid new (contents c.args.writer.now)
    (contents c.loop-unit.writer) (contents c.run_unit.new.writer) few c.loop-unit.invariant.so_far
    c.in_ok-run_unit.ensures.ok found

pub loop-unit-preserved : goal.loop-unit-preserved
loop-unit-preserved g c =
    let i = g.I.Installation.goes in
    let contents = g.W.HostWriter.contents in
    let old = scene c.args.installation.now c.args.policy.now c.args.detail in
    let mid = scene c.loop-unit.installation c.loop-unit.policy c.args.detail in
    let new = scene c.run_unit.new.installation c.run_unit.new.policy c.args.detail in
    let unfound : found_in i c.args.seek.now old.world new.world ≡ false = search rules in
    record {
      so_far = quiet_more i c.args.seek.now c.loop-unit._unit old mid new (contents c.args.writer.now)
          (contents c.loop-unit.writer) (contents c.run_unit.new.writer) c.loop-unit.invariant.so_far
          c.in_ok-run_unit.ensures.ok unfound;
      spent = λ e. c.loop-unit.invariant.spent (c.in_ok-run_unit.ensures.why.1 e);
      same = c.in_ok-run_unit.ensures.why.0 ∙ c.loop-unit.invariant.same;
    }

pub returns-clause-ok : goal.returns-clause-ok
returns-clause-ok g c =
    let contents = g.W.HostWriter.contents in
    let old = scene c.args.installation.now c.args.policy.now c.args.detail in
    let new = scene c.loop-unit.installation c.loop-unit.policy c.args.detail in
    let all : c.loop-unit._unit ≡ c.args.seek.now.units =
    omega (arith, c.loop-unit-test.false, c.loop-unit.auto._unit-end) in
    sought_all g.I.Installation.goes c.args.seek.now c.loop-unit._unit old new (contents c.args.writer.now)
    (contents c.loop-unit.writer) c.loop-unit.invariant.so_far all

use Rattle.std.proofs.Common.{◌≡◌, ◌∙◌, ◌+◌, List, None, Some, ap, arith, length, refl, subst, sym}
use Rattle.std.specs.Prelude.{slice_get}
use Rattle.machine_devices.specs.declared.files.FileNote.{FileNote}
use Rattle.machine_devices.proofs.Dropping.{EachNoted, all_noted, looked_up, none_more, none_yet, one_more}
use Rattle.bare_installation.specs.Bare.{Bare}
use Rattle.bare_installation.proofs.Dropped.{Drops, HasForgotten}
use Rattle.bare_installation.proofs.Forgotten.{events_go_on}
use Rattle.bare_installation.proofs.bare.Bare.forget_files.Goals as goal
use Rattle.bare_installation.proofs.bare.Bare.forget_files.Goals.{in-Some, in_default}

pub loop-place-init : goal.loop-place-init
loop-place-init c = record {
  on = events_go_on.reflexive c.args.self.now;
  gone = none_yet (Drops c.args.self.now) c.args.self.now.files c.args.since;
  lines = refl;
  files = refl;
}

pub loop-place-preserved : goal.loop-place-preserved
loop-place-preserved c =
    let first = c.args.self.now in
    let old = c.loop-place.self in
    let since = c.args.since in
    let k = c.loop-place.place in
    let held = c.loop-place.invariant in
    let copied : slice_get c.deref.result.now k ≡ c.copied.result =
    looked_up c.deref.result.now k c.get.result c.get.ensures.lookup.0 c.get.ensures.lookup.1 ∙ sym c.copied.ensures in
    let noted : c.deref.result.now ≡ old.files =
    c.deref.ensures.value ∙ ap (λ (b : Bare). b.files) c.self-in-loop-place.view_is in
    let here : slice_get old.files k ≡ c.copied.result =
    subst (λ (fs : List FileNote). slice_get fs k ≡ c.copied.result) noted copied in
    elim c.match-copied.branch [
      | in-Some w ↦
          let new = w.forget_file.new.self in
          let did = w.forget_file.ensures in
          let found : slice_get old.files k ≡ Some w.in-Some.note = here ∙ w.in-Some.is in
          let all : HasForgotten first new since (k + 1) = record {
            on = events_go_on.transitive first old new held.on did.on;
            gone = subst (λ (fs : List FileNote). EachNoted (Drops new) fs since (k + 1)) (sym did.files)
                (one_more (Drops old) (Drops new) old.files since k w.in-Some.note held.gone did.stays found did.gone);
            lines = did.lines ∙ held.lines;
            files = did.files ∙ held.files;
          } in
          subst (λ (b : Bare). HasForgotten first b since (k + 1)) (sym w.self-is) all
      | in_default w ↦
          let none : slice_get old.files k ≡ None = here ∙ w.in_default.is in
          let all : HasForgotten first old since (k + 1) = record {
            on = held.on;
            gone = none_more (Drops old) old.files since k held.gone none;
            lines = held.lines;
            files = held.files;
          } in
          subst (λ (b : Bare). HasForgotten first b since (k + 1)) (sym w.self-is) all
    ]

pub returns-clause-gone : goal.returns-clause-gone
returns-clause-gone c =
    let many = ap length c.loop-place.invariant.files in
    let seen = ap (λ (b : Bare). length b.files) c.self.view_is in
    let last = c.loop-place.self in
    all_noted (Drops last) last.files c.args.since c.loop-place.place c.loop-place.invariant.gone
    (omega (arith, c.loop-place-test.false, many, seen, c.len-place-end.ensures))

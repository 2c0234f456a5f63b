-- A machine that has forgotten printed lines and entries of closed files goes on as the one that was.
use Rattle.std.specs.Prelude.{◌-◌}
use Rattle.std.proofs.Common.{◌≡◌, ◌∙◌, ◌≤◌, ℕ, zero, suc, List, [], ◌∷◌, ◌++◌, refl, ap, arith}
use Rattle.std.proofs.Common.{drop, length, length-append, map, subst, sym}
use Rattle.machine_devices.specs.Equipped.{Equipped}
use Rattle.machine_devices.specs.Written.{Lost, left_of, with_entries, without_entries}
use Rattle.unit_record.specs.Output.{EntryValue, FileValue}
use Rattle.bare_installation.specs.Bare.{Bare}
use Rattle.bare_installation.specs.Forgotten.{EventsGoOn, bare_with, forgotten}
use Rattle.bare_installation.proofs.Forgotten.{events_go_on}
use Rattle.sessions.specs.Continuing.{HappensToo, IsToGoOn, but_written, unwritten}
use Rattle.machine_devices.specs.declared.files.FileNote.{FileNote}
use Rattle.sessions.specs.Installed.{Installed, Step, machine_at, user_at}
use Rattle.sessions.specs.Schedule.{user_said}
use Rattle.sessions.specs.Transcript.{last_lines}
use Rattle.sessions.proofs.Told.{user_same}
use Rattle.bare370.proofs.Noted.{has_full, notes_files}
use Rattle.bare370.specs.Goes.{Alone, GoesOnAs, HasHappened, machine_goes, own, seen_in}

-- the lines that have joined the console are the same, whatever was printed before
last_same : (gone lines : List (List ℕ)) (count : ℕ) → count ≤ length lines
    → last_lines count (gone ++ lines) ≡ last_lines count lines
last_same [] lines count few = refl
last_same (line ∷ gone) lines count few =
    let more : suc (length (gone ++ lines)) - count ≡ suc (length (gone ++ lines) - count) = omega
    (arith, few, length-append gone lines) in
    ap (λ (n : ℕ). drop n (line ∷ (gone ++ lines))) more ∙ last_same gone lines count few

abbrev output_of : Alone → List (List ℕ)
output_of a = a.machine.equipped.machine.output

-- A machine whose printed lines are forgotten goes on as the machine with them.
pub forgets : (one : Alone) → GoesOnAs one (record one { machine = forgotten one.machine })
forgets one = record { machine = events_go_on.forgets one.machine; addresses = refl }

-- ---- what is seen

lost_again : (lost : List (List EntryValue)) (files : List FileValue)
    → map without_entries (with_entries lost files) ≡ map without_entries files
lost_again lost [] = refl
lost_again lost (file ∷ files) =
    ap (λ (more : List FileValue). without_entries file ∷ more) (lost_again (left_of file.entries lost) files)

unwritten_again : (lines : List (List ℕ)) (lost : Lost) (b : Bare)
    → unwritten ((bare_with lines lost b).equipped) ≡ unwritten b.equipped
unwritten_again lines lost b =
    let e = b.equipped in
    let d = e.devices in
    let at = λ (punched printed : List FileValue). let x : Equipped = record (unwritten e) {
      devices = record d { punched = punched; printed = printed };
    } in x in
    ap (λ (files : List FileValue). at files (map without_entries (with_entries lost.printed d.printed)))
    (lost_again lost.punched d.punched)
    ∙ ap (λ (files : List FileValue). at (map without_entries d.punched) files) (lost_again lost.printed d.printed)

-- what is seen of a machine with this user's devices
abbrev seen_of : List ℕ → Equipped → List FileNote → Installed
seen_of addresses e files = but_written (seen_in (record {
  machine = record { equipped = e; files = files };
  addresses = addresses;
}))

seen_same : (one other : Alone) → GoesOnAs one other → but_written (seen_in one) ≡ but_written (seen_in other)
seen_same one other g =
    let b = other.machine in
    ap (λ (x : Bare). seen_of one.addresses x.equipped x.files) g.machine.same
    ∙ ap (λ (e : Equipped).
    let s : Installed = record (seen_of one.addresses b.equipped b.files) { machines = e ∷ [] } in s)
    (unwritten_again g.machine.lines g.machine.lost b)
    ∙ ap (λ (addresses : List ℕ). seen_of addresses b.equipped b.files) g.addresses

module _ (law : EventsGoOn) where
  happens_too : (one other : Alone) (step : Step Alone) → GoesOnAs one other
      → HasHappened other step.said step.reply step.left
      → HappensToo machine_goes one step
  happens_too one other step g h =
      let lines = g.machine.lines in
      let lost = g.machine.lost in
      let left : Alone = record step.left { machine = bare_with lines lost step.left.machine } in
      let happened : HasHappened one step.said step.reply left = record {
        event = h.event;
        own = h.own;
        named = h.named;
        applied = law.events one.machine other.machine step.left.machine h.event step.reply g.machine h.applied;
        addresses = h.addresses ∙ sym g.addresses;
      } in
      let on : GoesOnAs left step.left =
      record { machine = record { lines = lines; lost = lost; same = refl }; addresses = refl } in
      let user = user_said step.said in
      let named : user ≡ own = sym (ap user_said h.named) ∙ sym (user_same h.event) ∙ h.own in
      let few : step.reply.lines ≤ length (output_of step.left) = omega (arith, h.applied.lines) in
      let joined = λ (u : ℕ). last_lines step.reply.lines (machine_at
      (seen_in left) u).output ≡ last_lines step.reply.lines (machine_at (seen_in step.left) u).output in
      let decks = λ (u : ℕ). (user_at (seen_in left) u).devices.reader.decks ≡ (user_at
      (seen_in step.left) u).devices.reader.decks in
      record {
        left = left;
        happens = happened;
        on = on;
        alike = record {
          said = refl;
          reply = refl;
          decks = subst decks (sym named) refl;
          output = subst joined (sym named) (last_same lines (output_of step.left) step.reply.lines few);
        };
      }

  pub goes_on : IsToGoOn machine_goes
  goes_on = record {
    reflexive = λ one. record { machine = law.reflexive one.machine; addresses = refl };
    transitive = λ one other last h k. record {
      machine = law.transitive one.machine other.machine last.machine h.machine k.machine;
      addresses = h.addresses ∙ k.addresses;
    };
    seen = seen_same;
    full = has_full;
    base = λ one other g. tt;
    happens = happens_too;
    notes = notes_files;
  }

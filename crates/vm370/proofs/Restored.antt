-- A system that was restored, or has forgotten printed lines and entries of closed files, goes on as the one that was.
use Rattle.std.specs.Prelude.{◌-◌}
use Rattle.std.proofs.Common.{◌≡◌, ◌≤◌, ℕ, suc, List, [], ◌∷◌, ◌++◌, refl, ap, sym, ◌∙◌, subst, arith, drop, get_or}
use Rattle.std.proofs.Common.{length, length-append, map}
use Rattle.cp_core.proofs.Forgotten.{same_but_kept, user_with}
use Rattle.cp_core.specs.Boot.{IsBooted}
use Rattle.machine_devices.specs.Events.{user_of}
use Rattle.cp_core.specs.Forgotten.{GoesOnAs, Gone, StepsGoOn, equipped_with, users_with}
use Rattle.cp_core.specs.Local.{Step as SystemStep}
use Rattle.cp_core.specs.Saved.{AreAlike, IsOneBySaved as IsOneSystem}
use Rattle.cp_core.specs.System.{SystemView, machine_at}
use Rattle.cp_directory.specs.Users.{DirectoryUser}
use Rattle.ckd_volume.specs.Volume.{VolumeFormat}
use Rattle.machine_devices.specs.Equipped.{Equipped, nobody}
use Rattle.machine_devices.specs.Written.{left_of, with_entries, without_entries}
use Rattle.unit_record.specs.Output.{EntryValue, FileValue}
use Rattle.sessions.specs.Continuing.{HappensToo, IsToGoOn, but_written, unwritten}
use Rattle.sessions.specs.Installed.{Installed, Step}
use Rattle.sessions.specs.Saved.{IsOneBySaved, KeepsBase}
use Rattle.sessions.specs.Schedule.{user_said}
use Rattle.sessions.specs.Transcript.{last_lines}
use Rattle.sessions.proofs.Told.{user_same}
use Rattle.vm370.proofs.Noted.{has_full, notes_files}
use Rattle.vm370.specs.Goes.{HasHappened, IsOfOneBase, seen_in, system_goes}

-- volumes are alike if they are the same ones
alike : (old new : List VolumeFormat) → new ≡ old → AreAlike old new
alike old new e = subst (λ (vs : List VolumeFormat). AreAlike old vs) (sym e)
    (record { count = refl; sizes = λ index. refl; volsers = λ index. refl })

-- A system keeps the base of its sessions.
pub base : KeepsBase system_goes
base = record {
  reflexive = λ one. record { directory = refl; volumes = alike one.volumes one.volumes refl };
  symmetric = λ one other h. record {
    directory = sym h.directory;
    volumes = record {
      count = sym h.volumes.count;
      sizes = λ index. sym (h.volumes.sizes index);
      volsers = λ index. sym (h.volumes.volsers index);
    };
  };
  transitive = λ one other last h k. record {
    directory = k.directory ∙ h.directory;
    volumes = record {
      count = k.volumes.count ∙ h.volumes.count;
      sizes = λ index. k.volumes.sizes index ∙ h.volumes.sizes index;
      volsers = λ index. k.volumes.volsers index ∙ h.volumes.volsers index;
    };
  };
  kept = λ old new what reply h. record {
    directory = h.step.directory;
    volumes = record {
      count = h.step.confined.count;
      sizes = h.step.confined.sizes;
      volsers = h.step.confined.volsers;
    };
  };
}

-- A restored system is the saved one.
pub one_system : IsOneSystem → IsOneBySaved system_goes
one_system law one other bytes base is are = same_but_kept one other (law one other bytes base.directory is are)

-- ---- lines that were printed before, and files that have lost entries

lost_again : (lost : List (List EntryValue)) (files : List FileValue)
    → map without_entries (with_entries lost files) ≡ map without_entries files
lost_again lost [] = refl
lost_again lost (file ∷ files) =
    ap (λ (more : List FileValue). without_entries file ∷ more) (lost_again (left_of file.entries lost) files)

unwritten_one : (gone : Gone) (e : Equipped) → unwritten (equipped_with gone e) ≡ unwritten e
unwritten_one gone e =
    let d = e.devices in
    let at = λ (punched printed : List FileValue). let x : Equipped = record (unwritten e) {
      devices = record d { punched = punched; printed = printed };
    } in x in
    ap (λ (files : List FileValue). at files (map without_entries (with_entries gone.files.printed d.printed)))
    (lost_again gone.files.punched d.punched)
    ∙ ap (λ (files : List FileValue). at (map without_entries d.punched) files)
    (lost_again gone.files.printed d.printed)

unwritten_again : (gone : List Gone) (users : List Equipped)
    → map unwritten (users_with gone users) ≡ map unwritten users
unwritten_again [] users = refl
unwritten_again (g ∷ gone) [] = refl
unwritten_again (g ∷ gone) (e ∷ users) =
    ap (λ (x : Equipped). x ∷ map unwritten (users_with gone users)) (unwritten_one g e)
    ∙ ap (λ (us : List Equipped). unwritten e ∷ us) (unwritten_again gone users)

-- the lines that have joined a console are the same, whatever was printed before
last_same : (gone lines : List (List ℕ)) (count : ℕ) → count ≤ length lines
    → last_lines count (gone ++ lines) ≡ last_lines count lines
last_same [] lines count few = refl
last_same (line ∷ gone) lines count few =
    let more : suc (length (gone ++ lines)) - count ≡ suc (length (gone ++ lines) - count) = omega
    (arith, few, length-append gone lines) in
    ap (λ (n : ℕ). drop n (line ∷ (gone ++ lines))) more ∙ last_same gone lines count few

seen_same : (one other : SystemView) → GoesOnAs one other → but_written (seen_in one) ≡ but_written (seen_in other)
seen_same one other g =
    let seen = λ (us : List Equipped). let s : Installed = record (seen_in other) { machines = us } in s in
    ap (λ (s : SystemView). but_written (seen_in s)) g.same ∙ ap seen (unwritten_again g.gone other.users)

module _ (law : StepsGoOn) where
  happens_too : (one other : SystemView) (step : Step SystemView) → GoesOnAs one other
      → HasHappened other step.said step.reply step.left → HappensToo system_goes one step
  happens_too one other step g h =
      let applied : SystemStep = record { event = h.event; reply = step.reply; seen = step.left } in
      let left : SystemView = record step.left { users = users_with g.gone step.left.users } in
      let happened : HasHappened one step.said step.reply left =
      record { event = h.event; named = h.named; step = law.steps one other applied g h.step } in
      let on : GoesOnAs left step.left = record { gone = g.gone; same = refl } in
      let user = user_said step.said in
      let users = step.left.users in
      let named : user_of h.event ≡ user = user_same h.event ∙ ap user_said h.named in
      let reported = subst (λ (u : ℕ). step.reply.lines ≡ length (machine_at step.left u).output - length
      (machine_at other u).output) named h.step.replied.reported.lines in
      let mine = user_with g.gone users user in
      let output = ap (λ (e : Equipped). last_lines step.reply.lines e.machine.output) mine in
      let few : step.reply.lines ≤ length (machine_at step.left user).output = omega (arith, reported) in
      record {
        left = left;
        happens = happened;
        on = on;
        alike = record {
          said = refl;
          reply = refl;
          decks = ap (λ (e : Equipped). e.devices.reader.decks) mine;
          output = output ∙ last_same _ (machine_at step.left user).output step.reply.lines few;
        };
      }

  pub goes_on : IsToGoOn system_goes
  goes_on = record {
    reflexive = law.reflexive;
    transitive = law.transitive;
    seen = seen_same;
    full = has_full;
    base = λ one other g. record {
      directory = sym (ap (λ (s : SystemView). s.directory) g.same);
      volumes = alike one.volumes other.volumes (sym (ap (λ (s : SystemView). s.volumes) g.same));
    };
    happens = happens_too;
    notes = notes_files;
  }

-- ---- boots

-- systems that were booted from one directory and volumes that are alike are of one base
pub of_one_base : (directory : List DirectoryUser) (volumes others : List VolumeFormat) (frames slots m n : ℕ)
    (one other : SystemView) → AreAlike volumes others → IsBooted directory volumes frames slots one
    → IsBooted directory others m n other → IsOfOneBase one other
of_one_base directory volumes others frames slots m n one other are h g = record {
  directory = ap (λ (v : SystemView). v.directory) g.rest ∙ sym (ap (λ (v : SystemView). v.directory) h.rest);
  volumes = subst (λ (vs : List VolumeFormat). AreAlike vs other.volumes)
      (sym (ap (λ (v : SystemView). v.volumes) h.rest))
      (subst (λ (vs : List VolumeFormat). AreAlike volumes vs) (sym (ap (λ (v : SystemView). v.volumes) g.rest)) are);
}

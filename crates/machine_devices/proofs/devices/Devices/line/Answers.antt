use Rattle.std.proofs.Common.{◌≡◌, ◌∙◌, [], ap, rules, sym, subst, Err, true, length}
use Rattle.std.specs.Prelude.{IfOk, OnErr, is_some}
use Rattle.machine_devices.specs.Devices.{DevicesValue}
use Rattle.machine_devices.proofs.Beside.{devices_are}
use Rattle.machine_devices.specs.declared.places.Places.{Places}
use Rattle.machine_devices.specs.declared.request.Request.{Request}
use Rattle.machine_devices.specs.declared.request.Request.TheVariants.{Asks, Loads, Resets, Types}
use Rattle.machine_panel.specs.Machine.{machine_of}
use Rattle.machine_devices.specs.Equipped.{Equipped, equipped}
use Rattle.machine_devices.specs.Lent.{devices_on, devices_with}
use Rattle.cp_spool.specs.Queues.{files_of}
use Rattle.machine_devices.specs.Comes.{LineHadRoom, MayTakeMemory}
use Rattle.machine_devices.specs.Lines.{IsAnswered, requested}
use Rattle.machine_devices.specs.Comes.{LoadWants}
use Rattle.machine_channels.specs.Channels.{Brings, IsOutOfFrames, NoRoom, load_times}
use Rattle.machine_panel.specs.declared.line.LineError.TheVariants as errors
use Rattle.machine_devices.proofs.Requested.{requested_is, typed_is}
use Rattle.machine_devices.proofs.devices.Devices.line.Goals as goal

pub returns-in-Resets-clause-ends : goal.returns-in-Resets-clause-ends
returns-in-Resets-clause-ends g c =
    let files = files_of c.args.queues.now.users c.args.self.now.user in
    let memory = g.S.Storage.memory c.args.storage.now in
    let before : Equipped = equipped c.args.machine.now (devices_on c.args.self.now c.args.queues.now)
    (g.C.Disks.disks c.args.channels.now) memory in
    let are = devices_are c.args.self.now c.reset_machine.new.self c.args.queues.now c.reset_machine.ensures.user in
    let after : DevicesValue
    → Equipped = λ d. equipped c.reset_machine.new.machine d (g.C.Disks.disks c.reset_machine.new.disks) memory in
    let has = c.is_some-has_console.ensures ∙ ap (λ (p : Places). is_some p.console) c.places.ensures in
    let judged : requested c.args.line.now.typed.now before ≡ Resets =
    requested_is Resets before c.args.line.now.typed.now c.as_slice.result.now c.mode.result
    c.is_some-has_console.result
    c.in-Resets.ensures c.mode.ensures has (c.as_slice.ensures.value ∙ c.new-text.ensures) in
    record {
      ok = subst (λ (d : DevicesValue).
          IfOk c.reset_machine.result
          (λ reported. IsAnswered (requested c.args.line.now.typed.now before) (g.W.UserDirectory.known
          c.args.line.now.users.now)
          c.args.line.now.typed.now before reported (after d))) are
          (subst (λ (q : Request).
          IfOk c.reset_machine.result
          (λ reported. IsAnswered q (g.W.UserDirectory.known c.args.line.now.users.now) c.args.line.now.typed.now
          before reported
          (after (devices_with c.reset_machine.new.self files)))) (sym judged)
          (c.reset_machine.ensures.ok files memory));
      err = λ other. subst (λ (d : DevicesValue). OnErr c.reset_machine.result (after d ≡ before)) are
          (c.reset_machine.ensures.err files memory);
      unchanged_without_frames = search rules;
      memory = search rules;
    }

pub returns-in-Types-clause-ends : goal.returns-in-Types-clause-ends
returns-in-Types-clause-ends g c =
    let files = files_of c.args.queues.now.users c.args.self.now.user in
    let memory = g.S.Storage.memory c.args.storage.now in
    let before : Equipped = equipped c.args.machine.now (devices_on c.args.self.now c.args.queues.now)
    (g.C.Disks.disks c.args.channels.now) memory in
    let are = devices_are c.args.self.now c.type_line.new.self c.args.queues.now c.type_line.ensures.user in
    let after : DevicesValue
    → Equipped = λ d. equipped c.type_line.new.machine d (g.C.Disks.disks c.args.channels.now) memory in
    let left = devices_with c.type_line.new.self files in
    let has = c.is_some-has_console.ensures ∙ ap (λ (p : Places). is_some p.console) c.places.ensures in
    let judged : requested c.args.line.now.typed.now before ≡ Types =
    requested_is Types before c.args.line.now.typed.now c.as_slice.result.now c.mode.result c.is_some-has_console.result
    c.in-Types.ensures c.mode.ensures has (c.as_slice.ensures.value ∙ c.new-text.ensures) in
    let typed = typed_is c.type_line.result c.as_slice-in-Types.result.now c.args.line.now.typed.now before (after left)
    (c.as_slice-in-Types.ensures.value ∙ c.new-text.ensures)
    (c.type_line.ensures.ok files (g.C.Disks.disks c.args.channels.now) memory) in
    record {
      ok = subst (λ (d : DevicesValue).
          IfOk c.type_line.result (λ reported.
          IsAnswered (requested c.args.line.now.typed.now before) (g.W.UserDirectory.known c.args.line.now.users.now)
          c.args.line.now.typed.now
          before reported (after d))) are
          (subst (λ (q : Request).
          IfOk c.type_line.result (λ reported.
          IsAnswered q (g.W.UserDirectory.known c.args.line.now.users.now) c.args.line.now.typed.now before reported
          (after left)))
          (sym judged) typed);
      err = λ other. subst (λ (d : DevicesValue). OnErr c.type_line.result (after d ≡ before)) are
          (c.type_line.ensures.err files (g.C.Disks.disks c.args.channels.now) memory);
      unchanged_without_frames = search rules;
      memory = search rules;
    }

pub returns-in-Asks-clause-ends : goal.returns-in-Asks-clause-ends
returns-in-Asks-clause-ends g c =
    let memory = g.S.Storage.memory c.args.storage.now in
    let disks = g.C.Disks.disks c.args.channels.now in
    let before : Equipped = equipped c.args.machine.now (devices_on c.args.self.now c.args.queues.now) disks memory in
    let after : Equipped = equipped c.args.machine.now (devices_on c.obey.new.self c.obey.new.queues) disks memory in
    let has = c.is_some-has_console.ensures ∙ ap (λ (p : Places). is_some p.console) c.places.ensures in
    let judged : requested c.args.line.now.typed.now before ≡ Asks c.in-Asks.command =
    requested_is (Asks c.in-Asks.command) before c.args.line.now.typed.now c.as_slice.result.now c.mode.result
    c.is_some-has_console.result c.in-Asks.ensures c.mode.ensures has
    (c.as_slice.ensures.value ∙ c.new-text.ensures) in
    record {
      ok = subst (λ (q : Request). IfOk c.obey.result
          (λ reported. IsAnswered q (g.W.UserDirectory.known c.args.line.now.users.now) c.args.line.now.typed.now
          before reported after))
          (sym judged) (c.obey.ensures.ok (machine_of c.args.machine.now memory) disks);
      err = search rules;
      unchanged_without_frames = search rules;
      memory = search rules;
    }

pub returns-in-Loads-clause-ends : goal.returns-in-Loads-clause-ends
returns-in-Loads-clause-ends g c =
    let before : Equipped = equipped c.args.machine.now (devices_on c.args.self.now c.args.queues.now)
    (g.C.Disks.disks c.args.channels.now) (g.S.Storage.memory c.args.storage.now) in
    let has = c.is_some-has_console.ensures ∙ ap (λ (p : Places). is_some p.console) c.places.ensures in
    let judged : requested c.args.line.now.typed.now before ≡ Loads c.in-Loads.device =
    requested_is (Loads c.in-Loads.device) before c.args.line.now.typed.now c.as_slice.result.now c.mode.result
    c.is_some-has_console.result c.in-Loads.ensures c.mode.ensures has
    (c.as_slice.ensures.value ∙ c.new-text.ensures) in
    let after : Equipped = equipped c.ipl.new.machine (devices_on c.ipl.new.self c.ipl.new.queues)
    (g.C.Disks.disks c.ipl.new.channels) (g.S.Storage.memory c.ipl.new.storage) in
    record {
      ok = subst (λ (q : Request). IfOk c.ipl.result
          (λ reported. IsAnswered q (g.W.UserDirectory.known c.args.line.now.users.now) c.args.line.now.typed.now
          before reported after))
          (sym judged) c.ipl.ensures.ok;
      err = search rules;
      unchanged_without_frames = search rules;
      memory = subst (λ (q : Request). c.ipl.result ≡ Err errors.Memory
          → MayTakeMemory (g.W.UserDirectory.known c.args.line.now.users.now) q before) (sym judged)
          c.ipl.ensures.takes;
    }

pub returns-in-Loads-clause-brings : goal.returns-in-Loads-clause-brings
returns-in-Loads-clause-brings g c =
    let before : Equipped = equipped c.args.machine.now (devices_on c.args.self.now c.args.queues.now)
    (g.C.Disks.disks c.args.channels.now) (g.S.Storage.memory c.args.storage.now) in
    let has = c.is_some-has_console.ensures ∙ ap (λ (p : Places). is_some p.console) c.places.ensures in
    let judged : requested c.args.line.now.typed.now before ≡ Loads c.in-Loads.device =
    requested_is (Loads c.in-Loads.device) before c.args.line.now.typed.now c.as_slice.result.now c.mode.result
    c.is_some-has_console.result c.in-Loads.ensures c.mode.ensures has
    (c.as_slice.ensures.value ∙ c.new-text.ensures) in
    let size = length (g.S.Storage.memory c.args.storage.now).bytes in
    record {
      frames = search rules;
      lacks = search rules;
      out = λ ipl. subst (λ (q : Request). g.C.Channels.is_whole ≡ true → c.ipl.result ≡ Err errors.FramesOut
          → IsOutOfFrames size (LoadWants q before)
          (NoRoom g.C.Channels.IsOut g.C.Channels.IsFilled g.S.Storage.present c.ipl.new.storage (LoadWants q before)))
          (sym judged) c.ipl.ensures.out;
      roomy = λ ipl. subst (λ (q : Request). g.C.Channels.is_whole ≡ true → c.ipl.result ≡ Err errors.Memory
          → LineHadRoom g.C.Channels.HadRoomToLoad c.args.storage.now c.ipl.new.storage q before) (sym judged)
          c.ipl.ensures.roomy;
      cleared = search rules;
      not_cleared = search rules;
      supply = search rules;
      paged_in = λ ipl. (
        subst (λ (q : Request). Brings (g.C.Channels.Came load_times) c.args.storage.now (LoadWants q before)
            c.ipl.new.storage) (sym judged) c.ipl.ensures.paged_in,
        c.ipl.ensures.ready,
      );
      size = g.met.C.Channels.came_size _ _ _ _ c.ipl.ensures.paged_in.1;
    }

pub returns-in-Resets-clause-brings : goal.returns-in-Resets-clause-brings
returns-in-Resets-clause-brings g c = record {
  frames = search rules;
  lacks = search rules;
  out = search rules;
  roomy = search rules;
  cleared = search rules;
  not_cleared = search rules;
  supply = λ _ _.
      ([], g.met.S.Supply.brought_none _ _ (g.met.S.Keyed.rest_kept _ _ (g.met.S.Storage.keeps_same _)), tt);
  paged_in = search rules;
  size = search rules;
}

pub returns-in-Asks-clause-brings : goal.returns-in-Asks-clause-brings
returns-in-Asks-clause-brings g c = record {
  frames = search rules;
  lacks = search rules;
  out = search rules;
  roomy = search rules;
  cleared = search rules;
  not_cleared = search rules;
  supply = λ _ _.
      ([], g.met.S.Supply.brought_none _ _ (g.met.S.Keyed.rest_kept _ _ (g.met.S.Storage.keeps_same _)), tt);
  paged_in = search rules;
  size = search rules;
}

use Rattle.std.proofs.Common.{◌≡◌, ◌∙◌, ap, rules}
use Rattle.machine_channels.proofs.Staying.{none_lacks}
use Rattle.cp_spool.specs.Queues.{files_of, read_on}
use Rattle.cp_spool.specs.Reader.{ReaderPart, fed_by, feed_machine, part_new}
use Rattle.cp_spool.proofs.Others.{files_now}
use Rattle.machine_devices.proofs.Fed.{came_loaded, loaded_fed, out_loaded, read_is}
use Rattle.machine_channels.specs.Channels.{load_times}
use Rattle.machine_devices.proofs.feeding.load_fed.Goals as goal

pub returns-in-Ok-clause-loads : goal.returns-in-Ok-clause-loads
returns-in-Ok-clause-loads g c =
    let files = files_of c.args.queues.now.users c.args.user in
    let memory = g.S.Storage.memory c.args.storage.now in
    let is : c.new-fed.result ≡ fed_by files part_new =
    c.new-fed.ensures ∙ ap (λ (p : ReaderPart). fed_by files p) c.new.ensures in
    let read : files_of c.remove_read.new.self.users c.args.user
    ≡ read_on c.into_parts-left.result.1.ended c.into_parts-left.result.1.place files =
    files_now c.args.queues.now.users c.remove_read.new.self.users c.args.user _ c.requires.user c.remove_read.ensures
    in
    let now : files_of c.remove_read.new.self.users c.args.user
    ≡ read_on c.load-ended.new.device.ended c.load-ended.new.device.place files =
    read_is files _ _ _ _ _ c.into_parts-left.ensures.ended c.into_parts-left.ensures.place read in
    record {
      walk = loaded_fed files part_new c.new-fed.result c.load-ended.new.device
          (files_of c.remove_read.new.self.users c.args.user) c.into_parts-left.result.0 is
          c.into_parts-left.ensures.reader now memory c.in-Ok.ending (g.S.Storage.memory c.load-ended.new.storage)
          c.in-Ok.ensures.walk;
      lacks = search rules;
      whole = search rules;
      roomy = search rules;
      there = search rules;
      pages_unchanged = search rules;
      paged_in = came_loaded files part_new c.new-fed.result is memory g.C.Channels.IsOut g.C.Channels.IsFilled
          g.S.Storage.present (g.C.Channels.Came load_times) c.args.storage.now c.load-ended.new.storage
          c.load-ended.ensures.paged_in;
      ready = c.load-ended.ensures.ready;
    }

pub returns-in-Err-clause-loads : goal.returns-in-Err-clause-loads
returns-in-Err-clause-loads g c =
    let files = files_of c.args.queues.now.users c.args.user in
    let memory = g.S.Storage.memory c.args.storage.now in
    let is : c.new-fed.result ≡ fed_by files part_new =
    c.new-fed.ensures ∙ ap (λ (p : ReaderPart). fed_by files p) c.new.ensures in
    record {
      walk = search rules;
      lacks = λ apart. none_lacks feed_machine (g.S.Storage.present c.args.storage.now) memory c.new-fed.result
          c.in-Err.error (c.in-Err.ensures.stopped apart);
      whole = λ whole. out_loaded files part_new c.new-fed.result is memory g.C.Channels.IsOut g.C.Channels.IsFilled
          g.S.Storage.present (g.C.Channels.Came load_times) c.args.storage.now c.load-ended.new.storage c.in-Err.error
          _ _ _ (λ same. same.0) (c.in-Err.ensures.whole whole);
      roomy = λ whole refused. (c.new-fed.result, c.in-Err.ensures.roomy whole refused);
      there = search rules;
      pages_unchanged = search rules;
      paged_in = came_loaded files part_new c.new-fed.result is memory g.C.Channels.IsOut g.C.Channels.IsFilled
          g.S.Storage.present (g.C.Channels.Came load_times) c.args.storage.now c.load-ended.new.storage
          c.load-ended.ensures.paged_in;
      ready = c.load-ended.ensures.ready;
    }

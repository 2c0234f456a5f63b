use Rattle.std.proofs.Common.{◌≡◌, ◌∙◌, ap}
use Rattle.cp_spool.specs.Queues.{files_of, read_on}
use Rattle.cp_spool.specs.Reader.{ReaderPart, fed_by}
use Rattle.cp_spool.proofs.Others.{files_now}
use Rattle.machine_devices.proofs.Fed.{came_fed, out_fed, read_is, same_fed, stops_fed, walks_fed}
use Rattle.machine_channels.specs.Channels.{serve_times}
use Rattle.machine_devices.proofs.feeding.run_fed.Goals as goal

pub returns-clause-runs : goal.returns-clause-runs
returns-clause-runs g c =
    let files = files_of c.args.queues.now.users c.args.user in
    let memory = g.S.Storage.memory c.args.storage.now in
    let is : c.new-fed.result ≡ fed_by files c.args.reader.now =
    c.new-fed.ensures ∙ ap (λ (p : ReaderPart). fed_by files p) c.replace.ensures.value in
    let read : files_of c.remove_read.new.self.users c.args.user
    ≡ read_on c.into_parts-left.result.1.ended c.into_parts-left.result.1.place files =
    files_now c.args.queues.now.users c.remove_read.new.self.users c.args.user _ c.requires.user c.remove_read.ensures
    in
    let now : files_of c.remove_read.new.self.users c.args.user
    ≡ read_on c.run-ended.new.device.ended c.run-ended.new.device.place files =
    read_is files _ _ _ _ _ c.into_parts-left.ensures.ended c.into_parts-left.ensures.place read in
    record {
      walk = walks_fed files c.args.reader.now c.new-fed.result c.run-ended.new.device
          (files_of c.remove_read.new.self.users c.args.user) c.into_parts-left.result.0 is
          c.into_parts-left.ensures.reader now c.run-ended.result g.C.Channels.reads c.args.start _ _
          c.run-ended.ensures.walk;
      stopped = λ apart. stops_fed c.run-ended.result (g.S.Storage.present c.args.storage.now) c.args.start memory files
          c.args.reader.now c.new-fed.result is (c.run-ended.ensures.stopped apart);
      roomy = λ whole refused. (c.new-fed.result, c.run-ended.ensures.roomy whole refused);
      paged_in = came_fed files c.args.reader.now c.new-fed.result is memory g.C.Channels.IsOut g.C.Channels.IsFilled
          g.S.Storage.present (g.C.Channels.Came serve_times) c.args.storage.now c.run-ended.new.storage
          g.C.Channels.holds c.args.start c.run-ended.ensures.paged_in;
      ready = c.run-ended.ensures.ready;
    }

pub returns-clause-whole : goal.returns-clause-whole
returns-clause-whole g c = λ whole.
    let files = files_of c.args.queues.now.users c.args.user in
    let is : c.new-fed.result ≡ fed_by files c.args.reader.now =
    c.new-fed.ensures ∙ ap (λ (p : ReaderPart). fed_by files p) c.replace.ensures.value in
    let read : files_of c.remove_read.new.self.users c.args.user
    ≡ read_on c.into_parts-left.result.1.ended c.into_parts-left.result.1.place files =
    files_now c.args.queues.now.users c.remove_read.new.self.users c.args.user _ c.requires.user c.remove_read.ensures
    in
    let now : files_of c.remove_read.new.self.users c.args.user
    ≡ read_on c.run-ended.new.device.ended c.run-ended.new.device.place files =
    read_is files _ _ _ _ _ c.into_parts-left.ensures.ended c.into_parts-left.ensures.place read in
    out_fed files c.args.reader.now c.new-fed.result is (g.S.Storage.memory c.args.storage.now) g.C.Channels.IsOut
    g.C.Channels.IsFilled g.S.Storage.present (g.C.Channels.Came serve_times) c.args.storage.now c.run-ended.new.storage
    c.run-ended.result g.C.Channels.holds c.args.start _ _ _
    (λ same. (let stays = same_fed files c.args.reader.now c.new-fed.result c.run-ended.new.device
    (files_of c.remove_read.new.self.users c.args.user) c.into_parts-left.result.0 is c.into_parts-left.ensures.reader
    now same.1 in (same.0, stays.0, stays.1)))
    (c.run-ended.ensures.whole whole)

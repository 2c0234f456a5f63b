-- A reader that feeds is a reader.
use Rattle.std.proofs.Common.{◌≡◌, Bool, None, ap, subst, sym, ◌∙◌}
use Rattle.s370_walk.specs.Walk.{Over, State, live, start_spot, walk}
use Rattle.s370_channel.specs.Guest.{guest_written}
use Rattle.s370_channel.specs.Loading.{implied_word, loading, loading_limits}
use Rattle.s370_channel.specs.Progress.{setting}
use Rattle.s370_channel.specs.Runs.{begun, limited}
use Rattle.s370_channel.specs.Start.{most_commands}
use Rattle.s370_channel.specs.Supplied.{IsTouched}
use Rattle.s370_channel.specs.declared.running.ChannelError.TheVariants as errors
use Rattle.unit_record.specs.Reader.{ReaderState, reader_machine}
use Rattle.cp_spool.specs.Alike.{AFedReaderIsAReader, AFedReaderIsLoadedFrom, AFedReaderStops, AFedReaderTouches}
use Rattle.cp_spool.specs.Alike.{AFedReaderTouchesLoading, reader_of}
use Rattle.cp_spool.specs.Reader.{FeedState, fed_by, feed_machine}
use Rattle.cp_spool.proofs.Feeds.{feeds_as_reader, keeps_its_queue, seen, seen_is}
use Rattle.cp_spool.proofs.Walks.{entered_alike, entered_kept, kept_in, state_seen, stuck_alike, touched_alike}
use Rattle.cp_spool.proofs.Walks.{walk_alike, walk_kept}

-- A reader that feeds from the queue walks as a reader that has its decks.
pub fed_walks : AFedReaderIsAReader
fed_walks reads start m files part e n f walks =
    let kept : f.decks ≡ files.decks =
    ap (kept_in (limited feed_machine start) (λ (x : FeedState). x.decks) keeps_its_queue) (sym walks.comes)
    ∙ walk_kept (limited feed_machine start) (λ (x : FeedState). x.decks) keeps_its_queue (reads m) walks.steps
    (begun start m (fed_by files part)) in
    record {
      steps = walks.steps;
      comes = walk_alike feed_machine reader_machine seen feeds_as_reader start.key most_commands 0 (reads m)
          walks.steps (begun start m (fed_by files part))
          ∙ ap (state_seen feed_machine reader_machine seen feeds_as_reader start.key most_commands 0) walks.comes
          ∙ ap (λ (r : ReaderState). Over e n r) (seen_is files f kept);
    }

-- A reader that feeds from the queue is loaded from as one that has its decks.
pub fed_loads : AFedReaderIsLoadedFrom
fed_loads m files part e n f walks =
    let h = setting feed_machine loading_limits in
    let kept : f.decks ≡ files.decks = ap (kept_in h (λ (x : FeedState). x.decks) keeps_its_queue) (sym walks.comes)
    ∙ walk_kept h (λ (x : FeedState). x.decks) keeps_its_queue (live guest_written) walks.steps
    (loading feed_machine m (fed_by files part))
    ∙ entered_kept h (λ (x : FeedState). x.decks) keeps_its_queue (start_spot 0) implied_word None m (fed_by files part)
    in
    let g = setting reader_machine loading_limits in
    record {
      steps = walks.steps;
      comes = ap (λ (s : State ReaderState). walk (live guest_written) g walks.steps s)
          (entered_alike feed_machine reader_machine seen feeds_as_reader 0 most_commands 0 (start_spot 0) implied_word
          None m (fed_by files part))
          ∙ walk_alike feed_machine reader_machine seen feeds_as_reader 0 most_commands 0 (live guest_written)
          walks.steps (loading feed_machine m (fed_by files part))
          ∙ ap (state_seen feed_machine reader_machine seen feeds_as_reader 0 most_commands 0) walks.comes
          ∙ ap (λ (r : ReaderState). Over e n r) (seen_is files f kept);
    }

-- A reader that feeds from the queue stops as one that has its decks.
pub fed_stops : AFedReaderStops
fed_stops present start m files part errors.Memory short = absurd (cc short.needed)
fed_stops present start m files part (errors.Absent page) stuck =
    stuck_alike feed_machine reader_machine seen feeds_as_reader start.key most_commands 0 guest_written present
    (begun start m (fed_by files part)) page.0 stuck

-- A reader that feeds from the queue touches the pages that one with its decks touches.
pub fed_touches : AFedReaderTouches
fed_touches start m files part page touched =
    touched_alike feed_machine reader_machine seen feeds_as_reader start.key most_commands 0 guest_written
    (begun start m (fed_by files part)) page touched

-- A loading from the queue touches the pages that one from its decks touches.
pub fed_touches_loading : AFedReaderTouchesLoading
fed_touches_loading m files part page touched =
    let g = setting reader_machine loading_limits in
    let begins : loading reader_machine m (reader_of files part)
    ≡ state_seen feed_machine reader_machine seen feeds_as_reader 0 most_commands 0
    (loading feed_machine m (fed_by files part)) =
    entered_alike feed_machine reader_machine seen feeds_as_reader 0 most_commands 0 (start_spot 0) implied_word None m
    (fed_by files part) in
    subst (λ (s : State ReaderState). IsTouched guest_written g s page) (sym begins)
    (touched_alike feed_machine reader_machine seen feeds_as_reader 0 most_commands 0 guest_written
    (loading feed_machine m (fed_by files part)) page touched)

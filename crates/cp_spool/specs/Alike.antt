-- A reader that feeds from a queue is a reader that has the decks of the queue itself.
use Rattle.std.specs.Prelude.{ℕ, Bool}
use Rattle.s370_store.specs.Memory.{Memory}
use Rattle.s370_walk.specs.declared.parts.Ending.{Ending}
use Rattle.s370_channel.specs.declared.words.Caw.{Caw}
use Rattle.s370_channel.specs.Reading.{Reading}
use Rattle.s370_channel.specs.Guest.{guest_written}
use Rattle.s370_channel.specs.Loading.{loading, loading_limits}
use Rattle.s370_channel.specs.Progress.{setting}
use Rattle.s370_channel.specs.Runs.{IsStopped, Walks, begun, limited}
use Rattle.s370_channel.specs.Supplied.{IsTouched}
use Rattle.s370_channel.specs.declared.running.ChannelError.{ChannelError}
use Rattle.s370_walk.specs.Short.{nothing_needed}
use Rattle.s370_walk.specs.Walk.{Over, Reaches, live}
use Rattle.unit_record.specs.Reader.{ReaderState, reader_machine}
use Rattle.cp_spool.specs.Queues.{UserFiles, read_on}
use Rattle.cp_spool.specs.Reader.{FeedState, ReaderPart, fed_by, feed_machine}

-- the reader of a user who has these files
abbrev pub reader_of : UserFiles → ReaderPart → ReaderState
reader_of files part = record {
  decks = files.decks;
  place = files.place;
  sense = part.sense;
  giving = part.giving;
}

-- whatever program runs on a reader that feeds: it walks as on a reader, which is left as the queue
-- is once it was told what was read
abbrev pub AFedReaderIsAReader : Type 0
AFedReaderIsAReader = (reads : Reading) (start : Caw) (m : Memory) (files : UserFiles)
    (part : ReaderPart) (e : Ending) (n : Memory) (f : FeedState) →
    Walks reads feed_machine start m (fed_by files part) e n f
    → Walks reads reader_machine start m (reader_of files part) e n
    (reader_of (read_on f.ended f.place files) f.part)

-- so does the program of a loading
abbrev pub AFedReaderIsLoadedFrom : Type 0
AFedReaderIsLoadedFrom =
    (m : Memory) (files : UserFiles) (part : ReaderPart) (e : Ending) (n : Memory) (f : FeedState) →
    Reaches (live guest_written) (setting feed_machine loading_limits)
    (loading feed_machine m (fed_by files part)) (Over e n f)
    → Reaches (live guest_written) (setting reader_machine loading_limits)
    (loading reader_machine m (reader_of files part))
    (Over e n (reader_of (read_on f.ended f.place files) f.part))

-- it touches no page that the reader's program does not touch
abbrev pub AFedReaderTouches : Type 0
AFedReaderTouches = (start : Caw) (m : Memory) (files : UserFiles) (part : ReaderPart) (page : ℕ) →
    IsTouched guest_written (limited feed_machine start) (begun start m (fed_by files part)) page
    → IsTouched guest_written (limited reader_machine start) (begun start m (reader_of files part))
    page

-- so with the program of a loading
abbrev pub AFedReaderTouchesLoading : Type 0
AFedReaderTouchesLoading = (m : Memory) (files : UserFiles) (part : ReaderPart) (page : ℕ) →
    IsTouched guest_written (setting feed_machine loading_limits)
    (loading feed_machine m (fed_by files part)) page
    → IsTouched guest_written (setting reader_machine loading_limits)
    (loading reader_machine m (reader_of files part)) page

-- and where a program is not run, it is not run on the reader for the same reason
abbrev pub AFedReaderStops : Type 0
AFedReaderStops = (present : ℕ → Bool) (start : Caw) (m : Memory) (files : UserFiles)
    (part : ReaderPart) (error : ChannelError) →
    IsStopped feed_machine nothing_needed present start m (fed_by files part) error
    → IsStopped reader_machine nothing_needed present start m (reader_of files part) error

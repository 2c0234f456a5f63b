use Rattle.std.proofs.Common.{◌≡◌, ◌+◌, ◌-◌, ◌*◌, ◌/◌, ◌<◌, ◌≤◌, length, vec_len}
use Rattle.cp_needs.specs.Marks.{unmarked}
use Rattle.cp_needs.specs.Words.{AreSeen, IsAmong}
use Rattle.cp_needs.proofs.Programs.{AreReached, AreVisited}
use Rattle.cp_needs.proofs.words.words_of.Given as goal

abbrev pub invariant-words : goal.invariant-words
invariant-words g l = record {
  known : AreSeen l.words.items l.seen;
  reached : AreReached (g.S.Storage.memory l.storage) l.start l.words.items;
  visited : AreVisited (g.S.Storage.memory l.storage) (g.S.Storage.present l.storage) (length l.seen) l.words.items
      l.done;
  first : l.start / 8 < length l.seen → IsAmong l.words.items l.start;
  behind : l.done ≤ vec_len l.words;
  room : length l.seen ≡ (length (g.S.Storage.memory l.storage).bytes + 4095) / 4096 * 512;
}

abbrev pub decreases-words : goal.decreases-words
decreases-words g l = vec_len l.words + unmarked l.seen - l.done

use Rattle.std.proofs.Common.{◌≡◌, ◌+◌, List, ℕ, ◌++◌, length, map}
use Rattle.frame_map.specs.Runs.{ArePrinted}
use Rattle.frame_map.proofs.map.places_text.Given as goal

abbrev pub invariant-loop-rest : goal.invariant-loop-rest
invariant-loop-rest l = record {
  whole : l.first + length l.rest ≡ length l.places;
  printed : (text : List ℕ) → ArePrinted l.word (map (λ user. user.name) l.users) l.first l.rest text
      → ArePrinted l.word (map (λ user. user.name) l.users) 0 l.places (l.text.items ++ text);
}

abbrev pub decreases-loop-rest : goal.decreases-loop-rest
decreases-loop-rest l = length l.rest

-- The lines of the files of a reader, one after another.
use Rattle.std.proofs.Common.{◌≡◌, ℕ, ◌+◌, ◌≤◌, List, [], ◌∷◌, ◌++◌, length, drop, ap, ◌∙◌, append-nil, Some}
use Rattle.std.proofs.lemmas.List.{drop_all}
use Rattle.std.specs.Prelude.{slice_get}
use Rattle.unit_record.specs.Reader.{DeckValue}
use Rattle.machine_devices.specs.Files.{deck_line}
use Rattle.sessions.specs.Transcript.{ended, queue_lines, told_line}
use Rattle.sessions.proofs.Rest.{from_here, lines_more}

-- a line more
pub one_more : (out after : List ℕ) (names : List (List ℕ)) (name : List ℕ) (decks : List DeckValue) (i : ℕ)
    (deck : DeckValue) → Some deck ≡ slice_get decks i
    → after ≡ out ++ ended (told_line name (deck_line names deck) ∷ [])
    → after ++ ended (queue_lines names name (drop (i + 1) decks)) ≡ out
    ++ ended (queue_lines names name (drop i decks))
one_more out after names name decks i deck is e =
    lines_more out after (told_line name (deck_line names deck) ∷ []) (queue_lines names name (drop (i + 1) decks))
    (queue_lines names name (drop i decks)) (ap (queue_lines names name) (from_here decks i deck is)) e

-- no line more
pub no_more : (out : List ℕ) (names : List (List ℕ)) (name : List ℕ) (decks : List DeckValue) (i : ℕ) → length decks ≤ i
    → out ++ ended (queue_lines names name (drop i decks)) ≡ out
no_more out names name decks i past =
    ap (λ (ds : List DeckValue). out ++ ended (queue_lines names name ds)) (drop_all i decks past) ∙ append-nil out

-- What is played of a script, one event after another.
use Rattle.std.proofs.Common.{◌≡◌, ◌∙◌, ℕ, ◌+◌, ◌<◌, List, [], ◌∷◌, ◌++◌, Option, ap, map, take, drop, length, get_or}
use Rattle.session_script.specs.Script.{EventValue, said}
use Rattle.session_script.specs.declared.event.ScriptEvent.{ScriptEvent}
use Rattle.sessions.specs.Installed.{Installation}
use Rattle.sessions.specs.Schedule.{Act, Scene, acts, acts_of}
use Rattle.sessions.specs.Session.{IsPartly, IsPlayed}
use Rattle.sessions.proofs.Lists.{map_around, map_take_more}
use Rattle.sessions.proofs.Histories.{acts_append, acts_more, partly_more, partly_rest, played_more}

-- A part of what one event asks for is, after all that was before it, a part of the whole.
pub partly_within : {W : Type 0} (i : Installation W) (events : List ScriptEvent) (k : ℕ) (event : ScriptEvent)
    (old mid : Scene W) (new : W) (a b c : Option (List ℕ)) → k < length events → event ≡ get_or events k event
    → IsPlayed i (acts (map said (take k events))) old mid a b → IsPartly i (acts_of (said event)) mid new b c
    → IsPartly i (acts (map said events)) old new a c
partly_within i events k event old mid new a b c inside is p q =
    let done = map said (take k events) in
    let one = said event in
    let rest = map said (drop (k + 1) events) in
    let whole : map said events ≡ (done ++ one ∷ [])
    ++ rest = map_around said events (k + 1) ∙ ap (λ (l : List EventValue). l ++ rest)
    (map_take_more said events k event inside is) in
    let all : acts (map said events) ≡ (acts done ++ acts_of one)
    ++ acts rest = ap acts whole ∙ acts_append (done ++ one ∷ []) rest ∙ ap (λ (l : List Act). l ++ acts rest)
    (acts_more done one) in
    rw all (partly_rest i (acts done ++ acts_of one) (acts rest) old new a c
    (partly_more i (acts done) (acts_of one) old mid new a b c p q))

-- What one event asks for is, after all that was before it, the beginning that is one event longer.
pub played_within : {W : Type 0} (i : Installation W) (events : List ScriptEvent) (k : ℕ) (event : ScriptEvent)
    (old mid new : Scene W) (a b c : Option (List ℕ)) → k < length events → event ≡ get_or events k event
    → IsPlayed i (acts (map said (take k events))) old mid a b → IsPlayed i (acts_of (said event)) mid new b c
    → IsPlayed i (acts (map said (take (k + 1) events))) old new a c
played_within i events k event old mid new a b c inside is p q =
    let done = map said (take k events) in
    rw (map_take_more said events k event inside is)
    (rw (acts_more done (said event)) (played_more i (acts done) (acts_of (said event)) old mid new a b c p q))

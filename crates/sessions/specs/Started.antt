-- What is so of the programs that join the line after an event: each that was started since, once,
-- in the order of their starts.
use Rattle.std.specs.Prelude.{ℕ, ◌≡◌, ◌+◌, ◌≤◌, ◌&&◌, Bool, if◌then◌else◌, List, [], ◌∷◌}
use Rattle.s370_subchannels.specs.declared.subchannel.Subchannel.{Subchannel}
use Rattle.sessions.specs.Installed.{Installed, subchannels_at}
use Rattle.sessions.specs.Schedule.{is_joining, started_since}

-- each of these devices was started last with this number or a later one
abbrev pub StartFrom : ℕ → List Subchannel → Type 0
StartFrom start [] = Unit {0}
StartFrom start (d ∷ ds) = (start ≤ d.last_start) × StartFrom start ds

-- each was started no later than those after it
abbrev pub AreInOrder : List Subchannel → Type 0
AreInOrder [] = Unit {0}
AreInOrder (d ∷ ds) = StartFrom d.last_start ds × AreInOrder ds

-- how many of these devices are such
abbrev pub count : (Subchannel → Bool) → List Subchannel → ℕ
count is_such [] = 0
count is_such (d ∷ ds) = (if is_such d then 1 else 0) + count is_such ds

-- those that were started since are in the order of their starts
abbrev pub StartsAreInOrder : Type 0
StartsAreInOrder = (s : Installed) (user number : ℕ) → AreInOrder (started_since s user number)

-- and of any kind as many as of the user's devices that join
abbrev pub StartsAreComplete : Type 0
StartsAreComplete =
    (s : Installed) (user number : ℕ) (is_such : Subchannel → Bool)
    → count is_such (started_since s user number)
    ≡ count (λ d. is_joining s user number d && is_such d) (subchannels_at s user)

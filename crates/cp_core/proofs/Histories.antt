-- What a whole history is to each user.
use Rattle.std.proofs.Common.{ℕ, [], ◌∷◌, ap}
use Rattle.s370_channel.specs.Reading.{as_reached}
use Rattle.cp_core.specs.Histories.{EachIsBare, own}
use Rattle.cp_core.specs.Local.{local}
use Rattle.cp_core.specs.System.{SystemView, user_at}
use Rattle.cp_core.proofs.Led.{lives_on}

-- The history of a system is to each user that of his bare machine.
pub history : EachIsBare
history first last [] e user = ap (λ (s : SystemView). user_at s user) e
history first last (step ∷ steps) h user =
    lives_on as_reached (local user first step) (own user step.seen steps) (user_at first user) (user_at step.seen user)
    (user_at last user)
    (h.0.replied.applied user) (history step.seen last steps h.1 user)

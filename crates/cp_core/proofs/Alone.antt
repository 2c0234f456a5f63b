-- A user's machine lives on through states that are saved and restored.
use Rattle.std.proofs.Common.{◌≡◌, ◌++◌, ℕ, List, [], ◌∷◌, ap, subst, sym}
use Rattle.s370_channel.specs.Reading.{as_reached}
use Rattle.machine_devices.specs.Equipped.{Equipped}
use Rattle.machine_devices.specs.Life.{Lives}
use Rattle.cp_core.specs.Alone.{GoesOnFromStates, IsRestoredFrom, own_of_all}
use Rattle.cp_core.specs.Histories.{EachIsBare, own}
use Rattle.cp_core.specs.Local.{Step}
use Rattle.cp_core.specs.Saved.{IsOneBySaved}
use Rattle.cp_core.specs.System.{SystemView, user_at}
use Rattle.cp_core.proofs.Led.{lives_on}

module _ (law : EachIsBare) (saved_law : IsOneBySaved) (user : ℕ) where
  -- a restored user is the saved one
  user_restored : (saved restored : SystemView) → IsRestoredFrom saved restored
      → user_at restored user ≡ user_at saved user
  user_restored saved restored h =
      ap (λ (s : SystemView). user_at s user) (saved_law saved restored h.bytes h.directory h.was h.is)

  -- A user's machine lives through its own events, however often the system was saved and restored.
  pub lives_through : (first : SystemView) (steps : List Step) (more : List (List Step)) (last : SystemView)
      (goes : GoesOnFromStates first steps more last)
      → Lives as_reached (own_of_all user first steps more last goes) (user_at first user) (user_at last user)
  lives_through first steps [] last goes = law first last steps goes user
  lives_through first steps (next ∷ more) last goes =
      let saved = goes.0 in
      let restored = goes.1 in
      let before = law first saved steps goes.2 user in
      let after = lives_through restored next more last goes.4 in
      lives_on as_reached (own user first steps) (own_of_all user restored next more last goes.4) (user_at first user)
      (user_at saved user) (user_at last user) before
      (subst (λ (x : Equipped). Lives as_reached (own_of_all user restored next more last goes.4) x (user_at last user))
      (user_restored saved restored goes.3) after)

-- Users and devices of a directory, as scripts know them.
use Rattle.std.proofs.Common.{◌≡◌, ℕ, arith, zero, suc, Bool, true, false, List, [], ◌∷◌, refl, ap, sym}
use Rattle.std.proofs.Common.{◌∙◌, length, map}
use Rattle.std.specs.Prelude.{slice_get, slice_index_or}
use Rattle.cp_core.specs.Histories.{IsHistory as IsSystemHistory}
use Rattle.cp_core.specs.Local.{Step as SystemStep}
use Rattle.cp_core.specs.Stated.{LacksDevice, states_device}
use Rattle.cp_core.specs.System.{SystemView, names_of as names_in}
use Rattle.machine_devices.specs.declared.event.Event.{Event}
use Rattle.machine_devices.specs.declared.event.Event.TheVariants as events
use Rattle.cp_directory.specs.Users.{DirectoryUser}
use Rattle.session_script.specs.Users.{has_device}
use Rattle.session_script.specs.Script.{EventValue, IsOfDevice}
use Rattle.sessions.specs.Installed.{IsHistory, Step, as_said, names_of}
use Rattle.vm370.specs.Goes.{known_users, seen_in, system_goes}
use Rattle.vm370.specs.Histories.{AreHistories, of_system}

-- as many as the directory has
pub known_count : (directory : List DirectoryUser) → length (known_users directory) ≡ length directory
known_count [] = refl
known_count (one ∷ directory) = ap suc (known_count directory)

-- Users have the names that the directory gives.
pub known_names : (directory : List DirectoryUser)
    → map (λ user. user.name) (known_users directory) ≡ map (λ user. user.name) directory
known_names [] = refl
known_names (one ∷ directory) = ap (λ (l : List (List ℕ)). one.name ∷ l) (known_names directory)

-- scripts and the directory give a user the same devices
pub had : (directory : List DirectoryUser) (user device : ℕ)
    → has_device (known_users directory) user device ≡ states_device device (slice_get directory user)
had [] user device = refl
had (one ∷ directory) zero device = refl
had (one ∷ directory) (suc user) device = had directory user device

not_both : (b : Bool) → b ≡ true → b ≡ false → ⊥
not_both b h k = cc

-- an event whose device its user has is for a device that the directory gives him
pub stated : (s : SystemView) (event : Event) → IsOfDevice (known_users s.directory) (as_said event)
    → LacksDevice s event → ⊥
stated s (events.Run user units) h lacks = lacks
stated s (events.Line user text) h lacks = lacks
stated s (events.Tick user) h lacks = lacks
stated s (events.Serve user device) h lacks =
    not_both (states_device device (slice_get s.directory user)) (sym (had s.directory user device) ∙ h) lacks
stated s (events.Deck user cards) h lacks = lacks
stated s (events.Transfer user id to) h lacks = omega (arith, h, lacks, known_count s.directory)

-- ---- histories

step_of : (old : SystemView) (step : Step SystemView) (event : Event) → as_said event ≡ step.said
    → of_system (record { event = event; reply = step.reply; seen = step.left }) ≡ step
step_of old step event e =
    ap (λ (s : EventValue). let one : Step SystemView = record { said = s; reply = step.reply; left = step.left } in
    one) e

together : (step : Step SystemView) (steps : List (Step SystemView)) (one : SystemStep) (more : List SystemStep)
    → of_system one ≡ step → map of_system more ≡ steps → map of_system (one ∷ more) ≡ step ∷ steps
together step steps one more e f =
    ap (λ (s : Step SystemView). s ∷ map of_system more) e ∙ ap (λ (l : List (Step SystemView)). step ∷ l) f

-- Events of a system are histories of it.
pub histories : AreHistories
histories first last [] h = ([], refl, h)
histories first last (step ∷ steps) h =
    let one : SystemStep = record { event = h.0.event; reply = step.reply; seen = step.left } in
    let more = histories step.left last steps h.1 in
    (one ∷ more.0, together step steps one more.0 (step_of first step h.0.event h.0.named) more.1, (h.0.step, more.2))

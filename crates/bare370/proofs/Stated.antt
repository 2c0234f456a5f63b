-- The steps of a session are a history of the machine.
use Rattle.std.proofs.Common.{◌≡◌, ◌∙◌, ℕ, List, [], ◌∷◌, ap, map, refl, sym}
use Rattle.machine_devices.specs.declared.event.Event.{Event}
use Rattle.session_script.specs.Script.{EventValue}
use Rattle.bare_installation.specs.Life.{IsHistory as IsBareHistory, Step as BareStep}
use Rattle.sessions.specs.Installed.{IsHistory, Step, as_said}
use Rattle.bare370.specs.Goes.{Alone, machine_goes}
use Rattle.bare370.specs.Histories.{AreHistories, of_machine}

step_of : (addresses : List ℕ) (step : Step Alone) (event : Event) → as_said event ≡ step.said
    → step.left.addresses ≡ addresses
    → of_machine addresses (record { event = event; reply = step.reply; left = step.left.machine }) ≡ step
step_of addresses step event said known =
    ap (λ (s : EventValue). let one : Step Alone = record {
      said = s;
      reply = step.reply;
      left = record { machine = step.left.machine; addresses = addresses };
    } in one) said
    ∙ ap (λ (l : List ℕ). let one : Step Alone = record {
      said = step.said;
      reply = step.reply;
      left = record { machine = step.left.machine; addresses = l };
    } in one) (sym known)

-- Events of a machine are histories of it.
pub histories : AreHistories
histories first last [] h = ([], refl, ap (λ (a : Alone). a.machine) h)
histories first last (step ∷ steps) h =
    let one : BareStep = record { event = h.0.event; reply = step.reply; left = step.left.machine } in
    let more = histories step.left last steps h.1 in
    let rest : map (of_machine first.addresses) more.0 ≡ steps =
    ap (λ (l : List ℕ). map (of_machine l) more.0) (sym h.0.addresses) ∙ more.1 in (
      one ∷ more.0,
      ap (λ (s : Step Alone). s ∷ map (of_machine first.addresses) more.0)
          (step_of first.addresses step h.0.event h.0.named h.0.addresses)
          ∙ ap (λ (l : List (Step Alone)). step ∷ l) rest,
      (h.0.applied, more.2),
    )

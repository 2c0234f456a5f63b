-- The steps of a session, as a history of the machine.
use Rattle.std.specs.Prelude.{◌≡◌, ℕ, List, map}
use Rattle.bare_installation.specs.Life.{IsHistory as IsBareHistory, Step as BareStep}
use Rattle.sessions.specs.Installed.{IsHistory, Step, as_said}
use Rattle.bare370.specs.Goes.{Alone, machine_goes}

-- a step of the machine as one of a session in which scripts know these addresses
abbrev pub of_machine : List ℕ → BareStep → Step Alone
of_machine addresses step = record {
  said = as_said step.event;
  reply = step.reply;
  left = record { machine = step.left; addresses = addresses };
}

-- each history of an installation of one machine is one of the machine, and the addresses stay
abbrev pub AreHistories : Type 0
AreHistories = (first last : Alone) (steps : List (Step Alone))
    → IsHistory machine_goes first steps last →
    (events : List BareStep) × (map (of_machine first.addresses) events ≡ steps)
    × IsBareHistory first.machine events last.machine

use Rattle.std.proofs.Common.{◌≡◌, ◌≤◌, ◌+◌, All, length, map}
use Rattle.text_words.specs.Lines.{lines_of}
use Rattle.session_script.specs.Script.{IsOfDevice, IsOfUser, MayRefuseMemory, ScriptTakesMemory, read_on, said}
use Rattle.session_script.specs.Script.{script_of}
use Rattle.session_script.proofs.reader.read_script.Given as goal

abbrev pub invariant-loop-rest : goal.invariant-loop-rest
invariant-loop-rest g l =
    let known = g.U.ScriptUsers.known l.users in
    record {
      so_far : script_of known l.text ≡ read_on known l.number
          (record { events = map said l.events.items; cards = l.cards }) (lines_of l.rest);
      users : All (λ e. IsOfUser known (said e)) l.events.items;
      devices : All (λ e. IsOfDevice known (said e)) l.events.items;
      memory : MayRefuseMemory known l.number (record { events = map said l.events.items; cards = l.cards })
          (lines_of l.rest)
          → ScriptTakesMemory known l.text;
      numbered : l.number + length l.rest ≤ length l.text + 1;
    }

abbrev pub decreases-loop-rest : goal.decreases-loop-rest
decreases-loop-rest g l = length l.rest

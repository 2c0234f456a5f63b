use Rattle.std.proofs.Common.{◌≡◌, ◌++◌, drop}
use Rattle.saved_bytes.specs.Codes.{each}
use Rattle.machine_devices.specs.Saved.{note_bytes}
use Rattle.cp_core.proofs.saved.put_notes.Given as goal

abbrev pub invariant-loop-note : goal.invariant-loop-note
invariant-loop-note l = l.out.items ++ each note_bytes (drop l.note-index l.notes) ≡ l.fn.out.items
    ++ each note_bytes l.notes

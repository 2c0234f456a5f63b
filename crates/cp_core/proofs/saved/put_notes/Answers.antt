use Rattle.std.proofs.Common.{arith}
use Rattle.std.proofs.lemmas.Grind.{common_steps}
use Rattle.saved_bytes.proofs.Codes.{each_on}
use Rattle.machine_devices.specs.Saved.{note_bytes}
use Rattle.cp_core.proofs.saved.put_notes.Goals as goal

pub loop-note-preserved : goal.loop-note-preserved
loop-note-preserved c =
    grind (
      arith,
      common_steps,
      each_on note_bytes c.loop-note.out.items c.args.notes.now c.loop-note.note-index c.note-item.result
          c.loop-note-test.true,
    )

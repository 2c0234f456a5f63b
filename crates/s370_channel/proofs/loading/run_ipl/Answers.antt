use Rattle.s370_channel.proofs.Halts.{loading_told}
use Rattle.s370_channel.proofs.loading.run_ipl.Goals as goal

pub returns-in-Err-clause-stuck : goal.returns-in-Err-clause-stuck
returns-in-Err-clause-stuck g c =
    rw c.error.ensures (loading_told (g.F.WordForm.written c.args.program.now) g.D.Device.machine
    g.D.Device.needs_memory _ _ _ _ _ c.in-Err.halt c.in-Err.ensures.halts)

use Rattle.std.proofs.Common.{◌≡◌, ap, ◌∙◌, sym}
use Rattle.s370_store.specs.Memory.{Memory}
use Rattle.s370_rows.specs.State.{state_of}
use Rattle.s370_intr.specs.Units.{core_of, look}
use Rattle.machine_panel.specs.Machine.{Parts}
use Rattle.machine_panel.proofs.Readies.{ready_running}
use Rattle.machine_panel.proofs.machine.Machine.is_ready.Goals as goal

pub returns : goal.returns
returns c =
    let runs = sym (ap (λ (p : Parts). p.mode) c.self.view_is) ∙ c.in-Running.is in
    let looks : (m : Memory)
    → c.look.result ≡ look (core_of (state_of c.args.self.now.cpu m) c.args.self.now.pending
    c.args.self.now.subchannels) =
    λ m. c.look.ensures m ∙ ap (λ (p : Parts). look (core_of (state_of p.cpu m) p.pending p.subchannels)) c.self.view_is
    in
    λ m. c.has_work.ensures ∙ ready_running c.args.self.now c.look.result runs looks m

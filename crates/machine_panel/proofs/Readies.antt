-- When a machine that runs is ready for a unit.
use Rattle.std.proofs.Common.{◌≡◌, refl, sym, ◌∙◌, ap}
use Rattle.s370_store.specs.Memory.{Memory}
use Rattle.s370_rows.specs.State.{state_of}
use Rattle.s370_intr.specs.Units.{Core, core_of, look, unit_at}
use Rattle.s370_intr.specs.Run.{Run, looked, run as run_core}
use Rattle.s370_intr.specs.declared.next.Next.{Next}
use Rattle.s370_intr.specs.declared.next.Next.TheVariants.{Stops, Accepts, AcceptsStatus, Instructs}
use Rattle.s370_intr.specs.declared.next.Reason.TheVariants.{Count}
use Rattle.machine_panel.specs.declared.machine.Mode.TheVariants.{Running}
use Rattle.machine_panel.specs.Machine.{Parts, machine_of}
use Rattle.machine_panel.specs.Ready.{does_something, has_work, is_ready}
use Rattle.machine_panel.specs.Run.{run_in}

after_look : (l : Next) (c : Core) (rest : Run) → rest.reason ≡ Count
    → does_something (looked l c rest).reason ≡ has_work l
after_look (Stops reason) c rest h = refl
after_look (Accepts taken) c rest h = ap does_something h
after_look (AcceptsStatus status) c rest h = ap does_something h
after_look Instructs c rest h = ap does_something h

-- A running machine is ready exactly if it has work.
pub ready_running : (p : Parts) (l : Next) → p.mode ≡ Running
    → ((memory : Memory) → l ≡ look (core_of (state_of p.cpu memory) p.pending p.subchannels)) → (memory : Memory)
    → has_work l ≡ is_ready (machine_of p memory)
ready_running p l runs looks memory =
    let c = core_of (state_of p.cpu memory) p.pending p.subchannels in
    let m = machine_of p memory in
    let reason : (run_in Running 1 m).reason ≡ (run_in p.mode 1 m).reason =
    ap (λ mode. (run_in mode 1 m).reason) (sym runs) in
    ap has_work (looks memory) ∙
    (sym (after_look (look c) c (run_core 0 (unit_at (look c) c)) refl) ∙ ap does_something reason)

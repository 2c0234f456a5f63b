use Rattle.std.proofs.Common.{◌≡◌, ℕ, Bool, true, subst, sym, inl, inr}
use Rattle.s370_rows.specs.State.{state_of}
use Rattle.s370_cpu.specs.Unit.{MeetsUnit}
use Rattle.s370_cpu.specs.Table.{unit}
use Rattle.s370_intr.specs.InputOutput.{configuration_of}
use Rattle.s370_intr.proofs.Instructed.{following_misses, not_asked, saved, stepped}
use Rattle.s370_intr.proofs.unit.instruct_saving.Goals as goal

pub returns-in-Err-clause-instruction : goal.returns-in-Err-clause-instruction
returns-in-Err-clause-instruction g c =
    let m = state_of c.args.cpu.now (g.S.Storage.memory c.args.storage.now) in
    let m1 = state_of c.step-stop.new.cpu (g.S.Storage.memory c.step-stop.new.storage) in
    let m2 = state_of c.follow.new.cpu (g.S.Storage.memory c.follow.new.storage) in
    let devices = c.args.subchannels.now in
    let c2 = configuration_of m2 c.follow.new.subchannels in
    let before = g.S.Storage.present c.args.storage.now in
    let after = g.S.Storage.present c.step-stop.new.storage in
    let stop = c.step-stop.result in
    let spare = c.save_if_page_0_absent.new.spare in
    let same : spare ≡ c.args.cpu.now = elim c.save_if_page_0_absent.ensures [
      | inl here ↦ saved (configuration_of m1 devices) c2 after stop c.in-Err.page c.args.cpu.now spare
          (subst (λ (p : ℕ → Bool). p 0 ≡ true) (sym (g.met.S.Storage.keeps_present _ _ c.step-stop.ensures.rest)) here)
          (not_asked before m m1 stop c.args.cpu.now spare c.in_default.not-Privileged c.step-stop.ensures.unit)
          c.in-Err.ensures.followed
      | inr copied ↦ copied
    ] in
    let whole : MeetsUnit (unit m) before m stop m1 = stepped before m m1 stop c.in_default.not-Privileged
    c.step-stop.ensures.unit in
    rw same (following_misses m m1 devices c2 before after stop c.in-Err.page whole
    (g.met.S.Storage.keeps_present _ _ c.step-stop.ensures.rest) c.in-Err.ensures.followed)

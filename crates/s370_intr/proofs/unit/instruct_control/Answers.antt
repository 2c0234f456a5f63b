use Rattle.std.proofs.Common.{◌≡◌, Err, subst, sym}
use Rattle.s370_rows.specs.declared.cpu.Cpu.{Cpu}
use Rattle.s370_rows.specs.State.{state_of}
use Rattle.s370_cpu.specs.Unit.{MeetsUnit}
use Rattle.s370_cpu.specs.Table.{unit}
use Rattle.s370_cpu.proofs.Units.{handed_back}
use Rattle.s370_intr.specs.InputOutput.{configuration_of}
use Rattle.s370_intr.specs.Units.{MeetsInstruction}
use Rattle.s370_intr.proofs.Instructed.{following_misses, moved_back}
use Rattle.s370_intr.proofs.unit.instruct_control.Goals as goal

pub returns-in-Err : goal.returns-in-Err
returns-in-Err g c =
    let m = state_of c.args.cpu.now (g.S.Storage.memory c.args.storage.now) in
    let m1 = state_of c.control-stop.new.cpu (g.S.Storage.memory c.control-stop.new.storage) in
    let m2 = state_of c.follow.new.cpu (g.S.Storage.memory c.follow.new.storage) in
    let devices = c.args.subchannels.now in
    let before = g.S.Storage.present c.args.storage.now in
    let after = g.S.Storage.present c.control-stop.new.storage in
    let whole : MeetsUnit (unit m) before m c.control-stop.result m1 = handed_back m m m1 c.args.i c.args.ilc
    c.control-stop.result before c.requires.handed c.control-stop.ensures.unit in
    let c2 = configuration_of m2 c.follow.new.subchannels in
    let back : record c2.processor.cpu { psw = m.cpu.psw } ≡ m.cpu = moved_back m m1 c.args.i c.args.ilc devices c2
    before after c.control-stop.result c.in-Err.page c.requires.handed.1 c.control-stop.ensures.unit
    c.in-Err.ensures.followed in
    record {
      instruction = subst (λ (cpu : Cpu). MeetsInstruction before (configuration_of m devices) (Err c.in-Err.page)
          (record c2 { processor = record c2.processor { cpu = cpu } })) (sym back)
          (following_misses m m1 devices c2 before after c.control-stop.result c.in-Err.page whole
          (g.met.S.Keyed.rest_present _ _ c.control-stop.ensures.rest) c.in-Err.ensures.followed);
      rest = g.met.S.Keyed.rest_on _ _ _ c.control-stop.ensures.rest
          (g.met.S.Keyed.rest_kept _ _ c.follow.ensures.rest);
    }

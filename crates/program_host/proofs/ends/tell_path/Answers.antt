use Rattle.std.proofs.Common.{[], ◌∷◌, ◌++◌, codes}
use Rattle.program_host.specs.Deeds.{Complains}
use Rattle.program_host.proofs.Deeds.{adds_more}
use Rattle.program_host.proofs.ends.tell_path.Goals as goal

pub returns-in-Some : goal.returns-in-Some
returns-in-Some g c =
    let deeds = g.H.ProgramHost.deeds in
    rw c.in-Some.is (adds_more (deeds c.args.host.now) (deeds c.complain.new.self) (deeds c.complain_line.new.self)
    (Complains (codes "not saved: ") ∷ []) (Complains (c.in-Some.path.now ++ 10 ∷ []) ∷ []) c.complain.ensures
    c.complain_line.ensures)

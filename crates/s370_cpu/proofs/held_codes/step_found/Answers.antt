use Rattle.s370_cpu.proofs.held_codes.step_found.Goals as goal

pub returns-in_default-clause-rest : goal.returns-in_default-clause-rest
returns-in_default-clause-rest g c = g.met.S.Storage.keeps_same _

use Rattle.std.proofs.Common.{◌∙◌, ap}
use Rattle.s370_store.specs.Memory.{Memory}
use Rattle.cp_dat.proofs.Copying.{came_told, out_told}
use Rattle.cp_dat.proofs.dat.Dat.page_in_unpinned.Goals as goal

pub returns-clause-out : goal.returns-clause-out
returns-clause-out c =
    out_told c.args.self.now c.bring-brought.new.self c.let_go.new.self c.args.page.0 c.bring-brought.result
    c.requires.between c.bring-brought.ensures.refused c.bring-brought.ensures.short c.let_go.ensures.let_go

pub returns-clause-paged_in : goal.returns-clause-paged_in
returns-clause-paged_in c =
    came_told c.args.self.now c.bring-brought.new.self c.let_go.new.self c.args.page.0 c.bring-brought.result
    c.bring-brought.ensures.brought c.bring-brought.ensures.refused c.let_go.ensures.let_go
    (ap (λ (m : Memory). m.keys) (c.let_go.ensures.memory ∙ c.bring-brought.ensures.memory))

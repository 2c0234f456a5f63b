use Rattle.s370_intr.proofs.run.instruct_if_plain.Goals as goal

pub instruct_many-requires-clause-plain : goal.instruct_many-requires-clause-plain
instruct_many-requires-clause-plain g c = c.requires.plain c.if-is_plain.true

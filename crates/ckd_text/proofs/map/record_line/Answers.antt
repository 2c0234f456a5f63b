use Rattle.ckd_text.proofs.map.record_line.Goals as goal

pub returns : goal.returns
returns c =
    rw (
      c.in_ok-id.ensures,
      c.record-record.ensures.id,
      c.record-record.ensures.key,
      c.record-record.ensures.content,
      c.record_cost-cost.ensures.cost,
    ) at c.format.ensures.ok

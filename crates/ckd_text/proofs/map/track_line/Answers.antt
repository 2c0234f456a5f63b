use Rattle.ckd_text.proofs.map.track_line.Goals as goal

pub returns : goal.returns
returns c = rw (
  c.in_ok-home.ensures,
  c.home.ensures,
  c.len-records.ensures.count,
  c.fill_of-fill.ensures,
) at c.format.ensures.ok

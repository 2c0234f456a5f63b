use Rattle.ckd_volume.proofs.orientation.+over_heads.Given as goal

abbrev pub decreases-over_heads : goal.decreases-over_heads
decreases-over_heads l = l.more

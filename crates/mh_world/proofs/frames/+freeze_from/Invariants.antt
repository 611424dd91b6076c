use Rattle.mh_world.proofs.frames.+freeze_from.Given as goal

abbrev pub decreases-freeze_from : goal.decreases-freeze_from
decreases-freeze_from l = l.n

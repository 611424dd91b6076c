use Rattle.std.proofs.Common.{vec_len}
use Rattle.mh_world.proofs.pool.Pool.drop.Given as goal

abbrev pub decreases-loop : goal.decreases-loop
decreases-loop l = vec_len l.self.made

use Rattle.mh_gen.proofs.Resetting.{Resetting}
use Rattle.mh_gen.proofs.generators.put_resets.Given as goal

abbrev pub invariant-loop-n : goal.invariant-loop-n
invariant-loop-n l = Resetting l.d l.g l.initial.out.items l.out.items l.fn.first l.at l.n-counter

use Rattle.std.proofs.Common.{◌≡◌, length}
use Rattle.mh_flat.specs.Body.{block_of}
use Rattle.mh_gen.specs.Steps.{chain_of}
use Rattle.mh_gen.proofs.steps.chained.Given as goal

abbrev pub invariant-loop-test : goal.invariant-loop-test
invariant-loop-test l =
    chain_of l.made.items (block_of l.rest.items) ≡ chain_of l.initial.made.items (block_of l.initial.rest.items)

abbrev pub decreases-loop-test : goal.decreases-loop-test
decreases-loop-test l = length l.made.items

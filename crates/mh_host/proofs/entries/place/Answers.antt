use Rattle.std.proofs.Common.{arith, rules}
use Rattle.mh_host.proofs.EntryLemmas.{puts_here, puts_last}
use Rattle.mh_host.proofs.entries.place.Goals as goal

pub returns-then-is_named-clause-ok : goal.returns-then-is_named-clause-ok
returns-then-is_named-clause-ok c =
    puts_here c.args.entries.now.items c.loop-at.entries.items c.loop-at.at c.args.entry c.index.result.now c.loop-at.invariant.0 (omega arith) (search rules) c.loop-at.invariant.1

pub returns-clause-ok : goal.returns-clause-ok
returns-clause-ok c =
    puts_last c.args.entries.now.items c.loop-at.entries.items c.push.new.self.items c.loop-at.at c.args.entry c.loop-at.invariant.0 (omega arith) c.loop-at.invariant.1 c.in_ok-push.ensures.items

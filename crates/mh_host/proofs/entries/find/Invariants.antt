use Rattle.std.proofs.Common.{◌≡◌, drop}
use Rattle.mh_host.specs.Entries.{held_under}
use Rattle.mh_host.proofs.entries.find.Given as goal

-- no entry so far has the name
abbrev pub invariant-loop-entry : goal.invariant-loop-entry
invariant-loop-entry l = held_under (drop l.entry-index l.entries) l.name ≡ held_under l.entries l.name

use Rattle.std.proofs.Common.{◌≡◌, ◌++◌, drop}
use Rattle.mh_lower.specs.Generators.{locals_of}
use Rattle.mh_lower.proofs.generators.locals_of.Given as goal

abbrev pub invariant-loop-name : goal.invariant-loop-name
invariant-loop-name l = l.all ++ locals_of (drop l.name-index l.names) l.rest ≡ locals_of l.names l.kinds

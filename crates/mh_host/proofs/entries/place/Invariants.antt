use Rattle.std.proofs.Common.{◌≡◌, ◌++◌, take, drop}
use Rattle.mh_host.specs.Entries.{placed}
use Rattle.mh_host.proofs.entries.place.Given as goal

-- nothing changed yet, and the entry goes behind those looked at so far
abbrev pub invariant-loop-at : goal.invariant-loop-at
invariant-loop-at l =
    (l.entries.items ≡ l.fn.entries.items)
    × (take l.at l.entries.items ++ placed (drop l.at l.entries.items) l.entry ≡ placed l.entries.items l.entry)

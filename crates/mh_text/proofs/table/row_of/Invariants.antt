use Rattle.std.proofs.Common.{◌≡◌, drop}
use Rattle.mh_text.specs.Rows.{entries_of, found}
use Rattle.mh_text.proofs.table.row_of.Given as goal

-- what the rows that are left have is what all have
abbrev pub invariant-loop-row : goal.invariant-loop-row
invariant-loop-row l = found (entries_of (drop l.row-index l.rows)) l.text ≡ found (entries_of l.rows) l.text

use Rattle.std.proofs.Common.{◌≡◌, drop}
use Rattle.mh_text.specs.Rows.{entries_of}
use Rattle.mh_pytok.specs.Words.{level_with}
use Rattle.mh_pytok.proofs.words.level_with.Given as goal

-- the rows that are left give the tag what all give it
abbrev pub invariant-loop-row : goal.invariant-loop-row
invariant-loop-row l = level_with (entries_of (drop l.row-index l.rows)) l.tag ≡ level_with (entries_of l.rows) l.tag

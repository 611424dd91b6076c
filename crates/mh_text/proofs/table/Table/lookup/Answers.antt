use Rattle.mh_text.proofs.SpellingLaws.{found_row, found_nothing}
use Rattle.mh_text.proofs.table.Table.lookup.Goals as goal

pub returns-clause-some : goal.returns-clause-some
returns-clause-some c = found_row _ _ c.row_of.result c.row_of.ensures

pub returns-clause-none : goal.returns-clause-none
returns-clause-none c = found_nothing _ _ c.row_of.result c.row_of.ensures

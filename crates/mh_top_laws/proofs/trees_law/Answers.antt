use Rattle.std.proofs.Common.{ap, sym, ◌∙◌}
use Rattle.mh_top_laws.proofs.Trees.{expression_from, expression_back, statement_from, statement_back}
use Rattle.mh_top_laws.proofs.trees_law.Goals as goal

pub returns-clause-expressions : goal.returns-clause-expressions
returns-clause-expressions c = λ a b h. sym (expression_back a) ∙ ap expression_from h ∙ expression_back b

pub returns-clause-statements : goal.returns-clause-statements
returns-clause-statements c = λ a b h. sym (statement_back a) ∙ ap statement_from h ∙ statement_back b

use Rattle.std.proofs.Common.{sym, ap, ◌∙◌}
use Rattle.mh_flat.specs.Body.{statement_of, statement_if, statement_while, statement_count}
use Rattle.mh_flat.proofs.step.Step.into_parts.Goals as goal

pub returns-in-If : goal.returns-in-If
returns-in-If g c = sym (ap statement_of c.in-If.is ∙ statement_if _ _ _)

pub returns-in-While : goal.returns-in-While
returns-in-While g c = sym (ap statement_of c.in-While.is ∙ statement_while _ _)

pub returns-in-Count : goal.returns-in-Count
returns-in-Count g c = sym (ap statement_of c.in-Count.is ∙ statement_count _ _ _ _ _)

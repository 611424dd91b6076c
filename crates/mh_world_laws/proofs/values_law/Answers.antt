use Rattle.mh_world_laws.proofs.Designs.{later_self, later_on, value_stays}
use Rattle.mh_world_laws.proofs.Seeing.{plain_are, scope_holds}
use Rattle.mh_world_laws.proofs.values_law.Goals as goal

pub returns-clause-values : goal.returns-clause-values
returns-clause-values c = value_stays

pub returns-clause-plain : goal.returns-clause-plain
returns-clause-plain c = plain_are

pub returns-clause-same : goal.returns-clause-same
returns-clause-same c = later_self

pub returns-clause-on : goal.returns-clause-on
returns-clause-on c = later_on

pub returns-clause-scopes : goal.returns-clause-scopes
returns-clause-scopes c = λ w ts h. scope_holds w h ts

use Rattle.mh_design.specs.Numbering.{body_of}
use Rattle.mh_design.proofs.LocalPathLaws.{assigned_law}
use Rattle.mh_design.proofs.laws.assigned_laws.Goals as goal

pub returns : goal.returns
returns c = λ g v. assigned_law v (body_of g)

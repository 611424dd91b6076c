use Rattle.mh_plans_laws.proofs.Pathing.{path_named, generator_named}
use Rattle.mh_plans_laws.proofs.paths_law.Goals as goal

pub returns-clause-paths : goal.returns-clause-paths
returns-clause-paths c = λ w top p h k. path_named w h top p k

pub returns-clause-generators : goal.returns-clause-generators
returns-clause-generators c = λ w top g h k. generator_named w h top g k

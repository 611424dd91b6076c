use Rattle.mh_plans.specs.Paths.{ports_in}
use Rattle.mh_plans.specs.Plans.{reads_at}
use Rattle.mh_plans_laws.proofs.Covering.{covers}
use Rattle.mh_plans_laws.proofs.Drawing.{designs_draw, generator_fits}
use Rattle.mh_plans_laws.proofs.Planning.{read_made}
use Rattle.mh_plans_laws.proofs.drawing_law.Goals as goal

pub returns-clause-designs : goal.returns-clause-designs
returns-clause-designs c = λ w top x gs h e. designs_draw w h top x e (reads_at w gs)

pub returns-clause-chosen : goal.returns-clause-chosen
returns-clause-chosen c = λ w top x gs n g h e q. covers w h g (read_made w h top x e gs n g q) (ports_in x.arguments) (reads_at w gs) n q

pub returns-clause-generators : goal.returns-clause-generators
returns-clause-generators c = λ w top k e g h r c m. generator_fits w h top k e r g c m

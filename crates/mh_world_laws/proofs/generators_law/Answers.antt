use Rattle.mh_world_laws.proofs.Reading.{freeze_keeps, read_keeps}
use Rattle.mh_world_laws.proofs.generators_law.Goals as goal

pub returns-clause-frozen : goal.returns-clause-frozen
returns-clause-frozen c = freeze_keeps

pub returns-clause-reads : goal.returns-clause-reads
returns-clause-reads c = λ w ts e g h x s m. read_keeps w h ts e x s g m

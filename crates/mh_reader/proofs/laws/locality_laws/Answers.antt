use Rattle.mh_reader.proofs.Local.{local_bind, local_many}
use Rattle.mh_reader.proofs.laws.locality_laws.Goals as goal

pub returns-clause-after_another : goal.returns-clause-after_another
returns-clause-after_another g c = λ is_end p f here next ts. local_bind is_end p f ts (here ts) (λ x r e. next x r)

pub returns-clause-repeated : goal.returns-clause-repeated
returns-clause-repeated g c = λ is_end step each s. local_many is_end step each s

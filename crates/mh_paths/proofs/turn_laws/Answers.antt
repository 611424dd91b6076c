use Rattle.mh_paths.proofs.Walked.{alike_reads, alike_missed}
use Rattle.mh_paths.proofs.turn_laws.Goals as goal

pub returns : goal.returns
returns g c = λ reads assigns turns body exit. (alike_reads reads assigns turns body, alike_missed reads assigns turns body exit)

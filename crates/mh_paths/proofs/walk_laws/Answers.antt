use Rattle.mh_paths.proofs.Walked.{reads_law, misses_law, happens_law}
use Rattle.mh_paths.proofs.walk_laws.Goals as goal

pub returns-clause-reads : goal.returns-clause-reads
returns-clause-reads g c = reads_law

pub returns-clause-misses : goal.returns-clause-misses
returns-clause-misses g c = misses_law

pub returns-clause-happens : goal.returns-clause-happens
returns-clause-happens g c = happens_law

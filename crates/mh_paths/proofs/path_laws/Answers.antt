use Rattle.mh_paths.proofs.Walked.{some_path}
use Rattle.mh_paths.proofs.path_laws.Goals as goal

pub returns : goal.returns
returns g c = some_path

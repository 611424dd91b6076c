use Rattle.mh_codes.proofs.Division.{floor_division_only}
use Rattle.mh_codes.proofs.floor_division_laws.Goals as goal

pub returns-clause-only : goal.returns-clause-only
returns-clause-only c = floor_division_only

use Rattle.mh_codes.proofs.WidthLaws.{width_of_is}
use Rattle.mh_codes.proofs.width_laws.Goals as goal

pub returns : goal.returns
returns c = width_of_is

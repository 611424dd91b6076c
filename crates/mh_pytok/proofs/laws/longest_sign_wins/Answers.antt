use Rattle.mh_pytok.proofs.LongestLaws.{longest}
use Rattle.mh_pytok.proofs.laws.longest_sign_wins.Goals as goal

pub returns : goal.returns
returns c = longest

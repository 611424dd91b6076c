use Rattle.mh_pytok.specs.Tokens.{start}
use Rattle.mh_pytok.proofs.Unique.{reads_once}
use Rattle.mh_pytok.proofs.laws.one_token_list.Goals as goal

pub returns : goal.returns
returns c = λ src ts us a b. reads_once src start ts us a b

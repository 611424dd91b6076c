use Rattle.mh_pytok.specs.Tokens.{start}
use Rattle.mh_pytok.proofs.Unique.{refused_once}
use Rattle.mh_pytok.proofs.laws.one_refusal.Goals as goal

pub returns : goal.returns
returns c = λ src c d m n a b. refused_once src start c d m n a b

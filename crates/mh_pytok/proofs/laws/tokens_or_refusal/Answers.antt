use Rattle.mh_pytok.specs.Tokens.{start}
use Rattle.mh_pytok.proofs.Unique.{not_both}
use Rattle.mh_pytok.proofs.laws.tokens_or_refusal.Goals as goal

pub returns : goal.returns
returns c = λ src ts code line a b. not_both src start ts code line a b

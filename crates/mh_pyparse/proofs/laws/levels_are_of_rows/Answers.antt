use Rattle.std.proofs.Common.{refl}
use Rattle.mh_pytok.specs.Words.{keywords, signs, level_with}
use Rattle.mh_pyparse.proofs.laws.levels_are_of_rows.Goals as goal

pub returns-clause-negation : goal.returns-clause-negation
unfolding keywords level_with
returns-clause-negation c = refl

pub returns-clause-primaries : goal.returns-clause-primaries
unfolding signs level_with
returns-clause-primaries c = (refl, refl, refl)

pub returns-clause-comparisons : goal.returns-clause-comparisons
unfolding signs level_with
returns-clause-comparisons c = (refl, refl, refl, refl, refl)

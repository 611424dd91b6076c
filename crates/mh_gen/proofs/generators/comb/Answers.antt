use Rattle.std.proofs.Common.{refl}
use Rattle.mh_gen.proofs.Making.{fresh-count, more-count}
use Rattle.mh_gen.proofs.generators.comb.Goals as goal

pub for_ever-requires : goal.for_ever-requires
for_ever-requires c =
    more-count _ _ _ _ _ _ (fresh-count _ _ _ _ _ _ c.new-inner.ensures.items refl c.in_ok-at.ensures) c.in_ok-end.ensures

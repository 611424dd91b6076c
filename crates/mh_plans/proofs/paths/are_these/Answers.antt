use Rattle.std.proofs.Common.{◌≡◌, ◌∙◌, ℤ, List, [], ◌∷◌, length, ap, sym, refl, arith}
use Rattle.std.specs.Prelude.{◌==◌}
use Rattle.std.proofs.lemmas.List.{drop_all}
use Rattle.mh_plans.specs.Paths.{are_these}
use Rattle.mh_plans.proofs.NumberLaws.{suc_not_zero}
use Rattle.mh_plans.proofs.paths.are_these.Goals as goal

none_left : (zs : List ℤ) → (length zs == 0) ≡ are_these zs []
none_left [] = refl
none_left (z ∷ zs) = suc_not_zero (length zs)

pub returns : goal.returns
returns c =
    c.is_empty.ensures
    ∙ none_left c.loop-v.rest.now
    ∙ ap (are_these c.loop-v.rest.now) (sym (drop_all c.loop-v.v-index c.args.items.now (omega arith)))
    ∙ sym c.loop-v.invariant

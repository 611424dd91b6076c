-- What is left without the last.
use Rattle.std.proofs.Common.{◌≡◌, ℕ, List, [], ◌∷◌, ◌++◌, refl, ap}
use Rattle.mh_consts.specs.declared.kinds.Const.{Const}
use Rattle.mh_world.specs.World.{Bindings}
use Rattle.mh_world.specs.Named.{without_last}

pub gone : (bs : Bindings) (b : List ℕ × Const) → without_last (bs ++ b ∷ []) ≡ bs
gone [] b = refl
gone (c ∷ []) b = refl
gone (c ∷ d ∷ ds) b = ap (λ ys. c ∷ ys) (gone (d ∷ ds) b)

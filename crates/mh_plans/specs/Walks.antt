-- What is still to be met, as the program holds it.
use Rattle.std.specs.Prelude.{List, reverse}
use Rattle.std.specs.List.{flat_map}
use Rattle.std.proofs.Common.{Bor}
use Rattle.mh_consts.specs.declared.kinds.Const.{Const}
use Rattle.mh_plans.specs.Order as spec
use Rattle.mh_plans.specs.declared.order.Walk.{Walk}

-- the parts that come next first
abbrev pub parts_ahead : List (Bor (List Const)) → List Const
parts_ahead ss = flat_map (λ s. s.now) (reverse ss)

abbrev pub walk_of : Walk → spec.Walk
walk_of w = record { ahead = parts_ahead w.ahead.items; met = w.met; found = w.found }

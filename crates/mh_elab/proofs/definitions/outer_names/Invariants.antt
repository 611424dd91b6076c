use Rattle.std.proofs.Common.{◌≡◌, ◌++◌, drop}
use Rattle.std.specs.Prelude.{filter, not}
use Rattle.mh_elab.specs.Views.{texts}
use Rattle.mh_exprs.specs.Constant.{is_local}
use Rattle.mh_elab.proofs.definitions.outer_names.Given as goal

abbrev pub invariant-loop-t : goal.invariant-loop-t
invariant-loop-t l = texts l.outer.items ++ filter (λ t. not (is_local l.locals t)) (texts (drop l.t-index l.ts)) ≡ filter (λ t. not (is_local l.locals t)) (texts l.ts)

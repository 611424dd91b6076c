use Rattle.std.proofs.Common.{◌<◌, List, [], ◌∷◌, map, length, Result, arith}
use Rattle.std.proofs.lemmas.Bool.Decides.{nat_tests}
use Rattle.std.proofs.lemmas.Grind.{common_steps}
use Rattle.mh_pytree.specs.declared.expression.PyExpr.{PyExpr}
use Rattle.mh_consts.specs.declared.scope.Scope.{Scope}
use Rattle.mh_consts.specs.Expression.{ex_of, exs}
use Rattle.mh_design.specs.declared.design.Wait.{Wait}
use Rattle.mh_text.specs.declared.code.Code.{Code}
use Rattle.mh_text.specs.declared.fault.Fault.{Fault}
use Rattle.mh_exprs.specs.declared.locals.Locals.{Locals}
use Rattle.mh_text.specs.Faults.{Gives}
use Rattle.mh_lower.specs.Waits.{waits_onto, yielded_items}
use Rattle.mh_lower.proofs.waits.tuple_waits_for.Goals as goal

some_waits : (s : Scope) (ls : Locals) (xs : List PyExpr) (r : Result (List Wait) (Fault Code)) → 0 < length xs →
    Gives (waits_onto s ls [] (exs (map ex_of xs))) r → Gives (yielded_items s ls (exs (map ex_of xs))) r
some_waits s ls [] r h g = absurd (omega (arith, h))
some_waits s ls (x ∷ xs) r h g = g

pub returns : goal.returns
returns c =
    let some : 0 < length c.args.xs.now = grind (arith, common_steps, nat_tests) in
    some_waits c.args.s.now c.args.locals.now c.args.xs.now c.waits_for.result some c.waits_for.ensures

use Rattle.std.proofs.Common.{◌≡◌, List, [], ◌∷◌, sym, subst}
use Rattle.mh_pytree.specs.declared.expression.Argument.{Argument}
use Rattle.mh_exprs.specs.Step.{Grows}
use Rattle.mh_lower.proofs.Counts.{ends_by, three_are}
use Rattle.mh_lower.proofs.statements.ends_in.Goals as goal

pub returns-in-len3 : goal.returns-in-len3
returns-in-len3 c =
    let are : c.args.arguments.now ≡ c.from-item.result ∷ c.to-item.result ∷ c.step-item.result ∷ [] =
    three_are c.args.arguments.now c.from-item.result c.to-item.result c.step-item.result c.in-len3.len_at_least c.in-len3.len_below c.from-item.is c.to-item.is c.step-item.is in
    subst (λ (xs : List Argument). Grows (ends_by c.args.s.now c.args.locals.now c.args.w.now c.args.down xs c.args.d.now) c.ends_and_step.result c.ends_and_step.new.d) (sym are) c.ends_and_step.ensures

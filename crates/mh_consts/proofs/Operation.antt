-- The value of an operation, by its outermost operation.
use Rattle.std.proofs.Common.{◌≡◌, true, Err, ap, if◌then◌else◌}
use Rattle.mh_text.specs.declared.code.Code.TheVariants.{E10KindClash}
use Rattle.mh_consts.specs.declared.scope.Scope.{Scope}
use Rattle.mh_consts.specs.Expression.{Head, Exs, Op}
use Rattle.mh_consts.specs.Outcome.{after}
use Rattle.mh_consts.specs.Constant.{value, values, operate, applied, is_valued}

pub value-operation : (s : Scope) (h : Head) (xs : Exs) → is_valued h ≡ true → value s (Op h xs) ≡ after (values s xs) (operate s (Op h xs))
value-operation s h xs e = ap (λ b. if b then after (values s xs) (applied s h) else Err E10KindClash) e

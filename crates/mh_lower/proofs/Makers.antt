-- The forms of right sides that make bounded numbers.
use Rattle.std.proofs.Common.{◌≡◌, ℕ, ◌&&◌, List, Option, Some, None, is_some, refl}
use Rattle.mh_consts.specs.declared.scope.Scope.{Scope}
use Rattle.mh_consts.specs.Expression.{Ex, slice_from}
use Rattle.mh_exprs.specs.declared.locals.Locals.{Locals}
use Rattle.mh_lower.specs.Bindings.{is_made_view, is_named_view}
use Rattle.mh_lower.specs.Views.{view}
use Rattle.mh_lower.proofs.ViewForms.{views}

pub named-slice_from : (s : Scope) (ls : Locals) (m : Option (List ℕ)) (a n : Ex) →
    is_named_view s ls (view (slice_from m a n)) ≡ (is_some m && is_made_view s ls (view a))
named-slice_from s ls None a n = refl
named-slice_from s ls (Some t) a n = refl

pub ruleset makers = (views, named-slice_from)

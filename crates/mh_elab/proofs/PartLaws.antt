-- The parts of operations and of definitions, one by one.
use Rattle.std.proofs.Common.{◌≡◌, ℕ, ◌-◌, ◌<◌, zero, suc, List, [], ◌∷◌, ◌++◌, map, Option, Some, None, refl, ap, ◌∙◌, arith, slice_get}
use Rattle.std.specs.Option.{option_map}
use Rattle.std.proofs.Common.{Bor}
use Rattle.mh_pytree.specs.declared.expression.Argument.{Argument, out-Argument}
use Rattle.mh_pytree.specs.declared.expression.PyExpr.{PyExpr}
use Rattle.mh_consts.specs.Expression as x
use Rattle.mh_consts.specs.Expression.{Ex, Exs, ex_of, exs, given_of, parts_of, join}
use Rattle.mh_consts.proofs.Shapes.{given-argument}
use Rattle.mh_elab.specs.Machine.{part}
use Rattle.mh_elab.specs.Views.{parts_in, expression_at}

pub slice_from-parts : (m : Option (List ℕ)) (a b : Ex) → parts_in (x.slice_from m a b) ≡ x.two a b
slice_from-parts None a b = refl
slice_from-parts (Some t) a b = refl

less : (n : ℕ) → suc n - 1 ≡ n
less n = omega arith

pub part_more : (e : Ex) (es : Exs) (i : ℕ) → 0 < i → part (x.More e es) i ≡ part es (i - 1)
part_more e es zero h = absurd (omega arith)
part_more e es (suc i) h = rw less refl

part_of_all : {X : Type 0} (f : X → Ex) (xs : List X) (i : ℕ) → part (exs (map f xs)) i ≡ option_map f (slice_get xs i)
part_of_all f [] i = refl
part_of_all f (y ∷ xs) zero = refl
part_of_all f (y ∷ xs) (suc i) = part_of_all f xs i

pub part-all : (xs : List PyExpr) (i : ℕ) → part (exs (map ex_of xs)) i ≡ option_map ex_of (slice_get xs i)
part-all xs i = part_of_all ex_of xs i

pub part-defaults : (xs : List (Bor PyExpr)) (i : ℕ) → part (exs (map expression_at xs)) i ≡ option_map expression_at (slice_get xs i)
part-defaults xs i = part_of_all expression_at xs i

abbrev value_at : Argument → Ex
value_at a = ex_of (out-Argument a).value

pub part-arguments : (xs : List Argument) (i : ℕ) → part (parts_of (map given_of xs)) i ≡ option_map value_at (slice_get xs i)
part-arguments [] i = refl
part-arguments (y ∷ xs) zero = ap (λ g. Some g.1) (given-argument y)
part-arguments (y ∷ xs) (suc i) = part-arguments xs i

pub join-more : (vs : List (Bor PyExpr)) (v : Bor PyExpr) (r : Exs) → join (exs (map expression_at (vs ++ v ∷ []))) r ≡ join (exs (map expression_at vs)) (x.More (expression_at v) r)
join-more [] v r = refl
join-more (u ∷ vs) v r = ap (λ es. x.More (expression_at u) es) (join-more vs v r)

pub join-none : (es : Exs) → join es x.NoMore ≡ es
join-none x.NoMore = refl
join-none (x.More e es) = ap (λ fs. x.More e fs) (join-none es)

pub ruleset part_laws = (slice_from-parts, part_more, part-all, part-defaults, part-arguments, join-more, join-none)

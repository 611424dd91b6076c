-- The values of several parts, one after the other.
use Rattle.std.proofs.Common.{◌≡◌, List, [], ◌∷◌, ◌++◌, map, Result, Ok, Err, refl, ap, ◌∙◌, sym, append_assoc}
use Rattle.mh_pytree.specs.declared.expression.Argument.{Argument}
use Rattle.mh_pytree.specs.declared.expression.PyExpr.{PyExpr}
use Rattle.mh_text.specs.declared.code.Code.{Code}
use Rattle.mh_consts.specs.declared.kinds.Const.{Const}
use Rattle.mh_consts.specs.declared.scope.Scope.{Scope}
use Rattle.mh_consts.specs.Outcome.{Outcome, after}
use Rattle.mh_consts.specs.Expression.{ex_of, given_of, part_of, parts_of, exs}
use Rattle.mh_consts.specs.Constant.{value, values}
use Rattle.mh_consts.specs.Steps.{onto}

onto-next : (vs : List Const) (v : Const) (r : Result (List Const) Code) → onto vs (after r (λ ws. Ok (v ∷ ws))) ≡ onto (vs ++ v ∷ []) r
onto-next vs v (Ok ws) = ap Ok (sym (append_assoc vs (v ∷ []) ws))
onto-next vs v (Err code) = refl

onto-value : (vs : List Const) (v : Const) (x : Outcome) (r : Result (List Const) Code) → x ≡ Ok v → onto vs (after x (λ v. after r (λ ws. Ok (v ∷ ws)))) ≡ onto (vs ++ v ∷ []) r
onto-value vs v x r e = ap (λ x. onto vs (after x (λ v. after r (λ ws. Ok (v ∷ ws))))) e ∙ onto-next vs v r

onto-broken : (vs : List Const) (code : Code) (x : Outcome) (r : Result (List Const) Code) → x ≡ Err code → onto vs (after x (λ v. after r (λ ws. Ok (v ∷ ws)))) ≡ Err code
onto-broken vs code x r e = ap (λ x. onto vs (after x (λ v. after r (λ ws. Ok (v ∷ ws))))) e

-- the values of these expressions
abbrev pub row : Scope → List PyExpr → Result (List Const) Code
row s xs = values s (exs (map ex_of xs))

pub row-value : (s : Scope) (vs : List Const) (v : Const) (e : PyExpr) (xs : List PyExpr) → value s (ex_of e) ≡ Ok v → onto vs (row s (e ∷ xs)) ≡ onto (vs ++ v ∷ []) (row s xs)
row-value s vs v e xs h = onto-value vs v (value s (ex_of e)) (row s xs) h

pub row-broken : (s : Scope) (vs : List Const) (code : Code) (e : PyExpr) (xs : List PyExpr) → value s (ex_of e) ≡ Err code → onto vs (row s (e ∷ xs)) ≡ Err code
row-broken s vs code e xs h = onto-broken vs code (value s (ex_of e)) (row s xs) h

-- the values of these arguments
abbrev pub given_row : Scope → List Argument → Result (List Const) Code
given_row s xs = values s (parts_of (map given_of xs))

pub given_row-value : (s : Scope) (vs : List Const) (v : Const) (a : Argument) (xs : List Argument) → value s (part_of (given_of a)) ≡ Ok v → onto vs (given_row s (a ∷ xs)) ≡ onto (vs ++ v ∷ []) (given_row s xs)
given_row-value s vs v a xs h = onto-value vs v (value s (part_of (given_of a))) (given_row s xs) h

pub given_row-broken : (s : Scope) (vs : List Const) (code : Code) (a : Argument) (xs : List Argument) → value s (part_of (given_of a)) ≡ Err code → onto vs (given_row s (a ∷ xs)) ≡ Err code
given_row-broken s vs code a xs h = onto-broken vs code (value s (part_of (given_of a))) (given_row s xs) h

pub ruleset rows = (row-value, row-broken)

pub ruleset given_rows = (given_row-value, given_row-broken)

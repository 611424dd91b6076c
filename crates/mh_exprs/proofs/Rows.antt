-- Several arguments, one after the other.
use Rattle.std.proofs.Common.{◌≡◌, true, false, List, ◌∷◌, map, Result, Ok, Err, ap, ◌∙◌}
use Rattle.mh_pytree.specs.declared.expression.Argument.{Argument}
use Rattle.mh_text.specs.declared.code.Code.{Code}
use Rattle.mh_consts.specs.declared.scope.Scope.{Scope}
use Rattle.mh_consts.specs.Expression.{given_of, part_of, parts_of}
use Rattle.mh_consts.specs.Outcome.{after}
use Rattle.mh_design.specs.declared.design.Design.{Design}
use Rattle.mh_exprs.specs.declared.locals.Locals.{Locals}
use Rattle.mh_exprs.specs.declared.typed.Typed.{Typed}
use Rattle.mh_exprs.specs.declared.typed.Row.{Row}
use Rattle.mh_exprs.specs.declared.typed.Work.{Work}
use Rattle.mh_exprs.specs.Expression.{read, row, all}
use Rattle.mh_exprs.specs.Operations.{joined}

-- ---- the parts of a `concat`

-- the parts that are left, after these
abbrev pub row_tail : Scope → Locals → Work → List Argument → Result (Row × Design) Code → Result (Row × Design) Code
row_tail s ls w xs r = after r (λ y. row s ls w y.0 (parts_of (map given_of xs)) y.1)

abbrev pub row_at : Design → Result Row Code → Result (Row × Design) Code
row_at c j = after j (λ q. Ok (q, c))

-- the parts from one that was read on
abbrev pub row_next : Scope → Locals → Work → Row → List Argument → Result (Typed × Design) Code → Result (Row × Design) Code
row_next s ls w r xs x = after x (λ p. row_tail s ls w xs (row_at p.1 (joined r p.0)))

pub row-part : (s : Scope) (ls : Locals) (w : Work) (r q : Row) (a : Argument) (xs : List Argument) (t : Typed) (d c : Design) →
    read s ls w true (part_of (given_of a)) d ≡ Ok (t, c) → joined r t ≡ Ok q →
    row s ls w r (parts_of (map given_of (a ∷ xs))) d ≡ row s ls w q (parts_of (map given_of xs)) c
row-part s ls w r q a xs t d c e f = ap (row_next s ls w r xs) e ∙ ap (λ j. row_tail s ls w xs (row_at c j)) f

pub row-broken : (s : Scope) (ls : Locals) (w : Work) (r : Row) (a : Argument) (xs : List Argument) (code : Code) (d : Design) →
    read s ls w true (part_of (given_of a)) d ≡ Err code →
    row s ls w r (parts_of (map given_of (a ∷ xs))) d ≡ Err code
row-broken s ls w r a xs code d e = ap (row_next s ls w r xs) e

pub row-misfit : (s : Scope) (ls : Locals) (w : Work) (r : Row) (a : Argument) (xs : List Argument) (t : Typed) (code : Code) (d c : Design) →
    read s ls w true (part_of (given_of a)) d ≡ Ok (t, c) → joined r t ≡ Err code →
    row s ls w r (parts_of (map given_of (a ∷ xs))) d ≡ Err code
row-misfit s ls w r a xs t code d c e f = ap (row_next s ls w r xs) e ∙ ap (λ j. row_tail s ls w xs (row_at c j)) f

-- ---- arguments that are read for nothing

abbrev pub all_next : Scope → Locals → Work → List Argument → Result (Typed × Design) Code → Result (Unit {0} × Design) Code
all_next s ls w xs x = after x (λ p. all s ls w (parts_of (map given_of xs)) p.1)

pub all-part : (s : Scope) (ls : Locals) (w : Work) (a : Argument) (xs : List Argument) (t : Typed) (d c : Design) →
    read s ls w false (part_of (given_of a)) d ≡ Ok (t, c) →
    all s ls w (parts_of (map given_of (a ∷ xs))) d ≡ all s ls w (parts_of (map given_of xs)) c
all-part s ls w a xs t d c e = ap (all_next s ls w xs) e

pub all-broken : (s : Scope) (ls : Locals) (w : Work) (a : Argument) (xs : List Argument) (code : Code) (d : Design) →
    read s ls w false (part_of (given_of a)) d ≡ Err code →
    all s ls w (parts_of (map given_of (a ∷ xs))) d ≡ Err code
all-broken s ls w a xs code d e = ap (all_next s ls w xs) e

pub ruleset rows = (row-part, row-broken, row-misfit)

pub ruleset alls = (all-part, all-broken)

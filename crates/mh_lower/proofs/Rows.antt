-- Several expressions or arguments, one after the other.
use Rattle.std.proofs.Common.{◌≡◌, false, List, [], ◌∷◌, ◌++◌, map, Result, Ok, Err, ap}
use Rattle.mh_pytree.specs.declared.expression.Argument.{Argument}
use Rattle.mh_pytree.specs.declared.expression.PyExpr.{PyExpr}
use Rattle.mh_text.specs.declared.code.Code.{Code}
use Rattle.mh_consts.specs.declared.scope.Scope.{Scope}
use Rattle.mh_consts.specs.Expression.{ex_of, exs, given_of, part_of, parts_of}
use Rattle.mh_consts.specs.Outcome.{after}
use Rattle.mh_design.specs.declared.design.Design.{Design}
use Rattle.mh_design.specs.declared.design.Wait.{Wait}
use Rattle.mh_design.specs.declared.statement.PrintPart.{PrintPart}
use Rattle.mh_exprs.specs.declared.locals.Locals.{Locals}
use Rattle.mh_exprs.specs.declared.typed.Typed.{Typed}
use Rattle.mh_exprs.specs.declared.typed.Work.{Work}
use Rattle.mh_exprs.specs.Expression.{read, all}
use Rattle.mh_lower.specs.Statements.{printed_as, printed_onto, text_in}
use Rattle.mh_lower.specs.Waits.{wait_for, waits_onto}

-- ---- what is waited for

abbrev pub waits : Scope → Locals → List Wait → List PyExpr → Result (List Wait) Code
waits s ls ws xs = waits_onto s ls ws (exs (map ex_of xs))

pub waits-more : (s : Scope) (ls : Locals) (ws : List Wait) (e : PyExpr) (xs : List PyExpr) (w : Wait) →
    wait_for s ls (ex_of e) ≡ Ok w → waits s ls ws (e ∷ xs) ≡ waits s ls (ws ++ w ∷ []) xs
waits-more s ls ws e xs w h = ap (λ r. after r (λ v. waits s ls (ws ++ v ∷ []) xs)) h

pub waits-broken : (s : Scope) (ls : Locals) (ws : List Wait) (e : PyExpr) (xs : List PyExpr) (code : Code) →
    wait_for s ls (ex_of e) ≡ Err code → waits s ls ws (e ∷ xs) ≡ Err code
waits-broken s ls ws e xs code h = ap (λ r. after r (λ v. waits s ls (ws ++ v ∷ []) xs)) h

abbrev pub given_waits : Scope → Locals → List Wait → List Argument → Result (List Wait) Code
given_waits s ls ws xs = waits_onto s ls ws (parts_of (map given_of xs))

pub given_waits-more : (s : Scope) (ls : Locals) (ws : List Wait) (a : Argument) (xs : List Argument) (w : Wait) →
    wait_for s ls (part_of (given_of a)) ≡ Ok w → given_waits s ls ws (a ∷ xs) ≡ given_waits s ls (ws ++ w ∷ []) xs
given_waits-more s ls ws a xs w h = ap (λ r. after r (λ v. given_waits s ls (ws ++ v ∷ []) xs)) h

pub given_waits-broken : (s : Scope) (ls : Locals) (ws : List Wait) (a : Argument) (xs : List Argument) (code : Code) →
    wait_for s ls (part_of (given_of a)) ≡ Err code → given_waits s ls ws (a ∷ xs) ≡ Err code
given_waits-broken s ls ws a xs code h = ap (λ r. after r (λ v. given_waits s ls (ws ++ v ∷ []) xs)) h

pub ruleset waiting = (waits-more, waits-broken, given_waits-more, given_waits-broken)

-- ---- what is printed

abbrev pub prints : Scope → Locals → Work → List PrintPart → List Argument → Design → Result (List PrintPart × Design) Code
prints s ls w ps xs d = printed_onto s ls w ps (parts_of (map given_of xs)) d

abbrev pub print_in : Scope → Locals → Work → Argument → Design → Result (PrintPart × Design) Code
print_in s ls w a d = printed_as (text_in s ls (part_of (given_of a))) (read s ls w false (part_of (given_of a))) d

pub prints-more : (s : Scope) (ls : Locals) (w : Work) (ps : List PrintPart) (a : Argument) (xs : List Argument) (p : PrintPart) (d c : Design) →
    print_in s ls w a d ≡ Ok (p, c) → prints s ls w ps (a ∷ xs) d ≡ prints s ls w (ps ++ p ∷ []) xs c
prints-more s ls w ps a xs p d c h = ap (λ (r : Result (PrintPart × Design) Code). after r (λ x. prints s ls w (ps ++ x.0 ∷ []) xs x.1)) h

pub prints-broken : (s : Scope) (ls : Locals) (w : Work) (ps : List PrintPart) (a : Argument) (xs : List Argument) (code : Code) (d : Design) →
    print_in s ls w a d ≡ Err code → prints s ls w ps (a ∷ xs) d ≡ Err code
prints-broken s ls w ps a xs code d h = ap (λ (r : Result (PrintPart × Design) Code). after r (λ x. prints s ls w (ps ++ x.0 ∷ []) xs x.1)) h

pub ruleset printing = (prints-more, prints-broken)

-- ---- arguments that are read for nothing

abbrev pub reads : Scope → Locals → Work → List Argument → Design → Result (Unit {0} × Design) Code
reads s ls w xs d = all s ls w (parts_of (map given_of xs)) d

pub reads-more : (s : Scope) (ls : Locals) (w : Work) (a : Argument) (xs : List Argument) (t : Typed) (d c : Design) →
    read s ls w false (part_of (given_of a)) d ≡ Ok (t, c) → reads s ls w (a ∷ xs) d ≡ reads s ls w xs c
reads-more s ls w a xs t d c h = ap (λ (r : Result (Typed × Design) Code). after r (λ x. reads s ls w xs x.1)) h

pub reads-broken : (s : Scope) (ls : Locals) (w : Work) (a : Argument) (xs : List Argument) (code : Code) (d : Design) →
    read s ls w false (part_of (given_of a)) d ≡ Err code → reads s ls w (a ∷ xs) d ≡ Err code
reads-broken s ls w a xs code d h = ap (λ (r : Result (Typed × Design) Code). after r (λ x. reads s ls w xs x.1)) h

pub ruleset reading = (reads-more, reads-broken)

-- The statements of a source as the body of a generator are the lines that are read of it.
use Rattle.std.proofs.Common.{◌≡◌, ℕ, List, [], ◌∷◌, map, Option, Some, None, refl, ap, sym, ◌∙◌, subst}
use Rattle.mh_pytree.specs.declared.statement.PyStmt.{PyStmt, PyStmt-F, map-PyStmt, roll-PyStmt}
use Rattle.mh_pytree.specs.declared.statement.Branch.{Branch, Branch-F, map-Branch, roll-Branch}
use Rattle.mh_pytree.specs.declared.statement.FuncDef.{FuncDef, FuncDef-F, map-FuncDef, roll-FuncDef}
use Rattle.mh_pytree.specs.declared.statement.PyStmt.TheFolds.{ind-PyStmt, fold-roll-PyStmt, fold-roll-Branch, fold-roll-FuncDef, fold-FuncDef}
use Rattle.mh_consts.specs.Expression.{ex_of}
use Rattle.mh_lower.specs.Body as line
use Rattle.mh_lower.specs.Body.{Line, Lines}
use Rattle.mh_world.specs.Statements.{St, Choice, Fn, Block, st_of, choice_of, fn_of, st_step, choice_step, fn_step, block, choices, block_if_any, line_of_def}
use Rattle.mh_elab.specs.Bodies.{body_line, body_lines, body_choice, body_choices}

unfoldable def_line : FuncDef → ℕ
def_line = fold-FuncDef Line line.Choice ℕ line.line_step line.choice_step line.def_step

abbrev P : PyStmt → Type 0
P s = body_line (st_of s) ≡ line.line_of s

abbrev Q : Branch → Type 0
Q b = body_choice (choice_of b) ≡ line.choice_of b

abbrev R : FuncDef → Type 0
R f = line_of_def (fn_of f) ≡ def_line f

abbrev SP : Type 0
SP = (s : PyStmt) × P s

abbrev SQ : Type 0
SQ = (b : Branch) × Q b

abbrev SR : Type 0
SR = (f : FuncDef) × R f

all_lines : (xs : List SP) → body_lines (block (map st_of (map (λ e. e.0) xs))) ≡ line.lines (map line.line_of (map (λ e. e.0) xs))
all_lines [] = refl
all_lines (x ∷ xs) = ap (λ l. line.Then l (body_lines (block (map st_of (map (λ e. e.0) xs))))) x.1 ∙ ap (λ ls. line.Then (line.line_of x.0) ls) (all_lines xs)

all_choices : (xs : List SQ) → body_choices (choices (map choice_of (map (λ e. e.0) xs))) ≡ line.choices (map line.choice_of (map (λ e. e.0) xs))
all_choices [] = refl
all_choices (x ∷ xs) = ap (λ l. line.OrElse l (body_choices (choices (map choice_of (map (λ e. e.0) xs))))) x.1 ∙ ap (λ ls. line.OrElse (line.choice_of x.0) ls) (all_choices xs)

abbrev plain : PyStmt-F SP SQ SR → PyStmt-F PyStmt Branch FuncDef
plain y = map-PyStmt SP SQ SR PyStmt Branch FuncDef (λ e. e.0) (λ e. e.0) (λ e. e.0) y

abbrev as_st : PyStmt-F PyStmt Branch FuncDef → Line
as_st x = body_line (st_step (map-PyStmt PyStmt Branch FuncDef St Choice Fn st_of choice_of fn_of x))

abbrev as_line : PyStmt-F PyStmt Branch FuncDef → Line
as_line x = line.line_step (map-PyStmt PyStmt Branch FuncDef Line line.Choice ℕ line.line_of line.choice_of def_line x)

stmt_layer : (y : PyStmt-F SP SQ SR) → as_st (plain y) ≡ as_line (plain y)
stmt_layer (PyStmt-F.Value l e) = refl
stmt_layer (PyStmt-F.Assign l t e) = refl
stmt_layer (PyStmt-F.Augment l op t e) = refl
stmt_layer (PyStmt-F.Pass l) = refl
stmt_layer (PyStmt-F.Break l) = refl
stmt_layer (PyStmt-F.Continue l) = refl
stmt_layer (PyStmt-F.Return l e) = refl
stmt_layer (PyStmt-F.Yield l e) = refl
stmt_layer (PyStmt-F.Raise l e) = refl
stmt_layer (PyStmt-F.Assert l e message) = refl
stmt_layer (PyStmt-F.ImportAll l) = refl
stmt_layer (PyStmt-F.Import l names) = refl
stmt_layer (PyStmt-F.Def f) = ap line.Forbidden f.1
stmt_layer (PyStmt-F.If l bs None) = ap (λ c. line.If l c line.End) (all_choices bs)
stmt_layer (PyStmt-F.If l bs (Some other)) =
    ap (λ c. line.If l c (body_lines (block (map st_of (map (λ e. e.0) other))))) (all_choices bs) ∙ ap (λ ls. line.If l (line.choices (map line.choice_of (map (λ e. e.0) bs))) ls) (all_lines other)
stmt_layer (PyStmt-F.For l t e b) = ap (λ ls. line.For l t (ex_of e) ls) (all_lines b)
stmt_layer (PyStmt-F.While l e b) = ap (λ ls. line.While l (ex_of e) ls) (all_lines b)

stmt_rolls : (x : PyStmt-F PyStmt Branch FuncDef) → as_st x ≡ as_line x → P (roll-PyStmt x)
unfolding st_of choice_of fn_of line.line_of line.choice_of def_line
stmt_rolls x h = ap body_line (fold-roll-PyStmt St Choice Fn st_step choice_step fn_step x) ∙ h ∙ sym (fold-roll-PyStmt Line line.Choice ℕ line.line_step line.choice_step line.def_step x)

branch_rolls : (x : Branch-F PyStmt Branch FuncDef) → body_choice (choice_step (map-Branch PyStmt Branch FuncDef St Choice Fn st_of choice_of fn_of x)) ≡ line.choice_step (map-Branch PyStmt Branch FuncDef Line line.Choice ℕ line.line_of line.choice_of def_line x) → Q (roll-Branch x)
unfolding st_of choice_of fn_of line.line_of line.choice_of def_line
branch_rolls x h = ap body_choice (fold-roll-Branch St Choice Fn st_step choice_step fn_step x) ∙ h ∙ sym (fold-roll-Branch Line line.Choice ℕ line.line_step line.choice_step line.def_step x)

branch_layer : (y : Branch-F SP SQ SR) → body_choice (choice_step (map-Branch PyStmt Branch FuncDef St Choice Fn st_of choice_of fn_of (map-Branch SP SQ SR PyStmt Branch FuncDef (λ e. e.0) (λ e. e.0) (λ e. e.0) y))) ≡ line.choice_step (map-Branch PyStmt Branch FuncDef Line line.Choice ℕ line.line_of line.choice_of def_line (map-Branch SP SQ SR PyStmt Branch FuncDef (λ e. e.0) (λ e. e.0) (λ e. e.0) y))
branch_layer y = ap (λ ls. line.Where (ex_of y.test) ls) (all_lines y.body)

def_rolls : (x : FuncDef-F PyStmt Branch FuncDef) → R (roll-FuncDef x)
unfolding st_of choice_of fn_of line.line_of line.choice_of def_line
def_rolls x = ap line_of_def (fold-roll-FuncDef St Choice Fn st_step choice_step fn_step x) ∙ sym (fold-roll-FuncDef Line line.Choice ℕ line.line_step line.choice_step line.def_step x)

pub line-body : (s : PyStmt) → body_line (st_of s) ≡ line.line_of s
line-body = ind-PyStmt P Q R
    (λ x y is. stmt_rolls x (subst (λ x. as_st x ≡ as_line x) is (stmt_layer y)))
    (λ x y is. branch_rolls x (subst (λ x. body_choice (choice_step (map-Branch PyStmt Branch FuncDef St Choice Fn st_of choice_of fn_of x)) ≡ line.choice_step (map-Branch PyStmt Branch FuncDef Line line.Choice ℕ line.line_of line.choice_of def_line x)) is (branch_layer y)))
    (λ x y is. def_rolls x)

pub lines_body : (ss : List PyStmt) → body_lines (block (map st_of ss)) ≡ line.lines (map line.line_of ss)
lines_body [] = refl
lines_body (s ∷ ss) = ap (λ l. line.Then l (body_lines (block (map st_of ss)))) (line-body s) ∙ ap (λ ls. line.Then (line.line_of s) ls) (lines_body ss)

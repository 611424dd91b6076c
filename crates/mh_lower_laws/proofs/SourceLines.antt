-- Calls in the statements of a source tell of each argument whether it has a name.
use Rattle.std.proofs.Common.{◌≡◌, ℕ, true, List, [], ◌∷◌, map, Some, None, refl, ap, ◌∙◌, subst}
use Rattle.std.proofs.lemmas.Bool.{and_from}
use Rattle.mh_pytree.specs.declared.statement.PyStmt.{PyStmt, map-PyStmt}
use Rattle.mh_pytree.specs.declared.statement.Branch.{Branch, map-Branch}
use Rattle.mh_pytree.specs.declared.statement.FuncDef.{FuncDef}
use Rattle.mh_pytree.specs.declared.statement.PyStmt.TheOpen.{PyStmt-F, Branch-F}
use Rattle.mh_pytree.specs.declared.statement.PyStmt.TheFolds.{ind-PyStmt, fold-roll-PyStmt, fold-roll-Branch, fold-FuncDef}
use Rattle.mh_consts.specs.Expression.{ex_of}
use Rattle.mh_lower.specs.Body.{Line, Choice, lines, choices, line_of, choice_of, line_step, choice_step, def_step}
use Rattle.mh_lower_laws.proofs.Keys.{keys_fit}
use Rattle.mh_lower_laws.proofs.SourceKeys.{source_keys}
use Rattle.mh_lower_laws.proofs.BodiesHave.{line_fits, lines_fit, choice_fits, choices_fit}

module _ {A B C : Type 0} (f : A → PyStmt) (g : B → Branch) (h : C → FuncDef) (k : FuncDef → ℕ) (stmts : (a : A) → line_fits (line_of (f a)) ≡ true) (branches : (b : B) → choice_fits (choice_of (g b)) ≡ true) where
  all_fit : (as_ : List A) → lines_fit (lines (map line_of (map f as_))) ≡ true
  all_fit [] = refl
  all_fit (a ∷ rest) = and_from (line_fits (line_of (f a))) (lines_fit (lines (map line_of (map f rest)))) (stmts a) (all_fit rest)

  branches_fit : (bs : List B) → choices_fit (choices (map choice_of (map g bs))) ≡ true
  branches_fit [] = refl
  branches_fit (b ∷ rest) = and_from (choice_fits (choice_of (g b))) (choices_fit (choices (map choice_of (map g rest)))) (branches b) (branches_fit rest)

  stmt_fits : (y : PyStmt-F A B C) → line_fits (line_step (map-PyStmt PyStmt Branch FuncDef Line Choice ℕ line_of choice_of k (map-PyStmt A B C PyStmt Branch FuncDef f g h y))) ≡ true
  stmt_fits (PyStmt-F.Value l e) = source_keys e
  stmt_fits (PyStmt-F.Assign l t e) = and_from (keys_fit (ex_of t)) (keys_fit (ex_of e)) (source_keys t) (source_keys e)
  stmt_fits (PyStmt-F.Augment l o t e) = and_from (keys_fit (ex_of t)) (keys_fit (ex_of e)) (source_keys t) (source_keys e)
  stmt_fits (PyStmt-F.Pass l) = refl
  stmt_fits (PyStmt-F.Break l) = refl
  stmt_fits (PyStmt-F.Continue l) = refl
  stmt_fits (PyStmt-F.Return l e) = refl
  stmt_fits (PyStmt-F.Yield l e) = source_keys e
  stmt_fits (PyStmt-F.Raise l e) = source_keys e
  stmt_fits (PyStmt-F.Assert l e message) = source_keys e
  stmt_fits (PyStmt-F.ImportAll l) = refl
  stmt_fits (PyStmt-F.Import l names) = refl
  stmt_fits (PyStmt-F.Def l) = refl
  stmt_fits (PyStmt-F.If l bs None) = and_from (choices_fit (choices (map choice_of (map g bs)))) true (branches_fit bs) refl
  stmt_fits (PyStmt-F.If l bs (Some other)) = and_from (choices_fit (choices (map choice_of (map g bs)))) (lines_fit (lines (map line_of (map f other)))) (branches_fit bs) (all_fit other)
  stmt_fits (PyStmt-F.For l t e b) = and_from (keys_fit (ex_of e)) (lines_fit (lines (map line_of (map f b)))) (source_keys e) (all_fit b)
  stmt_fits (PyStmt-F.While l e b) = and_from (keys_fit (ex_of e)) (lines_fit (lines (map line_of (map f b)))) (source_keys e) (all_fit b)

  branch_fits : (y : Branch-F A B C) → choice_fits (choice_step (map-Branch PyStmt Branch FuncDef Line Choice ℕ line_of choice_of k (map-Branch A B C PyStmt Branch FuncDef f g h y))) ≡ true
  branch_fits y = and_from (keys_fit (ex_of y.test)) (lines_fit (lines (map line_of (map f y.body)))) (source_keys y.test) (all_fit y.body)

abbrev Fits : PyStmt → Type 0
Fits x = line_fits (line_of x) ≡ true

abbrev BranchFits : Branch → Type 0
BranchFits b = choice_fits (choice_of b) ≡ true

abbrev Any : FuncDef → Type 0
Any f = Unit {0}

pub source_lines : (x : PyStmt) → Fits x
unfolding line_of choice_of
source_lines = ind-PyStmt Fits BranchFits Any
    (λ x y is. ap line_fits (fold-roll-PyStmt Line Choice ℕ line_step choice_step def_step x)
    ∙ subst (λ z. line_fits (line_step (map-PyStmt PyStmt Branch FuncDef Line Choice ℕ line_of choice_of (fold-FuncDef Line Choice ℕ line_step choice_step def_step) z)) ≡ true) is
    (stmt_fits (λ e. e.0) (λ e. e.0) (λ e. e.0) (fold-FuncDef Line Choice ℕ line_step choice_step def_step) (λ e. e.1) (λ e. e.1) y))
    (λ x y is. ap choice_fits (fold-roll-Branch Line Choice ℕ line_step choice_step def_step x)
    ∙ subst (λ z. choice_fits (choice_step (map-Branch PyStmt Branch FuncDef Line Choice ℕ line_of choice_of (fold-FuncDef Line Choice ℕ line_step choice_step def_step) z)) ≡ true) is
    (branch_fits (λ e. e.0) (λ e. e.0) (λ e. e.0) (fold-FuncDef Line Choice ℕ line_step choice_step def_step) (λ e. e.1) (λ e. e.1) y))
    (λ x y is. tt)

pub all_source_lines : (xs : List PyStmt) → lines_fit (lines (map line_of xs)) ≡ true
all_source_lines [] = refl
all_source_lines (x ∷ xs) = and_from (line_fits (line_of x)) (lines_fit (lines (map line_of xs))) (source_lines x) (all_source_lines xs)

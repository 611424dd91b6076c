-- Where the text of each token that is a name is one of Python, so are the names in the tree.
use Rattle.std.proofs.Common.{◌≡◌, ℕ, Bool, true, false, ◌&&◌, List, [], ◌∷◌, ◌++◌, map, Option, Some, None, refl, ap, ◌∙◌, rules, subst}
use Rattle.std.specs.List.{AllByRecursion}
use Rattle.mh_text.specs.Characters.{is_identifier}
use Rattle.mh_pytok.specs.Lexeme.{Lexeme, lexemes}
use Rattle.mh_pytok.specs.Readable.{HasName}
use Rattle.mh_pytok.specs.Strings.{string_value}
use Rattle.mh_pytok.specs.declared.token.Token.{Token}
use Rattle.mh_pytok.specs.declared.token.Tok.TheVariants.{Name}
use Rattle.mh_pytree.specs.declared.expression.PyExpr.{PyExpr}
use Rattle.mh_pytree.specs.declared.expression.PyExpr.{the_lemmas as expr_lemmas}
use Rattle.mh_pytree.specs.declared.expression.Argument.{Argument}
use Rattle.mh_pytree.specs.declared.statement.Param.{Param}
use Rattle.mh_pytree.specs.declared.statement.Branch.{Branch}
use Rattle.mh_pytree.specs.declared.statement.PyStmt.{PyStmt}
use Rattle.mh_pytree.specs.declared.statement.PyStmt.{the_lemmas as stmt_lemmas}
use Rattle.mh_pytree.specs.declared.statement.PyStmt.TheVariants as tree
use Rattle.mh_pytree.specs.Names.{all_of, is_identifier_if_any, expr_names, argument_names, param_names, stmt_names, branch_names, are_names}
use Rattle.mh_pytree.proofs.NameLaws as law
use Rattle.mh_pyparse.specs.Grammar as g
use Rattle.mh_pyparse.specs.Grammar.{argument, IsExpr, AreItems, AreArguments, IsArgument, AreExprs}
use Rattle.mh_pyparse.specs.Statements as st
use Rattle.mh_pyparse.specs.Statements.{branch, definition, AreNames, IsSmall, IsSimple, IsParam, AreParams, AreMarks, IsCompound, AreBranches, IsSuite, IsStmt, AreStmts, IsText}

-- the text of a Name is one of Python
abbrev pub IsNamed : Lexeme → Type 0
IsNamed t = t.kind ≡ Name → is_identifier t.text ≡ true

abbrev pub AreNamed : List Lexeme → Type 0
AreNamed ts = AllByRecursion IsNamed ts

-- so are the tokens of a source
pub are_named : (src : List ℕ) (ts : List Token) → AllByRecursion (HasName src) ts → AreNamed (lexemes src ts)
are_named src [] h = tt
are_named src (t ∷ ts) h = ((λ e. (h.0 e).0), are_named src ts h.1)

front : (v w : List Lexeme) → AreNamed (v ++ w) → AreNamed v
front [] w n = tt
front (t ∷ v) w n = (n.0, front v w n.1)

back : (v w : List Lexeme) → AreNamed (v ++ w) → AreNamed w
back [] w n = n
back (t ∷ v) w n = back v w n.1

both : (a b : Bool) → a ≡ true → b ≡ true → (a && b) ≡ true
both a b e f = rw (e, f) refl

-- ---- expressions

names_argument : (name : Option (List ℕ)) (a : PyExpr) → argument_names (argument name a) ≡ (is_identifier_if_any name && expr_names a)
names_argument name a = law.names-argument (argument name a) ∙ search (rules, expr_lemmas)

mutual
  expr_named : {l : ℕ} {t : PyExpr} {u : List Lexeme} → IsExpr l t u → AreNamed u → expr_names t ≡ true
  expr_named (g.name at h i j) n = let m = subst AreNamed j n in ap expr_names i ∙ law.names-name at.text ∙ m.0 refl
  expr_named (g.number at h i j) n = ap expr_names i ∙ law.names-number _
  expr_named (g.string at h i j) n = ap expr_names i ∙ law.names-str _
  expr_named (g.truth at h i j) n = ap expr_names i ∙ law.names-true
  expr_named (g.falsehood at h i j) n = ap expr_names i ∙ law.names-false
  expr_named (g.nothing at h i j) n = ap expr_names i ∙ law.names-none
  expr_named (g.group at to a v h d i j) n =
      let m = subst AreNamed j n in
      ap expr_names i ∙ law.names-group a ∙ expr_named d (front v _ m.1)
  expr_named (g.empty at to h i j) n = ap expr_names i ∙ law.names-bracketed []
  expr_named (g.bracketed at between to x others v w h d f i j) n =
      let m = subst AreNamed j n in
      let k = back v _ m.1 in
      ap expr_names i ∙ law.names-bracketed (x ∷ others) ∙ both _ _ (expr_named d (front v _ m.1)) (items_named f (front w _ k.1))
  expr_named (g.list at to xs v h d i j) n =
      let m = subst AreNamed j n in
      ap expr_names i ∙ law.names-list xs ∙ items_named d (front v _ m.1)
  expr_named (g.comprehension at at_for at_name at_in to a b v w h d f i j) n =
      let m = subst AreNamed j n in
      let k = back v _ m.1 in
      ap expr_names i ∙ law.names-comprehension a at_name.text b ∙ both _ _ (expr_named d (front v _ m.1)) (both _ _ (k.1.0 refl) (expr_named f (front w _ k.1.1.1)))
  expr_named (g.negation at a v h d i j) n =
      let m = subst AreNamed j n in
      ap expr_names i ∙ law.names-not a ∙ expr_named d m.1
  expr_named (g.unary sign at a v h d i j) n =
      let m = subst AreNamed j n in
      ap expr_names i ∙ law.names-unary sign a ∙ expr_named d m.1
  expr_named (g.binary op at a b v w h d f i j) n =
      let m = subst AreNamed j n in
      let k = back v _ m in
      ap expr_names i ∙ law.names-binary op a b ∙ both _ _ (expr_named d (front v _ m)) (expr_named f k.1)
  expr_named (g.attribute at at_name a v h d i j) n =
      let m = subst AreNamed j n in
      let k = back v _ m in
      ap expr_names i ∙ law.names-attribute a at_name.text ∙ both _ _ (expr_named d (front v _ m)) (k.1.0 refl)
  expr_named (g.call at to f xs v w h d c i j) n =
      let m = subst AreNamed j n in
      let k = back v _ m in
      ap expr_names i ∙ law.names-call f xs ∙ both _ _ (expr_named d (front v _ m)) (arguments_named c (front w _ k.1))
  expr_named (g.index at to a b v w h d f i j) n =
      let m = subst AreNamed j n in
      let k = back v _ m in
      ap expr_names i ∙ law.names-index a b ∙ both _ _ (expr_named d (front v _ m)) (expr_named f (front w _ k.1))
  expr_named (g.slice_from at between to a b v w h d f i j) n =
      let m = subst AreNamed j n in
      let k = back v _ m in
      ap expr_names i ∙ law.names-slice a b None ∙ both _ _ (expr_named d (front v _ m)) (both _ _ (expr_named f (front w _ k.1)) refl)
  expr_named (g.slice at between to a b c v w x h d f p i j) n =
      let m = subst AreNamed j n in
      let k = back v _ m in
      let q = back w _ k.1 in
      ap expr_names i ∙ law.names-slice a b (Some c) ∙ both _ _ (expr_named d (front v _ m)) (both _ _ (expr_named f (front w _ k.1)) (expr_named p (front x _ q.1)))
  expr_named (g.whole at between to a v h d i j) n =
      let m = subst AreNamed j n in
      ap expr_names i ∙ law.names-whole a ∙ expr_named d (front v _ m)

  items_named : {xs : List PyExpr} {u : List Lexeme} → AreItems xs u → AreNamed u → all_of (map expr_names xs) ≡ true
  items_named (g.none i j) n = ap (λ xs. all_of (map expr_names xs)) i
  items_named (g.last x d i) n = ap (λ xs. all_of (map expr_names xs)) i ∙ both _ _ (expr_named d n) refl
  items_named (g.more at x others v w d f i j) n =
      let m = subst AreNamed j n in
      let k = back v _ m in
      ap (λ xs. all_of (map expr_names xs)) i ∙ both _ _ (expr_named d (front v _ m)) (items_named f k.1)

  arguments_named : {xs : List Argument} {u : List Lexeme} → AreArguments xs u → AreNamed u → all_of (map argument_names xs) ≡ true
  arguments_named (g.none_given i j) n = ap (λ xs. all_of (map argument_names xs)) i
  arguments_named (g.last_given x d i) n = ap (λ xs. all_of (map argument_names xs)) i ∙ both _ _ (argument_named d n) refl
  arguments_named (g.more_given at x others v w d f i j) n =
      let m = subst AreNamed j n in
      let k = back v _ m in
      ap (λ xs. all_of (map argument_names xs)) i ∙ both _ _ (argument_named d (front v _ m)) (arguments_named f k.1)

  argument_named : {x : Argument} {u : List Lexeme} → IsArgument x u → AreNamed u → argument_names x ≡ true
  argument_named (g.plain a d i) n = ap argument_names i ∙ names_argument None a ∙ expr_named d n
  argument_named (g.named at_name at a v d i j) n =
      let m = subst AreNamed j n in
      ap argument_names i ∙ names_argument (Some at_name.text) a ∙ both _ _ (m.0 refl) (expr_named d m.1.1)

exprs_named : {t : PyExpr} {u : List Lexeme} → AreExprs t u → AreNamed u → expr_names t ≡ true
exprs_named (g.single d) n = expr_named d n
exprs_named (g.tuple at x others v w d f i j) n =
    let m = subst AreNamed j n in
    let k = back v _ m in
    ap expr_names i ∙ law.names-tuple (x ∷ others) ∙ both _ _ (expr_named d (front v _ m)) (items_named f k.1)

-- ---- small statements

names_named : {names : List (List ℕ)} {u : List Lexeme} → AreNames names u → AreNamed u → all_of (map is_identifier names) ≡ true
names_named (st.one_name at i j) n =
    let m = subst AreNamed j n in
    ap (λ xs. all_of (map is_identifier xs)) i ∙ both _ _ (m.0 refl) refl
names_named (st.more_names at between others v d i j) n =
    let m = subst AreNamed j n in
    ap (λ xs. all_of (map is_identifier xs)) i ∙ both _ _ (m.0 refl) (names_named d m.1.1)

small_named : {t : PyStmt} {u : List Lexeme} → IsSmall t u → AreNamed u → stmt_names t ≡ true
small_named (st.value a d i) n = ap stmt_names i ∙ law.names-value _ a ∙ exprs_named d n
small_named (st.assign at a b v w d f i j) n =
    let m = subst AreNamed j n in
    let k = back v _ m in
    ap stmt_names i ∙ law.names-assign _ a b ∙ both _ _ (exprs_named d (front v _ m)) (exprs_named f k.1)
small_named (st.augment op sign at a b v w h d f i j) n =
    let m = subst AreNamed j n in
    let k = back v _ m in
    ap stmt_names i ∙ law.names-augment _ op a b ∙ both _ _ (expr_named d (front v _ m)) (expr_named f k.1)
small_named (st.pass at i j) n = ap stmt_names i ∙ law.names-pass at.line
small_named (st.break at i j) n = ap stmt_names i ∙ law.names-break at.line
small_named (st.continue at i j) n = ap stmt_names i ∙ law.names-continue at.line
small_named (st.return at i j) n = ap stmt_names i ∙ law.names-return at.line None
small_named (st.return_value at a v d i j) n = let m = subst AreNamed j n in ap stmt_names i ∙ law.names-return at.line (Some a) ∙ exprs_named d m.1
small_named (st.yield at a v d i j) n = let m = subst AreNamed j n in ap stmt_names i ∙ law.names-yield at.line a ∙ exprs_named d m.1
small_named (st.raise at a v d i j) n = let m = subst AreNamed j n in ap stmt_names i ∙ law.names-raise at.line a ∙ expr_named d m.1
small_named (st.assert at a v d i j) n = let m = subst AreNamed j n in ap stmt_names i ∙ law.names-assert at.line a None ∙ expr_named d m.1
small_named (st.assert_saying at between text a v d i j) n =
    let m = subst AreNamed j n in
    ap stmt_names i ∙ law.names-assert at.line a (Some (string_value text.text)) ∙ expr_named d (front v _ m.1)
small_named (st.import_all at of at_import to h i j) n = ap stmt_names i ∙ law.names-importall at.line
small_named (st.import at of at_import names v h d i j) n =
    let m = subst AreNamed j n in
    ap stmt_names i ∙ law.names-import at.line names ∙ names_named d m.1.1.1
small_named (st.import_in_brackets at of at_import from to names v h d i j) n =
    let m = subst AreNamed j n in
    ap stmt_names i ∙ law.names-import at.line names ∙ names_named d (front v _ m.1.1.1.1)
small_named (st.import_with_comma at of at_import from last to names v h d i j) n =
    let m = subst AreNamed j n in
    ap stmt_names i ∙ law.names-import at.line names ∙ names_named d (front v _ m.1.1.1.1)

simple_named : {body : List PyStmt} {u : List Lexeme} → IsSimple body u → AreNamed u → are_names body ≡ true
simple_named (st.ended to x v d i j) n =
    let m = subst AreNamed j n in
    ap are_names i ∙ both _ _ (small_named d (front v _ m)) refl
simple_named (st.ended_twice at to x v d i j) n =
    let m = subst AreNamed j n in
    ap are_names i ∙ both _ _ (small_named d (front v _ m)) refl
simple_named (st.then at x others v w d f i j) n =
    let m = subst AreNamed j n in
    let k = back v _ m in
    ap are_names i ∙ both _ _ (small_named d (front v _ m)) (simple_named f k.1)

-- ---- parameters and marks

param_named : {x : Param} {u : List Lexeme} → IsParam x u → AreNamed u → param_names x ≡ true
param_named (st.bare at i j) n = let m = subst AreNamed j n in ap param_names i ∙ both _ _ (m.0 refl) refl
param_named (st.valued at between a v d i j) n = let m = subst AreNamed j n in ap param_names i ∙ both _ _ (m.0 refl) (expr_named d m.1.1)

params_named : {xs : List Param} {u : List Lexeme} → AreParams xs u → AreNamed u → all_of (map param_names xs) ≡ true
params_named (st.no_param i j) n = ap (λ xs. all_of (map param_names xs)) i
params_named (st.last_param x d i) n = ap (λ xs. all_of (map param_names xs)) i ∙ both _ _ (param_named d n) refl
params_named (st.more_params at x others v w d f i j) n =
    let m = subst AreNamed j n in
    let k = back v _ m in
    ap (λ xs. all_of (map param_names xs)) i ∙ both _ _ (param_named d (front v _ m)) (params_named f k.1)

marks_named : {marks : List PyExpr} {u : List Lexeme} → AreMarks marks u → AreNamed u → all_of (map expr_names marks) ≡ true
marks_named (st.no_mark i j) n = ap (λ xs. all_of (map expr_names xs)) i
marks_named (st.mark at to a others v w d f i j) n =
    let m = subst AreNamed j n in
    let k = back v _ m.1 in
    ap (λ xs. all_of (map expr_names xs)) i ∙ both _ _ (expr_named d (front v _ m.1)) (marks_named f k.1)

-- ---- statements that hold others

names_branch : (test : PyExpr) (body : List PyStmt) → branch_names (branch test body) ≡ (expr_names test && are_names body)
names_branch test body = law.names-branch (branch test body) ∙ search (rules, stmt_lemmas)

names_definition : (marks : List PyExpr) (name : List ℕ) (params : List Param) (body : List PyStmt) (line : ℕ) →
    stmt_names (tree.Def (definition marks name params body line)) ≡ (all_of (map expr_names marks) && (is_identifier name && (all_of (map param_names params) && are_names body)))
names_definition marks name params body line = law.names-def (definition marks name params body line) ∙ law.names-def_of (definition marks name params body line) ∙ search (rules, stmt_lemmas)

append_named : (xs ys : List PyStmt) → are_names xs ≡ true → are_names ys ≡ true → are_names (xs ++ ys) ≡ true
append_named [] ys e f = f
append_named (x ∷ xs) ys e f = both _ _ (first (stmt_names x) (are_names xs) e) (append_named xs ys (second (stmt_names x) (are_names xs) e) f)
  where
    first : (a b : Bool) → (a && b) ≡ true → a ≡ true
    first true b e = refl
    first false b e = e

    second : (a b : Bool) → (a && b) ≡ true → b ≡ true
    second true b e = e
    second false b e = absurd (cc)

mutual
  compound_named : {t : PyStmt} {u : List Lexeme} → IsCompound t u → AreNamed u → stmt_names t ≡ true
  compound_named (st.def at at_name from to at_colon marks params body v w x d f p i j) n =
      let m = subst AreNamed j n in
      let k = back v _ m in
      let q = back w _ k.1.1.1 in
      ap stmt_names i ∙ names_definition marks at_name.text params body at.line
      ∙ both _ _ (marks_named d (front v _ m)) (both _ _ (k.1.0 refl) (both _ _ (params_named f (front w _ k.1.1.1)) (suite_named p q.1.1)))
  compound_named (st.branches at all v d i j) n =
      let m = subst AreNamed j n in
      ap stmt_names i ∙ law.names-if at.line all None ∙ both _ _ (branches_named d m.1) refl
  compound_named (st.branches_else at at_else at_colon all body v w d f i j) n =
      let m = subst AreNamed j n in
      let k = back v _ m.1 in
      ap stmt_names i ∙ law.names-if at.line all (Some body) ∙ both _ _ (branches_named d (front v _ m.1)) (suite_named f k.1.1)
  compound_named (st.for at at_name at_in at_colon over body v w d f i j) n =
      let m = subst AreNamed j n in
      let k = back v _ m.1.1.1 in
      ap stmt_names i ∙ law.names-for at.line at_name.text over body ∙ both _ _ (m.1.0 refl) (both _ _ (expr_named d (front v _ m.1.1.1)) (suite_named f k.1))
  compound_named (st.while at at_colon test body v w d f i j) n =
      let m = subst AreNamed j n in
      let k = back v _ m.1 in
      ap stmt_names i ∙ law.names-while at.line test body ∙ both _ _ (expr_named d (front v _ m.1)) (suite_named f k.1)

  branches_named : {all : List Branch} {u : List Lexeme} → AreBranches all u → AreNamed u → all_of (map branch_names all) ≡ true
  branches_named (st.last_branch at test body v w d f i j) n =
      let m = subst AreNamed j n in
      let k = back v _ m in
      ap (λ xs. all_of (map branch_names xs)) i ∙ both _ _ (names_branch test body ∙ both _ _ (expr_named d (front v _ m)) (suite_named f k.1)) refl
  branches_named (st.elif at at_elif test body others v w x d f p i j) n =
      let m = subst AreNamed j n in
      let k = back v _ m in
      let q = back w _ k.1 in
      ap (λ xs. all_of (map branch_names xs)) i ∙ both _ _ (names_branch test body ∙ both _ _ (expr_named d (front v _ m)) (suite_named f (front w _ k.1))) (branches_named p q.1)

  suite_named : {body : List PyStmt} {u : List Lexeme} → IsSuite body u → AreNamed u → are_names body ≡ true
  suite_named (st.line d) n = simple_named d n
  suite_named (st.block at from to v d j) n = let m = subst AreNamed j n in stmts_named d (front v _ m.1.1)

  stmt_named : {body : List PyStmt} {u : List Lexeme} → IsStmt body u → AreNamed u → are_names body ≡ true
  stmt_named (st.simple d) n = simple_named d n
  stmt_named (st.compound t d i) n = ap are_names i ∙ both _ _ (compound_named d n) refl

  stmts_named : {body : List PyStmt} {u : List Lexeme} → AreStmts body u → AreNamed u → are_names body ≡ true
  stmts_named (st.one d) n = stmt_named d n
  stmts_named (st.more first others v w d f i j) n =
      let m = subst AreNamed j n in
      ap are_names i ∙ append_named first others (stmt_named d (front v _ m)) (stmts_named f (back v _ m))

-- The names in the tree of a text are names of Python where those of its tokens are.
pub text_named : {body : List PyStmt} {ts : List Lexeme} → IsText body ts → AreNamed ts → are_names body ≡ true
text_named (st.nothing to i j) n = ap are_names i
text_named (st.full to v d j) n = let m = subst AreNamed j n in stmts_named d (front v _ m)

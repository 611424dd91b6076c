-- The names of a generator's locals are names of the source.
use Rattle.std.proofs.Common.{◌≡◌, ℕ, Bool, true, false, ◌&&◌, List, [], ◌∷◌, ◌++◌, map, Option, Some, None, refl, ap, sym, ◌∙◌, subst, arith, length, if◌then◌else◌}
use Rattle.std.specs.Prelude.{is_some, ◌||◌, ◌==◌}
use Rattle.std.specs.Char.{is_ascii_alphanumeric}
use Rattle.std.specs.List.{list_all}
use Rattle.std.proofs.lemmas.Bool.{and_parts, and_from}
use Rattle.std.proofs.lemmas.Bool.Decides.{nat_tests}
use Rattle.mh_text.specs.Characters.{is_name_start, is_name_part, is_identifier}
use Rattle.mh_pytree.specs.declared.expression.Operator.{Operator}
use Rattle.mh_pytree.specs.declared.expression.Operator.TheVariants as op
use Rattle.mh_pytree.specs.declared.expression.PyExpr.{PyExpr, map-PyExpr}
use Rattle.mh_pytree.specs.declared.expression.Argument.{Argument, map-Argument}
use Rattle.mh_pytree.specs.declared.expression.PyExpr.TheOpen.{PyExpr-F}
use Rattle.mh_pytree.specs.declared.expression.PyExpr.TheFolds.{ind-PyExpr, fold-roll-PyExpr, fold-roll-Argument}
use Rattle.mh_pytree.specs.declared.statement.PyStmt.{PyStmt, map-PyStmt}
use Rattle.mh_pytree.specs.declared.statement.Branch.{Branch, map-Branch}
use Rattle.mh_pytree.specs.declared.statement.FuncDef.{FuncDef}
use Rattle.mh_pytree.specs.declared.statement.PyStmt.TheOpen.{PyStmt-F, Branch-F}
use Rattle.mh_pytree.specs.declared.statement.PyStmt.TheFolds.{ind-PyStmt, fold-roll-PyStmt, fold-roll-Branch, fold-FuncDef}
use Rattle.mh_pytree.specs.Names.{all_of, is_identifier_if_any, holds_if_any, expr_names, argument_names, stmt_names, branch_names, def_names, param_names}
use Rattle.mh_pytree.specs.Names as names
use Rattle.mh_consts.specs.Names.{lookup, bind}
use Rattle.mh_consts.specs.Expression as x
use Rattle.mh_consts.specs.Expression.{Ex, Exs, Keys, Given, exs, join, maker, slice_from, binary, attribute_in, called_as, keys_of, parts_of, name_in, expr_step, argument_step, ex_of, given_of}
use Rattle.mh_design.specs.WellFormed.{is_name}
use Rattle.mh_exprs.specs.declared.locals.Locals.{Locals}
use Rattle.mh_lower.specs.Body as line
use Rattle.mh_lower.specs.Body.{Line, Lines, Choice, Choices, End, Then, Where, NoChoice, OrElse, lines, choices, line_of, choice_of, line_step, choice_step, def_step}
use Rattle.mh_lower.specs.Generators.{with_local, with_name, names_onto}
use Rattle.mh_lower_laws.proofs.Basics.{all_then, all_both}

-- ---- names of Python hold letters, digits and `_` alone

part_is : (c : ℕ) → is_name_part c ≡ true → (is_ascii_alphanumeric c || c == 95) ≡ true
part_is c h = grind (arith, nat_tests)

start_is : (c : ℕ) → is_name_start c ≡ true → (is_ascii_alphanumeric c || c == 95) ≡ true
start_is c h = grind (arith, nat_tests)

pub identifier_is : (t : List ℕ) → is_identifier t ≡ true → is_name t ≡ true
unfolding is_identifier
identifier_is [] h = absurd (cc)
identifier_is (b ∷ bs) h =
    let p = and_parts (is_name_start b) (list_all is_name_part bs) h in
    and_from (is_ascii_alphanumeric b || b == 95) (list_all (λ c. is_ascii_alphanumeric c || c == 95) bs) (start_is b p.0) (all_then is_name_part (λ c. is_ascii_alphanumeric c || c == 95) bs part_is p.1)

-- ---- names in expressions

abbrev mutual
  pub ex_named : Ex → Bool
  ex_named (x.Number n) = true
  ex_named (x.Str bytes) = true
  ex_named (x.Truth b) = true
  ex_named x.Nothing = true
  ex_named (x.Name t) = is_identifier t
  ex_named (x.And a b) = ex_named a && ex_named b
  ex_named (x.Or a b) = ex_named a && ex_named b
  ex_named (x.Op h xs) = exs_named xs
  ex_named (x.Collect item t over) = ex_named item && ex_named over

  pub exs_named : Exs → Bool
  exs_named x.NoMore = true
  exs_named (x.More e es) = ex_named e && exs_named es

join_named : (xs ys : Exs) → exs_named xs ≡ true → exs_named ys ≡ true → exs_named (join xs ys) ≡ true
join_named x.NoMore ys h k = k
join_named (x.More e xs) ys h k = let p = and_parts (ex_named e) (exs_named xs) h in and_from (ex_named e) (exs_named (join xs ys)) p.0 (join_named xs ys p.1 k)

one_named : (a : Ex) → ex_named a ≡ true → exs_named (x.one a) ≡ true
one_named a h = and_from (ex_named a) true h refl

two_named : (a b : Ex) → ex_named a ≡ true → ex_named b ≡ true → exs_named (x.two a b) ≡ true
two_named a b h k = and_from (ex_named a) _ h (one_named b k)

binary_named : (o : Operator) (a b : Ex) → ex_named a ≡ true → ex_named b ≡ true → ex_named (binary o a b) ≡ true
binary_named op.Or a b h k = and_from (ex_named a) (ex_named b) h k
binary_named op.And a b h k = and_from (ex_named a) (ex_named b) h k
binary_named o a b h k = two_named a b h k

from_named : (m : Option (List ℕ)) (a b : Ex) → ex_named a ≡ true → ex_named b ≡ true → ex_named (slice_from m a b) ≡ true
from_named None a b h k = two_named a b h k
from_named (Some t) a b h k = two_named a b h k

head_attribute : (h : x.Head) (xs : Exs) (a : List ℕ × Exs) → exs_named xs ≡ true → attribute_in (x.Op h xs) ≡ Some a → exs_named a.1 ≡ true
head_attribute (x.Attribute name) xs a k q = let same : (name, xs) ≡ a = cc in ap (λ (b : List ℕ × Exs). exs_named b.1) (sym same) ∙ k
head_attribute h xs a k q = absurd (cc)

attribute_named : (f : Ex) (a : List ℕ × Exs) → ex_named f ≡ true → attribute_in f ≡ Some a → exs_named a.1 ≡ true
attribute_named (x.Op h xs) a k q = head_attribute h xs a k q
attribute_named f a k q = absurd (cc)

called_named : (o : Option (List ℕ × Exs)) (f : Ex) (keys : Keys) (args : Exs) → ((a : List ℕ × Exs) → o ≡ Some a → exs_named a.1 ≡ true) → ex_named f ≡ true → exs_named args ≡ true → ex_named (called_as o f keys args) ≡ true
called_named (Some a) f keys args i h k = join_named a.1 args (i a refl) k
called_named None f keys args i h k = and_from (ex_named f) (exs_named args) h k

module _ {A B : Type 0} (f : A → PyExpr) (g : B → Argument) (parts : (a : A) → expr_names (f a) ≡ true → ex_named (ex_of (f a)) ≡ true) (arguments : (b : B) → argument_names (g b) ≡ true → ex_named (given_of (g b)).1 ≡ true) where
  all_named : (as_ : List A) → all_of (map expr_names (map f as_)) ≡ true → exs_named (exs (map ex_of (map f as_))) ≡ true
  all_named [] h = refl
  all_named (a ∷ rest) h = let p = and_parts (expr_names (f a)) (all_of (map expr_names (map f rest))) h in and_from (ex_named (ex_of (f a))) (exs_named (exs (map ex_of (map f rest)))) (parts a p.0) (all_named rest p.1)

  parts_named : (bs : List B) → all_of (map argument_names (map g bs)) ≡ true → exs_named (parts_of (map given_of (map g bs))) ≡ true
  parts_named [] h = refl
  parts_named (b ∷ rest) h = let p = and_parts (argument_names (g b)) (all_of (map argument_names (map g rest))) h in and_from (ex_named (given_of (g b)).1) (exs_named (parts_of (map given_of (map g rest)))) (arguments b p.0) (parts_named rest p.1)

  layer_named : (y : PyExpr-F A B) → names.expr_step (map-PyExpr PyExpr Argument Bool Bool expr_names argument_names (map-PyExpr A B PyExpr Argument f g y)) ≡ true → ex_named (expr_step (map-PyExpr PyExpr Argument Ex Given ex_of given_of (map-PyExpr A B PyExpr Argument f g y))) ≡ true
  layer_named (PyExpr-F.Name t) h = h
  layer_named (PyExpr-F.Number n) h = refl
  layer_named (PyExpr-F.Str bytes) h = refl
  layer_named PyExpr-F.True h = refl
  layer_named PyExpr-F.False h = refl
  layer_named PyExpr-F.None h = refl
  layer_named (PyExpr-F.Group a) h = parts a h
  layer_named (PyExpr-F.Bracketed xs) h = all_named xs h
  layer_named (PyExpr-F.Tuple xs) h = all_named xs h
  layer_named (PyExpr-F.List xs) h = all_named xs h
  layer_named (PyExpr-F.Comprehension item t over) h =
      let p = and_parts (expr_names (f item)) _ h in
      and_from (ex_named (ex_of (f item))) (ex_named (ex_of (f over))) (parts item p.0) (parts over (and_parts (is_identifier t) (expr_names (f over)) p.1).1)
  layer_named (PyExpr-F.Not a) h = one_named (ex_of (f a)) (parts a h)
  layer_named (PyExpr-F.Unary s a) h = one_named (ex_of (f a)) (parts a h)
  layer_named (PyExpr-F.Binary o a b) h = let p = and_parts (expr_names (f a)) (expr_names (f b)) h in binary_named o (ex_of (f a)) (ex_of (f b)) (parts a p.0) (parts b p.1)
  layer_named (PyExpr-F.Attribute a t) h = one_named (ex_of (f a)) (parts a (and_parts (expr_names (f a)) (is_identifier t) h).0)
  layer_named (PyExpr-F.Call a bs) h =
      let p = and_parts (expr_names (f a)) (all_of (map argument_names (map g bs))) h in
      called_named (attribute_in (ex_of (f a))) (ex_of (f a)) (keys_of (map given_of (map g bs))) (parts_of (map given_of (map g bs))) (λ b q. attribute_named (ex_of (f a)) b (parts a p.0) q) (parts a p.0) (parts_named bs p.1)
  layer_named (PyExpr-F.Index a b) h = let p = and_parts (expr_names (f a)) (expr_names (f b)) h in two_named (ex_of (f a)) (ex_of (f b)) (parts a p.0) (parts b p.1)
  layer_named (PyExpr-F.Slice a b None) h =
      let p = and_parts (expr_names (f a)) _ h in
      from_named (maker (ex_of (f a))) (ex_of (f a)) (ex_of (f b)) (parts a p.0) (parts b (and_parts (expr_names (f b)) true p.1).0)
  layer_named (PyExpr-F.Slice a b (Some c)) h =
      let p = and_parts (expr_names (f a)) _ h in
      let q = and_parts (expr_names (f b)) (expr_names (f c)) p.1 in
      and_from (ex_named (ex_of (f a))) _ (parts a p.0) (two_named (ex_of (f b)) (ex_of (f c)) (parts b q.0) (parts c q.1))
  layer_named (PyExpr-F.Whole a) h = one_named (ex_of (f a)) (parts a h)

abbrev Named : PyExpr → Type 0
Named a = expr_names a ≡ true → ex_named (ex_of a) ≡ true

abbrev ArgumentNamed : Argument → Type 0
ArgumentNamed b = argument_names b ≡ true → ex_named (given_of b).1 ≡ true

source_named : (a : PyExpr) → Named a
unfolding ex_of given_of expr_names argument_names
source_named = ind-PyExpr Named ArgumentNamed
    (λ x y is h.
    let l = subst (λ z. names.expr_step (map-PyExpr PyExpr Argument Bool Bool expr_names argument_names z) ≡ true → ex_named (expr_step (map-PyExpr PyExpr Argument Ex Given ex_of given_of z)) ≡ true) is (layer_named (λ e. e.0) (λ e. e.0) (λ e. e.1) (λ e. e.1) y) in
    ap ex_named (fold-roll-PyExpr Ex Given expr_step argument_step x) ∙ l (sym (fold-roll-PyExpr Bool Bool names.expr_step names.argument_step x) ∙ h))
    (λ x y is h.
    let l = subst (λ z. names.argument_step (map-Argument PyExpr Argument Bool Bool expr_names argument_names z) ≡ true → ex_named (argument_step (map-Argument PyExpr Argument Ex Given ex_of given_of z)).1 ≡ true) is (λ q. y.value.1 (and_parts (is_identifier_if_any y.name) (expr_names y.value.0) q).1) in
    ap (λ (z : Given). ex_named z.1) (fold-roll-Argument Ex Given expr_step argument_step x) ∙ l (sym (fold-roll-Argument Bool Bool names.expr_step names.argument_step x) ∙ h))

-- ---- names in lines: those that are assigned

abbrev mutual
  pub line_named : Line → Bool
  line_named (line.Assign l t e) = ex_named t
  line_named (line.Augment l o t e) = ex_named t
  line_named (line.If l cs other) = choices_named cs && lines_named other
  line_named (line.For l t over b) = is_identifier t && lines_named b
  line_named (line.While l e b) = lines_named b
  line_named other = true

  pub lines_named : Lines → Bool
  lines_named End = true
  lines_named (Then x xs) = line_named x && lines_named xs

  pub choice_named : Choice → Bool
  choice_named (Where e b) = lines_named b

  pub choices_named : Choices → Bool
  choices_named NoChoice = true
  choices_named (OrElse c cs) = choice_named c && choices_named cs

module _ {A B C : Type 0} (f : A → PyStmt) (g : B → Branch) (h : C → FuncDef) (k : FuncDef → ℕ) (stmts : (a : A) → stmt_names (f a) ≡ true → line_named (line_of (f a)) ≡ true) (branches : (b : B) → branch_names (g b) ≡ true → choice_named (choice_of (g b)) ≡ true) where
  all_lines_named : (as_ : List A) → all_of (map stmt_names (map f as_)) ≡ true → lines_named (lines (map line_of (map f as_))) ≡ true
  all_lines_named [] q = refl
  all_lines_named (a ∷ rest) q = let p = and_parts (stmt_names (f a)) (all_of (map stmt_names (map f rest))) q in and_from (line_named (line_of (f a))) (lines_named (lines (map line_of (map f rest)))) (stmts a p.0) (all_lines_named rest p.1)

  all_choices_named : (bs : List B) → all_of (map branch_names (map g bs)) ≡ true → choices_named (choices (map choice_of (map g bs))) ≡ true
  all_choices_named [] q = refl
  all_choices_named (b ∷ rest) q = let p = and_parts (branch_names (g b)) (all_of (map branch_names (map g rest))) q in and_from (choice_named (choice_of (g b))) (choices_named (choices (map choice_of (map g rest)))) (branches b p.0) (all_choices_named rest p.1)

  stmt_named : (y : PyStmt-F A B C) → names.stmt_step (map-PyStmt PyStmt Branch FuncDef Bool Bool Bool stmt_names branch_names def_names (map-PyStmt A B C PyStmt Branch FuncDef f g h y)) ≡ true →
      line_named (line_step (map-PyStmt PyStmt Branch FuncDef Line Choice ℕ line_of choice_of k (map-PyStmt A B C PyStmt Branch FuncDef f g h y))) ≡ true
  stmt_named (PyStmt-F.Assign l t e) q = source_named t (and_parts (expr_names t) (expr_names e) q).0
  stmt_named (PyStmt-F.Augment l o t e) q = source_named t (and_parts (expr_names t) (expr_names e) q).0
  stmt_named (PyStmt-F.If l bs None) q = and_from (choices_named (choices (map choice_of (map g bs)))) true (all_choices_named bs (and_parts (all_of (map branch_names (map g bs))) true q).0) refl
  stmt_named (PyStmt-F.If l bs (Some other)) q =
      let p = and_parts (all_of (map branch_names (map g bs))) (all_of (map stmt_names (map f other))) q in
      and_from (choices_named (choices (map choice_of (map g bs)))) (lines_named (lines (map line_of (map f other)))) (all_choices_named bs p.0) (all_lines_named other p.1)
  stmt_named (PyStmt-F.For l t e b) q =
      let p = and_parts (is_identifier t) _ q in
      and_from (is_identifier t) (lines_named (lines (map line_of (map f b)))) p.0 (all_lines_named b (and_parts (expr_names e) (all_of (map stmt_names (map f b))) p.1).1)
  stmt_named (PyStmt-F.While l e b) q = all_lines_named b (and_parts (expr_names e) (all_of (map stmt_names (map f b))) q).1
  stmt_named y q = refl

  branch_named : (y : Branch-F A B C) → names.branch_step (map-Branch PyStmt Branch FuncDef Bool Bool Bool stmt_names branch_names def_names (map-Branch A B C PyStmt Branch FuncDef f g h y)) ≡ true →
      choice_named (choice_step (map-Branch PyStmt Branch FuncDef Line Choice ℕ line_of choice_of k (map-Branch A B C PyStmt Branch FuncDef f g h y))) ≡ true
  branch_named y q = all_lines_named y.body (and_parts (expr_names y.test) (all_of (map stmt_names (map f y.body))) q).1

abbrev LineNamed : PyStmt → Type 0
LineNamed x = stmt_names x ≡ true → line_named (line_of x) ≡ true

abbrev ChoiceNamed : Branch → Type 0
ChoiceNamed b = branch_names b ≡ true → choice_named (choice_of b) ≡ true

abbrev Any : FuncDef → Type 0
Any f = Unit {0}

source_line_named : (x : PyStmt) → LineNamed x
unfolding line_of choice_of stmt_names branch_names def_names
source_line_named = ind-PyStmt LineNamed ChoiceNamed Any
    (λ x y is q.
    let l = subst (λ z. names.stmt_step (map-PyStmt PyStmt Branch FuncDef Bool Bool Bool stmt_names branch_names def_names z) ≡ true → line_named (line_step (map-PyStmt PyStmt Branch FuncDef Line Choice ℕ line_of choice_of (fold-FuncDef Line Choice ℕ line_step choice_step def_step) z)) ≡ true) is
    (stmt_named (λ e. e.0) (λ e. e.0) (λ e. e.0) (fold-FuncDef Line Choice ℕ line_step choice_step def_step) (λ e. e.1) (λ e. e.1) y) in
    ap line_named (fold-roll-PyStmt Line Choice ℕ line_step choice_step def_step x) ∙ l (sym (fold-roll-PyStmt Bool Bool Bool names.stmt_step names.branch_step names.def_step x) ∙ q))
    (λ x y is q.
    let l = subst (λ z. names.branch_step (map-Branch PyStmt Branch FuncDef Bool Bool Bool stmt_names branch_names def_names z) ≡ true → choice_named (choice_step (map-Branch PyStmt Branch FuncDef Line Choice ℕ line_of choice_of (fold-FuncDef Line Choice ℕ line_step choice_step def_step) z)) ≡ true) is
    (branch_named (λ e. e.0) (λ e. e.0) (λ e. e.0) (fold-FuncDef Line Choice ℕ line_step choice_step def_step) (λ e. e.1) (λ e. e.1) y) in
    ap choice_named (fold-roll-Branch Line Choice ℕ line_step choice_step def_step x) ∙ l (sym (fold-roll-Branch Bool Bool Bool names.stmt_step names.branch_step names.def_step x) ∙ q))
    (λ x y is. tt)

pub all_source_named : (xs : List PyStmt) → all_of (map stmt_names xs) ≡ true → lines_named (lines (map line_of xs)) ≡ true
all_source_named [] q = refl
all_source_named (x ∷ xs) q = let p = and_parts (stmt_names x) (all_of (map stmt_names xs)) q in and_from (line_named (line_of x)) (lines_named (lines (map line_of xs))) (source_line_named x p.0) (all_source_named xs p.1)

-- ---- locals

abbrev pub AllNamed : Locals → Type 0
AllNamed ls = list_all is_identifier ls.names ≡ true

pub local_named : (ls : Locals) (t : List ℕ) → is_identifier t ≡ true → AllNamed ls → AllNamed (with_local ls t)
local_named ls t k h = by_test (is_some (lookup ls.numbers t))
  where
    by_test : (b : Bool) → AllNamed (if b then ls else record { names = ls.names ++ t ∷ []; numbers = bind ls.numbers t (length ls.names) })
    by_test true = h
    by_test false = all_both is_identifier ls.names (t ∷ []) h (and_from (is_identifier t) true k refl)

pub name_named : (e : Ex) (ls : Locals) → ex_named e ≡ true → AllNamed ls → AllNamed (with_name ls (name_in e))
name_named (x.Name t) ls k h = local_named ls t k h
name_named e ls k h = h

pub names_named : (xs : Exs) (ls : Locals) → exs_named xs ≡ true → AllNamed ls → AllNamed (names_onto ls xs)
names_named x.NoMore ls k h = h
names_named (x.More e es) ls k h = let p = and_parts (ex_named e) (exs_named es) k in names_named es (with_name ls (name_in e)) p.1 (name_named e ls p.0 h)

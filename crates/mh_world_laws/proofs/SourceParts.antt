-- What stands in a statement of a source is of one.
use Rattle.std.proofs.Common.{◌≡◌, ℕ, suc, ◌≤◌, max, Bool, true, ◌&&◌, List, [], ◌∷◌, map, Option, Some, None, refl, ap, sym, ◌∙◌, subst, arith}
use Rattle.std.specs.List.{list_all}
use Rattle.std.proofs.lemmas.Bool.{and_parts, and_from}
use Rattle.mh_text.specs.Characters.{is_identifier}
use Rattle.mh_pytree.specs.declared.expression.PyExpr.{PyExpr, out-PyExpr, map-PyExpr}
use Rattle.mh_pytree.specs.declared.expression.Argument.{Argument}
use Rattle.mh_pytree.specs.declared.expression.PyExpr.TheOpen.{PyExpr-F}
use Rattle.mh_pytree.specs.declared.expression.PyExpr.TheFolds.{fold_out-PyExpr}
use Rattle.mh_pytree.specs.declared.statement.Param.{Param}
use Rattle.mh_pytree.specs.declared.statement.PyStmt.{PyStmt, out-PyStmt, map-PyStmt}
use Rattle.mh_pytree.specs.declared.statement.Branch.{Branch, out-Branch}
use Rattle.mh_pytree.specs.declared.statement.FuncDef.{FuncDef, out-FuncDef}
use Rattle.mh_pytree.specs.declared.statement.PyStmt.TheOpen.{PyStmt-F, Branch-F, FuncDef-F}
use Rattle.mh_pytree.specs.declared.statement.PyStmt.TheFolds.{fold_out-PyStmt, fold_out-Branch, fold_out-FuncDef}
use Rattle.mh_pytree.specs.Depth.{deepest, stmt_depth, branch_depth, def_depth}
use Rattle.mh_pytree.specs.Depth as depth
use Rattle.mh_pytree.specs.Names.{all_of, expr_names, argument_names, stmt_names, branch_names, def_names, param_names}
use Rattle.mh_pytree.specs.Names as names
use Rattle.mh_pytree.proofs.Depths.{depth-branch, depth-def_of}
use Rattle.mh_pytree.proofs.NameLaws.{names-branch, names-def_of}
use Rattle.mh_consts.specs.Expression.{Ex, ex_of}
use Rattle.mh_design.specs.WellFormed.{is_name}
use Rattle.mh_world.specs.Statements.{St, Fn, Func, Block, Choice, Choices, Parameter, Target, End, Then, Where, block, choices, name_step, name_of, names_of, with_name, to_names, target_step, target_of, parameter_of, st_step, choice_step, fn_step, st_of, choice_of, fn_of}
use Rattle.mh_world_laws.specs.Sources.{IsSource, IsDefinition, ChoiceParts, ChoicesParts, Parts, target_fits}
use Rattle.mh_lower_laws.proofs.SourceNames.{identifier_is}

-- ---- names

identifiers_are : (ts : List (List ℕ)) → all_of (map is_identifier ts) ≡ true → list_all is_name ts ≡ true
identifiers_are [] h = refl
identifiers_are (t ∷ ts) h = let p = and_parts (is_identifier t) (all_of (map is_identifier ts)) h in and_from (is_name t) (list_all is_name ts) (identifier_is t p.0) (identifiers_are ts p.1)

-- ---- targets

step_named : (y : PyExpr-F PyExpr Argument) (t : List ℕ) → names.expr_step (map-PyExpr PyExpr Argument Bool Bool expr_names argument_names y) ≡ true → name_step y ≡ Some t → is_name t ≡ true
step_named (PyExpr-F.Name u) t h q = let same : u ≡ t = cc in ap is_name (sym same) ∙ identifier_is u h
step_named (PyExpr-F.Number n) t h q = absurd (cc)
step_named (PyExpr-F.Str bytes) t h q = absurd (cc)
step_named PyExpr-F.True t h q = absurd (cc)
step_named PyExpr-F.False t h q = absurd (cc)
step_named PyExpr-F.None t h q = absurd (cc)
step_named (PyExpr-F.Group a) t h q = absurd (cc)
step_named (PyExpr-F.Bracketed xs) t h q = absurd (cc)
step_named (PyExpr-F.Tuple xs) t h q = absurd (cc)
step_named (PyExpr-F.List xs) t h q = absurd (cc)
step_named (PyExpr-F.Comprehension item u over) t h q = absurd (cc)
step_named (PyExpr-F.Not a) t h q = absurd (cc)
step_named (PyExpr-F.Unary sign a) t h q = absurd (cc)
step_named (PyExpr-F.Binary operator a b) t h q = absurd (cc)
step_named (PyExpr-F.Attribute a u) t h q = absurd (cc)
step_named (PyExpr-F.Call f gs) t h q = absurd (cc)
step_named (PyExpr-F.Index a b) t h q = absurd (cc)
step_named (PyExpr-F.Slice a b c) t h q = absurd (cc)
step_named (PyExpr-F.Whole a) t h q = absurd (cc)

opened_names : (e : PyExpr) → expr_names e ≡ true → names.expr_step (map-PyExpr PyExpr Argument Bool Bool expr_names argument_names (out-PyExpr e)) ≡ true
unfolding expr_names argument_names
opened_names e h = sym (fold_out-PyExpr Bool Bool names.expr_step names.argument_step e) ∙ h

both_named : (a : Option (List ℕ)) (b : Option (List (List ℕ))) (ts : List (List ℕ)) → ((t : List ℕ) → a ≡ Some t → is_name t ≡ true) → ((us : List (List ℕ)) → b ≡ Some us → list_all is_name us ≡ true) →
    with_name a b ≡ Some ts → list_all is_name ts ≡ true
both_named (Some t) (Some us) ts f g h = let same : t ∷ us ≡ ts = cc in ap (list_all is_name) (sym same) ∙ and_from (is_name t) (list_all is_name us) (f t refl) (g us refl)
both_named (Some t) None ts f g h = absurd (cc)
both_named None b ts f g h = absurd (cc)

all_named : (es : List PyExpr) (ts : List (List ℕ)) → all_of (map expr_names es) ≡ true → names_of es ≡ Some ts → list_all is_name ts ≡ true
all_named [] ts h q = let same : [] ≡ ts = cc in ap (list_all is_name) (sym same)
all_named (e ∷ es) ts h q =
    let p = and_parts (expr_names e) (all_of (map expr_names es)) h in
    both_named (name_of e) (names_of es) ts (λ t r. step_named (out-PyExpr e) t (opened_names e p.0) r) (λ us r. all_named es us p.1 r) q

to_names_fit : (o : Option (List (List ℕ))) → ((ts : List (List ℕ)) → o ≡ Some ts → list_all is_name ts ≡ true) → target_fits (to_names o) ≡ true
to_names_fit None f = refl
to_names_fit (Some ts) f = f ts refl

step_fits : (y : PyExpr-F PyExpr Argument) → names.expr_step (map-PyExpr PyExpr Argument Bool Bool expr_names argument_names y) ≡ true → target_fits (target_step y) ≡ true
step_fits (PyExpr-F.Name t) h = identifier_is t h
step_fits (PyExpr-F.Number n) h = refl
step_fits (PyExpr-F.Str bytes) h = refl
step_fits PyExpr-F.True h = refl
step_fits PyExpr-F.False h = refl
step_fits PyExpr-F.None h = refl
step_fits (PyExpr-F.Group a) h = refl
step_fits (PyExpr-F.Bracketed xs) h = refl
step_fits (PyExpr-F.Tuple xs) h = to_names_fit (names_of xs) (λ ts q. all_named xs ts h q)
step_fits (PyExpr-F.List xs) h = refl
step_fits (PyExpr-F.Comprehension item t over) h = refl
step_fits (PyExpr-F.Not a) h = refl
step_fits (PyExpr-F.Unary sign a) h = refl
step_fits (PyExpr-F.Binary operator a b) h = refl
step_fits (PyExpr-F.Attribute a t) h = refl
step_fits (PyExpr-F.Call f gs) h = refl
step_fits (PyExpr-F.Index a b) h = refl
step_fits (PyExpr-F.Slice a b c) h = refl
step_fits (PyExpr-F.Whole a) h = refl

target_named : (e : PyExpr) → expr_names e ≡ true → target_fits (target_of e) ≡ true
target_named e h = step_fits (out-PyExpr e) (opened_names e h)

-- ---- bodies and choices

source_of : (xs : List PyStmt) → deepest (map stmt_depth xs) ≤ 200 → all_of (map stmt_names xs) ≡ true → IsSource (block (map st_of xs))
source_of xs h q = record { statements = xs; is = refl; depth = h; names = q }

choice_parts : (b : Branch) → branch_depth b ≤ 199 → branch_names b ≡ true → ChoiceParts (choice_of b)
unfolding st_of choice_of fn_of
choice_parts b h q =
    let d = depth-branch b in
    let n = and_parts (expr_names (out-Branch b).test) (all_of (map stmt_names (out-Branch b).body)) (sym (names-branch b) ∙ q) in
    subst ChoiceParts (sym (fold_out-Branch St Choice Fn st_step choice_step fn_step b)) (source_of (out-Branch b).body (omega (arith, d, h)) n.1)

choices_parts : (bs : List Branch) → deepest (map branch_depth bs) ≤ 199 → all_of (map branch_names bs) ≡ true → ChoicesParts (choices (map choice_of bs))
choices_parts [] h q = tt
choices_parts (b ∷ bs) h q =
    let p = and_parts (branch_names b) (all_of (map branch_names bs)) q in
    (choice_parts b (omega (arith, h)) p.0, choices_parts bs (omega (arith, h)) p.1)

-- ---- statements

layer_parts : (y : PyStmt-F PyStmt Branch FuncDef) → depth.stmt_step (map-PyStmt PyStmt Branch FuncDef ℕ ℕ ℕ stmt_depth branch_depth def_depth y) ≤ 200 →
    names.stmt_step (map-PyStmt PyStmt Branch FuncDef Bool Bool Bool stmt_names branch_names def_names y) ≡ true → Parts (st_step (map-PyStmt PyStmt Branch FuncDef St Choice Fn st_of choice_of fn_of y))
layer_parts (PyStmt-F.Value l e) h q = tt
layer_parts (PyStmt-F.Assign l t e) h q = target_named t (and_parts (expr_names t) (expr_names e) q).0
layer_parts (PyStmt-F.Augment l op t e) h q = target_named t (and_parts (expr_names t) (expr_names e) q).0
layer_parts (PyStmt-F.Pass l) h q = tt
layer_parts (PyStmt-F.Break l) h q = tt
layer_parts (PyStmt-F.Continue l) h q = tt
layer_parts (PyStmt-F.Return l e) h q = tt
layer_parts (PyStmt-F.Yield l e) h q = tt
layer_parts (PyStmt-F.Raise l e) h q = tt
layer_parts (PyStmt-F.Assert l e message) h q = tt
layer_parts (PyStmt-F.ImportAll l) h q = tt
layer_parts (PyStmt-F.Import l ts) h q = identifiers_are ts q
layer_parts (PyStmt-F.Def f) h q = record { definition = f; is = refl; depth = omega (arith, h); names = q }
layer_parts (PyStmt-F.If l bs None) h q =
    (choices_parts bs (omega (arith, h)) (and_parts (all_of (map branch_names bs)) true q).0, source_of [] (omega arith) refl)
layer_parts (PyStmt-F.If l bs (Some other)) h q =
    let p = and_parts (all_of (map branch_names bs)) (all_of (map stmt_names other)) q in
    (choices_parts bs (omega (arith, h)) p.0, source_of other (omega (arith, h)) p.1)
layer_parts (PyStmt-F.For l t e b) h q =
    let p = and_parts (is_identifier t) (expr_names e && all_of (map stmt_names b)) q in
    (identifier_is t p.0, source_of b (omega (arith, h)) (and_parts (expr_names e) (all_of (map stmt_names b)) p.1).1)
layer_parts (PyStmt-F.While l e b) h q = source_of b (omega (arith, h)) (and_parts (expr_names e) (all_of (map stmt_names b)) q).1

-- what stands in a statement of a source is of one
pub statement_parts : (s : PyStmt) → stmt_depth s ≤ 200 → stmt_names s ≡ true → Parts (st_of s)
unfolding st_of choice_of fn_of stmt_depth branch_depth def_depth stmt_names branch_names def_names
statement_parts s h q =
    subst Parts (sym (fold_out-PyStmt St Choice Fn st_step choice_step fn_step s))
    (layer_parts (out-PyStmt s) (subst (λ n. n ≤ 200) (fold_out-PyStmt ℕ ℕ ℕ depth.stmt_step depth.branch_step depth.def_step s) h)
    (sym (fold_out-PyStmt Bool Bool Bool names.stmt_step names.branch_step names.def_step s) ∙ q))

-- ---- blocks

abbrev first_of : Block → Option St
first_of End = None
first_of (Then s b) = Some s

abbrev rest_of : Block → Block
rest_of End = End
rest_of (Then s b) = b

parts_by : (s : St) (b : Block) (xs : List PyStmt) → Then s b ≡ block (map st_of xs) → deepest (map stmt_depth xs) ≤ 200 → all_of (map stmt_names xs) ≡ true → Parts s × IsSource b
parts_by s b [] e h q = let f : Some s ≡ None = ap first_of e in absurd (cc)
parts_by s b (x ∷ xs) e h q =
    let f : Some s ≡ Some (st_of x) = ap first_of e in
    let same : s ≡ st_of x = cc in
    let n = and_parts (stmt_names x) (all_of (map stmt_names xs)) q in
    (subst Parts (sym same) (statement_parts x (omega (arith, h)) n.0), subst IsSource (sym (ap rest_of e)) (source_of xs (omega (arith, h)) n.1))

pub block_parts : (s : St) (b : Block) → IsSource (Then s b) → Parts s × IsSource b
block_parts s b h = parts_by s b h.statements h.is h.depth h.names

-- ---- definitions

abbrev name_of_def : Fn → List ℕ
name_of_def (Func l t ms ps b) = t

abbrev params_of_def : Fn → List Parameter
params_of_def (Func l t ms ps b) = ps

abbrev body_of_def : Fn → Block
body_of_def (Func l t ms ps b) = b

parameters_named : (ps : List Param) → all_of (map param_names ps) ≡ true → list_all (λ (p : Parameter). is_name p.0) (map parameter_of ps) ≡ true
parameters_named [] h = refl
parameters_named (p ∷ ps) h =
    let a = and_parts (param_names p) (all_of (map param_names ps)) h in
    and_from (is_name p.name) (list_all (λ (x : Parameter). is_name x.0) (map parameter_of ps)) (identifier_is p.name (and_parts (is_identifier p.name) _ a.0).0) (parameters_named ps a.1)

pub opened_def : (f : FuncDef) → fn_of f ≡ Func (out-FuncDef f).line (out-FuncDef f).name (map ex_of (out-FuncDef f).marks) (map parameter_of (out-FuncDef f).params) (block (map st_of (out-FuncDef f).body))
unfolding st_of choice_of fn_of
opened_def f = fold_out-FuncDef St Choice Fn st_step choice_step fn_step f

pub definition_parts : (l : ℕ) (t : List ℕ) (ms : List Ex) (ps : List Parameter) (b : Block) → IsDefinition (Func l t ms ps b) → (is_name t ≡ true) × (list_all (λ p. is_name p.0) ps ≡ true) × IsSource b
definition_parts l t ms ps b h =
    let e = h.is ∙ opened_def h.definition in
    let d = depth-def_of h.definition in
    let n = and_parts (all_of (map expr_names (out-FuncDef h.definition).marks)) _ (sym (names-def_of h.definition) ∙ h.names) in
    let m = and_parts (is_identifier (out-FuncDef h.definition).name) _ n.1 in
    let r = and_parts (all_of (map param_names (out-FuncDef h.definition).params)) (all_of (map stmt_names (out-FuncDef h.definition).body)) m.1 in
    let k = h.depth in (
      ap is_name (ap name_of_def e) ∙ identifier_is (out-FuncDef h.definition).name m.0,
      ap (list_all (λ (p : Parameter). is_name p.0)) (ap params_of_def e) ∙ parameters_named (out-FuncDef h.definition).params r.0,
      subst IsSource (sym (ap body_of_def e)) (source_of (out-FuncDef h.definition).body (omega (arith, d, k)) r.1),
    )

-- The names of a generator that was read: its locals' are names.
use Rattle.std.proofs.Common.{◌≡◌, ℕ, Bool, true, false, List, [], ◌∷◌, map, length, Option, Result, Ok, Err, IfOk, refl, sym, ◌∙◌, subst}
use Rattle.std.specs.List.{list_all}
use Rattle.std.proofs.lemmas.Bool.{and_parts, and_from}
use Rattle.mh_text.specs.Characters.{is_identifier}
use Rattle.mh_text.specs.declared.code.Code.{Code}
use Rattle.mh_pytree.specs.declared.statement.FuncDef.{FuncDef, out-FuncDef}
use Rattle.mh_pytree.specs.Names.{all_of, expr_names, stmt_names, param_names, def_names}
use Rattle.mh_pytree.proofs.NameLaws.{names-def_of}
use Rattle.mh_consts.specs.declared.scope.Scope.{Scope}
use Rattle.mh_consts.specs.Expression as x
use Rattle.mh_consts.specs.Expression.{Ex, ex_of}
use Rattle.mh_design.specs.declared.design.Design.{Design}
use Rattle.mh_design.specs.declared.design.GenKind.{GenKind}
use Rattle.mh_design.specs.declared.design.Kind.{Kind}
use Rattle.mh_design.specs.declared.design.Local.{Local}
use Rattle.mh_design.specs.Tree.{Statement}
use Rattle.mh_design.specs.WellFormed.{is_name}
use Rattle.mh_exprs.specs.declared.locals.Locals.{Locals}
use Rattle.mh_exprs.specs.declared.typed.Work.{Work}
use Rattle.mh_lower.specs.Body as line
use Rattle.mh_lower.specs.Body.{Line, Lines, Choice, Choices, End, Then, Where, NoChoice, OrElse, lines, line_of}
use Rattle.mh_lower.specs.Bodies.{read_lines}
use Rattle.mh_lower.specs.Generators.{no_locals, with_local, target_view, locals_in, locals_in_lines, locals_in_choice, locals_in_choices, locals_of, marked, is_instance, at_def, next, Read, read_as, read_body, lowered, def_of}
use Rattle.mh_lower.specs.Paths.{starts}
use Rattle.mh_lower.specs.Run.{Broken}
use Rattle.mh_lower.specs.Views as views
use Rattle.mh_lower.specs.Views.{View, view}
use Rattle.mh_lower_laws.proofs.SourceNames.{ex_named, exs_named, line_named, lines_named, choice_named, choices_named, all_source_named, identifier_is, AllNamed, local_named, name_named, names_named}

-- ---- what is assigned

abbrev view_names : View → Bool
view_names (views.Named t) = is_identifier t
view_names (views.Tupled xs) = exs_named xs
view_names v = true

view_is : (e : Ex) → ex_named e ≡ true → view_names (view e) ≡ true
view_is (x.Name t) h = h
view_is (x.Op x.TupleOf xs) h = h
view_is (x.Op (x.Call keys) (x.More f xs)) h = refl
view_is (x.Op (x.Attribute name) (x.More a xs)) h = refl
view_is (x.Op x.Index (x.More a (x.More i xs))) h = refl
view_is (x.Op x.Slice (x.More a (x.More i (x.More j xs)))) h = refl
view_is (x.Op x.SliceFrom (x.More a (x.More i xs))) h = refl
view_is (x.Op (x.Resize maker) (x.More a (x.More n xs))) h = refl
view_is (x.Op x.Whole (x.More a xs)) h = refl
view_is e h = refl

view_named : (ls : Locals) (v : View) → view_names v ≡ true → AllNamed ls → AllNamed (target_view ls v)
view_named ls (views.Named t) k h = local_named ls t k h
view_named ls (views.Tupled xs) k h = names_named xs ls k h
view_named ls v k h = h

mutual
  in_line : (y : Line) (ls : Locals) → line_named y ≡ true → AllNamed ls → AllNamed (locals_in ls y)
  in_line (line.Assign l target e) ls k h = view_named ls (view target) (view_is target k) h
  in_line (line.Augment l o target e) ls k h = name_named target ls k h
  in_line (line.If l cs other) ls k h = let p = and_parts (choices_named cs) (lines_named other) k in in_lines other (locals_in_choices ls cs) p.1 (in_choices cs ls p.0 h)
  in_line (line.For l t over b) ls k h = let p = and_parts (is_identifier t) (lines_named b) k in in_lines b (with_local ls t) p.1 (local_named ls t p.0 h)
  in_line (line.While l e b) ls k h = in_lines b ls k h
  in_line y ls k h = h

  in_lines : (ys : Lines) (ls : Locals) → lines_named ys ≡ true → AllNamed ls → AllNamed (locals_in_lines ls ys)
  in_lines End ls k h = h
  in_lines (Then y ys) ls k h = let p = and_parts (line_named y) (lines_named ys) k in in_lines ys (locals_in ls y) p.1 (in_line y ls p.0 h)

  in_choice : (c : Choice) (ls : Locals) → choice_named c ≡ true → AllNamed ls → AllNamed (locals_in_choice ls c)
  in_choice (Where e b) ls k h = in_lines b ls k h

  in_choices : (cs : Choices) (ls : Locals) → choices_named cs ≡ true → AllNamed ls → AllNamed (locals_in_choices ls cs)
  in_choices NoChoice ls k h = h
  in_choices (OrElse c cs) ls k h = let p = and_parts (choice_named c) (choices_named cs) k in in_choices cs (locals_in_choice ls c) p.1 (in_choice c ls p.0 h)

-- ---- the names of what was read

abbrev pub NamesOf : List Local → Type 0
NamesOf vs = list_all (λ (v : Local). is_name v.name) vs ≡ true

of_locals : (ts : List (List ℕ)) (ks : List (Option Kind)) → list_all is_identifier ts ≡ true → NamesOf (locals_of ts ks)
of_locals [] ks h = refl
of_locals (t ∷ ts) [] h = refl
of_locals (t ∷ ts) (k ∷ ks) h = let p = and_parts (is_identifier t) (list_all is_identifier ts) h in and_from (is_name t) (list_all (λ (v : Local). is_name v.name) (locals_of ts ks)) (identifier_is t p.0) (of_locals ts ks p.1)

abbrev Says : Result (Read × Design) Broken → Type 0
Says r = IfOk r (λ y. NamesOf y.0.locals)

of_body : (s : Scope) (d : Design) (k : GenKind) (b : Lines) (ls : Locals) → AllNamed ls → Says (read_body s d k b ls)
of_body s d k b ls h = by_run (read_lines s ls (is_instance k) false [] b (starts ls) d)
  where
    by_run : (r : Result (List Statement × Work × Design) Broken) → Says (next r (λ r. Ok (read_as k ls r)))
    by_run (Ok y) = of_locals ls.names y.1.kinds h
    by_run (Err e) = tt

of_lowered : (s : Scope) (d : Design) (marks : List Ex) (n l : ℕ) (b : Lines) → lines_named b ≡ true → Says (lowered s d marks n l b)
of_lowered s d marks n l b h = by_mark (marked s no_locals d marks n)
  where
    by_mark : (r : Result GenKind Code) → Says (next (at_def l r) (λ k. read_body s d k b (locals_in_lines no_locals b)))
    by_mark (Ok k) = of_body s d k b (locals_in_lines no_locals b) (in_lines b no_locals h refl)
    by_mark (Err code) = tt

named_to : (r : Result (Read × Design) Broken) (y : Read) (e : Design) → Says r → r ≡ Ok (y, e) → NamesOf y.locals
named_to (Ok z) y e h q = let p : z ≡ (y, e) = cc in subst (λ (z : Read × Design). NamesOf z.0.locals) p h
named_to (Err b) y e h q = absurd (cc)

body_named : (f : FuncDef) → def_names f ≡ true → all_of (map stmt_names (out-FuncDef f).body) ≡ true
body_named f h =
    let p = and_parts (all_of (map expr_names (out-FuncDef f).marks)) _ (sym (names-def_of f) ∙ h) in
    let q = and_parts (is_identifier (out-FuncDef f).name) _ p.1 in
    (and_parts (all_of (map param_names (out-FuncDef f).params)) (all_of (map stmt_names (out-FuncDef f).body)) q.1).1

pub def_named : (s : Scope) (f : FuncDef) (d : Design) (r : Read) (e : Design) → def_names f ≡ true → def_of s d f ≡ Ok (r, e) → NamesOf r.locals
def_named s f d r e h q =
    named_to (def_of s d f) r e (of_lowered s d (map ex_of (out-FuncDef f).marks) (length (out-FuncDef f).params) (out-FuncDef f).line (lines (map line_of (out-FuncDef f).body)) (all_source_named (out-FuncDef f).body (body_named f h))) q

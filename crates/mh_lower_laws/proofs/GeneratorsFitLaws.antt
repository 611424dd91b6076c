-- What is known of a whole generator.
use Rattle.std.proofs.Common.{◌≡◌, ℕ, zero, suc, ◌<◌, Bool, true, false, ◌&&◌, List, [], ◌∷◌, ◌++◌, map, length, Option, Some, None, Result, Ok, Err, IfOk, refl, ap, sym, ◌∙◌, subst, arith, length-append, cond, if◌then◌else◌}
use Rattle.std.specs.Prelude.{slice_get, bytes_eq, is_some}
use Rattle.std.specs.List.{list_all}
use Rattle.std.specs.Option.{option_map}
use Rattle.std.proofs.lemmas.Bool.{and_from}
use Rattle.mh_pytree.specs.declared.statement.FuncDef.{FuncDef, out-FuncDef}
use Rattle.mh_text.specs.declared.code.Code.{Code}
use Rattle.mh_text.specs.declared.code.Code.TheVariants.{E1UnknownName, E2NotElaborable, E3BadArguments}
use Rattle.mh_consts.specs.declared.kinds.Builtin.TheVariants as builtin
use Rattle.mh_consts.specs.declared.kinds.Const.{Const, out-Const}
use Rattle.mh_consts.specs.declared.kinds.Const.TheOpen.{Const-F}
use Rattle.mh_consts.specs.declared.scope.Scope.{Scope}
use Rattle.mh_consts.specs.Builtins.{all_positional}
use Rattle.mh_consts.specs.Expression as x
use Rattle.mh_consts.specs.Expression.{Ex, Exs, Keys, ex_of, name_in}
use Rattle.mh_consts.specs.Constant.{value, is_plain}
use Rattle.mh_consts.specs.Names.{lookup, bind}
use Rattle.mh_consts.specs.Outcome.{after}
use Rattle.mh_consts.proofs.Bindings.{lookup-bind}
use Rattle.mh_design.specs.declared.design.Design.{Design}
use Rattle.mh_design.specs.declared.design.GenKind.{GenKind}
use Rattle.mh_design.specs.declared.design.GenKind.TheVariants as generator
use Rattle.mh_design.specs.declared.design.Kind.{Kind}
use Rattle.mh_design.specs.declared.design.Local.{Local}
use Rattle.mh_design.specs.declared.design.Wait.{Wait}
use Rattle.mh_design.specs.declared.assigned.Flow.{Flow}
use Rattle.mh_design.specs.Assigned.{passes, walk_block, is_assigned_first, all_below}
use Rattle.mh_design.specs.Statements.{wait_fits}
use Rattle.mh_design.specs.Tree.{Statement, block}
use Rattle.mh_design.specs.WellFormed.{kind_fits, is_edge, is_reset, starts_fit}
use Rattle.mh_design.specs.WellFormed as wanted
use Rattle.mh_exprs.specs.declared.locals.Locals.{Locals}
use Rattle.mh_exprs.specs.declared.names.Callee.{Callee}
use Rattle.mh_exprs.specs.declared.names.Callee.TheVariants as callee
use Rattle.mh_exprs.specs.declared.typed.Work.{Work}
use Rattle.mh_lower.specs.Body as line
use Rattle.mh_lower.specs.Body.{Line, Lines, Choice, Choices, End, Then, Where, NoChoice, OrElse, lines, line_of}
use Rattle.mh_lower.specs.Bodies.{read_lines}
use Rattle.mh_exprs.specs.Calls.{callee_by, callee_of}
use Rattle.mh_lower.specs.Generators.{no_locals, with_local, with_name, names_onto, target_view, locals_in, locals_in_lines, locals_in_choice, locals_in_choices, kind_or_int, locals_of, by_name, any_waits, always, reset_step, is_reset_key, sequential, with_reset, always_seq, by_call, mark_view, marked, is_instance, at_def, next, Read, read_as, read_body, lowered, def_of}
use Rattle.mh_exprs.specs.Leaves.{no_kind, is_true}
use Rattle.mh_lower.specs.Paths.{starts}
use Rattle.mh_lower.specs.Run.{Broken}
use Rattle.mh_lower.specs.Views as views
use Rattle.mh_lower.specs.Views.{View, view}
use Rattle.mh_lower.specs.Waits.{wait_for, waits_onto}
use Rattle.mh_lower_laws.specs.Holds.{is_of, Holds}
use Rattle.mh_lower_laws.specs.Laws.{Fits}
use Rattle.mh_design.specs.Numbering.{block_statements}
use Rattle.mh_design.specs.Statements.{statement_fits}
use Rattle.mh_lower_laws.proofs.BodiesHave.{lines_fit, lines_go}
use Rattle.mh_lower_laws.proofs.Growth.{grown}
use Rattle.mh_lower_laws.proofs.StatementGrowth.{starts_later}
use Rattle.mh_lower_laws.proofs.PathLaws.{flow_at, same_flow}
use Rattle.mh_lower_laws.proofs.Reading.{Sized}
use Rattle.mh_lower_laws.proofs.Running.{Runs, Built, Goes}
use Rattle.mh_lower_laws.proofs.ScopeValues.{value_fine}
use Rattle.mh_lower_laws.proofs.SourceLines.{all_source_lines}
use Rattle.mh_lower_laws.proofs.Stepping.{Later, ok_after, ok_if}
use Rattle.mh_lower_laws.proofs.WaitsFit.{wait_for_fits, waits_fit}

-- ---- decorators

module _ (s : Scope) (d : Design) (h : Holds s d) where
  abbrev Starts : GenKind → Type 0
  Starts k = starts_fit d k ≡ true

  named_refused : (code : Code) → IfOk (by_name (callee.Refused code)) Starts
  named_refused E1UnknownName = tt
  named_refused code = tt

  named_fits : (c : Callee) → IfOk (by_name c) Starts
  named_fits (callee.Known builtin.Instance) = refl
  named_fits (callee.Known builtin.AlwaysComb) = refl
  named_fits (callee.Known b) = tt
  named_fits (callee.Refused code) = named_refused code

  any_fit : (ws : List Wait) → list_all (wait_fits d) ws ≡ true → IfOk (any_waits ws) Starts
  any_fit [] k = tt
  any_fit (v ∷ ws) k = k

  always_fits : (keys : Keys) (xs : Exs) → IfOk (always s no_locals keys xs) Starts
  always_fits keys xs = ok_after (λ ws. list_all (wait_fits d) ws ≡ true) Starts (waits_onto s no_locals [] xs) (λ ws. if all_positional keys then any_waits ws else Err E3BadArguments) (waits_fit d s no_locals h [] xs refl)
      (λ ws q. ok_if Starts (all_positional keys) (any_waits ws) (Err E3BadArguments) (λ e. any_fit ws q) (λ e. tt))

  reset_fits : (y : Const-F Const) → IfOk (reset_step d y) (λ r. is_reset d r ≡ true)
  reset_fits Const-F.None = refl
  reset_fits (Const-F.Signal m k) = ok_if (λ r. is_reset d r ≡ true) (is_reset d (Some m)) (Ok (Some m)) (Err E3BadArguments) (λ e. e) (λ e. tt)
  reset_fits y = tt

  sequential_fits : (w : Wait) (r : Option ℕ) → wait_fits d w ≡ true → is_reset d r ≡ true → IfOk (sequential w r) Starts
  sequential_fits w r k q = ok_if Starts (is_edge w) (Ok (generator.Seq w r)) (Err E3BadArguments) (λ e. and_from (is_edge w && wait_fits d w) (is_reset d r) (and_from (is_edge w) (wait_fits d w) e k) q) (λ e. tt)

  with_reset_fits : (w : Wait) (r : Ex) → wait_fits d w ≡ true → IfOk (with_reset s d w r) Starts
  with_reset_fits w r k =
      ok_if Starts (is_plain s r) (after (value s r) (λ v. after (reset_step d (out-Const v)) (sequential w))) (Err E2NotElaborable)
      (λ p. ok_after (λ v. is_of d v ≡ true) Starts (value s r) (λ v. after (reset_step d (out-Const v)) (sequential w)) (value_fine d s h.names h.lists r p)
      (λ v q. ok_after (λ r. is_reset d r ≡ true) Starts (reset_step d (out-Const v)) (sequential w) (reset_fits (out-Const v)) (λ r i. sequential_fits w r k i))) (λ p. tt)

  seq_fits : (b : Bool) (xs : Exs) → IfOk (always_seq s no_locals d b xs) Starts
  seq_fits true (x.More edge (x.More r (x.More e xs))) = tt
  seq_fits true (x.More edge (x.More r x.NoMore)) = ok_after (λ w. wait_fits d w ≡ true) Starts (wait_for s no_locals edge) (λ w. with_reset s d w r) (wait_for_fits d s no_locals h edge) (λ w k. with_reset_fits w r k)
  seq_fits true (x.More edge x.NoMore) = tt
  seq_fits true x.NoMore = tt
  seq_fits false xs = tt

  call_refused : (code : Code) (keys : Keys) (xs : Exs) → IfOk (by_call s no_locals d (callee.Refused code) keys xs) Starts
  call_refused E1UnknownName keys xs = tt
  call_refused code keys xs = tt

  call_fits : (c : Callee) (keys : Keys) (xs : Exs) → IfOk (by_call s no_locals d c keys xs) Starts
  call_fits (callee.Known builtin.Always) keys xs = always_fits keys xs
  call_fits (callee.Known builtin.AlwaysSeq) keys xs = seq_fits (is_reset_key keys) xs
  call_fits (callee.Known b) keys xs = tt
  call_fits (callee.Refused code) keys xs = call_refused code keys xs

  view_fits : (v : View) → IfOk (mark_view s no_locals d v) Starts
  view_fits (views.Named t) = named_fits (callee_by s no_locals (Some t))
  view_fits (views.Called keys f xs) = call_fits (callee_of s no_locals f) keys xs
  view_fits v = tt

  marked_fits : (es : List Ex) (m : ℕ) → IfOk (marked s no_locals d es m) Starts
  marked_fits (e ∷ []) zero = view_fits (view e)
  marked_fits (e ∷ []) (suc m) = tt
  marked_fits [] m = tt
  marked_fits (e ∷ f ∷ es) m = tt

-- ---- the numbers of locals

Numbered : Locals → Type 0
Numbered ls = (t : List ℕ) (v : ℕ) → lookup ls.numbers t ≡ Some v → v < length ls.names

add_numbered : (ls : Locals) (t : List ℕ) → Numbered ls → Numbered (record { names = ls.names ++ t ∷ []; numbers = bind ls.numbers t (length ls.names) })
unfolding Numbered
add_numbered ls t h u v q = by_test (bytes_eq u t) (sym (lookup-bind ls.numbers t u (length ls.names)) ∙ q)
  where
    by_test : (b : Bool) → cond b (Some (length ls.names)) (lookup ls.numbers u) ≡ Some v → v < length (ls.names ++ t ∷ [])
    by_test true e = let same : length ls.names ≡ v = cc in omega (arith, length-append ls.names (t ∷ []))
    by_test false e = let l : v < length ls.names = h u v e in omega (arith, l, length-append ls.names (t ∷ []))

local_numbered : (ls : Locals) (t : List ℕ) → Numbered ls → Numbered (with_local ls t)
local_numbered ls t h = by_test (is_some (lookup ls.numbers t))
  where
    by_test : (b : Bool) → Numbered (if b then ls else record { names = ls.names ++ t ∷ []; numbers = bind ls.numbers t (length ls.names) })
    by_test true = h
    by_test false = add_numbered ls t h

name_numbered : (ls : Locals) (o : Option (List ℕ)) → Numbered ls → Numbered (with_name ls o)
name_numbered ls None h = h
name_numbered ls (Some t) h = local_numbered ls t h

names_numbered : (xs : Exs) (ls : Locals) → Numbered ls → Numbered (names_onto ls xs)
names_numbered x.NoMore ls h = h
names_numbered (x.More e es) ls h = names_numbered es (with_name ls (name_in e)) (name_numbered ls (name_in e) h)

view_numbered : (ls : Locals) (v : View) → Numbered ls → Numbered (target_view ls v)
view_numbered ls (views.Named t) h = local_numbered ls t h
view_numbered ls (views.Tupled xs) h = names_numbered xs ls h
view_numbered ls v h = h

mutual
  line_numbered : (y : Line) (ls : Locals) → Numbered ls → Numbered (locals_in ls y)
  line_numbered (line.Assign l target e) ls h = view_numbered ls (view target) h
  line_numbered (line.Augment l o target e) ls h = name_numbered ls (name_in target) h
  line_numbered (line.If l cs other) ls h = lines_numbered other (locals_in_choices ls cs) (choices_numbered cs ls h)
  line_numbered (line.For l t over b) ls h = lines_numbered b (with_local ls t) (local_numbered ls t h)
  line_numbered (line.While l e b) ls h = lines_numbered b ls h
  line_numbered y ls h = h

  lines_numbered : (ys : Lines) (ls : Locals) → Numbered ls → Numbered (locals_in_lines ls ys)
  lines_numbered End ls h = h
  lines_numbered (Then y ys) ls h = lines_numbered ys (locals_in ls y) (line_numbered y ls h)

  choice_numbered : (c : Choice) (ls : Locals) → Numbered ls → Numbered (locals_in_choice ls c)
  choice_numbered (Where e b) ls h = lines_numbered b ls h

  choices_numbered : (cs : Choices) (ls : Locals) → Numbered ls → Numbered (locals_in_choices ls cs)
  choices_numbered NoChoice ls h = h
  choices_numbered (OrElse c cs) ls h = choices_numbered cs (locals_in_choice ls c) (choice_numbered c ls h)

none_numbered : Numbered no_locals
unfolding Numbered
none_numbered t v q = absurd (cc)

-- ---- the locals of a generator

local_by : (ts : List (List ℕ)) (ks : List (Option Kind)) (v : ℕ) (k : Kind) → length ks ≡ length ts → no_kind (slice_get ks v) ≡ Some k → option_map (λ (y : Local). y.kind) (slice_get (locals_of ts ks) v) ≡ Some k
local_by ts [] v k l h = absurd (cc)
local_by [] (o ∷ ks) v k l h = absurd (omega (arith, l))
local_by (t ∷ ts) (None ∷ ks) zero k l h = absurd (cc)
local_by (t ∷ ts) (Some m ∷ ks) zero k l h = h
local_by (t ∷ ts) (o ∷ ks) (suc v) k l h = local_by ts ks v k (omega (arith, l)) h

count_of : (ts : List (List ℕ)) (ks : List (Option Kind)) → length ks ≡ length ts → length (locals_of ts ks) ≡ length ts
count_of [] ks l = refl
count_of (t ∷ ts) [] l = absurd (omega (arith, l))
count_of (t ∷ ts) (o ∷ ks) l = ap suc (count_of ts ks (omega (arith, l)))

kind_by : (d : Design) (o : Option Kind) → ((k : Kind) → o ≡ Some k → kind_fits d k ≡ true) → kind_fits d (kind_or_int o) ≡ true
kind_by d None h = refl
kind_by d (Some k) h = h k refl

kinds_by : (d : Design) (ts : List (List ℕ)) (ks : List (Option Kind)) → ((v : ℕ) (k : Kind) → no_kind (slice_get ks v) ≡ Some k → kind_fits d k ≡ true) → list_all (λ (y : Local). kind_fits d y.kind) (locals_of ts ks) ≡ true
kinds_by d [] ks h = refl
kinds_by d (t ∷ ts) [] h = refl
kinds_by d (t ∷ ts) (o ∷ ks) h = and_from (kind_fits d (kind_or_int o)) (list_all (λ (y : Local). kind_fits d y.kind) (locals_of ts ks)) (kind_by d o (λ k q. h zero k q)) (kinds_by d ts ks (λ v k q. h (suc v) k q))

all_tests : (m : ℕ) (test : ℕ → Bool) → ((v : ℕ) → test v ≡ true) → all_below m test ≡ true
all_tests zero test h = refl
all_tests (suc m) test h = and_from (all_below m test) (test m) (all_tests m test h) (h m)

-- ---- the start of a body

none_known : (ts : List (List ℕ)) (v : ℕ) (k : Kind) → no_kind (slice_get (map (λ t. None) ts) v) ≡ Some k → ⊥
none_known [] v k h = absurd (cc)
none_known (t ∷ ts) zero k h = absurd (cc)
none_known (t ∷ ts) (suc v) k h = none_known ts v k h

false_at : (ts : List (List ℕ)) (v : ℕ) → is_true (slice_get (map (λ t. false) ts) v) ≡ false
false_at [] v = refl
false_at (t ∷ ts) zero = refl
false_at (t ∷ ts) (suc v) = false_at ts v

as_long : {X : Type 0} (y : X) (ts : List (List ℕ)) → length (map (λ t. y) ts) ≡ length ts
as_long y [] = refl
as_long y (t ∷ ts) = ap suc (as_long y ts)

start_flow : (ls : Locals) (v : ℕ) → passes true false ≡ flow_at v (starts ls)
start_flow ls v = same_flow (passes true false) (flow_at v (starts ls)) refl (ap Some (sym (false_at ls.names v))) refl refl

same_instance : (k : GenKind) → is_instance k ≡ wanted.is_instance k
same_instance generator.Comb = refl
same_instance (generator.Always ws) = refl
same_instance (generator.Seq w r) = refl
same_instance generator.Instance = refl

module _ (s : Scope) (d : Design) (h : Holds s d) (k : GenKind) (ls : Locals) where
  start_sized : Sized (length ls.names) (starts ls)
  start_sized = record { kinds = as_long None ls.names; here = as_long false ls.names; breaks = tt; continues = tt }

  start_built : Built (length ls.names) (is_instance k) false [] (starts ls) d
  start_built = record { sized = start_sized; fit = λ v m q. absurd (none_known ls.names v m q); fits = λ vs i. refl; exits = refl }

  read_fits : (ss : List Statement) (y : Work) (e : Design) → starts_fit e k ≡ true → Goes (length ls.names) (is_instance k) false [] (starts ls) ss y e → Fits e (record { kind = k; locals = locals_of ls.names y.kinds; body = block ss })
  read_fits ss y e f g = record {
    starts = f;
    locals = kinds_by e ls.names y.kinds g.built.fit;
    statements = subst (λ b. list_all (statement_fits e (locals_of ls.names y.kinds) b) (block_statements (block ss)) ≡ true) (same_instance k) (g.built.fits (locals_of ls.names y.kinds) (λ v m q. local_by ls.names y.kinds v m g.built.sized.kinds q));
    exits = g.built.exits;
    assigned = all_tests (length (locals_of ls.names y.kinds)) (is_assigned_first (block ss)) (λ v. ap (λ (p : Flow). p.sound) (ap (walk_block v (block ss)) (start_flow ls v) ∙ g.walked v (flow_at v (starts ls)) refl));
  }

-- what a generator that was read gives
abbrev pub Reading : Scope → Design → Result (Read × Design) Broken → Type 0
Reading s d (Ok x) = Later s d x.1 (Fits x.1 x.0)
Reading s d (Err b) = Unit {0}

pub record Reads (s : Scope) (d : Design) (r : Result (Read × Design) Broken) : Type 0 where
  pub read : Reading s d r

module _ (s : Scope) (d : Design) (h : Holds s d) where
  body_reads : (k : GenKind) (b : Lines) (ls : Locals) → starts_fit d k ≡ true → Numbered ls → lines_fit b ≡ true → Reads s d (read_body s d k b ls)
  unfolding Numbered
  body_reads k b ls f m q =
      by_run (read_lines s ls (is_instance k) false [] b (starts ls) d) (lines_go s ls (length ls.names) m (is_instance k) b false [] (starts ls) d q h (start_built s d h k ls))
    where
      by_run : (r : Result (List Statement × Work × Design) Broken) → Runs s (λ ss y e. Goes (length ls.names) (is_instance k) false [] (starts ls) ss y e) d r → Reads s d (next r (λ r. Ok (read_as k ls r)))
      by_run (Ok r) g = record { read = record { extends = g.ran.extends; holds = g.ran.holds; gives = read_fits s d h k ls r.0 r.1 r.2 (starts_later d r.2 (grown d r.2 g.ran.extends) k f) g.ran.gives } }
      by_run (Err b) g = record { read = tt }

  lowered_reads : (marks : List Ex) (m l : ℕ) (b : Lines) → lines_fit b ≡ true → Reads s d (lowered s d marks m l b)
  lowered_reads marks m l b q = by_mark (marked s no_locals d marks m) (marked_fits s d h marks m)
    where
      by_mark : (r : Result GenKind Code) → IfOk r (λ k. starts_fit d k ≡ true) → Reads s d (next (at_def l r) (λ k. read_body s d k b (locals_in_lines no_locals b)))
      by_mark (Ok k) f = body_reads k b (locals_in_lines no_locals b) f (lines_numbered b no_locals none_numbered) q
      by_mark (Err code) f = record { read = tt }

  pub def_reads : (f : FuncDef) → Reads s d (def_of s d f)
  def_reads f = lowered_reads (map ex_of (out-FuncDef f).marks) (length (out-FuncDef f).params) (out-FuncDef f).line (lines (map line_of (out-FuncDef f).body)) (all_source_lines (out-FuncDef f).body)

  pub read_to : (r : Result (Read × Design) Broken) (y : Read) (e : Design) → Reads s d r → r ≡ Ok (y, e) → Later s d e (Fits e y)
  read_to (Ok z) y e g q = let p : z ≡ (y, e) = cc in subst (λ z. Later s d z.1 (Fits z.1 z.0)) p g.read
  read_to (Err b) y e g q = absurd (cc)

-- What is done in a world that fits leaves one that fits, and its design has all that it had before.
use Rattle.std.specs.Prelude.{◌≡◌, ◌≤◌, ℕ, ℤ, Bool, true, ◌&&◌, List, [], ◌∷◌, ◌++◌, Option, Some, None, Result, Ok, Err, IfOk, length}
use Rattle.std.specs.List.{list_all}
use Rattle.mh_consts.specs.declared.kinds.Builtin.{Builtin}
use Rattle.mh_consts.specs.declared.kinds.Const.{Const}
use Rattle.mh_consts.specs.declared.kinds.Const.TheVariants as c
use Rattle.mh_consts.specs.Expression.{Ex, Head, Keys}
use Rattle.mh_consts.specs.Operators.{operated}
use Rattle.mh_pytree.specs.declared.expression.Operator.{Operator}
use Rattle.mh_design.specs.declared.design.Design.{Design}
use Rattle.mh_design.specs.WellFormed.{is_name}
use Rattle.mh_lower_laws.specs.Holds.{is_of, Holds, Extends}
use Rattle.mh_world.specs.declared.kinds.Flow.{Flow}
use Rattle.mh_world.specs.declared.kinds.Flow.TheVariants.{Goes, Leaves, Again, Returns}
use Rattle.mh_world.specs.declared.kinds.Mark.{Mark}
use Rattle.mh_world.specs.Statements.{St, Fn, Func, Block, Parameter, Then, st_of}
use Rattle.mh_world.specs.World.{World, Made, Run, at, seeing, begins, counted}
use Rattle.mh_world.specs.Seen as seen
use Rattle.mh_world.specs.Seen.{scope_of}
use Rattle.mh_world.specs.Named.{bind_name, push_inner, pop_inner}
use Rattle.mh_world.specs.Frozen.{freeze, freeze_mems}
use Rattle.mh_world.specs.Lists.{new_list, set_item, get_item, items_of, item}
use Rattle.mh_world.specs.Heads.{operate, operate_in, call_builtin}
use Rattle.mh_world.specs.Functions.{Called, Caller, marked, with_defaults, new_function, callee, enter, returned, leave}
use Rattle.mh_pytree.specs.declared.statement.PyStmt.{PyStmt}
use Rattle.mh_pytree.specs.Depth.{stmt_depth}
use Rattle.mh_pytree.specs.Names.{stmt_names}
use Rattle.mh_world_laws.specs.Sources.{IsSource, IsDefinition, Parts}
use Rattle.mh_world_laws.specs.Fits.{Fits, Later, are_of, is_of_if_any, arguments_fit, made_fits}

-- what was done has given x and the world u
pub record Kept {A : Type 0} (holds : Design → A → Type 0) (w : World) (x : A) (u : World) : Type 0 where
  pub fits : Fits u
  pub later : Later w.design u.design
  pub value : holds u.design x

abbrev pub Keeps : {A : Type 0} → (Design → A → Type 0) → Run A → Type 0
Keeps holds r = (w : World) → Fits w → IfOk (r w) (λ x. Kept holds w x.0 x.1)

-- the same where it needs something of the design that there is
abbrev pub KeepsIf : {A : Type 0} → (Design → Type 0) → (Design → A → Type 0) → Run A → Type 0
KeepsIf needs holds r = (w : World) → Fits w → needs w.design → IfOk (r w) (λ x. Kept holds w x.0 x.1)

abbrev pub Anything : {A : Type 0} → Design → A → Type 0
Anything d x = Unit {0}

abbrev pub IsOf : Design → Const → Type 0
IsOf d v = is_of d v ≡ true

abbrev pub AreOf : Design → List Const → Type 0
AreOf d vs = are_of d vs ≡ true

abbrev pub IsOfIfAny : Design → Option Const → Type 0
IsOfIfAny d o = is_of_if_any d o ≡ true

abbrev pub FlowFits : Design → Flow → Type 0
FlowFits d Goes = Unit {0}
FlowFits d Leaves = Unit {0}
FlowFits d Again = Unit {0}
FlowFits d (Returns l v) = is_of d v ≡ true

pub record CalledFits (d : Design) (x : Called) : Type 0 where
  pub name : is_name x.name ≡ true
  pub arguments : arguments_fit d x.arguments ≡ true
  pub body : IsSource x.body

-- ---- sources: what stands in a statement of a source is of one

abbrev pub StatementsHaveParts : Type 0
StatementsHaveParts = (s : PyStmt) → stmt_depth s ≤ 200 → stmt_names s ≡ true → Parts (st_of s)

abbrev pub BlocksHaveParts : Type 0
BlocksHaveParts = (s : St) (b : Block) → IsSource (Then s b) → Parts s × IsSource b

abbrev pub DefinitionsHaveParts : Type 0
DefinitionsHaveParts = (l : ℕ) (t : List ℕ) (ms : List Ex) (ps : List Parameter) (b : Block) → IsDefinition (Func l t ms ps b) →
    (is_name t ≡ true) × (list_all (λ p. is_name p.0) ps ≡ true) × IsSource b

-- ---- values and designs

-- a value of a design is one of each later design
abbrev pub ValuesStay : Type 0
ValuesStay = (d e : Design) → Later d e → (v : Const) → is_of d v ≡ true → is_of e v ≡ true

-- truth values, integers, strings, `None` and functions are of each design
pub record Plain (d : Design) : Type 0 where
  pub none : is_of d c.None ≡ true
  pub int : (n : ℤ) → is_of d (c.Int n) ≡ true
  pub truth : (b : Bool) → is_of d (c.Truth b) ≡ true
  pub str : (t : List ℕ) → is_of d (c.Str t) ≡ true
  pub builtin : (b : Builtin) → is_of d (c.Builtin b) ≡ true

abbrev pub PlainAreOf : Type 0
PlainAreOf = (d : Design) → Plain d

abbrev pub LaterSelf : Type 0
LaterSelf = (d : Design) → Later d d

abbrev pub LaterOn : Type 0
LaterOn = (d e f : Design) → Later d e → Later e f → Later d f

-- what an operation or a definition may speak of holds
abbrev pub ScopesHold : Type 0
ScopesHold = (w : World) (ts : List (List ℕ)) → Fits w → Holds (scope_of w ts) w.design

-- ---- the single things that a source does

abbrev pub BeginsFits : Type 0
BeginsFits = (limit : ℕ) → Fits (begins limit)

abbrev pub CountedKeeps : Type 0
CountedKeeps = (l : ℕ) → Keeps Anything (counted l)

abbrev pub NamesKeep : Type 0
NamesKeep = (l : ℕ) (t : List ℕ) → Keeps IsOf (seen.name l t)

abbrev pub BindingsKeep : Type 0
BindingsKeep = (l : ℕ) (t : List ℕ) (v : Const) → is_name t ≡ true → KeepsIf (λ d. IsOf d v) Anything (bind_name l t v)

abbrev pub PushesKeep : Type 0
PushesKeep = (t : List ℕ) (v : Const) (w : World) → Fits w → is_of w.design v ≡ true → Kept {A = Unit {0}} Anything w tt (push_inner t v w)

abbrev pub PopsKeep : Type 0
PopsKeep = (w : World) → Fits w → Kept {A = Unit {0}} Anything w tt (pop_inner w)

abbrev pub NewListsKeep : Type 0
NewListsKeep = (l : ℕ) (vs : List Const) → KeepsIf (λ d. AreOf d vs) IsOf (new_list l vs)

abbrev pub SetItemsKeep : Type 0
SetItemsKeep = (l : ℕ) (base place v : Const) → KeepsIf (λ d. IsOf d v) Anything (set_item l base place v)

abbrev pub GetItemsKeep : Type 0
GetItemsKeep = (l : ℕ) (base place : Const) → KeepsIf (λ d. IsOf d base) IsOf (get_item l base place)

abbrev pub ItemsKeep : Type 0
ItemsKeep = (l : ℕ) (v : Const) (i : ℕ) → KeepsIf (λ d. IsOf d v) IsOfIfAny (item l v i)

abbrev pub ItemsOfKeep : Type 0
ItemsOfKeep = (l : ℕ) (v : Const) → KeepsIf (λ d. IsOf d v) AreOf (seeing l (items_of v))

abbrev pub OperatedKeep : Type 0
OperatedKeep = (l : ℕ) (op : Operator) (a b : Const) → KeepsIf (λ d. (is_of d a && is_of d b) ≡ true) IsOf (at l (operated op a b))

abbrev pub OperationsKeep : Type 0
OperationsKeep = (l : ℕ) (h : Head) (vs : List Const) → KeepsIf (λ d. AreOf d vs) IsOf (operate l h vs)

abbrev pub OperationsInKeep : Type 0
OperationsInKeep = (l : ℕ) (e : Ex) (vs : List Const) → KeepsIf (λ d. AreOf d vs) IsOf (operate_in l e vs)

abbrev pub BuiltinsKeep : Type 0
BuiltinsKeep = (l : ℕ) (b : Builtin) (keys : Keys) (vs : List Const) → KeepsIf (λ d. AreOf d vs) IsOf (call_builtin l b keys vs)

-- ---- functions

abbrev pub MarksKeep : Type 0
MarksKeep = (l : ℕ) (ms : List Ex) → Keeps Anything (marked l ms)

abbrev pub FunctionsKeep : Type 0
FunctionsKeep = (l : ℕ) (t : List ℕ) (is_block : Bool) (ps : List Parameter) (vs : List Const) (b : Block) →
    is_name t ≡ true → list_all (λ p. is_name p.0) ps ≡ true → IsSource b → KeepsIf (λ d. AreOf d vs) Anything (new_function l t is_block (with_defaults ps vs) b)

abbrev pub CalleesKeep : Type 0
CalleesKeep = (l n : ℕ) (keys : Keys) (vs : List Const) → KeepsIf (λ d. AreOf d vs) CalledFits (callee l n keys vs)

abbrev pub EntersKeep : Type 0
EntersKeep = (x : Called) → KeepsIf (λ d. CalledFits d x) Anything (enter x)

abbrev pub ReturnsKeep : Type 0
ReturnsKeep = (l : ℕ) (v : Const) → KeepsIf (λ d. IsOf d v) FlowFits (returned l v)

abbrev pub LeavesKeep : Type 0
LeavesKeep = (l : ℕ) (caller : Caller) (f : Flow) → KeepsIf (λ d. FlowFits d f) IsOf (leave l caller f)

-- ---- generators

-- what a generator has read isn't changed any more
abbrev pub FreezesKeep : Type 0
FreezesKeep = (ts : List (List ℕ)) (w : World) → Fits w → Kept {A = Unit {0}} Anything w tt (freeze ts w)

-- a generator that was read, with the design after it, of which what the reading spoke of holds
abbrev pub ReadsKeep : Type 0
ReadsKeep = (w : World) (ts : List (List ℕ)) (e : Design) (g : Made) → Fits w → Extends w.design e → Holds (scope_of w ts) e → made_fits e g ≡ true →
    Kept {A = Unit {0}} Anything w tt (freeze_mems (length w.design.mems) (record w { design = e; generators = w.generators ++ g ∷ [] }))

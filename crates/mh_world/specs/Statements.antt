-- The statements of a source as plain data, with their lines and with their expressions in plain form.
-- What stands on the left of an assignment is told apart by its form (this project's own rule): a name,
-- an item by an index, several names after commas; anything else is no target.
use Rattle.std.specs.Prelude.{ℕ, Bool, true, false, List, [], ◌∷◌, map, Option, Some, None, bytes_eq, codes}
use Rattle.mh_pytree.specs.declared.expression.Operator.{Operator}
use Rattle.mh_pytree.specs.declared.expression.PyExpr.{PyExpr, out-PyExpr}
use Rattle.mh_pytree.specs.declared.expression.PyExpr.TheOpen.{PyExpr-F}
use Rattle.mh_pytree.specs.declared.expression.Argument.{Argument}
use Rattle.mh_pytree.specs.declared.statement.Param.{Param}
use Rattle.mh_pytree.specs.declared.statement.PyStmt.{PyStmt}
use Rattle.mh_pytree.specs.declared.statement.Branch.{Branch}
use Rattle.mh_pytree.specs.declared.statement.FuncDef.{FuncDef}
use Rattle.mh_pytree.specs.declared.statement.PyStmt.TheOpen.{PyStmt-F, Branch-F, FuncDef-F}
use Rattle.mh_pytree.specs.declared.statement.PyStmt.TheFolds.{fold-PyStmt, fold-Branch, fold-FuncDef}
use Rattle.mh_consts.specs.Expression as x
use Rattle.mh_consts.specs.Expression.{Ex, Exs, ex_of, one, two, three}

-- What stands on the left of an assignment.
pub data Target : Type 0 where
  ToName : (name : List ℕ) → Target
  ToItem : (base place : Ex) → Target  -- `base[place]`
  ToNames : (names : List (List ℕ)) → Target  -- `a, b`
  ToNothing : (parts : Exs) → Target  -- no target, and the parts of it that are looked at

-- A parameter, and the default value if it has one.
abbrev pub Parameter : Type 0
Parameter = List ℕ × Option Ex

mutual
  pub data St : Type 0 where
    Value : (line : ℕ) (e : Ex) → St
    Assign : (line : ℕ) (target : Target) (left e : Ex) → St
    Augment : (line : ℕ) (op : Operator) (target : Target) (left e : Ex) → St
    Pass : (line : ℕ) → St
    Break : (line : ℕ) → St
    Continue : (line : ℕ) → St
    Return : (line : ℕ) (e : Ex) → St
    Yield : (line : ℕ) (e : Ex) → St
    Raise : (line : ℕ) (e : Ex) → St
    Assert : (line : ℕ) (test : Ex) → St
    ImportAll : (line : ℕ) → St
    Import : (line : ℕ) (names : List (List ℕ)) → St
    Define : (def : Fn) → St
    If : (line : ℕ) (choices : Choices) (other : Block) → St
    For : (line : ℕ) (name : List ℕ) (over : Ex) (body : Block) → St
    While : (line : ℕ) (test : Ex) (body : Block) → St

  pub data Fn : Type 0 where
    Func : (line : ℕ) (name : List ℕ) (marks : List Ex) (params : List Parameter) (body : Block) → Fn

  pub data Block : Type 0 where
    End : Block
    Then : St → Block → Block

  -- a condition and what it leads to
  pub data Choice : Type 0 where
    Where : (test : Ex) (body : Block) → Choice

  pub data Choices : Type 0 where
    NoChoice : Choices
    OrElse : Choice → Choices → Choices

abbrev pub block : List St → Block
block [] = End
block (s ∷ ss) = Then s (block ss)

abbrev pub choices : List Choice → Choices
choices [] = NoChoice
choices (c ∷ cs) = OrElse c (choices cs)

abbrev pub block_if_any : Option (List St) → Block
block_if_any None = End
block_if_any (Some ss) = block ss

-- ---- targets

abbrev pub name_step : PyExpr-F PyExpr Argument → Option (List ℕ)
name_step (PyExpr-F.Name t) = Some t
name_step (PyExpr-F.Number n) = None
name_step (PyExpr-F.Str bytes) = None
name_step PyExpr-F.True = None
name_step PyExpr-F.False = None
name_step PyExpr-F.None = None
name_step (PyExpr-F.Group a) = None
name_step (PyExpr-F.Bracketed xs) = None
name_step (PyExpr-F.Tuple xs) = None
name_step (PyExpr-F.List xs) = None
name_step (PyExpr-F.Comprehension item t over) = None
name_step (PyExpr-F.Not a) = None
name_step (PyExpr-F.Unary sign a) = None
name_step (PyExpr-F.Binary operator a b) = None
name_step (PyExpr-F.Attribute a t) = None
name_step (PyExpr-F.Call f gs) = None
name_step (PyExpr-F.Index a b) = None
name_step (PyExpr-F.Slice a b c) = None
name_step (PyExpr-F.Whole a) = None

-- the name that an expression is, without brackets round it
abbrev pub name_of : PyExpr → Option (List ℕ)
name_of e = name_step (out-PyExpr e)

-- all of them, if each is a name
abbrev pub with_name : Option (List ℕ) → Option (List (List ℕ)) → Option (List (List ℕ))
with_name (Some t) (Some ts) = Some (t ∷ ts)
with_name t ts = None

abbrev pub names_of : List PyExpr → Option (List (List ℕ))
names_of [] = Some []
names_of (e ∷ es) = with_name (name_of e) (names_of es)

abbrev pub to_names : Option (List (List ℕ)) → Target
to_names None = ToNothing x.NoMore
to_names (Some ts) = ToNames ts

abbrev pub slice_parts : Ex → Ex → Option PyExpr → Exs
slice_parts a b None = two a b
slice_parts a b (Some c) = three a b (ex_of c)

-- `.next` and a slice have the form of a target, so that their parts are looked at
abbrev pub next_parts : Bool → Ex → Exs
next_parts true a = one a
next_parts false a = x.NoMore

abbrev pub target_step : PyExpr-F PyExpr Argument → Target
target_step (PyExpr-F.Name t) = ToName t
target_step (PyExpr-F.Number n) = ToNothing x.NoMore
target_step (PyExpr-F.Str bytes) = ToNothing x.NoMore
target_step PyExpr-F.True = ToNothing x.NoMore
target_step PyExpr-F.False = ToNothing x.NoMore
target_step PyExpr-F.None = ToNothing x.NoMore
target_step (PyExpr-F.Group a) = ToNothing x.NoMore
target_step (PyExpr-F.Bracketed xs) = ToNothing x.NoMore
target_step (PyExpr-F.Tuple xs) = to_names (names_of xs)
target_step (PyExpr-F.List xs) = ToNothing x.NoMore
target_step (PyExpr-F.Comprehension item t over) = ToNothing x.NoMore
target_step (PyExpr-F.Not a) = ToNothing x.NoMore
target_step (PyExpr-F.Unary sign a) = ToNothing x.NoMore
target_step (PyExpr-F.Binary operator a b) = ToNothing x.NoMore
target_step (PyExpr-F.Attribute a t) = ToNothing (next_parts (bytes_eq t (codes "next")) (ex_of a))
target_step (PyExpr-F.Call f gs) = ToNothing x.NoMore
target_step (PyExpr-F.Index a b) = ToItem (ex_of a) (ex_of b)
target_step (PyExpr-F.Slice a b c) = ToNothing (slice_parts (ex_of a) (ex_of b) c)
target_step (PyExpr-F.Whole a) = ToNothing (one (ex_of a))

abbrev pub target_of : PyExpr → Target
target_of e = target_step (out-PyExpr e)

-- ---- the plain form of a statement

abbrev pub ex_if_any : Option PyExpr → Option Ex
ex_if_any None = None
ex_if_any (Some e) = Some (ex_of e)

abbrev pub parameter_of : Param → Parameter
parameter_of p = (p.name, ex_if_any p.value)

-- a `return` without a value returns `None`
abbrev pub returned_of : Option PyExpr → Ex
returned_of None = x.Nothing
returned_of (Some e) = ex_of e

abbrev pub st_step : PyStmt-F St Choice Fn → St
st_step (PyStmt-F.Value l e) = Value l (ex_of e)
st_step (PyStmt-F.Assign l t e) = Assign l (target_of t) (ex_of t) (ex_of e)
st_step (PyStmt-F.Augment l op t e) = Augment l op (target_of t) (ex_of t) (ex_of e)
st_step (PyStmt-F.Pass l) = Pass l
st_step (PyStmt-F.Break l) = Break l
st_step (PyStmt-F.Continue l) = Continue l
st_step (PyStmt-F.Return l e) = Return l (returned_of e)
st_step (PyStmt-F.Yield l e) = Yield l (ex_of e)
st_step (PyStmt-F.Raise l e) = Raise l (ex_of e)
st_step (PyStmt-F.Assert l e message) = Assert l (ex_of e)
st_step (PyStmt-F.ImportAll l) = ImportAll l
st_step (PyStmt-F.Import l names) = Import l names
st_step (PyStmt-F.Def f) = Define f
st_step (PyStmt-F.If l bs other) = If l (choices bs) (block_if_any other)
st_step (PyStmt-F.For l t e b) = For l t (ex_of e) (block b)
st_step (PyStmt-F.While l e b) = While l (ex_of e) (block b)

abbrev pub choice_step : Branch-F St Choice Fn → Choice
choice_step b = Where (ex_of b.test) (block b.body)

abbrev pub fn_step : FuncDef-F St Choice Fn → Fn
fn_step f = Func f.line f.name (map ex_of f.marks) (map parameter_of f.params) (block f.body)

unfoldable pub st_of : PyStmt → St
st_of = fold-PyStmt St Choice Fn st_step choice_step fn_step

unfoldable pub choice_of : Branch → Choice
choice_of = fold-Branch St Choice Fn st_step choice_step fn_step

unfoldable pub fn_of : FuncDef → Fn
fn_of = fold-FuncDef St Choice Fn st_step choice_step fn_step

-- ---- the line of a statement, at which it is refused

abbrev pub line_of_def : Fn → ℕ
line_of_def (Func l t ms ps b) = l

abbrev pub line_of : St → ℕ
line_of (Value l e) = l
line_of (Assign l t left e) = l
line_of (Augment l op t left e) = l
line_of (Pass l) = l
line_of (Break l) = l
line_of (Continue l) = l
line_of (Return l e) = l
line_of (Yield l e) = l
line_of (Raise l e) = l
line_of (Assert l e) = l
line_of (ImportAll l) = l
line_of (Import l names) = l
line_of (Define f) = line_of_def f
line_of (If l cs other) = l
line_of (For l t e b) = l
line_of (While l e b) = l

-- The body of a generator as plain data: its statements in order of text, with their lines and with
-- their expressions in plain form.
use Rattle.std.specs.Prelude.{ℕ, List, [], ◌∷◌, Option, Some, None}
use Rattle.mh_pytree.specs.declared.expression.Operator.{Operator}
use Rattle.mh_pytree.specs.declared.statement.PyStmt.{PyStmt}
use Rattle.mh_pytree.specs.declared.statement.Branch.{Branch}
use Rattle.mh_pytree.specs.declared.statement.PyStmt.TheOpen.{PyStmt-F, Branch-F, FuncDef-F}
use Rattle.mh_pytree.specs.declared.statement.PyStmt.TheFolds.{fold-PyStmt, fold-Branch}
use Rattle.mh_consts.specs.Expression.{Ex, ex_of}

mutual
  pub data Line : Type 0 where
    Value : (line : ℕ) (e : Ex) → Line
    Assign : (line : ℕ) (target e : Ex) → Line
    Augment : (line : ℕ) (op : Operator) (target e : Ex) → Line
    Pass : Line
    Break : (line : ℕ) → Line
    Continue : (line : ℕ) → Line
    Yield : (line : ℕ) (e : Ex) → Line
    Raise : (line : ℕ) (e : Ex) → Line
    Assert : (line : ℕ) (test : Ex) → Line
    If : (line : ℕ) (choices : Choices) (other : Lines) → Line
    For : (line : ℕ) (name : List ℕ) (over : Ex) (body : Lines) → Line
    While : (line : ℕ) (test : Ex) (body : Lines) → Line
    Forbidden : (line : ℕ) → Line  -- `return`, `from` and `def`, which stand in no generator

  pub data Lines : Type 0 where
    End : Lines
    Then : Line → Lines → Lines

  -- a condition and what it leads to
  pub data Choice : Type 0 where
    Where : (test : Ex) (body : Lines) → Choice

  pub data Choices : Type 0 where
    NoChoice : Choices
    OrElse : Choice → Choices → Choices

abbrev pub lines : List Line → Lines
lines [] = End
lines (x ∷ xs) = Then x (lines xs)

abbrev pub choices : List Choice → Choices
choices [] = NoChoice
choices (x ∷ xs) = OrElse x (choices xs)

abbrev pub lines_if_any : Option (List Line) → Lines
lines_if_any None = End
lines_if_any (Some xs) = lines xs

abbrev pub line_step : PyStmt-F Line Choice ℕ → Line
line_step (PyStmt-F.Value l e) = Value l (ex_of e)
line_step (PyStmt-F.Assign l t e) = Assign l (ex_of t) (ex_of e)
line_step (PyStmt-F.Augment l op t e) = Augment l op (ex_of t) (ex_of e)
line_step (PyStmt-F.Pass l) = Pass
line_step (PyStmt-F.Break l) = Break l
line_step (PyStmt-F.Continue l) = Continue l
line_step (PyStmt-F.Return l e) = Forbidden l
line_step (PyStmt-F.Yield l e) = Yield l (ex_of e)
line_step (PyStmt-F.Raise l e) = Raise l (ex_of e)
line_step (PyStmt-F.Assert l e message) = Assert l (ex_of e)
line_step (PyStmt-F.ImportAll l) = Forbidden l
line_step (PyStmt-F.Import l names) = Forbidden l
line_step (PyStmt-F.Def l) = Forbidden l
line_step (PyStmt-F.If l bs other) = If l (choices bs) (lines_if_any other)
line_step (PyStmt-F.For l t e b) = For l t (ex_of e) (lines b)
line_step (PyStmt-F.While l e b) = While l (ex_of e) (lines b)

abbrev pub choice_step : Branch-F Line Choice ℕ → Choice
choice_step b = Where (ex_of b.test) (lines b.body)

abbrev pub def_step : FuncDef-F Line Choice ℕ → ℕ
def_step f = f.line

unfoldable pub line_of : PyStmt → Line
line_of = fold-PyStmt Line Choice ℕ line_step choice_step def_step

unfoldable pub choice_of : Branch → Choice
choice_of = fold-Branch Line Choice ℕ line_step choice_step def_step

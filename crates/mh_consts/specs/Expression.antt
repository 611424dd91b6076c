-- An expression as plain data, with its parts in order of text: what works on the values of its parts
-- is a head, and round brackets round an expression are left out.
use Rattle.std.specs.Prelude.{ℕ, ℤ, Bool, true, false, List, [], ◌∷◌, map, Option, Some, None}
use Rattle.mh_pytree.specs.declared.expression.Operator.{Operator}
use Rattle.mh_pytree.specs.declared.expression.Operator.TheVariants as op
use Rattle.mh_pytree.specs.declared.expression.Sign.{Sign}
use Rattle.mh_pytree.specs.declared.expression.PyExpr.{PyExpr}
use Rattle.mh_pytree.specs.declared.expression.PyExpr.TheOpen.{PyExpr-F, Argument-F}
use Rattle.mh_pytree.specs.declared.expression.PyExpr.TheFolds.{fold-PyExpr, fold-Argument}
use Rattle.mh_pytree.specs.declared.expression.Argument.{Argument}

-- The names of a call's arguments: None for a positional one.
abbrev pub Keys : Type 0
Keys = List (Option (List ℕ))

-- What works on the values of its parts.
pub data Head : Type 0 where
  Apply : (sign : Sign) → Head  -- the operand
  Negation : Head  -- `not`: the operand
  Both : (op : Operator) → Head  -- the operands
  Attribute : (name : List ℕ) → Head  -- the base
  Index : Head  -- the base and the place
  Slice : Head  -- the base, the upper end, the lower end
  SliceFrom : Head  -- the base and the upper end
  Resize : (maker : List ℕ) → Head  -- `maker(..)[n:]`: the value of the call, and n
  Whole : Head  -- `base[:]`: the base
  TupleOf : Head  -- its items
  ListOf : Head  -- its items
  Call : (keys : Keys) → Head  -- the function, and the arguments
  Method : (name : List ℕ) (keys : Keys) → Head  -- `base.name(..)`: the base, and the arguments

mutual
  pub data Ex : Type 0 where
    Number : (n : ℤ) → Ex
    Str : (bytes : List ℕ) → Ex
    Truth : (b : Bool) → Ex
    Nothing : Ex
    Name : (name : List ℕ) → Ex
    And : (a b : Ex) → Ex
    Or : (a b : Ex) → Ex
    Op : (head : Head) (parts : Exs) → Ex
    Collect : (item : Ex) (name : List ℕ) (over : Ex) → Ex

  pub data Exs : Type 0 where
    NoMore : Exs
    More : Ex → Exs → Exs

abbrev pub exs : List Ex → Exs
exs [] = NoMore
exs (x ∷ xs) = More x (exs xs)

abbrev pub one : Ex → Exs
one a = More a NoMore

abbrev pub two : Ex → Ex → Exs
two a b = More a (one b)

abbrev pub three : Ex → Ex → Ex → Exs
three a b c = More a (two b c)

abbrev pub binary : Operator → Ex → Ex → Ex
binary op.Or a b = Or a b
binary op.And a b = And a b
binary operator a b = Op (Both operator) (two a b)

-- the name that an expression is
abbrev pub name_in : Ex → Option (List ℕ)
name_in (Name t) = Some t
name_in e = None

abbrev pub maker_in : Exs → Option (List ℕ)
maker_in (More f xs) = name_in f
maker_in NoMore = None

-- the name that an expression calls
abbrev pub maker : Ex → Option (List ℕ)
maker (Op (Call keys) xs) = maker_in xs
maker e = None

abbrev pub slice_from : Option (List ℕ) → Ex → Ex → Ex
slice_from (Some t) a b = Op (Resize t) (two a b)
slice_from None a b = Op SliceFrom (two a b)

abbrev pub sliced : Ex → Ex → Option Ex → Ex
sliced a b (Some c) = Op Slice (three a b c)
sliced a b None = slice_from (maker a) a b

abbrev pub join : Exs → Exs → Exs
join NoMore ys = ys
join (More x xs) ys = More x (join xs ys)

-- the name and the base of `base.name`
abbrev pub attribute_in : Ex → Option (List ℕ × Exs)
attribute_in (Op (Attribute name) xs) = Some (name, xs)
attribute_in e = None

abbrev pub attribute_name : Option (List ℕ × Exs) → Option (List ℕ)
attribute_name None = None
attribute_name (Some a) = Some a.0

abbrev pub called_as : Option (List ℕ × Exs) → Ex → Keys → Exs → Ex
called_as (Some a) f keys args = Op (Method a.0 keys) (join a.1 args)
called_as None f keys args = Op (Call keys) (More f args)

-- a call: of a method where an attribute is called
abbrev pub called : Ex → Keys → Exs → Ex
called f keys args = called_as (attribute_in f) f keys args

-- an argument: its name, and its value
abbrev pub Given : Type 0
Given = Option (List ℕ) × Ex

abbrev pub key_of : Given → Option (List ℕ)
key_of g = g.0

abbrev pub keys_of : List Given → Keys
keys_of gs = map key_of gs

abbrev pub part_of : Given → Ex
part_of g = g.1

abbrev pub parts_of : List Given → Exs
parts_of gs = exs (map part_of gs)

abbrev pub expr_step : PyExpr-F Ex Given → Ex
expr_step (PyExpr-F.Name t) = Name t
expr_step (PyExpr-F.Number n) = Number n
expr_step (PyExpr-F.Str bytes) = Str bytes
expr_step PyExpr-F.True = Truth true
expr_step PyExpr-F.False = Truth false
expr_step PyExpr-F.None = Nothing
expr_step (PyExpr-F.Group a) = a
expr_step (PyExpr-F.Bracketed xs) = Op TupleOf (exs xs)
expr_step (PyExpr-F.Tuple xs) = Op TupleOf (exs xs)
expr_step (PyExpr-F.List xs) = Op ListOf (exs xs)
expr_step (PyExpr-F.Comprehension item t over) = Collect item t over
expr_step (PyExpr-F.Not a) = Op Negation (one a)
expr_step (PyExpr-F.Unary sign a) = Op (Apply sign) (one a)
expr_step (PyExpr-F.Binary operator a b) = binary operator a b
expr_step (PyExpr-F.Attribute a t) = Op (Attribute t) (one a)
expr_step (PyExpr-F.Call f gs) = called f (keys_of gs) (parts_of gs)
expr_step (PyExpr-F.Index a b) = Op Index (two a b)
expr_step (PyExpr-F.Slice a b c) = sliced a b c
expr_step (PyExpr-F.Whole a) = Op Whole (one a)

abbrev pub argument_step : Argument-F Ex Given → Given
argument_step a = (a.name, a.value)

unfoldable pub ex_of : PyExpr → Ex
ex_of = fold-PyExpr Ex Given expr_step argument_step

unfoldable pub given_of : Argument → Given
given_of = fold-Argument Ex Given expr_step argument_step

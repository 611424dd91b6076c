-- The values of expressions where a number that names no item counts as an item whose code is 0. These serve proofs: in what fits a store
-- every number names something, and the values are those of `mh_design`.
use Rattle.std.specs.Prelude.{ℕ, ℤ, pos, List, [], ◌∷◌, map, Option, Result, Ok, if◌then◌else◌}
use Rattle.mh_design.specs.declared.design.Design.{Design}
use Rattle.mh_design.specs.declared.expression.GExpr.{GExpr}
use Rattle.mh_design.specs.Tree.{Expression, Expressions, Integer, Truth, Item, Fixed, Signal, Local, Now, Operation, NoMore, More, expression_of, row}
use Rattle.mh_design.specs.Values.{Store, Operand, Fault, Between, integer, truth, form_of, item_value, signal_operand, held_operand, local_at, operated, with_value, all_values, bit_at, slice_at, table_element_of}
use Rattle.mh_design.specs.Assignments.{item_is_there}
use Rattle.mh_gen.specs.Joined.{joined_from}

abbrev pub item_or_zero : Design → ℕ → ℕ → ℤ
item_or_zero d e i = if item_is_there d e i then item_value d e i else pos 0

unfoldable mutual
  pub total : Store → Expression → Result Operand Fault
  total s (Integer z) = Ok (integer z)
  total s (Truth b) = Ok (truth b)
  total s (Item e i) = Ok (integer (item_or_zero s.design e i))
  total s (Fixed z b) = Ok (record { value = z; form = form_of (Between b.lo b.top b.wraps) })
  total s (Signal n) = Ok (signal_operand s n)
  total s (Local n) = Ok (held_operand (local_at s n))
  total s Now = Ok (integer (pos s.time))
  total s (Operation o xs) = operated s o (totals s xs)

  pub totals : Store → Expressions → List (Result Operand Fault)
  totals s NoMore = []
  totals s (More x xs) = total s x ∷ totals s xs

-- A bit, a slice and an element of a table, at the values of their parts.
unfoldable pub bit_given : Operand → Operand → Result Operand Fault
bit_given a i = bit_at a i.value

unfoldable pub slice_given : Operand → Operand → Operand → Result Operand Fault
slice_given a i j = slice_at a i.value j.value

unfoldable pub table_given : Store → ℕ → Operand → Result Operand Fault
table_given s t i = table_element_of s t i.value

-- What the parts of a `concat` make that are left, below a number of this width.
unfoldable pub left_of_joined : Store → List GExpr → Option ℤ → ℕ → Result Operand Fault
left_of_joined s xs c w = with_value (all_values (totals s (row (map expression_of xs)))) (joined_from c w)

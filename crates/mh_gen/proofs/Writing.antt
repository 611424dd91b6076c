-- Expressions and left sides of bodies.
use Rattle.std.proofs.Common.{ℕ, ℤ, pos, ◌≡◌, ◌-ℤ◌, Bool, true, false, ◌&&◌, [], ◌∷◌, Result, Ok, Err, IsTrue, refl}
use Rattle.std.specs.Option.{option_map_or}
use Rattle.std.specs.Ordering.{int_eq}
use Rattle.mh_num.specs.Results.{in_i128}
use Rattle.mh_design.specs.declared.expression.UnaryOp.TheVariants as unary
use Rattle.mh_design.specs.declared.expression.BinaryOp.TheVariants as binary
use Rattle.mh_design.specs.Constants.{number_of_truth}
use Rattle.mh_design.specs.Tree.{Expression, Integer, Truth, Signal, Operation, Unary, Binary, one, two}
use Rattle.mh_design.specs.Values as spec
use Rattle.mh_design.specs.Assignments.{FitsExpression, is_named}
use Rattle.std.specs.Prelude.{Option, Some, None}

-- a difference of integers of 128 signed bits
abbrev pub difference_of : ℤ → ℤ → Result ℤ spec.Fault
difference_of a b = option_map_or Ok (in_i128 (a -ℤ b)) (Err spec.NumberTooWide)

only_value : (o : Option ℤ) → spec.with_value (option_map_or (λ x. Ok (spec.integer x)) o (Err spec.NumberTooWide)) (λ a. Ok a.value) ≡ option_map_or Ok o (Err spec.NumberTooWide)
only_value (Some z) = refl
only_value None = refl

pub value-constant : (s : spec.Store) (z : ℤ) → spec.value_of (Integer z) s ≡ Ok z
unfolding spec.operand
value-constant s z = refl

pub value-flag : (s : spec.Store) (b : Bool) → spec.value_of (Truth b) s ≡ Ok (number_of_truth b)
unfolding spec.operand
value-flag s b = refl

pub value-negative : (s : spec.Store) (z : ℤ) → spec.value_of (Operation (Unary unary.Minus) (one (Integer z))) s ≡ difference_of (pos 0) z
unfolding spec.operand
value-negative s z = only_value (in_i128 (pos 0 -ℤ z))

less_by : (s : spec.Store) (r : Result spec.Operand spec.Fault) → spec.with_value (spec.operated s (Binary binary.Subtract) (r ∷ Ok (spec.integer (pos 1)) ∷ [])) (λ a. Ok a.value) ≡ spec.with_value (spec.with_value r (λ a. Ok a.value)) (λ z. difference_of z (pos 1))
less_by s (Ok a) = only_value (in_i128 (a.value -ℤ pos 1))
less_by s (Err f) = refl

pub value-one_less : (s : spec.Store) (x : Expression) → spec.value_of (Operation (Binary binary.Subtract) (two x (Integer (pos 1)))) s ≡ spec.with_value (spec.value_of x s) (λ z. difference_of z (pos 1))
unfolding spec.operand
value-one_less s x = less_by s (spec.operand s x)

pub value-equals : (s : spec.Store) (n : ℕ) (b : Bool) → spec.value_of (Operation (Binary binary.Equal) (two (Signal n) (Truth b))) s ≡ Ok (number_of_truth (int_eq (spec.signal_value s n) (number_of_truth b)))
unfolding spec.operand
value-equals s n b = refl

-- what both parts of an expression need
pub and_first : (a b : Bool) → IsTrue (a && b) → IsTrue a
and_first true b h = refl
and_first false b h = cc

pub and_second : (a b : Bool) → IsTrue (a && b) → IsTrue b
and_second true b h = h
and_second false b h = cc

pub fits-one_less : (s : spec.Store) (x : Expression) → FitsExpression (Operation (Binary binary.Subtract) (two x (Integer (pos 1)))) s → FitsExpression x s
unfolding is_named
fits-one_less s x h = and_first _ _ h

pub ruleset written_laws = (value-constant, value-flag, value-negative, value-one_less, value-equals, fits-one_less)

pub ruleset spot_laws = (and_first, and_second)

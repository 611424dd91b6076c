-- The values of expressions, and what they need, by the variants of expressions.
use Rattle.std.proofs.Common.{ℕ, ℤ, pos, ◌≡◌, Bool, true, false, ◌&&◌, List, [], ◌∷◌, map, Option, Some, Result, Ok, Err, IsTrue, if◌then◌else◌, length, drop, get_or, min, ◌+◌, ◌<◌, ◌≤◌, refl, ap, sym, ◌∙◌}
use Rattle.std.proofs.lemmas.List.{drop_more, drop_all}
use Rattle.std.specs.Option.{option_map_or}
use Rattle.mh_num.specs.declared.bounds.Bounds.{Bounds}
use Rattle.mh_design.specs.declared.expression.GExpr.{GExpr}
use Rattle.mh_design.specs.declared.expression.UnaryOp.{UnaryOp}
use Rattle.mh_design.specs.declared.expression.BinaryOp.{BinaryOp}
use Rattle.mh_design.specs.Tree.{Expression, Expressions, Integer, Truth, Item, Fixed, Signal, Local, Now, Operation, NoMore, More, ElementOf, TableElementOf, BitOf, SliceOf, Unary, Binary, And, Or, Concat, Signed, ToInt, ToBool, expression_of, row, one, two, three}
use Rattle.mh_design.specs.Values as spec
use Rattle.mh_design.specs.Assignments.{FitsExpression, is_named, are_named, item_is_there, operator_is_named}
use Rattle.mh_design.proofs.Shapes as shape
use Rattle.mh_gen.specs.Joined.{one_more, wider, joined_from}
use Rattle.mh_gen.specs.Total.{total, totals, item_or_zero, bit_given, slice_given, table_given, left_of_joined}
use Rattle.mh_gen.proofs.Joins.{joined-all, all-more}

pub ruleset shapes = (shape.expression-integer, shape.expression-truth, shape.expression-item, shape.expression-fixed, shape.expression-signal, shape.expression-local, shape.expression-element, shape.expression-table_element, shape.expression-bit, shape.expression-slice, shape.expression-unary, shape.expression-binary, shape.expression-and, shape.expression-or, shape.expression-concat, shape.expression-signed, shape.expression-int, shape.expression-bool, shape.expression-now)

pub total-integer : (s : spec.Store) (z : ℤ) → total s (Integer z) ≡ Ok (spec.integer z)
unfolding total
total-integer s z = refl

pub total-truth : (s : spec.Store) (b : Bool) → total s (Truth b) ≡ Ok (spec.truth b)
unfolding total
total-truth s b = refl

pub total-item : (s : spec.Store) (e i : ℕ) → total s (Item e i) ≡ Ok (spec.integer (item_or_zero s.design e i))
unfolding total
total-item s e i = refl

pub total-fixed : (s : spec.Store) (z : ℤ) (b : Bounds) → total s (Fixed z b) ≡ Ok (record { value = z; form = spec.form_of (spec.Between b.lo b.top b.wraps) })
unfolding total
total-fixed s z b = refl

pub total-signal : (s : spec.Store) (n : ℕ) → total s (Signal n) ≡ Ok (spec.signal_operand s n)
unfolding total
total-signal s n = refl

pub total-local : (s : spec.Store) (n : ℕ) → total s (Local n) ≡ Ok (spec.held_operand (spec.local_at s n))
unfolding total
total-local s n = refl

pub total-now : (s : spec.Store) → total s Now ≡ Ok (spec.integer (pos s.time))
unfolding total
total-now s = refl

pub total-element : (s : spec.Store) (m : ℕ) (x : Expression) → total s (Operation (ElementOf m) (one x)) ≡ spec.with_value (total s x) (λ i. spec.element_of s m i.value)
unfolding total
total-element s m x = by (total s x) where
  by : (r : Result spec.Operand spec.Fault) → spec.operated s (ElementOf m) (r ∷ []) ≡ spec.with_value r (λ i. spec.element_of s m i.value)
  by (Ok i) = refl
  by (Err f) = refl

pub total-table : (s : spec.Store) (t : ℕ) (x : Expression) → total s (Operation (TableElementOf t) (one x)) ≡ spec.with_value (total s x) (table_given s t)
unfolding total table_given
total-table s t x = by (total s x) where
  by : (r : Result spec.Operand spec.Fault) → spec.operated s (TableElementOf t) (r ∷ []) ≡ spec.with_value r (table_given s t)
  by (Ok i) = refl
  by (Err f) = refl

pub total-bit : (s : spec.Store) (x y : Expression) → total s (Operation BitOf (two x y)) ≡ spec.with_value (total s x) (λ a. spec.with_value (total s y) (bit_given a))
unfolding total bit_given
total-bit s x y = by (total s x) (total s y) where
  by : (r q : Result spec.Operand spec.Fault) → spec.operated s BitOf (r ∷ q ∷ []) ≡ spec.with_value r (λ a. spec.with_value q (bit_given a))
  by (Ok a) (Ok i) = refl
  by (Ok a) (Err f) = refl
  by (Err f) q = refl

pub total-slice : (s : spec.Store) (x y z : Expression) → total s (Operation SliceOf (three x y z)) ≡ spec.with_value (total s x) (λ a. spec.with_value (total s y) (λ i. spec.with_value (total s z) (slice_given a i)))
unfolding total slice_given
total-slice s x y z = by (total s x) (total s y) (total s z) where
  by : (r q p : Result spec.Operand spec.Fault) → spec.operated s SliceOf (r ∷ q ∷ p ∷ []) ≡ spec.with_value r (λ a. spec.with_value q (λ i. spec.with_value p (slice_given a i)))
  by (Ok a) (Ok i) (Ok j) = refl
  by (Ok a) (Ok i) (Err f) = refl
  by (Ok a) (Err f) p = refl
  by (Err f) q p = refl

pub total-unary : (s : spec.Store) (o : UnaryOp) (x : Expression) → total s (Operation (Unary o) (one x)) ≡ spec.with_value (total s x) (spec.unary_value o)
unfolding total
total-unary s o x = by (total s x) where
  by : (r : Result spec.Operand spec.Fault) → spec.operated s (Unary o) (r ∷ []) ≡ spec.with_value r (spec.unary_value o)
  by (Ok a) = refl
  by (Err f) = refl

pub total-binary : (s : spec.Store) (o : BinaryOp) (x y : Expression) → total s (Operation (Binary o) (two x y)) ≡ spec.with_value (total s x) (λ a. spec.with_value (total s y) (spec.binary_value o a))
unfolding total
total-binary s o x y = by (total s x) (total s y) where
  by : (r q : Result spec.Operand spec.Fault) → spec.operated s (Binary o) (r ∷ q ∷ []) ≡ spec.with_value r (λ a. spec.with_value q (spec.binary_value o a))
  by (Ok a) (Ok b) = refl
  by (Ok a) (Err f) = refl
  by (Err f) q = refl

pub total-and : (s : spec.Store) (x y : Expression) → total s (Operation And (two x y)) ≡ spec.operated s And (total s x ∷ total s y ∷ [])
unfolding total
total-and s x y = refl

pub total-or : (s : spec.Store) (x y : Expression) → total s (Operation Or (two x y)) ≡ spec.operated s Or (total s x ∷ total s y ∷ [])
unfolding total
total-or s x y = refl

pub total-signed : (s : spec.Store) (x : Expression) → total s (Operation Signed (one x)) ≡ spec.with_value (total s x) (λ a. Ok (spec.signed_value a))
unfolding total
total-signed s x = by (total s x) where
  by : (r : Result spec.Operand spec.Fault) → spec.operated s Signed (r ∷ []) ≡ spec.with_value r (λ a. Ok (spec.signed_value a))
  by (Ok a) = refl
  by (Err f) = refl

pub total-int : (s : spec.Store) (x : Expression) → total s (Operation ToInt (one x)) ≡ spec.with_value (total s x) (λ a. Ok (spec.integer a.value))
unfolding total
total-int s x = by (total s x) where
  by : (r : Result spec.Operand spec.Fault) → spec.operated s ToInt (r ∷ []) ≡ spec.with_value r (λ a. Ok (spec.integer a.value))
  by (Ok a) = refl
  by (Err f) = refl

pub total-bool : (s : spec.Store) (x : Expression) → total s (Operation ToBool (one x)) ≡ spec.truth_of (total s x)
unfolding total
total-bool s x = by (total s x) where
  by : (r : Result spec.Operand spec.Fault) → spec.operated s ToBool (r ∷ []) ≡ spec.truth_of r
  by (Ok a) = refl
  by (Err f) = refl

pub total-concat : (s : spec.Store) (xs : List GExpr) → total s (Operation Concat (row (map expression_of xs))) ≡ left_of_joined s xs (Some (pos 0)) 0
unfolding total left_of_joined
total-concat s xs = sym (joined-all (totals s (row (map expression_of xs))))

pub ruleset operands = (total-integer, total-truth, total-item, total-fixed, total-signal, total-local, total-now, total-element, total-table, total-bit, total-slice, total-unary, total-binary, total-and, total-or, total-signed, total-int, total-bool, total-concat)

-- what is left of a `concat`, by its first part
pub left-part : (s : spec.Store) (x : GExpr) (xs : List GExpr) (c : Option ℤ) (w : ℕ) (a : spec.Operand) → Ok a ≡ total s (expression_of x) → left_of_joined s (x ∷ xs) c w ≡ left_of_joined s xs (one_more c a) (wider w a)
unfolding total left_of_joined
left-part s x xs c w a e =
    ap (λ r. spec.with_value (spec.all_values (r ∷ totals s (row (map expression_of xs)))) (joined_from c w)) (sym e)
    ∙ all-more a (spec.all_values (totals s (row (map expression_of xs)))) (joined_from c w)

pub left-fault : (s : spec.Store) (x : GExpr) (xs : List GExpr) (c : Option ℤ) (w : ℕ) (f : spec.Fault) → Err f ≡ total s (expression_of x) → left_of_joined s (x ∷ xs) c w ≡ Err f
unfolding total left_of_joined
left-fault s x xs c w f e =
    ap (λ r. spec.with_value (spec.all_values (r ∷ totals s (row (map expression_of xs)))) (joined_from c w)) (sym e)

pub left-none : (s : spec.Store) (c : Option ℤ) (w : ℕ) → left_of_joined s [] c w ≡ option_map_or (λ z. Ok (spec.as_bits w z)) c (Err spec.NumberTooWide)
unfolding total left_of_joined
left-none s c w = refl

-- the same in a loop over the parts
pub left-next : (s : spec.Store) (xs : List GExpr) (k : ℕ) (x : GExpr) (c d : Option ℤ) (w v b : ℕ) (a : spec.Operand) → k < length xs → x ≡ get_or xs k x → Ok a ≡ total s (expression_of x) → d ≡ one_more c a → b ≡ spec.bits_of a.form → v ≡ min 128 (w + b) → left_of_joined s (drop (k + 1) xs) d v ≡ left_of_joined s (drop k xs) c w
left-next s xs k x c d w v b a h i e f g l =
    ap (λ y. left_of_joined s (drop (k + 1) xs) y v) f
    ∙ ap (λ y. left_of_joined s (drop (k + 1) xs) (one_more c a) y) (l ∙ ap (λ y. min 128 (w + y)) g)
    ∙ sym (left-part s x (drop (k + 1) xs) c w a e)
    ∙ ap (λ y. left_of_joined s (y ∷ drop (k + 1) xs) c w) i
    ∙ ap (λ ys. left_of_joined s ys c w) (sym (drop_more xs k x h))

pub left-stops : (s : spec.Store) (xs : List GExpr) (k : ℕ) (x : GExpr) (c : Option ℤ) (w : ℕ) (f : spec.Fault) → k < length xs → x ≡ get_or xs k x → Err f ≡ total s (expression_of x) → Err f ≡ left_of_joined s (drop k xs) c w
left-stops s xs k x c w f h i e =
    sym (left-fault s x (drop (k + 1) xs) c w f e)
    ∙ ap (λ y. left_of_joined s (y ∷ drop (k + 1) xs) c w) i
    ∙ ap (λ ys. left_of_joined s ys c w) (sym (drop_more xs k x h))

pub left-ends : (s : spec.Store) (xs : List GExpr) (k : ℕ) (c : Option ℤ) (w : ℕ) → length xs ≤ k → option_map_or (λ z. Ok (spec.as_bits w z)) c (Err spec.NumberTooWide) ≡ left_of_joined s (drop k xs) c w
left-ends s xs k c w h = sym (left-none s c w) ∙ ap (λ ys. left_of_joined s ys c w) (sym (drop_all k xs h))

-- where every number names something, these are the values of the definition
and_right : (a b : Bool) → IsTrue (a && b) → IsTrue b
and_right true b h = h
and_right false b h = cc

and_left : (a b : Bool) → IsTrue (a && b) → IsTrue a
and_left true b h = refl
and_left false b h = cc

item_there : (b : Bool) (z : ℤ) → IsTrue b → (if b then z else pos 0) ≡ z
item_there true z h = refl
item_there false z h = cc

mutual
  unfolding total spec.operand is_named

  pub total-is : (s : spec.Store) (n m : ℕ) (x : Expression) → IsTrue (is_named s.design n m x) → total s x ≡ spec.operand s x
  total-is s n m (Integer z) h = refl
  total-is s n m (Truth b) h = refl
  total-is s n m (Item e i) h = ap (λ z. Ok (spec.integer z)) (item_there (item_is_there s.design e i) (spec.item_value s.design e i) h)
  total-is s n m (Fixed z b) h = refl
  total-is s n m (Signal k) h = refl
  total-is s n m (Local k) h = refl
  total-is s n m Now h = refl
  total-is s n m (Operation o xs) h =
      ap (spec.operated s o) (totals-are s n m xs (and_right (operator_is_named s.design n o) (are_named s.design n m xs) h))

  totals-are : (s : spec.Store) (n m : ℕ) (xs : Expressions) → IsTrue (are_named s.design n m xs) → totals s xs ≡ spec.operands s xs
  totals-are s n m NoMore h = refl
  totals-are s n m (More x xs) h =
      ap (λ r. r ∷ totals s xs) (total-is s n m x (and_left (is_named s.design n m x) (are_named s.design n m xs) h))
      ∙ ap (λ rs. spec.operand s x ∷ rs) (totals-are s n m xs (and_right (is_named s.design n m x) (are_named s.design n m xs) h))

pub value-is : (s : spec.Store) (x : Expression) → FitsExpression x s → total s x ≡ spec.operand s x
value-is s x h = total-is s (length s.signals.values) (length s.locals) x h

pub ruleset values = (value-is)

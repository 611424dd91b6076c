-- What is known of an operation on parts of which this is known.
use Rattle.std.proofs.Common.{◌≡◌, ℕ, suc, ℤ, pos, ◌+ℤ◌, Bool, true, false, not, ◌&&◌, List, [], ◌∷◌, ◌++◌, length, map, Option, Some, None, Result, Ok, Err, IfOk, refl, ap, sym, ◌∙◌, arith, length-append}
use Rattle.std.specs.Prelude.{bytes_eq, codes, ◌==◌}
use Rattle.std.specs.List.{list_all}
use Rattle.std.specs.Option.{option_map_or}
use Rattle.std.proofs.lemmas.Bool.{and_from}
use Rattle.mh_codes.specs.Widths.{width_of}
use Rattle.mh_num.specs.Results.{in_i128}
use Rattle.mh_num.specs.declared.bounds.Bounds.{Bounds}
use Rattle.mh_pytree.specs.declared.expression.Operator.{Operator}
use Rattle.mh_pytree.specs.declared.expression.Operator.TheVariants as op
use Rattle.mh_pytree.specs.declared.expression.Sign.{Sign}
use Rattle.mh_pytree.specs.declared.expression.Sign.TheVariants as sign
use Rattle.mh_text.specs.declared.code.Code.{Code}
use Rattle.mh_text.specs.declared.code.Code.TheVariants.{E3BadArguments, E5TooWide, E10KindClash}
use Rattle.mh_consts.specs.Outcome.{after}
use Rattle.mh_design.specs.declared.design.Design.{Design}
use Rattle.mh_design.specs.declared.design.Local.{Local as Variable}
use Rattle.mh_design.specs.declared.kinds.ValueKind.{ValueKind}
use Rattle.mh_design.specs.declared.kinds.ValueKind.TheVariants as value
use Rattle.mh_design.specs.declared.expression.GExpr.{GExpr}
use Rattle.mh_design.specs.declared.expression.GExpr.TheVariants as e
use Rattle.mh_design.specs.declared.expression.UnaryOp.{UnaryOp}
use Rattle.mh_design.specs.declared.expression.UnaryOp.TheVariants as unary
use Rattle.mh_design.specs.declared.expression.BinaryOp.{BinaryOp}
use Rattle.mh_design.specs.declared.expression.BinaryOp.TheVariants as binary
use Rattle.mh_design.specs.Constants.{index_keeps, slice_keeps}
use Rattle.mh_design.specs.Kinds.{is_number, is_bits, is_part, given, unary_kind, numeric, bitwise, equality, binary_kind}
use Rattle.mh_design.specs.Tree.{Expression, Now, Operation, BitOf, SliceOf, Unary, Binary, And, Or, Concat, Signed, ToInt, ToBool, expression_of, row, one, two, three}
use Rattle.mh_design.proofs.Shapes.{expression-bit, expression-slice, expression-unary, expression-binary, expression-and, expression-or, expression-concat, expression-signed, expression-int, expression-bool, expression-now}
use Rattle.mh_exprs.specs.declared.typed.Typed.{Typed}
use Rattle.mh_exprs.specs.declared.typed.Row.{Row}
use Rattle.mh_exprs.specs.declared.typed.Work.{Work}
use Rattle.mh_exprs.specs.Leaves.{integer, truth}
use Rattle.mh_exprs.specs.Operations.{of_kind, signed, negated, both, logical, operated, bounds_in, bit_fits, bit, sliced_as, slice_fits, slice, end_named, is_no_reading, attribute, to_integer, to_truth, unbounded, part_width, sum_width, row_with, joined, concatenated, read_signed}
use Rattle.mh_exprs.specs.Operations as operations
use Rattle.mh_lower_laws.specs.Holds.{Extends}
use Rattle.mh_lower_laws.specs.Laws.{HasKind}
use Rattle.mh_lower_laws.proofs.Having.{value_fits, Has, HaveKinds, no_parts, more_parts, one_part, two_parts, three_parts, of_operation, has_plain, has_integer, has_kind_later}
use Rattle.mh_lower_laws.proofs.Stepping.{ok_after, ok_given, ok_if}

-- ---- kinds that operators give

given_is : (b : Bool) (v k : ValueKind) → given b v ≡ Some k → v ≡ k
given_is true v k h = cc
given_is false v k h = absurd (cc)

module _ (d : Design) where
  as_given : (b : Bool) (v k : ValueKind) → value_fits d v ≡ true → given b v ≡ Some k → value_fits d k ≡ true
  as_given b v k f h = ap (value_fits d) (sym (given_is b v k h)) ∙ f

  unary_fits : (o : UnaryOp) (a k : ValueKind) → unary_kind o a ≡ Some k → value_fits d k ≡ true
  unary_fits unary.Minus a k h = as_given (is_number a) value.Int k refl h
  unary_fits unary.Plus a k h = as_given (is_number a) value.Int k refl h
  unary_fits unary.Invert value.Bool k h = absurd (cc)
  unary_fits unary.Invert value.Int k h = absurd (cc)
  unary_fits unary.Invert (value.Bits s) k h = as_given (not s) (value.Bits false) k refl h
  unary_fits unary.Invert (value.Item n) k h = absurd (cc)
  unary_fits unary.Not a k h = as_given (is_number a) value.Bool k refl h

  numeric_fits : (a b v k : ValueKind) → value_fits d v ≡ true → numeric a b v ≡ Some k → value_fits d k ≡ true
  numeric_fits a b v k f h = as_given (is_number a && is_number b) v k f h

  bitwise_fits : (a b k : ValueKind) → bitwise a b ≡ Some k → value_fits d k ≡ true
  bitwise_fits value.Bool value.Bool k h = let q : value.Bool ≡ k = cc in ap (value_fits d) (sym q)
  bitwise_fits value.Bool value.Int k h = numeric_fits value.Bool value.Int value.Int k refl h
  bitwise_fits value.Bool (value.Bits s) k h = numeric_fits value.Bool (value.Bits s) value.Int k refl h
  bitwise_fits value.Bool (value.Item n) k h = numeric_fits value.Bool (value.Item n) value.Int k refl h
  bitwise_fits value.Int b k h = numeric_fits value.Int b value.Int k refl h
  bitwise_fits (value.Bits s) b k h = numeric_fits (value.Bits s) b value.Int k refl h
  bitwise_fits (value.Item n) b k h = numeric_fits (value.Item n) b value.Int k refl h

  equality_fits : (a b k : ValueKind) → equality a b ≡ Some k → value_fits d k ≡ true
  equality_fits (value.Item n) (value.Item m) k h = as_given (n == m) value.Bool k refl h
  equality_fits (value.Item n) value.Bool k h = numeric_fits (value.Item n) value.Bool value.Bool k refl h
  equality_fits (value.Item n) value.Int k h = numeric_fits (value.Item n) value.Int value.Bool k refl h
  equality_fits (value.Item n) (value.Bits s) k h = numeric_fits (value.Item n) (value.Bits s) value.Bool k refl h
  equality_fits value.Bool b k h = numeric_fits value.Bool b value.Bool k refl h
  equality_fits value.Int b k h = numeric_fits value.Int b value.Bool k refl h
  equality_fits (value.Bits s) b k h = numeric_fits (value.Bits s) b value.Bool k refl h

  binary_fits : (o : BinaryOp) (a b k : ValueKind) → binary_kind o a b ≡ Some k → value_fits d k ≡ true
  binary_fits binary.Add a b k h = numeric_fits a b value.Int k refl h
  binary_fits binary.Subtract a b k h = numeric_fits a b value.Int k refl h
  binary_fits binary.Multiply a b k h = numeric_fits a b value.Int k refl h
  binary_fits binary.Divide a b k h = numeric_fits a b value.Int k refl h
  binary_fits binary.Remainder a b k h = numeric_fits a b value.Int k refl h
  binary_fits binary.ShiftLeft a b k h = numeric_fits a b value.Int k refl h
  binary_fits binary.ShiftRight a b k h = numeric_fits a b value.Int k refl h
  binary_fits binary.BitAnd a b k h = bitwise_fits a b k h
  binary_fits binary.BitOr a b k h = bitwise_fits a b k h
  binary_fits binary.BitXor a b k h = bitwise_fits a b k h
  binary_fits binary.Equal a b k h = equality_fits a b k h
  binary_fits binary.NotEqual a b k h = equality_fits a b k h
  binary_fits binary.Less a b k h = numeric_fits a b value.Bool k refl h
  binary_fits binary.LessEqual a b k h = numeric_fits a b value.Bool k refl h
  binary_fits binary.Greater a b k h = numeric_fits a b value.Bool k refl h
  binary_fits binary.GreaterEqual a b k h = numeric_fits a b value.Bool k refl h

-- ---- one and two parts

module _ (w : Work) (ls : List Variable) (d : Design) where
  OkHas : Result Typed Code → Type 0
  OkHas r = IfOk r (λ t. Has w ls d t)

  of_kind_has : (g : GExpr) (x : Expression) (width : Option ℤ) (o : Option ValueKind) → expression_of g ≡ x → ((k : ValueKind) → o ≡ Some k → HasKind w ls d x k) → ((k : ValueKind) → o ≡ Some k → value_fits d k ≡ true) → IfOk (of_kind g width o) (λ t. Has w ls d t)
  of_kind_has g x width None e f i = tt
  of_kind_has g x width (Some k) e f i = has_plain w ls d g x k width e (f k refl) (i k refl)

  unary_has : (o : UnaryOp) (t : Typed) (width : Option ℤ) → Has w ls d t → IfOk (of_kind (e.Unary o t.expr) width (unary_kind o t.kind)) (λ t. Has w ls d t)
  unary_has o t width h = of_kind_has (e.Unary o t.expr) (Operation (Unary o) (one (expression_of t.expr))) width (unary_kind o t.kind) (expression-unary o t.expr)
      (λ k q. of_operation w ls d (Unary o) (one (expression_of t.expr)) (t.kind ∷ []) k (one_part w ls d (expression_of t.expr) t.kind h.fits) refl q refl) (unary_fits d o t.kind)

  pub signed_has : (o : Sign) (t : Typed) → Has w ls d t → IfOk (signed o t) (λ t. Has w ls d t)
  signed_has sign.Minus t h = unary_has unary.Minus t None h
  signed_has sign.Plus t h = unary_has unary.Plus t None h
  signed_has sign.Invert t h = unary_has unary.Invert t t.width h

  pub negated_has : (t : Typed) → Has w ls d t → IfOk (negated t) (λ t. Has w ls d t)
  negated_has t h = unary_has unary.Not t None h

  both_has : (o : BinaryOp) (t u : Typed) → Has w ls d t → Has w ls d u → IfOk (both o t u) (λ t. Has w ls d t)
  both_has o t u h i = of_kind_has (e.Binary o t.expr u.expr) (Operation (Binary o) (two (expression_of t.expr) (expression_of u.expr))) None (binary_kind o t.kind u.kind) (expression-binary o t.expr u.expr)
      (λ k q. of_operation w ls d (Binary o) (two (expression_of t.expr) (expression_of u.expr)) (t.kind ∷ u.kind ∷ []) k (two_parts w ls d (expression_of t.expr) (expression_of u.expr) t.kind u.kind h.fits i.fits) refl q refl) (binary_fits d o t.kind u.kind)

  and_has : (t u : Typed) → Has w ls d t → Has w ls d u → IfOk (logical (e.And t.expr u.expr) t u) (λ t. Has w ls d t)
  and_has t u h i = ok_if (λ t. Has w ls d t) (is_number t.kind && is_number u.kind) _ _
      (λ q. has_plain w ls d (e.And t.expr u.expr) (Operation And (two (expression_of t.expr) (expression_of u.expr))) value.Bool None (expression-and t.expr u.expr)
      (of_operation w ls d And (two (expression_of t.expr) (expression_of u.expr)) (t.kind ∷ u.kind ∷ []) value.Bool (two_parts w ls d (expression_of t.expr) (expression_of u.expr) t.kind u.kind h.fits i.fits) refl (ap (λ b. given b value.Bool) q) refl) refl) (λ q. tt)

  or_has : (t u : Typed) → Has w ls d t → Has w ls d u → IfOk (logical (e.Or t.expr u.expr) t u) (λ t. Has w ls d t)
  or_has t u h i = ok_if (λ t. Has w ls d t) (is_number t.kind && is_number u.kind) _ _
      (λ q. has_plain w ls d (e.Or t.expr u.expr) (Operation Or (two (expression_of t.expr) (expression_of u.expr))) value.Bool None (expression-or t.expr u.expr)
      (of_operation w ls d Or (two (expression_of t.expr) (expression_of u.expr)) (t.kind ∷ u.kind ∷ []) value.Bool (two_parts w ls d (expression_of t.expr) (expression_of u.expr) t.kind u.kind h.fits i.fits) refl (ap (λ b. given b value.Bool) q) refl) refl) (λ q. tt)

  pub operated_has : (o : Operator) (t u : Typed) → Has w ls d t → Has w ls d u → IfOk (operated o t u) (λ t. Has w ls d t)
  operated_has op.Or t u h i = or_has t u h i
  operated_has op.And t u h i = and_has t u h i
  operated_has op.Equal t u h i = both_has binary.Equal t u h i
  operated_has op.NotEqual t u h i = both_has binary.NotEqual t u h i
  operated_has op.Less t u h i = both_has binary.Less t u h i
  operated_has op.LessEqual t u h i = both_has binary.LessEqual t u h i
  operated_has op.Greater t u h i = both_has binary.Greater t u h i
  operated_has op.GreaterEqual t u h i = both_has binary.GreaterEqual t u h i
  operated_has op.BitOr t u h i = both_has binary.BitOr t u h i
  operated_has op.BitXor t u h i = both_has binary.BitXor t u h i
  operated_has op.BitAnd t u h i = both_has binary.BitAnd t u h i
  operated_has op.ShiftLeft t u h i = both_has binary.ShiftLeft t u h i
  operated_has op.ShiftRight t u h i = both_has binary.ShiftRight t u h i
  operated_has op.Add t u h i = both_has binary.Add t u h i
  operated_has op.Subtract t u h i = both_has binary.Subtract t u h i
  operated_has op.Multiply t u h i = both_has binary.Multiply t u h i
  operated_has op.Divide t u h i = both_has binary.Divide t u h i
  operated_has op.Remainder t u h i = both_has binary.Remainder t u h i

  -- ---- bits and slices

  -- an index within these bounds
  pub record IsBit (b : Bounds) (i : Typed) : Type 0 where
    pub number : is_number i.kind ≡ true
    pub keeps : index_keeps (expression_of i.expr) (width_of b.lo b.top) ≡ true

  pub bit_is : (b : Bounds) (i : Typed) → IfOk (bit_fits b i) (λ u. IsBit b i)
  bit_is b i = ok_if (λ u. IsBit b i) (is_number i.kind) _ _ (λ p. ok_if (λ u. IsBit b i) (index_keeps (expression_of i.expr) (width_of b.lo b.top)) _ _ (λ q. record { number = p; keeps = q }) (λ q. tt)) (λ p. tt)

  bit_made : (t i : Typed) (b : Bounds) → bounds_in t.base ≡ Some b → Has w ls d t → Has w ls d i → IsBit b i → Has w ls d (truth (e.Bit t.expr i.expr))
  bit_made t i b q h g f =
      let base = h.base b q in
      has_plain w ls d (e.Bit t.expr i.expr) (Operation BitOf (two (expression_of t.expr) (expression_of i.expr))) value.Bool None (expression-bit t.expr i.expr)
      (of_operation w ls d BitOf (two (expression_of t.expr) (expression_of i.expr)) (t.kind ∷ i.kind ∷ []) value.Bool (two_parts w ls d (expression_of t.expr) (expression_of i.expr) t.kind i.kind h.fits g.fits) base.base
      (ap (λ b. given b value.Bool) (and_from (is_bits t.kind) (is_number i.kind) base.bits f.number)) (ap (λ o. option_map_or (index_keeps (expression_of i.expr)) o true) base.width ∙ f.keeps)) refl

  pub bit_has : (t i : Typed) → Has w ls d t → Has w ls d i → IfOk (bit t i) (λ t. Has w ls d t)
  bit_has t i h g = ok_given (λ t. Has w ls d t) (bounds_in t.base) E10KindClash _ (λ b q. ok_after (λ u. IsBit b i) (λ t. Has w ls d t) (bit_fits b i) _ (bit_is b i) (λ u f. bit_made t i b q h g f))

  pub record IsSlice (b : Bounds) (i j : Typed) : Type 0 where
    pub numbers : (is_number i.kind && is_number j.kind) ≡ true
    pub keeps : slice_keeps (expression_of i.expr) (expression_of j.expr) (width_of b.lo b.top) ≡ true

  pub slice_is : (b : Bounds) (i j : Typed) → IfOk (slice_fits b i j) (λ u. IsSlice b i j)
  slice_is b i j = ok_if (λ u. IsSlice b i j) (is_number i.kind && is_number j.kind) _ _ (λ p. ok_if (λ u. IsSlice b i j) (slice_keeps (expression_of i.expr) (expression_of j.expr) (width_of b.lo b.top)) _ _ (λ q. record { numbers = p; keeps = q }) (λ q. tt)) (λ p. tt)

  slice_made : (t i j : Typed) (b : Bounds) → bounds_in t.base ≡ Some b → Has w ls d t → Has w ls d i → Has w ls d j → IsSlice b i j → Has w ls d (sliced_as t i j)
  slice_made t i j b q h g k f =
      let base = h.base b q in
      has_plain w ls d (e.Slice t.expr i.expr j.expr) (Operation SliceOf (three (expression_of t.expr) (expression_of i.expr) (expression_of j.expr))) (value.Bits false) _ (expression-slice t.expr i.expr j.expr)
      (of_operation w ls d SliceOf (three (expression_of t.expr) (expression_of i.expr) (expression_of j.expr)) (t.kind ∷ i.kind ∷ j.kind ∷ []) (value.Bits false) (three_parts w ls d (expression_of t.expr) (expression_of i.expr) (expression_of j.expr) t.kind i.kind j.kind h.fits g.fits k.fits) base.base
      (ap (λ b. given b (value.Bits false)) (and_from (is_bits t.kind) (is_number i.kind && is_number j.kind) base.bits f.numbers)) (ap (λ o. option_map_or (slice_keeps (expression_of i.expr) (expression_of j.expr)) o true) base.width ∙ f.keeps)) refl

  pub slice_has : (t i j : Typed) → Has w ls d t → Has w ls d i → Has w ls d j → IfOk (slice t i j) (λ t. Has w ls d t)
  slice_has t i j h g k = ok_given (λ t. Has w ls d t) (bounds_in t.base) E10KindClash _ (λ b q. ok_after (λ u. IsSlice b i j) (λ t. Has w ls d t) (slice_fits b i j) _ (slice_is b i j) (λ u f. slice_made t i j b q h g k f))

  -- ---- attributes and calls

  end_has : (name : List ℕ) (b : Bounds) → IfOk (end_named name b) (λ t. Has w ls d t)
  end_has name b = ok_if (λ t. Has w ls d t) (bytes_eq name (codes "min")) _ _ (λ q. has_integer w ls d b.lo)
      (λ q. ok_if (λ t. Has w ls d t) (bytes_eq name (codes "max")) _ _ (λ r. ok_given (λ t. Has w ls d t) (in_i128 (b.top +ℤ pos 1)) E5TooWide _ (λ n f. has_integer w ls d n)) (λ r. tt))

  pub attribute_has : (name : List ℕ) (t : Typed) → IfOk (attribute name t) (λ t. Has w ls d t)
  attribute_has name t = ok_if (λ t. Has w ls d t) (is_no_reading name) _ _ (λ q. tt) (λ q. ok_given (λ t. Has w ls d t) (bounds_in t.base) E10KindClash _ (λ b f. end_has name b))

  pub length_has : (t : Typed) → IfOk (operations.length t) (λ t. Has w ls d t)
  length_has t = ok_given (λ t. Has w ls d t) t.width E3BadArguments _ (λ n f. has_integer w ls d n)

  int_made : (t : Typed) → Has w ls d t → is_number t.kind ≡ true → Has w ls d (integer (e.Int t.expr))
  int_made t h q = has_plain w ls d (e.Int t.expr) (Operation ToInt (one (expression_of t.expr))) value.Int None (expression-int t.expr)
      (of_operation w ls d ToInt (one (expression_of t.expr)) (t.kind ∷ []) value.Int (one_part w ls d (expression_of t.expr) t.kind h.fits) refl (ap (λ b. given b value.Int) q) refl) refl

  pub to_integer_has : (t : Typed) → Has w ls d t → IfOk (to_integer t) (λ t. Has w ls d t)
  to_integer_has t h = ok_if (λ t. Has w ls d t) (is_number t.kind) _ _ (λ q. int_made t h q) (λ q. tt)

  pub to_truth_has : (t : Typed) → Has w ls d t → IfOk (to_truth t) (λ t. Has w ls d t)
  to_truth_has t h = ok_if (λ t. Has w ls d t) (is_number t.kind) _ _
      (λ q. has_plain w ls d (e.Bool t.expr) (Operation ToBool (one (expression_of t.expr))) value.Bool None (expression-bool t.expr)
      (of_operation w ls d ToBool (one (expression_of t.expr)) (t.kind ∷ []) value.Bool (one_part w ls d (expression_of t.expr) t.kind h.fits) refl (ap (λ b. given b value.Bool) q) refl) refl) (λ q. tt)

  pub unbounded_has : (t : Typed) → Has w ls d t → IfOk (unbounded t) (λ t. Has w ls d t)
  unbounded_has t h = ok_if (λ t. Has w ls d t) (is_number t.kind) _ _ (λ q. int_made t h q) (λ q. tt)

  pub read_signed_has : (t : Typed) → Has w ls d t → IfOk (read_signed t) (λ t. Has w ls d t)
  read_signed_has t h = ok_if (λ t. Has w ls d t) (is_bits t.kind) _ _
      (λ q. has_plain w ls d (e.Signed t.expr) (Operation Signed (one (expression_of t.expr))) value.Int None (expression-signed t.expr)
      (of_operation w ls d Signed (one (expression_of t.expr)) (t.kind ∷ []) value.Int (one_part w ls d (expression_of t.expr) t.kind h.fits) refl (ap (λ b. given b value.Int) q) refl) refl) (λ q. tt)

  pub now_has : Has w ls d (integer e.Now)
  now_has = has_plain w ls d e.Now Now value.Int None expression-now (record { kind = refl; keeps = refl; assigned = λ v u. refl }) refl

  -- ---- `concat`

  pub record IsPart (g : GExpr) : Type 0 where
    pub kind : ValueKind
    pub fits : HasKind w ls d (expression_of g) kind
    pub part : is_part kind ≡ true

  abbrev pub AllParts : List GExpr → Type 0
  AllParts [] = Unit {0}
  AllParts (g ∷ gs) = IsPart g × AllParts gs

  parts_end : (gs : List GExpr) (g : GExpr) → AllParts gs → IsPart g → AllParts (gs ++ g ∷ [])
  parts_end [] g h p = (p, tt)
  parts_end (f ∷ gs) g h p = (h.0, parts_end gs g h.1 p)

  -- so many parts
  pub record HasRow (n : ℕ) (r : Row) : Type 0 where
    pub parts : AllParts r.parts
    pub count : length r.parts ≡ n

  kinds_among : (gs : List GExpr) → AllParts gs → List ValueKind
  kinds_among [] h = []
  kinds_among (g ∷ gs) h = h.0.kind ∷ kinds_among gs h.1

  have_among : (gs : List GExpr) (h : AllParts gs) → HaveKinds w ls d (row (map expression_of gs)) (kinds_among gs h)
  unfolding kinds_among
  have_among [] h = no_parts w ls d
  have_among (g ∷ gs) h = more_parts w ls d (expression_of g) h.0.kind (row (map expression_of gs)) (kinds_among gs h.1) h.0.fits (have_among gs h.1)

  parts_among : (gs : List GExpr) (h : AllParts gs) → list_all is_part (kinds_among gs h) ≡ true
  unfolding kinds_among
  parts_among [] h = refl
  parts_among (g ∷ gs) h = and_from (is_part h.0.kind) (list_all is_part (kinds_among gs h.1)) h.0.part (parts_among gs h.1)

  concat_of : (gs : List GExpr) (n : ℕ) → AllParts gs → length gs ≡ suc n → HasKind w ls d (Operation Concat (row (map expression_of gs))) (value.Bits false)
  unfolding kinds_among
  concat_of [] n h l = absurd (cc)
  concat_of (g ∷ gs) n h l =
      of_operation w ls d Concat (row (map expression_of (g ∷ gs))) (kinds_among (g ∷ gs) h) (value.Bits false) (have_among (g ∷ gs) h) refl (ap (λ b. given b (value.Bits false)) (parts_among (g ∷ gs) h)) refl

  pub concatenated_has : (n : ℕ) (r : Row) → HasRow (suc n) r → Has w ls d (concatenated r)
  concatenated_has n r h = has_plain w ls d (e.Concat r.parts) (Operation Concat (row (map expression_of r.parts))) (value.Bits false) r.width (expression-concat r.parts) (concat_of r.parts n h.parts h.count) refl

  any_width : (r : Result (Option ℤ) Code) (f : Option ℤ → Result Row Code) (P : Row → Type 0) → ((o : Option ℤ) → IfOk (f o) P) → IfOk (after r f) P
  any_width (Ok o) f P h = h o
  any_width (Err code) f P h = tt

  pub joined_has : (n : ℕ) (r : Row) (t : Typed) → HasRow n r → Has w ls d t → IfOk (joined r t) (HasRow (suc n))
  joined_has n r t h i = ok_if (HasRow (suc n)) (is_part t.kind) _ _
      (λ q. any_width (sum_width r.width (part_width t.kind t.width)) _ (HasRow (suc n)) (λ o. record { parts = parts_end r.parts t.expr h.parts (record { kind = t.kind; fits = i.fits; part = q }); count = counted r.parts t.expr n h.count })) (λ q. tt)
    where
      counted : (gs : List GExpr) (g : GExpr) (n : ℕ) → length gs ≡ n → length (gs ++ g ∷ []) ≡ suc n
      counted gs g n l = omega (arith, length-append gs (g ∷ []), l)

-- in a design that has more
module _ (w : Work) (ls : List Variable) (d f : Design) (x : Extends d f) where
  parts_later : (gs : List GExpr) → AllParts w ls d gs → AllParts w ls f gs
  parts_later [] h = tt
  parts_later (g ∷ gs) h = (record { kind = h.0.kind; fits = has_kind_later w ls d f x (expression_of g) h.0.kind h.0.fits; part = h.0.part }, parts_later gs h.1)

  pub row_later : (n : ℕ) (r : Row) → HasRow w ls d n r → HasRow w ls f n r
  row_later n r h = record { parts = parts_later r.parts h.parts; count = h.count }

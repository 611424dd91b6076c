-- Every result is a vector, and has the width that its operator gives.
use Rattle.std.proofs.Common.{ℕ, zero, suc, ℤ, pos, negsuc, ◌^◌, ◌<◌, ◌≤◌, ◌≡◌, refl, ap, ◌∙◌, subst, Bool, true, false, ◌&&◌, int_div, int_rem, bit_and, arith}
use Rattle.std.proofs.lemmas.Nat.{pow_pos, and_comm}
use Rattle.std.specs.Coded.{le_prop}
use Rattle.std.proofs.Math.Nat.{ℕ_set}
use Rattle.mh_codes.specs.Codes.{code}
use Rattle.mh_codes.proofs.Codes.{code_below}
use Rattle.mh_bits.specs.declared.values.Bits.{Bits}
use Rattle.mh_bits.specs.declared.values.BinOp.{BinOp}
use Rattle.mh_bits.specs.declared.values.BinOp.TheVariants.{Add, Sub, Mul, Div, Rem, And, Or, Xor, Shl, Shr, Sar, Eq, Ne, Lt, Le, Gt, Ge}
use Rattle.mh_bits.specs.declared.values.UnOp.{UnOp}
use Rattle.mh_bits.specs.declared.values.UnOp.TheVariants.{Neg, Not}
use Rattle.mh_bits.specs.View.{vector_of}
use Rattle.mh_bits.specs.Vector.{Bit, low, high, unknown, Vector, IsVector, known, all_unknown, is_known}
use Rattle.mh_bits.specs.Operators.{number_of, single, where_known, coded, divided, binary_of, unary_of, WidthsFit, result_width}
use Rattle.mh_bits.proofs.Gathered.{IsVector-gathered}

-- the bits of no number and 0
pub and_zero : (n : ℕ) → bit_and n 0 ≡ 0
and_zero n = and_comm n 0

pub IsVector-known : (w n : ℕ) → 1 ≤ w → w ≤ 128 → n < 2 ^ w → IsVector (known w n)
IsVector-known w n some most within = record { some_bits = some; word_bits = most; val_within = within; unk_within = pow_pos w; apart = and_zero n }

pub IsVector-all_unknown : (w : ℕ) → 1 ≤ w → w ≤ 128 → IsVector (all_unknown w)
IsVector-all_unknown w some most = let p = pow_pos w in record { some_bits = some; word_bits = most; val_within = p; unk_within = omega arith; apart = refl }

pub IsVector-single : (x : Bit) → IsVector (single x)
IsVector-single low = IsVector-known 1 0 (omega arith) (omega arith) (omega arith)
IsVector-single high = IsVector-known 1 1 (omega arith) (omega arith) (omega arith)
IsVector-single unknown = IsVector-all_unknown 1 (omega arith) (omega arith)

width-single : (x : Bit) → (single x).width ≡ 1
width-single low = refl
width-single high = refl
width-single unknown = refl

IsVector-where_known : (k : Bool) (v : Vector) → IsVector v → IsVector (where_known k v)
IsVector-where_known true v p = p
IsVector-where_known false v p = IsVector-all_unknown v.width p.some_bits p.word_bits

width-where_known : (k : Bool) (v : Vector) → (where_known k v).width ≡ v.width
width-where_known true v = refl
width-where_known false v = refl

IsVector-coded : (w : ℕ) (z : ℤ) → 1 ≤ w → w ≤ 128 → IsVector (coded w z)
IsVector-coded w z some most = IsVector-known w (code w z) some most (code_below w z)

IsVector-divided : (f : ℤ → ℤ → ℤ) (w : ℕ) (x y : ℤ) → 1 ≤ w → w ≤ 128 → IsVector (divided f w x y)
IsVector-divided f w x (pos zero) some most = IsVector-all_unknown w some most
IsVector-divided f w x (pos (suc n)) some most = IsVector-coded w (f x (pos (suc n))) some most
IsVector-divided f w x (negsuc n) some most = IsVector-coded w (f x (negsuc n)) some most

width-divided : (f : ℤ → ℤ → ℤ) (w : ℕ) (x y : ℤ) → (divided f w x y).width ≡ w
width-divided f w x (pos zero) = refl
width-divided f w x (pos (suc n)) = refl
width-divided f w x (negsuc n) = refl

module _ (a b : Vector) (s : Bool) where
  pub width-binary_of : (op : BinOp) → (binary_of op a b s).width ≡ result_width op a.width
  width-binary_of Add = width-where_known _ _
  width-binary_of Sub = width-where_known _ _
  width-binary_of Mul = width-where_known _ _
  width-binary_of Div = width-where_known (is_known a && is_known b) (divided int_div a.width (number_of s a) (number_of s b)) ∙ width-divided int_div a.width (number_of s a) (number_of s b)
  width-binary_of Rem = width-where_known (is_known a && is_known b) (divided int_rem a.width (number_of s a) (number_of s b)) ∙ width-divided int_rem a.width (number_of s a) (number_of s b)
  width-binary_of And = refl
  width-binary_of Or = refl
  width-binary_of Xor = refl
  width-binary_of Shl = width-where_known _ _
  width-binary_of Shr = width-where_known _ _
  width-binary_of Sar = width-where_known _ _
  width-binary_of Eq = width-single _
  width-binary_of Ne = width-single _
  width-binary_of Lt = width-where_known _ _ ∙ width-single _
  width-binary_of Le = width-where_known _ _ ∙ width-single _
  width-binary_of Gt = width-where_known _ _ ∙ width-single _
  width-binary_of Ge = width-where_known _ _ ∙ width-single _

  pub IsVector-binary_of : (op : BinOp) → 1 ≤ a.width → a.width ≤ 128 → IsVector (binary_of op a b s)
  IsVector-binary_of Add some most = IsVector-where_known _ _ (IsVector-coded a.width _ some most)
  IsVector-binary_of Sub some most = IsVector-where_known _ _ (IsVector-coded a.width _ some most)
  IsVector-binary_of Mul some most = IsVector-where_known _ _ (IsVector-coded a.width _ some most)
  IsVector-binary_of Div some most = IsVector-where_known _ _ (IsVector-divided int_div a.width (number_of s a) (number_of s b) some most)
  IsVector-binary_of Rem some most = IsVector-where_known _ _ (IsVector-divided int_rem a.width (number_of s a) (number_of s b) some most)
  IsVector-binary_of And some most = IsVector-gathered a.width _ some most
  IsVector-binary_of Or some most = IsVector-gathered a.width _ some most
  IsVector-binary_of Xor some most = IsVector-gathered a.width _ some most
  IsVector-binary_of Shl some most = IsVector-where_known _ _ (IsVector-gathered a.width _ some most)
  IsVector-binary_of Shr some most = IsVector-where_known _ _ (IsVector-gathered a.width _ some most)
  IsVector-binary_of Sar some most = IsVector-where_known _ _ (IsVector-gathered a.width _ some most)
  IsVector-binary_of Eq some most = IsVector-single _
  IsVector-binary_of Ne some most = IsVector-single _
  IsVector-binary_of Lt some most = IsVector-where_known _ _ (IsVector-single _)
  IsVector-binary_of Le some most = IsVector-where_known _ _ (IsVector-single _)
  IsVector-binary_of Gt some most = IsVector-where_known _ _ (IsVector-single _)
  IsVector-binary_of Ge some most = IsVector-where_known _ _ (IsVector-single _)

pub width-unary_of : (op : UnOp) (a : Vector) → (unary_of op a).width ≡ a.width
width-unary_of Neg a = width-where_known _ _
width-unary_of Not a = refl

pub IsVector-unary_of : (op : UnOp) (a : Vector) → 1 ≤ a.width → a.width ≤ 128 → IsVector (unary_of op a)
IsVector-unary_of Neg a some most = IsVector-where_known _ _ (IsVector-coded a.width _ some most)
IsVector-unary_of Not a some most = IsVector-gathered a.width _ some most

-- operands of one width fit every operator
pub WidthsFit-same : (op : BinOp) (v w : ℕ) → v ≡ w → WidthsFit op v w
WidthsFit-same Shl v w e = tt
WidthsFit-same Shr v w e = tt
WidthsFit-same Sar v w e = tt
WidthsFit-same op v w e = e

-- the rule of a vector has one proof at most, so its fields say which it is
IsVector-prop : (v : Vector) → IsProp (IsVector v)
IsVector-prop v = hlevel (le_prop, ℕ_set)

made : (v : Vector) → IsVector v → Bits
made v p = record { width = v.width; val = v.val; unk = v.unk; valid = p }

pub bits_same : (a b : Bits) → vector_of a ≡ vector_of b → a ≡ b
unfolding made
bits_same a b e =
    let Same : Vector → Type 0 = λ v. (q : IsVector v) → made (vector_of a) a.valid ≡ made v q in
    subst Same e (λ q. ap (made (vector_of a)) (IsVector-prop (vector_of a) a.valid q)) b.valid

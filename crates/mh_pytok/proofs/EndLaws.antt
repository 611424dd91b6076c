-- Where a string ends is told by the string alone.
use Rattle.std.proofs.Common.{◌≡◌, ℕ, suc, ◌+◌, ◌-◌, ◌≤◌, List, [], ◌∷◌, length, take, true, false, Bool, cond, ◌&&◌, Some, None, Option, arith, eqb}
use Rattle.std.proofs.lemmas.Option.{none-some, same_Some}
use Rattle.mh_pytok.specs.Strings.{string_end}

abbrev choose : Bool → Bool → Bool → Bool → ℕ → Option ℕ → Option ℕ → Option ℕ → Option ℕ
choose line escaped quote last m x y z = cond line None (cond escaped x (cond quote (cond last (Some (m + 1)) y) z))

-- it ends at n, as it does where the bytes are cut there
abbrev pub Cut : (ℕ → Option ℕ) → ℕ → ℕ → ℕ → Type 0
Cut f m n len = (k : ℕ) × (n ≡ m + suc k) × (suc k ≤ len) × (f (suc k) ≡ Some n)

one_less : (f : ℕ → Option ℕ) (m n len : ℕ) → Cut f (m + 1) n len → (k : ℕ) × (n ≡ m + suc k) × (suc k ≤ suc len) × (f k ≡ Some n)
one_less f m n len (k, is, within, at) = (suc k, omega arith, omega arith, at)

cut_step : (line escaped quote last : Bool) (m n len : ℕ) (x y z : Option ℕ) (f g h : ℕ → Option ℕ) →
    (x ≡ Some n → Cut f (m + 1) n len) → (y ≡ Some n → Cut g (m + 1) n len) → (z ≡ Some n → Cut h (m + 1) n len) →
    choose line escaped quote last m x y z ≡ Some n →
    (k : ℕ) × (n ≡ m + suc k) × (suc k ≤ suc len) × (choose line escaped quote last m (f k) (g k) (h k) ≡ Some n)
cut_step true escaped quote last m n len x y z f g h rx ry rz is = absurd (none-some n is)
cut_step false true quote last m n len x y z f g h rx ry rz is = one_less f m n len (rx is)
cut_step false false true true m n len x y z f g h rx ry rz is = let e : m + 1 ≡ n = same_Some (m + 1) n is in (0, omega arith, omega arith, is)
cut_step false false true false m n len x y z f g h rx ry rz is = one_less g m n len (ry is)
cut_step false false false last m n len x y z f g h rx ry rz is = one_less h m n len (rz is)

pub string_end-cut : (quote quotes left : ℕ) (escaped : Bool) (m : ℕ) (bs : List ℕ) (n : ℕ) → string_end quote quotes left escaped m bs ≡ Some n →
    Cut (λ j. string_end quote quotes left escaped m (take j bs)) m n (length bs)
unfolding string_end
string_end-cut quote quotes left escaped m [] n is = absurd (none-some n is)
string_end-cut quote quotes left escaped m (b ∷ bs) n is =
    cut_step (eqb b 10 && eqb quotes 1) escaped (eqb b quote) (eqb left 1) m n (length bs)
    (string_end quote quotes quotes false (m + 1) bs) (string_end quote quotes (left - 1) false (m + 1) bs) (string_end quote quotes quotes (eqb b 92) (m + 1) bs)
    (λ j. string_end quote quotes quotes false (m + 1) (take j bs)) (λ j. string_end quote quotes (left - 1) false (m + 1) (take j bs)) (λ j. string_end quote quotes quotes (eqb b 92) (m + 1) (take j bs))
    (string_end-cut quote quotes quotes false (m + 1) bs n) (string_end-cut quote quotes (left - 1) false (m + 1) bs n) (string_end-cut quote quotes quotes (eqb b 92) (m + 1) bs n)
    is

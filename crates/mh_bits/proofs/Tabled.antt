-- Words computed bit by bit are the vector that a table of one bit gives.
use Rattle.std.proofs.Common.{ℕ, ◌+◌, ◌-◌, ◌%◌, ◌^◌, ◌<◌, ◌≤◌, ◌≡◌, refl, sym, ap, ◌∙◌, bit_and, bit_or, bit_xor, min, max, arith}
use Rattle.std.specs.Int.{bit_at, w128, from_bool}
use Rattle.std.proofs.lemmas.Nat.{and_le_l, or_lt, xor_lt, pow_pos}
use Rattle.std.proofs.lemmas.Nat.Bits.{bit_at_and, bit_at_or, bit_at_xor, bit_at_not, bit_at_ones}
use Rattle.mh_codes.proofs.Powers.{wider}
use Rattle.mh_bits.specs.Vector.{Bit, low, high, unknown, high_digit, unknown_digit, Vector, vector_from, IsVector, bit, word, gathered}
use Rattle.mh_bits.specs.Operators.{and_bit, or_bit, xor_bit, not_bit, differs, bitwise, inverted, single}
use Rattle.mh_bits.proofs.WordBits.{word_is}
use Rattle.mh_bits.proofs.Gathered.{high_digit-bit, unknown_digit-bit, gathered_is}

-- a digit from the four digits of two bits
abbrev Digits : Type 0
Digits = ℕ → ℕ → ℕ → ℕ → ℕ

-- such a digit at every row of a table
abbrev Rows : (Bit → Bit → ℕ) → Digits → Type 0
Rows table f = (x y : Bit) → f (high_digit x) (unknown_digit x) (high_digit y) (unknown_digit y) ≡ table x y

module _ (a b : Vector) (p : IsVector a) (q : IsVector b) where
  -- a word's bits are such digits
  abbrev Computes : ℕ → ℕ → Digits → Type 0
  Computes w n f = (k : ℕ) → k < w → bit_at n k ≡ f (bit_at a.val k) (bit_at a.unk k) (bit_at b.val k) (bit_at b.unk k)

  -- then the word is that of a table's digits
  word_from : (w n : ℕ) (f : Digits) (table : Bit → Bit → ℕ) → n < 2 ^ w → Computes w n f → Rows table f → n ≡ word (λ k. table (bit a k) (bit b k)) w
  word_from w n f table within computes rows =
      word_is n w (λ k. table (bit a k) (bit b k)) within
      (λ k l. computes k l
      ∙ ap (λ m. f m (bit_at a.unk k) (bit_at b.val k) (bit_at b.unk k)) (sym (high_digit-bit a p.apart k))
      ∙ ap (λ m. f (high_digit (bit a k)) m (bit_at b.val k) (bit_at b.unk k)) (sym (unknown_digit-bit a k))
      ∙ ap (λ m. f (high_digit (bit a k)) (unknown_digit (bit a k)) m (bit_at b.unk k)) (sym (high_digit-bit b q.apart k))
      ∙ ap (λ m. f (high_digit (bit a k)) (unknown_digit (bit a k)) (high_digit (bit b k)) m) (sym (unknown_digit-bit b k))
      ∙ rows (bit a k) (bit b k))

  -- The rule of a table, for all its rows at once.
  pub tabled : (w val unk : ℕ) (table : Bit → Bit → Bit) (f g : Digits) → val < 2 ^ w → unk < 2 ^ w → Computes w val f → Computes w unk g → Rows (λ x y. high_digit (table x y)) f → Rows (λ x y. unknown_digit (table x y)) g → vector_from w val unk ≡ gathered w (λ k. table (bit a k) (bit b k))
  tabled w val unk table f g val_within unk_within is_val is_unk val_rows unk_rows =
      gathered_is w val unk (λ k. table (bit a k) (bit b k)) (word_from w val f (λ x y. high_digit (table x y)) val_within is_val val_rows) (word_from w unk g (λ x y. unknown_digit (table x y)) unk_within is_unk unk_rows)

-- nine rows at a time
all_rows : (table : Bit → Bit → ℕ) (f : Digits)
    → f 0 0 0 0 ≡ table low low → f 0 0 1 0 ≡ table low high → f 0 0 0 1 ≡ table low unknown
    → f 1 0 0 0 ≡ table high low → f 1 0 1 0 ≡ table high high → f 1 0 0 1 ≡ table high unknown
    → f 0 1 0 0 ≡ table unknown low → f 0 1 1 0 ≡ table unknown high → f 0 1 0 1 ≡ table unknown unknown
    → Rows table f
all_rows table f ll lh lu hl hh hu ul uh uu low low = ll
all_rows table f ll lh lu hl hh hu ul uh uu low high = lh
all_rows table f ll lh lu hl hh hu ul uh uu low unknown = lu
all_rows table f ll lh lu hl hh hu ul uh uu high low = hl
all_rows table f ll lh lu hl hh hu ul uh uu high high = hh
all_rows table f ll lh lu hl hh hu ul uh uu high unknown = hu
all_rows table f ll lh lu hl hh hu ul uh uu unknown low = ul
all_rows table f ll lh lu hl hh hu ul uh uu unknown high = uh
all_rows table f ll lh lu hl hh hu ul uh uu unknown unknown = uu

-- a word's complement at 128 bits
complement : (w n k : ℕ) → w ≤ 128 → n < 2 ^ w → k < w → bit_at (2 ^ 128 - 1 - n) k ≡ 1 - bit_at n k
complement w n k most h l = let p = wider w 128 most in bit_at_not w128 n k (omega arith) (omega arith)

module _ (a b : Vector) (p : IsVector a) (q : IsVector b) (e : a.width ≡ b.width) where
  b_val : b.val < 2 ^ a.width
  b_val = let f = ap (λ k. 2 ^ k) e in omega (arith, q.val_within)

  b_unk : b.unk < 2 ^ a.width
  b_unk = let f = ap (λ k. 2 ^ k) e in omega (arith, q.unk_within)

  either : bit_or a.unk b.unk < 2 ^ a.width
  either = or_lt a.width a.unk b.unk p.unk_within b_unk

  pub and_tabled : vector_from a.width (bit_and a.val b.val) (bit_and (bit_and (bit_or a.unk b.unk) (bit_or a.val a.unk)) (bit_or b.val b.unk)) ≡ bitwise and_bit a b
  and_tabled =
      let x = bit_or a.unk b.unk in
      let y = bit_or a.val a.unk in
      let z = bit_or b.val b.unk in
      tabled a b p q a.width (bit_and a.val b.val) (bit_and (bit_and x y) z) and_bit
      (λ m u n v. min m n)
      (λ m u n v. min (min (max u v) (max m u)) (max n v))
      (omega (arith, and_le_l a.val b.val, p.val_within))
      (omega (arith, and_le_l (bit_and x y) z, and_le_l x y, either))
      (λ k l. bit_at_and a.val b.val k)
      (λ k l. simp (bit_at_and, bit_at_or))
      (all_rows (λ x y. high_digit (and_bit x y)) (λ m u n v. min m n) refl refl refl refl refl refl refl refl refl)
      (all_rows (λ x y. unknown_digit (and_bit x y)) (λ m u n v. min (min (max u v) (max m u)) (max n v)) refl refl refl refl refl refl refl refl refl)

  pub or_tabled : vector_from a.width (bit_or a.val b.val) (bit_and (bit_or a.unk b.unk) (2 ^ 128 - 1 - bit_or a.val b.val)) ≡ bitwise or_bit a b
  or_tabled =
      let x = bit_or a.unk b.unk in
      let y = bit_or a.val b.val in
      let whole = or_lt a.width a.val b.val p.val_within b_val in
      tabled a b p q a.width y (bit_and x (2 ^ 128 - 1 - y)) or_bit
      (λ m u n v. max m n)
      (λ m u n v. min (max u v) (1 - max m n))
      whole
      (omega (arith, and_le_l x (2 ^ 128 - 1 - y), either))
      (λ k l. bit_at_or a.val b.val k)
      (λ k l. bit_at_and x (2 ^ 128 - 1 - y) k ∙ ap (min (bit_at x k)) (complement a.width y k p.word_bits whole l) ∙ simp bit_at_or)
      (all_rows (λ x y. high_digit (or_bit x y)) (λ m u n v. max m n) refl refl refl refl refl refl refl refl refl)
      (all_rows (λ x y. unknown_digit (or_bit x y)) (λ m u n v. min (max u v) (1 - max m n)) refl refl refl refl refl refl refl refl refl)

  pub xor_tabled : vector_from a.width (bit_and (bit_xor a.val b.val) (2 ^ 128 - 1 - bit_or a.unk b.unk)) (bit_or a.unk b.unk) ≡ bitwise xor_bit a b
  xor_tabled =
      let x = bit_or a.unk b.unk in
      let y = bit_xor a.val b.val in
      tabled a b p q a.width (bit_and y (2 ^ 128 - 1 - x)) x xor_bit
      (λ m u n v. min ((m + n) % 2) (1 - max u v))
      (λ m u n v. max u v)
      (omega (arith, and_le_l y (2 ^ 128 - 1 - x), xor_lt a.width a.val b.val p.val_within b_val))
      either
      (λ k l. bit_at_and y (2 ^ 128 - 1 - x) k ∙ ap (min (bit_at y k)) (complement a.width x k p.word_bits either l) ∙ simp (bit_at_or, bit_at_xor))
      (λ k l. bit_at_or a.unk b.unk k)
      (all_rows (λ x y. high_digit (xor_bit x y)) (λ m u n v. min ((m + n) % 2) (1 - max u v)) refl refl refl refl refl refl refl refl refl)
      (all_rows (λ x y. unknown_digit (xor_bit x y)) (λ m u n v. max u v) refl refl refl refl refl refl refl refl refl)

  -- the word of the places where known bits differ
  pub differing_word : bit_and (bit_xor a.val b.val) (2 ^ 128 - 1 - bit_or a.unk b.unk) ≡ word (λ k. from_bool (differs (bit a k) (bit b k))) a.width
  differing_word =
      let x = bit_or a.unk b.unk in
      let y = bit_xor a.val b.val in
      word_from a b p q a.width (bit_and y (2 ^ 128 - 1 - x)) (λ m u n v. min ((m + n) % 2) (1 - max u v)) (λ x y. from_bool (differs x y))
      (omega (arith, and_le_l y (2 ^ 128 - 1 - x), xor_lt a.width a.val b.val p.val_within b_val))
      (λ k l. bit_at_and y (2 ^ 128 - 1 - x) k ∙ ap (min (bit_at y k)) (complement a.width x k p.word_bits either l) ∙ simp (bit_at_or, bit_at_xor))
      (all_rows (λ x y. from_bool (differs x y)) (λ m u n v. min ((m + n) % 2) (1 - max u v)) refl refl refl refl refl refl refl refl refl)

pub not_tabled : (a : Vector) → IsVector a → vector_from a.width (bit_and (2 ^ a.width - 1) (2 ^ 128 - 1 - bit_or a.val a.unk)) a.unk ≡ inverted a
not_tabled a p =
    let x = bit_or a.val a.unk in
    let whole = or_lt a.width a.val a.unk p.val_within p.unk_within in
    let ones = pow_pos a.width in
    tabled a a p p a.width (bit_and (2 ^ a.width - 1) (2 ^ 128 - 1 - x)) a.unk (λ x y. not_bit x)
    (λ m u n v. min 1 (1 - max m u))
    (λ m u n v. u)
    (omega (arith, and_le_l (2 ^ a.width - 1) (2 ^ 128 - 1 - x)))
    p.unk_within
    (λ k l. bit_at_and (2 ^ a.width - 1) (2 ^ 128 - 1 - x) k ∙ ap (min (bit_at (2 ^ a.width - 1) k)) (complement a.width x k p.word_bits whole l) ∙ ap (λ m. min m (1 - bit_at x k)) (bit_at_ones a.width k l) ∙ simp bit_at_or)
    (λ k l. refl)
    (all_rows (λ x y. high_digit (not_bit x)) (λ m u n v. min 1 (1 - max m u)) refl refl refl refl refl refl refl refl refl)
    (all_rows (λ x y. unknown_digit (not_bit x)) (λ m u n v. u) refl refl refl refl refl refl refl refl refl)

-- `~` of the vector of one bit
pub inverted-single : (x : Bit) → inverted (single x) ≡ single (not_bit x)
unfolding word
inverted-single low = refl
inverted-single high = refl
inverted-single unknown = refl

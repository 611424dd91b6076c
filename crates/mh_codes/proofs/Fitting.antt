-- `&`, `|` and `^` of what fits a width and sign fit it again.
use Rattle.std.proofs.Common.{ℕ, zero, suc, ℤ, pos, negsuc, ◌+◌, ◌^◌, ◌<◌, ◌≡◌, refl, ap, ◌∙◌, Bool, true, false, arith, ⊎_elim, ◌⊎◌, inl, inr, bit_or, bit_xor}
use Rattle.std.proofs.lemmas.Nat.{and_le_l, or_lt, xor_lt}
use Rattle.mh_codes.proofs.Powers.{twice}
use Rattle.mh_codes.specs.Codes.{Fits}
use Rattle.mh_codes.specs.Integers.{integer_and, integer_or, integer_xor}

-- below half the power of a signed width, or nothing fits
halves : (w a b c : ℕ) → ((v : ℕ) → a < 2 ^ v → b < 2 ^ v → c < 2 ^ v) → a + a < 2 ^ w → b + b < 2 ^ w → c + c + 1 < 2 ^ w ⊎ (w ≡ 0) × (a ≡ 0) × (b ≡ 0)
halves zero a b c k p q = inr (refl, omega arith, omega arith)
halves (suc v) a b c k p q = let e = twice v in let l = k v (omega arith) (omega arith) in inl (omega arith)

-- `&` keeps sign and width
pub fits-and : (s : Bool) (w : ℕ) (x y : ℤ) → Fits s w x → Fits s w y → Fits s w (integer_and x y)
fits-and false w (pos a) (pos b) f g = let l = and_le_l a b in omega arith
fits-and false w (pos a) (negsuc b) f g = absurd g
fits-and false w (negsuc a) y f g = absurd f
fits-and true w (pos a) (pos b) f g = let l = and_le_l a b in omega arith
fits-and true w (pos a) (negsuc b) f g = omega arith
fits-and true w (negsuc a) (pos b) f g = omega arith
fits-and true w (negsuc a) (negsuc b) f g = ⊎_elim (λ l. l) (λ l. absurd (let z = l.0 in let e = ap (λ k. 2 ^ k) z in omega arith)) (halves w a b (bit_or a b) (λ v p q. or_lt v a b p q) (omega arith) (omega arith))

-- `|` keeps sign and width
pub fits-or : (s : Bool) (w : ℕ) (x y : ℤ) → Fits s w x → Fits s w y → Fits s w (integer_or x y)
fits-or false w (pos a) (pos b) f g = or_lt w a b f g
fits-or false w (pos a) (negsuc b) f g = absurd g
fits-or false w (negsuc a) y f g = absurd f
fits-or true w (pos a) (pos b) f g = ⊎_elim (λ l. omega arith) (λ l. let a0 = l.1 in let b0 = l.2 in let e : bit_or a b ≡ 0 = ap (λ k. bit_or k b) a0 ∙ b0 in omega arith) (halves w a b (bit_or a b) (λ v p q. or_lt v a b p q) f g)
fits-or true w (pos a) (negsuc b) f g = omega arith
fits-or true w (negsuc a) (pos b) f g = omega arith
fits-or true w (negsuc a) (negsuc b) f g = let l = and_le_l a b in omega arith

-- `^` keeps sign and width
pub fits-xor : (s : Bool) (w : ℕ) (x y : ℤ) → Fits s w x → Fits s w y → Fits s w (integer_xor x y)
fits-xor false w (pos a) (pos b) f g = xor_lt w a b f g
fits-xor false w (pos a) (negsuc b) f g = absurd g
fits-xor false w (negsuc a) y f g = absurd f
fits-xor true w (pos a) (pos b) f g = ⊎_elim (λ l. omega arith) (λ l. let a0 = l.1 in let b0 = l.2 in let e : bit_xor a b ≡ 0 = ap (λ k. bit_xor k b) a0 ∙ b0 in omega arith) (halves w a b (bit_xor a b) (λ v p q. xor_lt v a b p q) f g)
fits-xor true w (pos a) (negsuc b) f g = ⊎_elim (λ l. l) (λ l. absurd (let z = l.0 in let e = ap (λ k. 2 ^ k) z in omega arith)) (halves w a b (bit_xor a b) (λ v p q. xor_lt v a b p q) f (omega arith))
fits-xor true w (negsuc a) (pos b) f g = ⊎_elim (λ l. l) (λ l. absurd (let z = l.0 in let e = ap (λ k. 2 ^ k) z in omega arith)) (halves w a b (bit_xor a b) (λ v p q. xor_lt v a b p q) (omega arith) g)
fits-xor true w (negsuc a) (negsuc b) f g = ⊎_elim (λ l. omega arith) (λ l. absurd (let z = l.0 in let e = ap (λ k. 2 ^ k) z in omega arith)) (halves w a b (bit_xor a b) (λ v p q. xor_lt v a b p q) (omega arith) (omega arith))

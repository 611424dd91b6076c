use Rattle.std.proofs.Common.{◌≡◌, ◌+◌, ◌-◌, ◌∙◌, ℕ, zero, suc, ap, refl, cond, ltb, arith}
use Rattle.mh_bits.specs.Operators.{bit_of_answer, single, joined}
use Rattle.mh_bits.specs.Vector.{Bit, low, high, unknown, Vector, bit, appended}
use Rattle.mh_bits.specs.View.{vector_of}
use Rattle.mh_bits.proofs.Gathered.{gathered-same}
use Rattle.mh_bits.proofs.digits.appended.Goals as goal

lowest : (v : Vector) (x : Bit) → bit (single x) 0 ≡ x
lowest v low = refl
lowest v high = refl
lowest v unknown = refl

chosen : (v u : Vector) (x : Bit) → bit u 0 ≡ x → (k : ℕ) → cond (ltb k 1) (bit u k) (bit v (k - 1)) ≡ cond (ltb k 1) x (bit v (k - 1))
chosen v u x e zero = e
chosen v u x e (suc k) = grind arith

joined_single : (v : Vector) (x : Bit) → joined v (single x) ≡ appended v x
joined_single v low = gathered-same (v.width + 1) _ _ (λ k l. chosen v (single low) low (lowest v low) k)
joined_single v high = gathered-same (v.width + 1) _ _ (λ k l. chosen v (single high) high (lowest v high) k)
joined_single v unknown = gathered-same (v.width + 1) _ _ (λ k l. chosen v (single unknown) unknown (lowest v unknown) k)

pub returns : goal.returns
returns c = c.cat.ensures ∙ ap (joined (vector_of c.args.v)) c.single.ensures ∙ joined_single (vector_of c.args.v) (bit_of_answer c.args.b)

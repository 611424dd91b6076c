-- What is made of the generator with a number.
use Rattle.std.proofs.Common.{ℕ, ◌≡◌, ◌<◌, List, [], ◌∷◌, length, get_or, Result, Ok, Err, IfOk, refl, subst, ◌∙◌, arith}
use Rattle.std.specs.Prelude.{Some, slice_get}
use Rattle.std.proofs.lemmas.Option.{get_or_from_slice_get}
use Rattle.mh_design.specs.declared.design.Generator.{Generator}

pub for-number : {A E : Type 0} (r : Result A E) (P : Generator → A → Type 0) (xs : List Generator) (k : ℕ) (y : Generator) → y ≡ get_or xs k y → IfOk r (P y) → IfOk r (λ a. (x : Generator) → slice_get xs k ≡ Some x → P x a)
for-number (Ok a) P xs k y i h = λ x e. subst (λ z. P z a) (i ∙ get_or_from_slice_get xs k x y e) h
for-number (Err e) P xs k y i h = tt

pub first-there : (xs : List Generator) → 0 < length xs → (x : Generator) × (slice_get xs 0 ≡ Some x)
first-there [] h = absurd (omega (arith, h))
first-there (x ∷ xs) h = (x, refl)

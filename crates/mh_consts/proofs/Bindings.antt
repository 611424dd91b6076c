-- A look-up in what bindings leave finds the latest of all bindings ever made.
use Rattle.std.proofs.Common.{◌≡◌, ℕ, List, [], ◌∷◌, Option, Some, refl, ap, ◌∙◌, bytes_eq, cond, true, false, Bool, true≢false}
use Rattle.std.specs.Cmp.Lexicographic.{bytes_decides}
use Rattle.mh_consts.specs.Names.{lookup, bind, latest, bound}

-- two tests where the name is the entry's
same : {A : Type 0} (c d : Bool) (x y : A) (r : Option A) → c ≡ d → cond d (Some x) r ≡ cond c (Some x) (cond d (Some y) r)
same true true x y r h = refl
same false false x y r h = refl
same true false x y r h = cc
same false true x y r h = cc

-- two tests where it is not
other : {A : Type 0} (c d : Bool) (x y : A) (r : Option A) → (c ≡ true → d ≡ false) → cond d (Some y) (cond c (Some x) r) ≡ cond c (Some x) (cond d (Some y) r)
other true true x y r h = absurd (true≢false (h refl))
other false false x y r h = refl
other true false x y r h = refl
other false true x y r h = refl

not_both : (n m k : List ℕ) → bytes_eq n k ≡ false → bytes_eq m n ≡ true → bytes_eq m k ≡ false
not_both n m k p q = ap (λ t. bytes_eq t k) ((bytes_decides m n).0 q) ∙ p

step : {A : Type 0} (e : List ℕ × A) (es : List (List ℕ × A)) (n m : List ℕ) (x : A) (b : Bool) → bytes_eq n e.0 ≡ b →
    lookup (bind es n x) m ≡ cond (bytes_eq m n) (Some x) (lookup es m) →
    lookup (cond b ((e.0, x) ∷ es) (e ∷ bind es n x)) m ≡ cond (bytes_eq m n) (Some x) (lookup (e ∷ es) m)
step e es n m x true h ih = same (bytes_eq m n) (bytes_eq m e.0) x e.1 (lookup es m) (ap (bytes_eq m) ((bytes_decides n e.0).0 h))
step e es n m x false h ih =
    ap (cond (bytes_eq m e.0) (Some e.1)) ih ∙ other (bytes_eq m n) (bytes_eq m e.0) x e.1 (lookup es m) (not_both n m e.0 h)

-- a lookup after a binding
pub lookup-bind : {A : Type 0} (es : List (List ℕ × A)) (n m : List ℕ) (x : A) → lookup (bind es n x) m ≡ cond (bytes_eq m n) (Some x) (lookup es m)
lookup-bind [] n m x = refl
lookup-bind (e ∷ es) n m x = step e es n m x (bytes_eq n e.0) refl (lookup-bind es n m x)

pub lookup-bound : {A : Type 0} (es : List (List ℕ × A)) (n : List ℕ) → lookup (bound es) n ≡ latest es n
lookup-bound [] n = refl
lookup-bound (e ∷ es) n = lookup-bind (bound es) e.0 n e.1 ∙ ap (cond (bytes_eq n e.0) (Some e.1)) (lookup-bound es n)

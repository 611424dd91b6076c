-- What a step of reading a body gives: a value and the design after it, which may have grown by a
-- memory or a table, or the code of the first rule that is broken.
use Rattle.std.specs.Prelude.{◌≡◌, Result, Ok, Err}
use Rattle.mh_text.specs.declared.code.Code.{Code}
use Rattle.mh_design.specs.declared.design.Design.{Design}
use Rattle.mh_consts.specs.Outcome.{after}
use Rattle.mh_text.specs.declared.fault.Fault.{Fault}
use Rattle.mh_text.specs.Faults.{Tells}

abbrev pub Step : Type 0 → Type 0
Step A = Design → Result (A × Design) Code

abbrev pub pure : {A : Type 0} → A → Step A
pure x d = Ok (x, d)

abbrev pub refuse : {A : Type 0} → Code → Step A
refuse code d = Err code

abbrev pub chain : {A B : Type 0} → Step A → (A → Step B) → Step B
chain p f d = after (p d) (λ x. f x.0 x.1)

infixl 10 ◌>>=◌
abbrev pub ◌>>=◌ : {A B : Type 0} → Step A → (A → Step B) → Step B
p >>= f = chain p f

infixl 10 ◌>>◌
abbrev pub ◌>>◌ : {A B : Type 0} → Step A → Step B → Step B
p >> q = chain p (λ x. q)

-- what leaves the design as it is
abbrev pub just : {A : Type 0} → Result A Code → Step A
just r d = after r (λ x. Ok (x, d))

-- what looks at the design
abbrev pub seeing : {A : Type 0} → (Design → Result A Code) → Step A
seeing f d = after (f d) (λ x. Ok (x, d))

-- ---- what the program gives: this, unless memory ran out

-- of what changes in place: this after Ok, and nothing is said after a refusal
abbrev pub Changes : {A : Type 0} → Result A Code → Result (Unit {0}) Code → A → Type 0
Changes r (Ok u) x = r ≡ Ok x
Changes r (Err code) x = r ≡ Err code

abbrev pub Grows : {A : Type 0} → Result (A × Design) Code → Result A (Fault Code) → Design → Type 0
Grows r x d = Tells (λ v. (v, d)) r x

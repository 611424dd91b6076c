-- What reading statements gives: a value, what is known of the locals and the design after them, or
-- the first rule that is broken with the line of its statement.
use Rattle.std.specs.Prelude.{◌≡◌, ℕ, Result, Ok, Err}
use Rattle.mh_text.specs.declared.code.Code.{Code}
use Rattle.mh_design.specs.declared.design.Design.{Design}
use Rattle.mh_text.specs.declared.fault.Fault.{Fault}
use Rattle.mh_text.specs.Faults.{Tells}
use Rattle.mh_exprs.specs.declared.typed.Work.{Work}
use Rattle.mh_exprs.specs.Step.{Step}

-- a rule, and the line
abbrev pub Broken : Type 0
Broken = Code × ℕ

abbrev pub Run : Type 0 → Type 0
Run A = Work → Design → Result (A × Work × Design) Broken

abbrev pub then : {A B : Type 0} → Result (A × Work × Design) Broken → (A → Run B) → Result (B × Work × Design) Broken
then (Ok x) f = f x.0 x.1 x.2
then (Err b) f = Err b

abbrev pub gives : {A : Type 0} → A → Run A
gives x w d = Ok (x, w, d)

abbrev pub refused : {A : Type 0} → Code → ℕ → Run A
refused code l w d = Err (code, l)

infixl 10 ◌>>=◌
abbrev pub ◌>>=◌ : {A B : Type 0} → Run A → (A → Run B) → Run B
(p >>= f) w d = then (p w d) f

infixl 10 ◌>>◌
abbrev pub ◌>>◌ : {A B : Type 0} → Run A → Run B → Run B
(p >> q) w d = then (p w d) (λ x. q)

-- what is known of the locals here
abbrev pub look : Run Work
look w d = Ok (w, w, d)

abbrev pub change : (Work → Work) → Run (Unit {0})
change f w d = Ok (tt, f w, d)

-- a step of the statement at this line
abbrev pub placed : {A : Type 0} → ℕ → Work → Result (A × Design) Code → Result (A × Work × Design) Broken
placed l w (Ok x) = Ok (x.0, w, x.1)
placed l w (Err code) = Err (code, l)

abbrev pub at : {A : Type 0} → ℕ → (Work → Step A) → Run A
at l p w d = placed l w (p w d)

-- the same where the step says what is known of the locals after it
abbrev pub placed_with : {A : Type 0} → ℕ → Result ((A × Work) × Design) Code → Result (A × Work × Design) Broken
placed_with l (Ok x) = Ok (x.0.0, x.0.1, x.1)
placed_with l (Err code) = Err (code, l)

abbrev pub does : {A : Type 0} → ℕ → (Work → Step (A × Work)) → Run A
does l p w d = placed_with l (p w d)

-- ---- what the program gives: this, in the plain form of a tree, unless memory ran out

-- of what takes no memory
abbrev pub Becomes : {A B : Type 0} → (B → A) → Result A Code → Result B Code → Type 0
Becomes view r (Ok x) = r ≡ Ok (view x)
Becomes view r (Err code) = r ≡ Err code

-- with the design after it
abbrev pub Reads : {A B : Type 0} → (B → A) → Result (A × Design) Code → Result B (Fault Code) → Design → Type 0
Reads view r x d = Tells (λ v. (view v, d)) r x

-- with what is known of the locals after it
abbrev pub Leaves : {A B : Type 0} → (B → A) → Result (A × Work) Code → Result B Code → Work → Type 0
Leaves view r x w = Becomes (λ v. (view v, w)) r x

-- with both
abbrev pub Does : {A B : Type 0} → (B → A) → Result ((A × Work) × Design) Code → Result B (Fault Code) → Work → Design → Type 0
Does view r x w d = Tells (λ v. ((view v, w), d)) r x

-- the same with the line of the statement that breaks the rule
abbrev pub Runs : {A B : Type 0} → (B → A) → Result (A × Work × Design) Broken → Result B (Fault Broken) → Work → Design → Type 0
Runs view r x w d = Tells (λ v. (view v, w, d)) r x

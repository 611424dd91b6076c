-- What holds after a step of reading, step by step.
use Rattle.std.proofs.Common.{◌≡◌, Bool, true, false, Option, Some, None, Result, Ok, Err, IfOk, refl, subst, if◌then◌else◌}
use Rattle.mh_text.specs.declared.code.Code.{Code}
use Rattle.mh_consts.specs.declared.scope.Scope.{Scope}
use Rattle.mh_consts.specs.Outcome.{after, given}
use Rattle.mh_design.specs.declared.design.Design.{Design}
use Rattle.mh_exprs.specs.Step.{Step, pure}
use Rattle.mh_lower_laws.specs.Holds.{Holds, Extends}
use Rattle.mh_lower_laws.proofs.Growth.{extends_self, extends_on}

-- a design after d, of which this holds
pub record Later (s : Scope) (d e : Design) (P : Type 0) : Type 0 where
  pub extends : Extends d e
  pub holds : Holds s e
  pub gives : P

abbrev pub Leading : {A : Type 0} → Scope → (A → Design → Type 0) → Design → Result (A × Design) Code → Type 0
Leading s Q d (Ok x) = Later s d x.1 (Q x.0 x.1)
Leading s Q d (Err code) = Unit {0}

-- the step from d gives this, if it isn't refused
pub record Leads {A : Type 0} (s : Scope) (Q : A → Design → Type 0) (d : Design) (r : Result (A × Design) Code) : Type 0 where
  pub led : Leading s Q d r

module _ {A : Type 0} (s : Scope) (Q : A → Design → Type 0) where
  pub leads_pure : (d : Design) → Holds s d → (x : A) → Q x d → Leads s Q d (pure x d)
  leads_pure d h x q = record { led = record { extends = extends_self d; holds = h; gives = q } }

  pub leads_refuse : (d : Design) (code : Code) → Leads s Q d (Err code)
  leads_refuse d code = record { led = tt }

  pub leads_just : (d : Design) → Holds s d → (r : Result A Code) → IfOk r (λ x. Q x d) → Leads s Q d (after r (λ x. Ok (x, d)))
  leads_just d h (Ok x) q = leads_pure d h x q
  leads_just d h (Err code) q = leads_refuse d code

  pub leads_from : (d e : Design) (r : Result (A × Design) Code) → Extends d e → Leads s Q e r → Leads s Q d r
  leads_from d e (Ok x) g l = record { led = record { extends = extends_on d e x.1 g l.led.extends; holds = l.led.holds; gives = l.led.gives } }
  leads_from d e (Err code) g l = record { led = tt }

  pub leads_if : (d : Design) (b : Bool) (p q : Step A) → (b ≡ true → Leads s Q d (p d)) → (b ≡ false → Leads s Q d (q d)) → Leads s Q d ((if b then p else q) d)
  leads_if d true p q f g = f refl
  leads_if d false p q f g = g refl

  -- a step that gives this gives what follows from it
  pub leads_then : (R : A → Design → Type 0) (d : Design) (r : Result (A × Design) Code) → ((x : A) (e : Design) → R x e → Q x e) → Leads s R d r → Leads s Q d r
  leads_then R d (Ok x) f l = record { led = record { extends = l.led.extends; holds = l.led.holds; gives = f x.0 x.1 l.led.gives } }
  leads_then R d (Err code) f l = record { led = tt }

pub leads_after : {A B : Type 0} (s : Scope) (Q : A → Design → Type 0) (R : B → Design → Type 0) (d : Design) (r : Result (A × Design) Code) (f : A → Step B) →
    Leads s Q d r → ((x : A) (e : Design) → Extends d e → Holds s e → Q x e → Leads s R e (f x e)) → Leads s R d (after r (λ x. f x.0 x.1))
leads_after s Q R d (Ok x) f l k = leads_from s R d x.1 (f x.0 x.1) l.led.extends (k x.0 x.1 l.led.extends l.led.holds l.led.gives)
leads_after s Q R d (Err code) f l k = record { led = tt }

-- what a step that went well gives
pub led_to : {A : Type 0} (s : Scope) (Q : A → Design → Type 0) (d e : Design) (r : Result (A × Design) Code) (x : A) → Leads s Q d r → r ≡ Ok (x, e) → Later s d e (Q x e)
led_to s Q d e (Ok y) x l q = let p : y ≡ (x, e) = cc in subst (λ z. Later s d z.1 (Q z.0 z.1)) p l.led
led_to s Q d e (Err code) x l q = absurd (cc)

-- ---- answers without a design

-- two answers in a row
pub ok_after : {A B : Type 0} (P : A → Type 0) (Q : B → Type 0) (r : Result A Code) (f : A → Result B Code) → IfOk r P → ((x : A) → P x → IfOk (f x) Q) → IfOk (after r f) Q
ok_after P Q (Ok x) f p k = k x p
ok_after P Q (Err code) f p k = tt

pub ok_given : {A B : Type 0} (Q : B → Type 0) (o : Option A) (code : Code) (f : A → Result B Code) → ((x : A) → o ≡ Some x → IfOk (f x) Q) → IfOk (after (given o code) f) Q
ok_given Q (Some x) code f k = k x refl
ok_given Q None code f k = tt

pub ok_if : {A : Type 0} (Q : A → Type 0) (b : Bool) (r t : Result A Code) → (b ≡ true → IfOk r Q) → (b ≡ false → IfOk t Q) → IfOk (if b then r else t) Q
ok_if Q true r t f g = f refl
ok_if Q false r t f g = g refl

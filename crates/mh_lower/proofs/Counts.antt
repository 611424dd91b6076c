-- What calls with so many arguments come to.
use Rattle.std.proofs.Common.{◌≡◌, ◌<◌, ◌≤◌, Bool, List, [], ◌∷◌, map, length, get_or, Result, Err, refl, arith}
use Rattle.mh_pytree.specs.declared.expression.Argument.{Argument}
use Rattle.mh_text.specs.declared.code.Code.{Code}
use Rattle.mh_text.specs.declared.code.Code.TheVariants.{E2NotElaborable}
use Rattle.mh_consts.specs.declared.scope.Scope.{Scope}
use Rattle.mh_consts.specs.Expression.{Ex, given_of, parts_of}
use Rattle.mh_design.specs.declared.design.Design.{Design}
use Rattle.mh_exprs.specs.declared.locals.Locals.{Locals}
use Rattle.mh_exprs.specs.declared.names.Form.{Form}
use Rattle.mh_exprs.specs.declared.names.Form.TheVariants as form
use Rattle.mh_exprs.specs.declared.typed.Work.{Work}
use Rattle.mh_lower.specs.declared.typed.Bound.{Bound}
use Rattle.mh_lower.specs.declared.typed.Ends.{Ends}
use Rattle.mh_lower.specs.Bindings.{any_right, made_right, resized_right}
use Rattle.mh_lower.specs.Statements.{ends_in, misfit}

pub one_is : (xs : List Argument) (a : Argument) → 1 ≤ length xs → length xs < 2 → a ≡ get_or xs 0 a → xs ≡ a ∷ []
one_is [] a h k p = absurd (omega arith)
one_is (x ∷ []) a h k p = let first : a ≡ x = p in cc
one_is (x ∷ y ∷ xs) a h k p = absurd (omega arith)

pub three_are : (xs : List Argument) (a b c : Argument) → 3 ≤ length xs → length xs < 4 →
    a ≡ get_or xs 0 a → b ≡ get_or xs 1 b → c ≡ get_or xs 2 c → xs ≡ a ∷ b ∷ c ∷ []
three_are [] a b c h k p q r = absurd (omega arith)
three_are (x ∷ []) a b c h k p q r = absurd (omega arith)
three_are (x ∷ y ∷ []) a b c h k p q r = absurd (omega arith)
three_are (x ∷ y ∷ z ∷ []) a b c h k p q r =
    let first : a ≡ x = p in
    let second : b ≡ y = q in
    let third : c ≡ z = r in
    cc
three_are (x ∷ y ∷ z ∷ v ∷ xs) a b c h k p q r = absurd (omega arith)

module _ (s : Scope) (ls : Locals) (w : Work) where
  -- ---- the ends of a loop

  abbrev pub ends_by : Bool → List Argument → Design → Result (Ends × Design) Code
  ends_by down xs d = ends_in s ls w down (parts_of (map given_of xs)) d

  abbrev pub misfits : List Argument → Design → Result (Ends × Design) Code
  misfits xs d = misfit s ls w (parts_of (map given_of xs)) d

  pub ends-none : (down : Bool) (xs : List Argument) (d : Design) → length xs < 1 → ends_by down xs d ≡ misfits xs d
  ends-none down [] d h = refl
  ends-none down (x ∷ xs) d h = absurd (omega arith)

  pub ends-many : (down : Bool) (xs : List Argument) (d : Design) → 4 ≤ length xs → ends_by down xs d ≡ misfits xs d
  ends-many down [] d h = absurd (omega arith)
  ends-many down (x ∷ []) d h = absurd (omega arith)
  ends-many down (x ∷ y ∷ []) d h = absurd (omega arith)
  ends-many down (x ∷ y ∷ z ∷ []) d h = absurd (omega arith)
  ends-many down (x ∷ y ∷ z ∷ v ∷ xs) d h = refl

  -- ---- calls of `intbv` and `modbv`

  abbrev pub made_by : Bool → Form → Ex → List Argument → Design → Result (Bound × Design) Code
  made_by wraps f e xs d = made_right s ls w wraps f e (parts_of (map given_of xs)) d

  pub made-few : (wraps : Bool) (f : Form) (e : Ex) (xs : List Argument) (d : Design) → length xs < 3 →
      made_by wraps f e xs d ≡ any_right s ls w e d
  made-few wraps form.LowHigh e [] d h = refl
  made-few wraps form.LowHigh e (x ∷ []) d h = refl
  made-few wraps form.LowHigh e (x ∷ y ∷ []) d h = refl
  made-few wraps form.LowHigh e (x ∷ y ∷ z ∷ xs) d h = absurd (omega arith)
  made-few wraps form.HighLow e [] d h = refl
  made-few wraps form.HighLow e (x ∷ []) d h = refl
  made-few wraps form.HighLow e (x ∷ y ∷ []) d h = refl
  made-few wraps form.HighLow e (x ∷ y ∷ z ∷ xs) d h = absurd (omega arith)
  made-few wraps form.Single e xs d h = refl
  made-few wraps form.Other e xs d h = refl

  pub made-many : (wraps : Bool) (f : Form) (e : Ex) (xs : List Argument) (d : Design) → 4 ≤ length xs →
      made_by wraps f e xs d ≡ any_right s ls w e d
  made-many wraps form.LowHigh e [] d h = absurd (omega arith)
  made-many wraps form.LowHigh e (x ∷ []) d h = absurd (omega arith)
  made-many wraps form.LowHigh e (x ∷ y ∷ []) d h = absurd (omega arith)
  made-many wraps form.LowHigh e (x ∷ y ∷ z ∷ []) d h = absurd (omega arith)
  made-many wraps form.LowHigh e (x ∷ y ∷ z ∷ v ∷ xs) d h = refl
  made-many wraps form.HighLow e [] d h = absurd (omega arith)
  made-many wraps form.HighLow e (x ∷ []) d h = absurd (omega arith)
  made-many wraps form.HighLow e (x ∷ y ∷ []) d h = absurd (omega arith)
  made-many wraps form.HighLow e (x ∷ y ∷ z ∷ []) d h = absurd (omega arith)
  made-many wraps form.HighLow e (x ∷ y ∷ z ∷ v ∷ xs) d h = refl
  made-many wraps form.Single e xs d h = refl
  made-many wraps form.Other e xs d h = refl

  abbrev pub resized_by : Bool → Form → List Argument → Ex → Design → Result (Bound × Design) Code
  resized_by wraps f xs n d = resized_right s ls w wraps f (parts_of (map given_of xs)) n d

  pub resized-none : (wraps : Bool) (f : Form) (xs : List Argument) (n : Ex) (d : Design) → length xs < 1 →
      resized_by wraps f xs n d ≡ Err E2NotElaborable
  resized-none wraps form.Single [] n d h = refl
  resized-none wraps form.Single (x ∷ xs) n d h = absurd (omega arith)
  resized-none wraps form.LowHigh xs n d h = refl
  resized-none wraps form.HighLow xs n d h = refl
  resized-none wraps form.Other xs n d h = refl

  pub resized-many : (wraps : Bool) (f : Form) (xs : List Argument) (n : Ex) (d : Design) → 2 ≤ length xs →
      resized_by wraps f xs n d ≡ Err E2NotElaborable
  resized-many wraps form.Single [] n d h = absurd (omega arith)
  resized-many wraps form.Single (x ∷ []) n d h = absurd (omega arith)
  resized-many wraps form.Single (x ∷ y ∷ xs) n d h = refl
  resized-many wraps form.LowHigh xs n d h = refl
  resized-many wraps form.HighLow xs n d h = refl
  resized-many wraps form.Other xs n d h = refl

pub ruleset counts = (ends-none, ends-many, made-few, made-many, resized-none, resized-many)

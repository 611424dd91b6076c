-- This project's own rule: what a reader answers depends on nothing but the tokens that it took and the one after
-- them, and it never takes the token that ends a text.
use Rattle.std.specs.Prelude.{◌≡◌, Bool, true, false, List, [], ◌∷◌, ◌++◌, Option, None, Ok, Err}
use Rattle.mh_reader.specs.Reader.{Outcome, Reader, first_of}

abbrev pub rest_of : {T A : Type 0} → Outcome T A → List T
rest_of (Ok p) = p.1
rest_of (Err r) = r

-- the same answer with other tokens after it
abbrev pub with_rest : {T A : Type 0} → Outcome T A → List T → Outcome T A
with_rest (Ok p) r = Ok (p.0, r)
with_rest (Err _) r = Err r

-- none of the tokens is an end
abbrev pub NoEnd : {T : Type 0} → (T → Bool) → List T → Type 0
NoEnd is_end [] = Unit {0}
NoEnd is_end (t ∷ ts) = (is_end t ≡ false) × NoEnd is_end ts

-- the outcome o of p before the tokens ts took the tokens u
pub record Takes {T A : Type 0} (is_end : T → Bool) (p : Reader T A) (o : Outcome T A) (ts u : List T) : Type 0 where
  pub plain : NoEnd is_end u
  pub split : ts ≡ u ++ rest_of o
  pub same : (r : List T) → first_of r ≡ first_of (rest_of o) → p (u ++ r) ≡ with_rest o r

abbrev pub LocalAt : {T A : Type 0} → (T → Bool) → Reader T A → List T → Type 0
LocalAt {T} is_end p ts = (u : List T) × Takes is_end p (p ts) ts u

abbrev pub Local : {T A : Type 0} → (T → Bool) → Reader T A → Type 0
Local {T} is_end p = (ts : List T) → LocalAt is_end p ts

-- no end passes the test
pub record PassesNoEnd {T : Type 0} (is_end test : T → Bool) : Type 0 where
  pub not_passed : (t : T) → is_end t ≡ true → test t ≡ false

-- no end gives anything
pub record GivesNoEnd {T A : Type 0} (is_end : T → Bool) (f : T → Option A) : Type 0 where
  pub nothing_given : (t : T) → is_end t ≡ true → f t ≡ None

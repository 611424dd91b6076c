-- What each step answers where the next token is known: the equations by which it is shown that a sentence is read.
--
-- A rule of the grammar is a chain of them, from the left, one for each step that is made:
--   chain_at (eat (is opening)) _ (t ∷ m) m true (eat_yes (is opening) t m refl)
--   ∙ chain_at sub _ (v ++ r) r a (by the part's own reading)
--   ∙ ..
-- with `append_assoc` before a part that isn't the first. `whole_at` of Refuse ends a text.
use Rattle.std.proofs.Common.{◌≡◌, Bool, true, false, List, [], ◌∷◌, Option, Some, None, Ok, Err, refl, ap, cond, if◌then◌else◌}
use Rattle.mh_reader.specs.Reader.{Reader, ◌>>=◌, and_then, chain, sees, after, eat, expect, given, offer, want, nothing}

pub chain_at : {T A B : Type 0} (p : Reader T A) (f : A → Reader T B) (ts m : List T) (x : A) → p ts ≡ Ok (x, m) → (p >>= f) ts ≡ f x m
unfolding chain
chain_at p f ts m x e = ap (λ o. and_then o f) e

pub chain_err : {T A B : Type 0} (p : Reader T A) (f : A → Reader T B) (ts m : List T) → p ts ≡ Err m → (p >>= f) ts ≡ Err m
unfolding chain
chain_err p f ts m e = ap (λ o. and_then o f) e

pub if_true : {T A : Type 0} (b : Bool) (p q : Reader T A) (ts : List T) → b ≡ true → (if b then p else q) ts ≡ p ts
if_true b p q ts e = ap (λ (b : Bool). cond b p q ts) e

pub if_false : {T A : Type 0} (b : Bool) (p q : Reader T A) (ts : List T) → b ≡ false → (if b then p else q) ts ≡ q ts
if_false b p q ts e = ap (λ (b : Bool). cond b p q ts) e

module _ {T : Type 0} (test : T → Bool) where
  pub eat_yes : (t : T) (r : List T) → test t ≡ true → eat test (t ∷ r) ≡ Ok (true, r)
  unfolding after
  eat_yes t r e = rw e refl

  pub eat_no : (r : List T) → sees test r ≡ false → eat test r ≡ Ok (false, r)
  unfolding after
  eat_no r e = rw e refl

  pub expect_yes : (t : T) (r : List T) → test t ≡ true → expect test (t ∷ r) ≡ Ok (tt, r)
  unfolding expect
  expect_yes t r e = rw e refl

  pub expect_no : (r : List T) → sees test r ≡ false → expect test r ≡ Err r
  unfolding expect
  expect_no r e = rw e refl

module _ {T A : Type 0} (f : T → Option A) where
  pub want_yes : (t : T) (r : List T) (x : A) → f t ≡ Some x → want f (t ∷ r) ≡ Ok (x, r)
  unfolding want
  want_yes t r x e = ap (λ o. given o (t ∷ r)) e

  pub want_no : (r : List T) → offer f r ≡ None → want f r ≡ Err r
  unfolding want
  want_no r e = ap (λ o. given o r) e

pub nothing_yes : {T : Type 0} → nothing {T = T} [] ≡ Ok (tt, [])
unfolding nothing
nothing_yes = refl

pub nothing_no : {T : Type 0} (t : T) (ts : List T) → nothing (t ∷ ts) ≡ Err (t ∷ ts)
unfolding nothing
nothing_no t ts = refl

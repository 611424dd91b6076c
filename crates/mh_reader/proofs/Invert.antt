-- What it says of the tokens that a reader gave an answer.
--
-- The rules of Yields stand on these and serve nearly always; these serve where a rule of the grammar wants to know
-- what comes after the tokens that it took, as that no `else` follows:
--   let a = chain_ok (eat test) _ ts r y e in .. (eat_false test ts a.1 ..).1         -- sees test ts ≡ false
use Rattle.std.proofs.Common.{◌≡◌, Bool, true, false, List, [], ◌∷◌, Option, Some, None, Ok, Err, refl, sym, ap, ◌∙◌, cond, if◌then◌else◌, ◌⊎◌, inl, inr}
use Rattle.mh_reader.specs.Reader.{Outcome, Reader, ◌>>=◌, and_then, chain, sees, behind, after, eat, expect, given, want, nothing}

pub ok_pair : {T A : Type 0} (a b : A) (r s : List T) → ◌≡◌ {A = Outcome T A} (Ok (a, r)) (Ok (b, s)) → (a ≡ b) × (r ≡ s)
ok_pair {T} {A} a b r s e = let q : ◌≡◌ {A = A × List T} (a, r) (b, s) = cc in (ap (λ p. p.0) q, ap (λ p. p.1) q)

pub chain_ok : {T A B : Type 0} (p : Reader T A) (f : A → Reader T B) (ts r : List T) (y : B) → (p >>= f) ts ≡ Ok (y, r) →
    (x : A) × (m : List T) × (p ts ≡ Ok (x, m)) × (f x m ≡ Ok (y, r))
unfolding chain
chain_ok {T} {A} {B} p f ts r y e = go (p ts) refl e
  where
    go : (o : Outcome T A) → p ts ≡ o → and_then o f ≡ Ok (y, r) → (x : A) × (m : List T) × (p ts ≡ Ok (x, m)) × (f x m ≡ Ok (y, r))
    go (Ok (x, m)) d e = (x, m, d, e)
    go (Err m) d e = absurd (cc)

pub cond_at : {T A : Type 0} (b : Bool) (p q : Reader T A) (ts : List T) (o : Outcome T A) → (if b then p else q) ts ≡ o →
    ((b ≡ true) × (p ts ≡ o)) ⊎ ((b ≡ false) × (q ts ≡ o))
cond_at true p q ts o e = inl (refl, e)
cond_at false p q ts o e = inr (refl, e)

pub sees_some : {T : Type 0} (test : T → Bool) (ts : List T) → sees test ts ≡ true → (t : T) × (test t ≡ true) × (ts ≡ t ∷ behind ts)
sees_some test [] e = absurd (cc)
sees_some test (t ∷ ts) e = (t, e, refl)

pub eat_true : {T : Type 0} (test : T → Bool) (ts r : List T) → eat test ts ≡ Ok (true, r) → (t : T) × (test t ≡ true) × (ts ≡ t ∷ r)
unfolding after
eat_true test ts r e =
    let q = ok_pair _ _ _ _ e in
    let s : sees test ts ≡ true = q.0 in
    let a : after test ts ≡ r = q.1 in
    let b : after test ts ≡ behind ts = rw s refl in
    let t = sees_some test ts s in
    (t.0, t.1, t.2 ∙ ap (λ m. t.0 ∷ m) (sym b ∙ a))

pub eat_false : {T : Type 0} (test : T → Bool) (ts r : List T) → eat test ts ≡ Ok (false, r) → (ts ≡ r) × (sees test ts ≡ false)
unfolding after
eat_false test ts r e =
    let q = ok_pair _ _ _ _ e in
    let s : sees test ts ≡ false = q.0 in
    let a : after test ts ≡ r = q.1 in
    let b : after test ts ≡ ts = rw s refl in
    (sym b ∙ a, s)

pub expect_ok : {T : Type 0} (test : T → Bool) (ts r : List T) (u : Unit {0}) → expect test ts ≡ Ok (u, r) → (t : T) × (test t ≡ true) × (ts ≡ t ∷ r)
unfolding expect
expect_ok {T} test ts r u e = go (sees test ts) refl e
  where
    go : (b : Bool) → sees test ts ≡ b → cond {A = Outcome T (Unit {0})} b (Ok (tt, behind ts)) (Err ts) ≡ Ok (u, r) → (t : T) × (test t ≡ true) × (ts ≡ t ∷ r)
    go true s e = let t = sees_some test ts s in let b : behind ts ≡ r = (ok_pair _ _ _ _ e).1 in (t.0, t.1, t.2 ∙ ap (λ m. t.0 ∷ m) b)
    go false s e = absurd (cc)

pub want_ok : {T A : Type 0} (f : T → Option A) (ts r : List T) (x : A) → want f ts ≡ Ok (x, r) → (t : T) × (f t ≡ Some x) × (ts ≡ t ∷ r)
unfolding want
want_ok {T} {A} f [] r x e = absurd (cc)
want_ok {T} {A} f (t ∷ ts) r x e = go (f t) refl e
  where
    go : (o : Option A) → f t ≡ o → given o (t ∷ ts) ≡ Ok (x, r) → (t' : T) × (f t' ≡ Some x) × (t ∷ ts ≡ t' ∷ r)
    go None s e = absurd (cc)
    go (Some y) s e = let q = ok_pair _ _ _ _ e in (t, s ∙ ap (λ (y : A). Some y) q.0, ap (λ m. t ∷ m) q.1)

pub nothing_ok : {T : Type 0} (ts r : List T) (u : Unit {0}) → nothing ts ≡ Ok (u, r) → (ts ≡ []) × (r ≡ [])
unfolding nothing
nothing_ok [] r u e = (refl, sym (ok_pair _ _ _ _ e).1)
nothing_ok (t ∷ ts) r u e = absurd (cc)

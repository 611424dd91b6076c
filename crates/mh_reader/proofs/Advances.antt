-- Rules for the measure of a loop: each turn that goes on takes a token.
--
-- One line a step:
--   advances_turn : (s : S) → Advances is_end (turn s)
--   unfolding turn
--   advances_turn s = search (advancing, locally, no_ends, local_part) depth 12
-- and in the code's proof `advanced is_end (turn s) (advances_turn s) ts r x goes_on ..` is `length r < length ts`.
use Rattle.std.proofs.Common.{◌≡◌, ◌<◌, Bool, true, false, List, ◌∷◌, length, Option, Ok, Err, refl, sym, ap, arith, subst, cond, if◌then◌else◌, inl, inr}
use Rattle.mh_reader.specs.Reader.{Reader, ◌>>=◌, ◌>>◌, pure, first_of, look, take, eat, expect, want}
use Rattle.mh_reader.specs.Locality.{Local}
use Rattle.mh_reader.proofs.Invert.{chain_ok, cond_at, ok_pair, eat_true, eat_false, expect_ok, want_ok}
use Rattle.mh_reader.proofs.Local.{shorter}

abbrev pub AdvancesAt : {T S : Type 0} → (T → Bool) → Reader T (S × Bool) → List T → Type 0
AdvancesAt {T} {S} is_end p ts = (r : List T) (x : S) → p ts ≡ Ok ((x, true), r) → length r < length ts

-- where p says that it goes on, it took a token
pub record Advances {T S : Type 0} (is_end : T → Bool) (p : Reader T (S × Bool)) : Type 0 where
  pub at : (ts : List T) → AdvancesAt is_end p ts

-- for the code's loop, whose flag is a variable
pub advanced : {T S : Type 0} (is_end : T → Bool) (p : Reader T (S × Bool)) → Advances is_end p → (ts r : List T) (x : S) (b : Bool) → b ≡ true → p ts ≡ Ok ((x, b), r) → length r < length ts
advanced {T} {S} is_end p a ts r x b t e = a.at ts r x (subst (λ (b : Bool). p ts ≡ Ok ((x, b), r)) t e)

module _ {T S : Type 0} (is_end : T → Bool) where
  pub advances_done : (x : S) → Advances is_end (pure (x, false))
  advances_done x = record {
    at = λ ts r y e.
        let q = (ok_pair (x, false) (y, true) ts r e).0 in
        let f : false ≡ true = ap (λ (p : S × Bool). p.1) q in
        absurd (cc);
  }

  pub advances_refuse : Advances {S = S} is_end (λ ts. Err ts)
  advances_refuse = record { at = λ ts r y e. absurd (cc) }

  pub advances_if : (b : Bool) (p q : Reader T (S × Bool)) → (b ≡ true → Advances is_end p) → (b ≡ false → Advances is_end q) → Advances is_end (if b then p else q)
  advances_if b p q at_true at_false = go b refl
    where
      go : (c : Bool) → b ≡ c → Advances is_end (cond c p q)
      go true e = at_true e
      go false e = at_false e

  pub advances_if_at : (b : Bool) (p q : Reader T (S × Bool)) (ts : List T) → (b ≡ true → AdvancesAt is_end p ts) → (b ≡ false → AdvancesAt is_end q ts) → AdvancesAt is_end (if b then p else q) ts
  advances_if_at b p q ts at_true at_false = go b refl
    where
      go : (c : Bool) → b ≡ c → AdvancesAt is_end (cond c p q) ts
      go true e = at_true e
      go false e = at_false e

  pub advances_expect : (test : T → Bool) (p : Unit {0} → Reader T (S × Bool)) → Local is_end (p tt) → Advances is_end (expect test >>= p)
  advances_expect test p local = record {
    at = λ ts r y e.
        let a = chain_ok (expect test) p ts r (y, true) e in
        let t = expect_ok test ts a.1 a.0 a.2 in
        omega (arith, shorter is_end (p tt) local a.1 (y, true) r a.3, ap length t.2);
  }

  pub advances_eat : (test : T → Bool) (p q : Reader T (S × Bool)) → Local is_end p → Advances is_end q → Advances is_end (eat test >>= (λ b. if b then p else q))
  advances_eat test p q local without_it = record {
    at = λ ts r y e.
        let a = chain_ok (eat test) (λ b. if b then p else q) ts r (y, true) e in
        elim (cond_at a.0 p q a.1 _ a.3) [
          | inl h ↦
              let t = eat_true test ts a.1 (subst (λ (b : Bool). eat test ts ≡ Ok (b, a.1)) h.0 a.2) in
              omega (arith, shorter is_end p local a.1 (y, true) r h.1, ap length t.2)
          | inr h ↦
              let m = eat_false test ts a.1 (subst (λ (b : Bool). eat test ts ≡ Ok (b, a.1)) h.0 a.2) in
              omega (arith, without_it.at a.1 r y h.1, ap length m.0)
        ];
  }

module _ {T S A : Type 0} (is_end : T → Bool) where
  pub advances_bind : (p : Reader T A) (f : A → Reader T (S × Bool)) → Local is_end p → ((x : A) → Advances is_end (f x)) → Advances is_end (p >>= f)
  advances_bind p f local next = record {
    at = λ ts r y e.
        let a = chain_ok p f ts r (y, true) e in
        let n = next a.0 in
        omega (arith, shorter is_end p local ts a.0 a.1 a.2, n.at a.1 r y a.3);
  }

  pub advances_want : (g : T → Option A) (f : A → Reader T (S × Bool)) → ((x : A) → Local is_end (f x)) → Advances is_end (want g >>= f)
  advances_want g f local = record {
    at = λ ts r y e.
        let a = chain_ok (want g) f ts r (y, true) e in
        let t = want_ok g ts a.1 a.0 a.2 in
        omega (arith, shorter is_end (f a.0) (local a.0) a.1 (y, true) r a.3, ap length t.2);
  }

  -- a look at the next token, and the token taken after it
  pub advances_after_look : (f : Option T → A) (g : A → Reader T (S × Bool)) → ((ts : List T) → AdvancesAt is_end (g (f (first_of ts))) ts) → Advances is_end (look f >>= g)
  advances_after_look f g next = record {
    at = λ ts r y e.
        let a = chain_ok (look f) g ts r (y, true) e in
        let q = ok_pair _ _ _ _ a.2 in
        let P : A → List T → Type 0 = λ k m. g k m ≡ Ok ((y, true), r) in
        next ts r y (subst (λ m. P (f (first_of ts)) m) (sym q.1) (subst (λ k. P k a.1) (sym q.0) a.3));
  }

pub advances_after_take : {T S : Type 0} (is_end : T → Bool) (t : T) (p : Reader T (S × Bool)) (ts : List T) → Local is_end p → AdvancesAt is_end (take >> p) (t ∷ ts)
advances_after_take is_end t p ts local r y e =
    let a = chain_ok take (λ _. p) (t ∷ ts) r (y, true) e in
    let q = ok_pair _ _ _ _ a.2 in
    omega (arith, shorter is_end p local a.1 (y, true) r a.3, ap length q.1)

pub ruleset advancing = (advances_done, advances_refuse, advances_if, advances_expect, advances_eat, advances_want, advances_bind)

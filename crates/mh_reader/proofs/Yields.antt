-- Rules for soundness: what a reader answers, and the tokens that it took for it, have a property.
--
-- A rule of the grammar is proved by the rules for its steps, and ends in its constructor:
--   bracket_yields e = yields_bind _ _ _ _ below (λ a v f.          -- a, of the tokens v, of which f says what it is
--       yields_expect_made (is closing) (tok closing) (is_true closing) _ _ (λ g.
--       yields_pure _ _ (grouped a e g v f refl refl)))
-- `made` of the rules `.._made` is where the relation writes a token as `tok kind rest`: that what passes the test is
-- one. `yields_made` is for `x ← p; pure (f x)`, and leaves no empty list behind the tokens. For a repeated step:
--   yields_many turn Inv Done (λ s u i. yields_.. (turn s)) s i     -- or yields_many_after, where tokens u were taken
-- with Inv of the state and the tokens so far where a turn goes on, Done where it was the last; a turn that takes
-- nothing ends in `yields_stop`. A look at the next token: yields_after_look, and yields_after_take below it.
use Rattle.std.proofs.Common.{◌≡◌, ℕ, zero, suc, ◌<◌, Bool, true, false, nat_lt, List, [], ◌∷◌, ◌++◌, length, append_assoc, Option, Some, Ok, Err, refl, sym, ap, ◌∙◌, arith, subst, cond, if◌then◌else◌, inl, inr}
use Rattle.std.proofs.lemmas.Bool.{ltb-true}
use Rattle.std.proofs.lemmas.List.{append-nil}
use Rattle.mh_reader.specs.Reader.{Outcome, Reader, ◌>>=◌, ◌>>◌, pure, refuse, first_of, look, take, eat, expect, want, many, nothing, whole}
use Rattle.mh_reader.proofs.Turns.{many_err, many_done, many_again, many_stuck}
use Rattle.mh_reader.proofs.Invert.{chain_ok, cond_at, ok_pair, eat_true, eat_false, expect_ok, want_ok, nothing_ok}

abbrev pub YieldsAt : {T A : Type 0} → Reader T A → (A → List T → Type 0) → List T → Type 0
YieldsAt {T} {A} p P ts = (r : List T) (x : A) → p ts ≡ Ok (x, r) → (u : List T) × (ts ≡ u ++ r) × P x u

-- what p answers, and the tokens that it took for it, have P
pub record Yields {T A : Type 0} (p : Reader T A) (P : A → List T → Type 0) : Type 0 where
  pub yields : (ts : List T) → YieldsAt p P ts

-- ---- an answer, a refusal, a choice

module _ {T A : Type 0} where
  pub yields_pure : (x : A) (Q : A → List T → Type 0) → Q x [] → Yields (pure x) Q
  yields_pure x Q q = record {
    yields = λ ts r y e.
        let k = ok_pair _ _ _ _ e in
        ([], k.1, subst (λ (y : A). Q y []) k.0 q);
  }

  pub yields_refuse : (Q : A → List T → Type 0) → Yields refuse Q
  yields_refuse Q = record { yields = λ ts r y e. absurd (cc) }

  pub yields_if : (b : Bool) (p q : Reader T A) (Q : A → List T → Type 0) → (b ≡ true → Yields p Q) → (b ≡ false → Yields q Q) → Yields (if b then p else q) Q
  yields_if b p q Q at_true at_false = go b refl
    where
      go : (c : Bool) → b ≡ c → Yields (cond c p q) Q
      go true e = at_true e
      go false e = at_false e

  pub yields_more : (p : Reader T A) (P Q : A → List T → Type 0) → Yields p P → ((x : A) (u : List T) → P x u → Q x u) → Yields p Q
  yields_more p P Q here more = record { yields = λ ts r x e. let a = here.yields ts r x e in (a.0, a.1, more x a.0 a.2) }

-- ---- one after another

-- a token, and what was taken after it
token_then : {T : Type 0} (t : T) (ts m u r : List T) → ts ≡ t ∷ m → m ≡ u ++ r → ts ≡ t ∷ (u ++ r)
token_then t ts m u r e f = e ∙ ap (λ m. t ∷ m) f

pub yields_bind : {T A B : Type 0} (p : Reader T A) (f : A → Reader T B) (P : A → List T → Type 0) (Q : B → List T → Type 0) → Yields p P →
    ((x : A) (u : List T) → P x u → Yields (f x) (λ y v. Q y (u ++ v))) → Yields (p >>= f) Q
yields_bind p f P Q here next = record {
  yields = λ ts r y e.
      let a = chain_ok p f ts r y e in
      let b = here.yields ts a.1 a.0 a.2 in
      let n = next a.0 b.0 b.2 in
      let c = n.yields a.1 r y a.3 in
      (b.0 ++ c.0, b.1 ∙ ap (λ m. b.0 ++ m) c.1 ∙ sym (append_assoc b.0 c.0 r), c.2);
}

-- a reader, and what is made of its answer
pub yields_made : {T A B : Type 0} (p : Reader T A) (f : A → B) (P : A → List T → Type 0) (Q : B → List T → Type 0) → Yields p P → ((x : A) (u : List T) → P x u → Q (f x) u) → Yields (p >>= (λ x. pure (f x))) Q
yields_made {T} {A} {B} p f P Q here made = record {
  yields = λ ts r y e.
      let a = chain_ok p (λ x. pure (f x)) ts r y e in
      let b = here.yields ts a.1 a.0 a.2 in
      let q = ok_pair _ _ _ _ a.3 in
      (b.0, b.1 ∙ ap (λ m. b.0 ++ m) q.1, subst (λ (y : B). Q y b.0) q.0 (made a.0 b.0 b.2));
}

-- an answer after the tokens u, where no more are taken
pub yields_stop : {T A : Type 0} (x : A) (Q : A → List T → Type 0) (u : List T) → Q x u → Yields (pure x) (λ y v. Q y (u ++ v))
yields_stop x Q u q = yields_pure x (λ y v. Q y (u ++ v)) (subst (λ u. Q x u) (sym (append-nil u)) q)

module _ {T A : Type 0} (test : T → Bool) where
  -- a token that has to be there
  pub yields_expect : (p : Unit {0} → Reader T A) (Q : A → List T → Type 0) → ((t : T) → test t ≡ true → Yields (p tt) (λ y v. Q y (t ∷ v))) → Yields (expect test >>= p) Q
  yields_expect p Q next = record {
    yields = λ ts r y e.
        let a = chain_ok (expect test) p ts r y e in
        let t = expect_ok test ts a.1 a.0 a.2 in
        let n = next t.0 t.1 in
        let c = n.yields a.1 r y a.3 in
        (t.0 ∷ c.0, token_then t.0 ts a.1 c.0 r t.2 c.1, c.2);
  }

  -- a token that may be there
  pub yields_eat : (p q : Reader T A) (Q : A → List T → Type 0) → ((t : T) → test t ≡ true → Yields p (λ y v. Q y (t ∷ v))) → Yields q Q →
      Yields (eat test >>= (λ b. if b then p else q)) Q
  yields_eat p q Q with_it without_it = record {
    yields = λ ts r y e.
        let a = chain_ok (eat test) (λ b. if b then p else q) ts r y e in
        elim (cond_at a.0 p q a.1 _ a.3) [
          | inl h ↦
              let t = eat_true test ts a.1 (subst (λ (b : Bool). eat test ts ≡ Ok (b, a.1)) h.0 a.2) in
              let n = with_it t.0 t.1 in
              let c = n.yields a.1 r y h.1 in
              (t.0 ∷ c.0, token_then t.0 ts a.1 c.0 r t.2 c.1, c.2)
          | inr h ↦
              let m = eat_false test ts a.1 (subst (λ (b : Bool). eat test ts ≡ Ok (b, a.1)) h.0 a.2) in
              let c = without_it.yields a.1 r y h.1 in
              (c.0, m.0 ∙ c.1, c.2)
        ];
  }

  -- where the grammar writes the token as `make e`
  module _ {E : Type 0} (make : E → T) (made : (t : T) → test t ≡ true → (e : E) × (t ≡ make e)) where
    pub yields_expect_made : (p : Unit {0} → Reader T A) (Q : A → List T → Type 0) → ((e : E) → Yields (p tt) (λ y v. Q y (make e ∷ v))) → Yields (expect test >>= p) Q
    yields_expect_made p Q next = yields_expect p Q (λ t h.
        let m = made t h in
        subst (λ (t : T). Yields (p tt) (λ y v. Q y (t ∷ v))) (sym m.1) (next m.0))

    pub yields_eat_made : (p q : Reader T A) (Q : A → List T → Type 0) → ((e : E) → Yields p (λ y v. Q y (make e ∷ v))) → Yields q Q →
        Yields (eat test >>= (λ b. if b then p else q)) Q
    yields_eat_made p q Q with_it without_it = yields_eat p q Q (λ t h.
        let m = made t h in
        subst (λ (t : T). Yields p (λ y v. Q y (t ∷ v))) (sym m.1) (with_it m.0)) without_it

-- a token that has to give something
pub yields_want : {T A : Type 0} (f : T → Option A) (Q : A → List T → Type 0) → ((t : T) (x : A) → f t ≡ Some x → Q x (t ∷ [])) → Yields (want f) Q
yields_want f Q one = record { yields = λ ts r x e. let t = want_ok f ts r x e in (t.0 ∷ [], t.2, one t.0 x t.1) }

-- ---- a choice by a look at the next token, and the token taken after it

module _ {T A : Type 0} where
  pub yields_after_look : {K : Type 0} (f : Option T → K) (g : K → Reader T A) (Q : A → List T → Type 0) → ((ts : List T) → YieldsAt (g (f (first_of ts))) Q ts) → Yields (look f >>= g) Q
  yields_after_look {K} f g Q next = record {
    yields = λ ts r y e.
        let a = chain_ok (look f) g ts r y e in
        let q = ok_pair _ _ _ _ a.2 in
        let P : K → List T → Type 0 = λ k m. g k m ≡ Ok (y, r) in
        next ts r y (subst (λ m. P (f (first_of ts)) m) (sym q.1) (subst (λ k. P k a.1) (sym q.0) a.3));
  }

  pub yields_after_take : (t : T) (p : Reader T A) (Q : A → List T → Type 0) (ts : List T) → Yields p (λ y v. Q y (t ∷ v)) → YieldsAt (take >> p) Q (t ∷ ts)
  yields_after_take t p Q ts next r y e =
      let a = chain_ok take (λ _. p) (t ∷ ts) r y e in
      let q = ok_pair _ _ _ _ a.2 in
      let c = next.yields ts r y (subst (λ m. p m ≡ Ok (y, r)) (sym q.1) a.3) in
      (t ∷ c.0, ap (λ m. t ∷ m) c.1, c.2)

  pub yields_if_at : (b : Bool) (p q : Reader T A) (Q : A → List T → Type 0) (ts : List T) → (b ≡ true → YieldsAt p Q ts) → (b ≡ false → YieldsAt q Q ts) → YieldsAt (if b then p else q) Q ts
  yields_if_at b p q Q ts at_true at_false = go b refl
    where
      go : (c : Bool) → b ≡ c → YieldsAt (cond c p q) Q ts
      go true e = at_true e
      go false e = at_false e

-- ---- a repeated step

-- what holds of the tokens taken after a turn: the invariant where it goes on, what is wanted where it is the last
abbrev pub Turned : {T S : Type 0} → (S → List T → Type 0) → (S → List T → Type 0) → S × Bool → List T → Type 0
Turned Inv Done (s, true) u = Inv s u
Turned Inv Done (s, false) u = Done s u

module _ {T S : Type 0} (step : S → Reader T (S × Bool)) (Inv Done : S → List T → Type 0)
    (each : (s : S) (u : List T) → Inv s u → Yields (step s) (λ y v. Turned Inv Done y (u ++ v))) where
  turns_yield : (n : ℕ) (s x : S) (u ts r : List T) → length ts < n → Inv s u → many step s ts ≡ Ok (x, r) → (v : List T) × (ts ≡ v ++ r) × Done x (u ++ v)
  turns_yield zero s x u ts r h i e = absurd (omega arith)
  turns_yield (suc n) s x u ts r h i e = go (turns_yield n) (step s ts) refl
    where
      Later : Type 0
      Later = (s x : S) (u ts r : List T) → length ts < n → Inv s u → many step s ts ≡ Ok (x, r) → (v : List T) × (ts ≡ v ++ r) × Done x (u ++ v)

      again : ((s x : S) (u ts r : List T) → length ts < n → Inv s u → many step s ts ≡ Ok (x, r) → (v : List T) × (ts ≡ v ++ r) × Done x (u ++ v)) →
          (y : S) (m : List T) → step s ts ≡ Ok ((y, true), m) → (b : Bool) → nat_lt (length m) (length ts) ≡ b → (v : List T) × (ts ≡ v ++ r) × Done x (u ++ v)
      again later y m d false l = let q = many_stuck step s ts y m d l in absurd (cc)
      again later y m d true l =
          let a = (each s u i).yields ts m (y, true) d in
          let b = later y x (u ++ a.0) m r (omega (arith, ltb-true _ _ l)) a.2 (sym (many_again step s ts y m d (ltb-true _ _ l)) ∙ e) in
          (a.0 ++ b.0, a.1 ∙ ap (λ w. a.0 ++ w) b.1 ∙ sym (append_assoc a.0 b.0 r), rw (← append_assoc) b.2)

      go : ((s x : S) (u ts r : List T) → length ts < n → Inv s u → many step s ts ≡ Ok (x, r) → (v : List T) × (ts ≡ v ++ r) × Done x (u ++ v)) →
          (o : Outcome T (S × Bool)) → step s ts ≡ o → (v : List T) × (ts ≡ v ++ r) × Done x (u ++ v)
      go later (Err m) d = let q = many_err step s ts m d in absurd (cc)
      go later (Ok ((y, true), m)) d = again later y m d (nat_lt (length m) (length ts)) refl
      go later (Ok ((y, false), m)) d =
          let q = ok_pair _ _ _ _ (sym (many_done step s ts y m d) ∙ e) in
          let P : S → List T → Type 0 = λ y m. (v : List T) × (ts ≡ v ++ m) × Done y (u ++ v) in
          subst (P x) q.1 (subst (λ y. P y m) q.0 ((each s u i).yields ts m (y, false) d))

  pub yields_many : (s : S) → Inv s [] → Yields (many step s) Done
  yields_many s i = record { yields = λ ts r x e. turns_yield (suc (length ts)) s x [] ts r (omega arith) i e }

  -- the step repeated after the tokens u, which the invariant speaks of
  pub yields_many_after : (s : S) (u : List T) → Inv s u → Yields (many step s) (λ y v. Done y (u ++ v))
  yields_many_after s u i = record { yields = λ ts r x e. turns_yield (suc (length ts)) s x u ts r (omega arith) i e }

-- ---- a text

closed_ok : {T A : Type 0} (is_end : T → Bool) (x y : A) (m r : List T) → (expect is_end >>= (λ _. nothing >>= (λ _. pure x))) m ≡ Ok (y, r) →
    (t : T) × (is_end t ≡ true) × (m ≡ t ∷ []) × (r ≡ []) × (x ≡ y)
closed_ok is_end x y m r e =
    let b = chain_ok (expect is_end) (λ _. nothing >>= (λ _. pure x)) m r y e in
    let t = expect_ok is_end m b.1 b.0 b.2 in
    let c = chain_ok nothing (λ _. pure x) b.1 r y b.3 in
    let n = nothing_ok b.1 c.1 c.0 c.2 in
    let q = ok_pair _ _ _ _ c.3 in
    (t.0, t.1, t.2 ∙ ap (λ m. t.0 ∷ m) n.0, sym q.1 ∙ n.1, q.0)

pub whole_yields : {T A : Type 0} (is_end : T → Bool) (p : Reader T A) (P : A → List T → Type 0) → Yields p P → (ts r : List T) (x : A) → whole is_end p ts ≡ Ok (x, r) →
    (u : List T) × (at : T) × (is_end at ≡ true) × (ts ≡ u ++ at ∷ []) × (r ≡ []) × P x u
unfolding whole
whole_yields {T} {A} is_end p P here ts r x e =
    let a = chain_ok p (λ x. expect is_end >>= (λ _. nothing >>= (λ _. pure x))) ts r x e in
    let f = here.yields ts a.1 a.0 a.2 in
    let c = closed_ok is_end a.0 x a.1 r a.3 in
    (f.0, c.0, c.1, f.1 ∙ ap (λ m. f.0 ++ m) c.2, c.3, subst (λ (x : A). P x f.0) c.4 f.2)

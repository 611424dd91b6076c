-- Rules for locality: one line a rule of a grammar.
--
-- The grammar's author says once of each test that no end passes it (PassesNoEnd, GivesNoEnd), in a ruleset; then
--   local_rule : Local is_end rule
--   unfolding rule
--   local_rule ts = search (locally, no_ends, local_part) depth 12
-- where `local_part` stands for what is known of the readers that the rule calls (hypotheses are found by
-- themselves), and `local_many` is listed where the rule repeats a step. A rule that looks at the next token and takes
-- it afterwards wants two lines by hand:
--   local_rule ts = local_after_look is_end f g ts (go ts)
--   go [] = ..            go (t ∷ ts) = .. local_after_take is_end p t ts (gives_no_end is_end f end t x e) local_p
-- `want` and `eat` need none of that: a token of the kind Name with its text is `want (text_if same Name)`, its rule is
-- `local_want`.
use Rattle.std.proofs.Common.{◌≡◌, ℕ, zero, suc, ◌<◌, ◌≤◌, Bool, true, false, nat_lt, List, [], ◌∷◌, ◌++◌, length, length-append, append_assoc, Option, Some, None, Ok, Err, refl, sym, ap, ◌∙◌, arith, subst, cond, if◌then◌else◌}
use Rattle.std.proofs.lemmas.Bool.{ltb-true, ltb-false, le-ltb}
use Rattle.mh_reader.specs.Reader.{Outcome, Reader, ◌>>=◌, and_then, chain, pure, first_of, sees, peek, look, take, eat, expect, offer, want, many}
use Rattle.mh_reader.specs.Locality.{NoEnd, Takes, LocalAt, Local, PassesNoEnd, GivesNoEnd}
use Rattle.mh_reader.proofs.Turns.{many_err, many_done, many_again, many_stuck}
use Rattle.mh_reader.proofs.Steps.{eat_yes, eat_no, expect_yes, expect_no, want_yes, want_no}

-- ---- lists

pub NoEnd-append : {T : Type 0} (is_end : T → Bool) (u v : List T) → NoEnd is_end u → NoEnd is_end v → NoEnd is_end (u ++ v)
NoEnd-append is_end [] v p q = q
NoEnd-append is_end (t ∷ u) v p q = (p.0, NoEnd-append is_end u v p.1 q)

-- the first token of what follows is settled by what was taken, or else by the next token
pub first_along : {T : Type 0} (u r s : List T) → first_of r ≡ first_of s → first_of (u ++ r) ≡ first_of (u ++ s)
first_along [] r s e = e
first_along (t ∷ u) r s e = refl

some_is : {T : Type 0} (t t' : T) → ◌≡◌ {A = Option T} (Some t) (Some t') → t ≡ t'
some_is t t' e = cc

pub sees_same : {T : Type 0} (test : T → Bool) (r s : List T) → first_of r ≡ first_of s → sees test r ≡ sees test s
sees_same test [] [] e = refl
sees_same test [] (t ∷ s) e = cc
sees_same test (t ∷ r) [] e = cc
sees_same test (t ∷ r) (t' ∷ s) e = ap test (some_is t t' e)

pub offer_same : {T A : Type 0} (f : T → Option A) (r s : List T) → first_of r ≡ first_of s → offer f r ≡ offer f s
offer_same f [] [] e = refl
offer_same f [] (t ∷ s) e = cc
offer_same f (t ∷ r) [] e = cc
offer_same f (t ∷ r) (t' ∷ s) e = ap f (some_is t t' e)

-- ---- the rules

module _ {T A : Type 0} (is_end : T → Bool) where
  pub local_pure : (x : A) → Local is_end (pure x)
  local_pure x ts = ([], record { plain = tt; split = refl; same = λ r e. refl })

  pub local_refuse : Local {A = A} is_end (λ ts. Err ts)
  local_refuse ts = ([], record { plain = tt; split = refl; same = λ r e. refl })

  pub local_look : (f : Option T → A) → Local is_end (look f)
  local_look f ts = ([], record { plain = tt; split = refl; same = λ r e. ap (λ (o : Option T). Ok (f o, r)) e })

  pub local_if : (b : Bool) (p q : Reader T A) (ts : List T) → (b ≡ true → LocalAt is_end p ts) → (b ≡ false → LocalAt is_end q ts) → LocalAt is_end (if b then p else q) ts
  local_if b p q ts at_true at_false = go b refl
    where
      go : (c : Bool) → b ≡ c → LocalAt is_end (cond c p q) ts
      go true e = at_true e
      go false e = at_false e

  pub local_by : (p : Reader T A) (ts u : List T) (o : Outcome T A) → p ts ≡ o → Takes is_end p o ts u → LocalAt is_end p ts
  local_by p ts u o e t = subst (λ (o : Outcome T A). (u : List T) × Takes is_end p o ts u) (sym e) (u, t)

pub local_peek : {T : Type 0} (is_end : T → Bool) → Local is_end peek
local_peek is_end ts = ([], record { plain = tt; split = refl; same = λ r e. ap (λ k. Ok (k, r)) e })

module _ {T A B : Type 0} (is_end : T → Bool) where
  pub local_bind : (p : Reader T A) (f : A → Reader T B) (ts : List T) → LocalAt is_end p ts →
      ((x : A) (r : List T) → p ts ≡ Ok (x, r) → LocalAt is_end (f x) r) → LocalAt is_end (p >>= f) ts
  unfolding chain
  local_bind p f ts here later = go (p ts) refl here.0 here.1
    where
      go : (o : Outcome T A) → p ts ≡ o → (u : List T) → Takes is_end p o ts u → (u : List T) × Takes is_end (p >>= f) (and_then o f) ts u
      go (Err r) e u t = (u, record { plain = t.plain; split = t.split; same = λ s k. ap (λ o. and_then o f) (t.same s k) })
      go (Ok (x, r)) e u t =
          let n = later x r e in
          let v = n.0 in (
            u ++ v,
            record {
              plain = NoEnd-append is_end u v t.plain n.1.plain;
              split = t.split ∙ ap (λ m. u ++ m) n.1.split ∙ sym (append_assoc u v _);
              same = λ s k.
                  ap (λ m. and_then (p m) f) (append_assoc u v s)
                  ∙ ap (λ o. and_then o f) (t.same (v ++ s) (first_along v s _ k ∙ sym (ap first_of n.1.split)))
                  ∙ n.1.same s k;
            },
          )

  -- where it is known what the first reader answers
  pub local_then : (p : Reader T A) (f : A → Reader T B) (ts : List T) (x : A) (r : List T) → p ts ≡ Ok (x, r) → LocalAt is_end p ts → LocalAt is_end (f x) r → LocalAt is_end (p >>= f) ts
  local_then p f ts x r e here next = local_bind p f ts here (λ x' r' e'.
      let q : (x, r) ≡ (x', r') = cc (e, e') in
      let P : A × List T → Type 0 = λ q. LocalAt is_end (f q.0) q.1 in
      subst P q next)

-- ---- the steps

module _ {T : Type 0} (is_end test : T → Bool) (end : PassesNoEnd is_end test) where
  passed : (t : T) → test t ≡ true → is_end t ≡ false
  passed t e = go (is_end t) refl
    where
      go : (b : Bool) → is_end t ≡ b → is_end t ≡ false
      go true h = let n = end.not_passed t h in absurd (cc)
      go false h = h

  pub local_eat : Local is_end (eat test)
  local_eat [] = local_by is_end (eat test) [] [] (Ok (false, [])) (eat_no test [] refl)
      (record { plain = tt; split = refl; same = λ r e. eat_no test r (sees_same test r [] e) })
  local_eat (t ∷ ts) = go (test t) refl
    where
      go : (b : Bool) → test t ≡ b → LocalAt is_end (eat test) (t ∷ ts)
      go true e = local_by is_end (eat test) (t ∷ ts) (t ∷ []) (Ok (true, ts)) (eat_yes test t ts e)
          (record { plain = (passed t e, tt); split = refl; same = λ r h. eat_yes test t r e })
      go false e = local_by is_end (eat test) (t ∷ ts) [] (Ok (false, t ∷ ts)) (eat_no test (t ∷ ts) e)
          (record { plain = tt; split = refl; same = λ r h. eat_no test r (sees_same test r (t ∷ ts) h ∙ e) })

  pub local_expect : Local is_end (expect test)
  local_expect [] = local_by is_end (expect test) [] [] (Err []) (expect_no test [] refl)
      (record { plain = tt; split = refl; same = λ r e. expect_no test r (sees_same test r [] e) })
  local_expect (t ∷ ts) = go (test t) refl
    where
      go : (b : Bool) → test t ≡ b → LocalAt is_end (expect test) (t ∷ ts)
      go true e = local_by is_end (expect test) (t ∷ ts) (t ∷ []) (Ok (tt, ts)) (expect_yes test t ts e)
          (record { plain = (passed t e, tt); split = refl; same = λ r h. expect_yes test t r e })
      go false e = local_by is_end (expect test) (t ∷ ts) [] (Err (t ∷ ts)) (expect_no test (t ∷ ts) e)
          (record { plain = tt; split = refl; same = λ r h. expect_no test r (sees_same test r (t ∷ ts) h ∙ e) })

module _ {T A : Type 0} (is_end : T → Bool) (f : T → Option A) (end : GivesNoEnd is_end f) where
  pub gives_no_end : (t : T) (x : A) → f t ≡ Some x → is_end t ≡ false
  gives_no_end t x e = go (is_end t) refl
    where
      go : (b : Bool) → is_end t ≡ b → is_end t ≡ false
      go true h = let n = end.nothing_given t h in absurd (cc)
      go false h = h

  pub local_want : Local is_end (want f)
  local_want [] = local_by is_end (want f) [] [] (Err []) (want_no f [] refl)
      (record { plain = tt; split = refl; same = λ r e. want_no f r (offer_same f r [] e) })
  local_want (t ∷ ts) = go (f t) refl
    where
      go : (o : Option A) → f t ≡ o → LocalAt is_end (want f) (t ∷ ts)
      go (Some x) e = local_by is_end (want f) (t ∷ ts) (t ∷ []) (Ok (x, ts)) (want_yes f t ts x e)
          (record { plain = (gives_no_end t x e, tt); split = refl; same = λ r h. want_yes f t r x e })
      go None e = local_by is_end (want f) (t ∷ ts) [] (Err (t ∷ ts)) (want_no f (t ∷ ts) e)
          (record { plain = tt; split = refl; same = λ r h. want_no f r (offer_same f r (t ∷ ts) h ∙ e) })

-- ---- a token that is taken after a look at it

pub local_take : {T : Type 0} (is_end : T → Bool) (t : T) (ts : List T) → is_end t ≡ false → LocalAt is_end take (t ∷ ts)
local_take is_end t ts e = (t ∷ [], record { plain = (e, tt); split = refl; same = λ r h. refl })

pub local_after_take : {T A : Type 0} (is_end : T → Bool) (p : Reader T A) (t : T) (ts : List T) → is_end t ≡ false → Local is_end p → LocalAt is_end (take >>= (λ _. p)) (t ∷ ts)
local_after_take is_end p t ts e local = local_bind is_end take (λ _. p) (t ∷ ts) (local_take is_end t ts e) (λ x r h. local r)

pub local_after_look : {T A B : Type 0} (is_end : T → Bool) (f : Option T → A) (g : A → Reader T B) (ts : List T) → LocalAt is_end (g (f (first_of ts))) ts → LocalAt is_end (look f >>= g) ts
local_after_look is_end f g ts next = local_then is_end (look f) g ts (f (first_of ts)) ts refl (local_look is_end f ts) next

-- ---- what follows from locality

pub shorter : {T A : Type 0} (is_end : T → Bool) (p : Reader T A) → Local is_end p → (ts : List T) (x : A) (r : List T) → p ts ≡ Ok (x, r) → length r ≤ length ts
shorter {T} {A} is_end p local ts x r e =
    let P : Outcome T A → Type 0 = λ o. (u : List T) × Takes is_end p o ts u in
    let t : (u : List T) × Takes is_end p (Ok (x, r)) ts u = subst P e (local ts) in
    omega (arith, ap length t.1.split, length-append t.0 r)

-- ---- a repeated step

module _ {T S : Type 0} (is_end : T → Bool) (step : S → Reader T (S × Bool)) (each : (s : S) → Local is_end (step s)) where
  local_turns : (n : ℕ) (s : S) (ts : List T) → length ts < n → LocalAt is_end (many step s) ts
  local_turns zero s ts h = absurd (omega arith)
  local_turns (suc n) s ts h = go (local_turns n) (step s ts) refl (each s ts).0 (each s ts).1
    where
      by : (u : List T) (o : Outcome T S) → many step s ts ≡ o → Takes is_end (many step s) o ts u → LocalAt is_end (many step s) ts
      by u o e t = local_by is_end (many step s) ts u o e t

      stuck : (x : S) (r u : List T) → step s ts ≡ Ok ((x, true), r) → Takes is_end (step s) (Ok ((x, true), r)) ts u → nat_lt (length r) (length ts) ≡ false → LocalAt is_end (many step s) ts
      stuck x r [] e t f = by [] (Err ts) (many_stuck step s ts x r e f)
          (record { plain = tt; split = refl; same = λ r' k. many_stuck step s r' x r' (t.same r' (k ∙ ap first_of t.split)) (le-ltb (length r') (length r') (omega arith)) })
      stuck x r (a ∷ u) e t f = absurd (omega (arith, ltb-false _ _ f, ap length t.split, length-append u r))

      again : ((s : S) (ts : List T) → length ts < n → LocalAt is_end (many step s) ts) → (x : S) (r u : List T) → step s ts ≡ Ok ((x, true), r) → Takes is_end (step s) (Ok ((x, true), r)) ts u → (b : Bool) → nat_lt (length r) (length ts) ≡ b → LocalAt is_end (many step s) ts
      again later x r u e t false f = stuck x r u e t f
      again later x r u e t true f =
          let l : length r < length ts = ltb-true _ _ f in
          let m = later x r (omega arith) in
          let v = m.0 in
          by (u ++ v) (many step x r) (many_again step s ts x r e l) (record {
            plain = NoEnd-append is_end u v t.plain m.1.plain;
            split = t.split ∙ ap (λ w. u ++ w) m.1.split ∙ sym (append_assoc u v _);
            same = λ r' k.
                ap (many step s) (append_assoc u v r')
                ∙ many_again step s (u ++ (v ++ r')) x (v ++ r') (t.same (v ++ r') (first_along v r' _ k ∙ sym (ap first_of m.1.split))) (omega (arith, length-append u (v ++ r'), ap length t.split, length-append u r))
                ∙ m.1.same r' k;
          })

      go : ((s : S) (ts : List T) → length ts < n → LocalAt is_end (many step s) ts) → (o : Outcome T (S × Bool)) → step s ts ≡ o → (u : List T) → Takes is_end (step s) o ts u → LocalAt is_end (many step s) ts
      go later (Err r) e u t = by u (Err r) (many_err step s ts r e)
          (record { plain = t.plain; split = t.split; same = λ r' k. many_err step s (u ++ r') r' (t.same r' k) })
      go later (Ok ((x, false), r)) e u t = by u (Ok (x, r)) (many_done step s ts x r e)
          (record { plain = t.plain; split = t.split; same = λ r' k. many_done step s (u ++ r') x r' (t.same r' k) })
      go later (Ok ((x, true), r)) e u t = again later x r u e t (nat_lt (length r) (length ts)) refl

  pub local_many : (s : S) → Local is_end (many step s)
  local_many s ts = local_turns (suc (length ts)) s ts (omega arith)

pub ruleset locally = (local_bind, local_pure, local_refuse, local_if, local_eat, local_expect, local_want, local_look, local_peek)

-- A repeated step, a turn at a time.
--
-- For the loop of the code that makes the step, whose invariant is
--   outcome ≡ many step (the state) (the tokens)
-- `loop_err` answers its exit by `?`, `loop_done` its last turn, `loop_again` that the invariant is kept. The measure
-- is `length` of the tokens, and Advances gives that it falls.
use Rattle.std.proofs.Common.{◌≡◌, ℕ, zero, suc, ◌<◌, Bool, true, false, nat_lt, List, length, Ok, Err, refl, ap, ◌∙◌, arith, subst, cond}
use Rattle.std.proofs.lemmas.Bool.{lt-ltb, ltb-true}
use Rattle.mh_reader.specs.declared.fault.Fault.{Fault}
use Rattle.mh_reader.specs.declared.fault.Fault.TheVariants.{Memory, Syntax}
use Rattle.mh_reader.specs.Reader.{Outcome, Reader, Reads, after_turn, turns, many}

-- more turns than there are tokens change nothing
enough : {T S : Type 0} (step : S → Reader T (S × Bool)) (n m : ℕ) (s : S) (ts : List T) → length ts < n → length ts < m → turns step n s ts ≡ turns step m s ts
unfolding turns
enough step zero m s ts h k = absurd (omega arith)
enough step (suc n) zero s ts h k = absurd (omega arith)
enough {T} {S} step (suc n) (suc m) s ts h k = go (enough step n m) (step s ts)
  where
    short : (s : S) (r : List T) (b : Bool) → nat_lt (length r) (length ts) ≡ b → (length r < length ts → turns step n s r ≡ turns step m s r) →
        cond b (turns step n s r) (Err ts) ≡ cond b (turns step m s r) (Err ts)
    short s r true e again = again (ltb-true _ _ e)
    short s r false e again = refl

    go : ((s : S) (ts : List T) → length ts < n → length ts < m → turns step n s ts ≡ turns step m s ts) → (o : Outcome T (S × Bool)) → after_turn (turns step n) ts o ≡ after_turn (turns step m) ts o
    go again (Err r) = refl
    go again (Ok ((s', true), r)) = short s' r (nat_lt (length r) (length ts)) refl (λ l. again s' r (omega arith) (omega arith))
    go again (Ok ((s', false), r)) = refl

module _ {T S : Type 0} (step : S → Reader T (S × Bool)) (s : S) (ts : List T) where
  -- the step refuses
  pub many_err : (r : List T) → step s ts ≡ Err r → many step s ts ≡ Err r
  unfolding many turns
  many_err r e = ap (after_turn (turns step (length ts)) ts) e

  -- the step was the last one
  pub many_done : (x : S) (r : List T) → step s ts ≡ Ok ((x, false), r) → many step s ts ≡ Ok (x, r)
  unfolding many turns
  many_done x r e = ap (after_turn (turns step (length ts)) ts) e

  -- the step goes on and took a token
  pub many_again : (x : S) (r : List T) → step s ts ≡ Ok ((x, true), r) → length r < length ts → many step s ts ≡ many step x r
  unfolding many turns
  many_again x r e h = ap (after_turn (turns step (length ts)) ts) e ∙ rw (lt-ltb _ _ h) (enough step (length ts) (suc (length r)) x r h (omega arith))

  -- the step goes on and took nothing
  pub many_stuck : (x : S) (r : List T) → step s ts ≡ Ok ((x, true), r) → nat_lt (length r) (length ts) ≡ false → many step s ts ≡ Err ts
  unfolding many turns
  many_stuck x r e h = ap (after_turn (turns step (length ts)) ts) e ∙ rw h refl

-- ---- for a loop in the code that makes the step, where `outcome` is what all its turns give

module _ {T S : Type 0} (step : S → Reader T (S × Bool)) (outcome : Outcome T S) (s : S) (ts : List T) (so_far : outcome ≡ many step s ts) where
  pub loop_err : (f : Fault) (r : List T) → Reads (step s ts) (Err f) r → Reads outcome (Err f) r
  loop_err Memory r h = tt
  loop_err Syntax r h = so_far ∙ many_err step s ts r h

  pub loop_done : (x : S) (b : Bool) (r : List T) → b ≡ false → step s ts ≡ Ok ((x, b), r) → outcome ≡ Ok (x, r)
  loop_done x b r h e = so_far ∙ many_done step s ts x r (subst (λ (b : Bool). step s ts ≡ Ok ((x, b), r)) h e)

  pub loop_again : (x : S) (b : Bool) (r : List T) → b ≡ true → step s ts ≡ Ok ((x, b), r) → length r < length ts → outcome ≡ many step x r
  loop_again x b r h e l = so_far ∙ many_again step s ts x r (subst (λ (b : Bool). step s ts ≡ Ok ((x, b), r)) h e) l

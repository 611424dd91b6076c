-- Assignments to locals.
use Rattle.std.proofs.Common.{ℕ, ℤ, pos, ◌≡◌, ◌≤◌, length, Result, Ok, Err, refl, ap, sym, ◌∙◌}
use Rattle.std.proofs.Math.ListN.{get_or-eq_default}
use Rattle.mh_num.specs.declared.bounds.OutOfBounds.{OutOfBounds}
use Rattle.mh_num.specs.declared.bounds.Bounds.{Bounds}
use Rattle.mh_design.specs.declared.statement.Binding.{Binding}
use Rattle.mh_design.specs.declared.statement.Binding.TheVariants as binding
use Rattle.mh_design.specs.Values.{Limits, Held, Store, Fault, Between, local_at, no_local, held_operand, integer}
use Rattle.mh_design.specs.Assignments.{LocalSpot, taken, with_held, bound_to, whole_assigned}
use Rattle.mh_gen.specs.Answers.{held_result, local_result}

-- what a local has taken is what the store has
pub held-taken : (s : Store) (n : ℕ) (l : Limits) (r : Result ℤ OutOfBounds) → with_held s n l r ≡ local_result s n (held_result l r)
held-taken s n l (Ok z) = refl
held-taken s n l (Err e) = refl

pub ruleset held_laws = (held-taken)

-- a local that is bound to a bounded number
pub bounded-bound : (s : Store) (n : ℕ) (k : Binding) (b : Bounds) (v : ℤ) (r : Result Held Fault) → k ≡ binding.Bounded b → r ≡ held_result (Between b.lo b.top b.wraps) (taken (Between b.lo b.top b.wraps) v) → local_result s n r ≡ bound_to s n k v
bounded-bound s n k b v r e h =
    ap (local_result s n) h
    ∙ sym (held-taken s n (Between b.lo b.top b.wraps) (taken (Between b.lo b.top b.wraps) v))
    ∙ ap (λ x. bound_to s n x v) (sym e)

-- a local that takes a value
pub taken-whole : (s : Store) (n : ℕ) (v : ℤ) (h : Held) (r : Result Held Fault) → h ≡ local_at s n → r ≡ held_result h.limits (taken h.limits v) → local_result s n r ≡ whole_assigned s v (LocalSpot n)
taken-whole s n v h r e f =
    ap (local_result s n) f
    ∙ sym (held-taken s n h.limits (taken h.limits v))
    ∙ ap (λ x. with_held s n x.limits (taken x.limits v)) e

-- what stands at a number that names no local
pub local-outside : (s : Store) (n : ℕ) → length s.locals ≤ n → local_at s n ≡ no_local
local-outside s n h = get_or-eq_default s.locals no_local h

pub operand-outside : (s : Store) (n : ℕ) → length s.locals ≤ n → held_operand (local_at s n) ≡ integer (pos 0)
operand-outside s n h = ap held_operand (local-outside s n h)

pub ruleset outside_laws = (operand-outside)

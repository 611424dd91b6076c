-- What fits a store fits it after an assignment.
use Rattle.std.specs.Prelude.{ℕ, ℤ, pos, ◌+◌, ◌+ℤ◌, ◌-ℤ◌, ◌≡◌, Bool, true, false, length, IsTrue, Result, Ok, Err, unsigned_abs, if◌then◌else◌}
use Rattle.std.proofs.Common.{subst, sym, ◌∙◌, refl}
use Rattle.std.proofs.lemmas.List.{length-set}
use Rattle.mh_codes.specs.Ranges.{is_inside}
use Rattle.mh_num.specs.declared.bounds.OutOfBounds.{OutOfBounds}
use Rattle.mh_flow.specs.Words.{Keeps}
use Rattle.mh_design.specs.declared.statement.Binding.{Binding}
use Rattle.mh_design.specs.declared.statement.Binding.TheVariants as binding
use Rattle.mh_design.specs.Tree.{Expression, LeftSide, Whole, LeftBit, LeftSlice, Bind}
use Rattle.mh_design.specs.Values.{Limits, Store, Fault, Between, with_value, inside, indexed, with_ends, value_of, local_at}
use Rattle.mh_design.specs.Assignments.{taken, part_taken, pending_is, set_pending, limits_at, pending_at, Spot, SignalSpot, LocalSpot, spot_of, spot_width, set_local, with_signals, with_held, whole_assigned, part_assigned, bit_assigned, slice_assigned, low_limits, bound_to, assigned, counted, left_is_named, is_named, IsEven, FitsExpression, FitsLeft}

abbrev FitsSet : LeftSide → Expression → Store → Type 0
FitsSet t e s = FitsLeft t s

-- The second store has the design, as many signals and as many locals as the first.
pub record Alike (s t : Store) : Type 0 where
  pub design : t.design ≡ s.design
  pub values : length t.signals.values ≡ length s.signals.values
  pub locals : length t.locals ≡ length s.locals
  pub even : IsEven s.signals → IsEven t.signals

named_alike : (e : Expression) (s t : Store) → Alike s t → FitsExpression e s → FitsExpression e t
named_alike e s t a h =
    subst (λ d. IsTrue (is_named d (length t.signals.values) (length t.locals) e)) (sym a.design) (subst (λ n. IsTrue (is_named s.design n
    (length t.locals) e)) (sym a.values) (subst (λ m. IsTrue (is_named s.design (length s.signals.values) m e)) (sym a.locals) h))

left_alike : (p : LeftSide) (s t : Store) → Alike s t → FitsLeft p s → FitsLeft p t
left_alike p s t a h = (
  subst (λ d. IsTrue (left_is_named d (length t.signals.values) (length t.locals) p)) (sym a.design) (subst (λ n. IsTrue (left_is_named s.design n
      (length t.locals) p)) (sym a.values) (subst (λ m. IsTrue (left_is_named s.design (length s.signals.values) m p)) (sym a.locals) h.0)),
  a.even h.1,
)

pub keeps : (s t : Store) → Alike s t → Keeps FitsExpression FitsSet FitsLeft s t
keeps s t a =
    record { exprs = λ e h. named_alike e s t a h; sets = λ p e h. left_alike p s t a h; counts = λ p h. left_alike p s t a h }

same : (s t : Store) → s ≡ t → Alike s t
same s t e = subst (λ x. Alike s x) e (record { design = refl; values = refl; locals = refl; even = λ h. h })

-- Steps of an assignment that has succeeded have succeeded.
value_ok : {A B : Type 0} (r : Result A Fault) (f : A → Result B Fault) (t : B) → with_value r f ≡ Ok t → (x : A) × (f x ≡ Ok t)
value_ok (Ok x) f t h = (x, h)
value_ok (Err e) f t h = cc

tested_ok : {A : Type 0} (b : Bool) (r : Result A Fault) (e : Fault) (t : A) → (if b then r else Err e) ≡ Ok t → r ≡ Ok t
tested_ok true r e t h = h
tested_ok false r e t h = cc

inside_ok : {A : Type 0} (z low high : ℤ) (r : Result A Fault) (t : A) → inside z low high r ≡ Ok t → r ≡ Ok t
inside_ok z low high r t h = tested_ok (is_inside low high z) r _ t h

indexed_ok : {A : Type 0} (z : ℤ) (n : ℕ) (r : Result A Fault) (t : A) → indexed z n r ≡ Ok t → r ≡ Ok t
indexed_ok z n r t h = inside_ok z (pos 0) (pos n -ℤ pos 1) r t h

ends_ok : {A : Type 0} (i j : ℤ) (w : ℕ) (r : Result A Fault) (t : A) → with_ends i j w r ≡ Ok t → r ≡ Ok t
ends_ok i j w r t h =
    inside_ok i (j +ℤ pos 1) (pos w) r t (indexed_ok j w (inside i (j +ℤ pos 1) (pos w) r) t h)

-- What becomes of signals and locals.
pending_alike : (s : Store) (n : ℕ) (r : Result ℤ OutOfBounds) (t : Store) → with_signals s (pending_is s.signals n r) ≡ Ok t → Alike s t
pending_alike s n (Ok z) t h =
    let e : record s { signals = set_pending s.signals n z } ≡ t = cc in
    subst (λ x. Alike s x) e (record { design = refl; values = refl; locals = refl; even = λ i. (i.0, length-set s.signals.pending n z ∙ i.1) })
pending_alike s n (Err e) t h = cc

held_alike : (s : Store) (n : ℕ) (l : Limits) (r : Result ℤ OutOfBounds) (t : Store) → with_held s n l r ≡ Ok t → Alike s t
held_alike s n l (Ok z) t h =
    let e : set_local s n (record { value = z; limits = l }) ≡ t = cc in
    subst (λ x. Alike s x) e (record { design = refl; values = refl; locals = length-set s.locals n _; even = λ i. i })
held_alike s n l (Err e) t h = cc

whole_alike : (s : Store) (v : ℤ) (p : Spot) (t : Store) → whole_assigned s v p ≡ Ok t → Alike s t
whole_alike s v (SignalSpot n) t h = pending_alike s n (taken (limits_at s.signals n) v) t h
whole_alike s v (LocalSpot n) t h =
    held_alike s n (local_at s n).limits (taken (local_at s n).limits v) t h

part_alike : (s : Store) (v : ℤ) (p : Spot) (i j : ℕ) (t : Store) → part_assigned s v p i j ≡ Ok t → Alike s t
part_alike s v (SignalSpot n) i j t h =
    pending_alike s n (part_taken (limits_at s.signals n) i j (pending_at s.signals n) v) t h
part_alike s v (LocalSpot n) i j t h =
    held_alike s n (local_at s n).limits (part_taken (local_at s n).limits i j (local_at s n).value v) t h

bound_alike : (s : Store) (n : ℕ) (b : Binding) (v : ℤ) (t : Store) → bound_to s n b v ≡ Ok t → Alike s t
bound_alike s n binding.Plain v t h = held_alike s n (local_at s n).limits (Ok v) t h
bound_alike s n (binding.Bounded b) v t h =
    held_alike s n (Between b.lo b.top b.wraps) (taken (Between b.lo b.top b.wraps) v) t h
bound_alike s n (binding.LowBits k wraps) v t h = held_alike s n (low_limits k wraps) (Ok _) t h

assigned_alike : (p : LeftSide) (v : ℤ) (s t : Store) → assigned p v s ≡ Ok t → Alike s t
assigned_alike (Whole b) v s t h =
    let x = value_ok (spot_of b s) (whole_assigned s v) t h in
    whole_alike s v x.0 t x.1
assigned_alike (LeftBit b i) v s t h =
    let x = value_ok (spot_of b s) (λ p. with_value (value_of i s) (bit_assigned s v p)) t h in
    let y = value_ok (value_of i s) (bit_assigned s v x.0) t x.1 in
    part_alike s v x.0 _ _ t (indexed_ok y.0 (spot_width s x.0) (part_assigned s v x.0 (unsigned_abs y.0 + 1) (unsigned_abs y.0)) t y.1)
assigned_alike (LeftSlice b i j) v s t h =
    let x = value_ok (spot_of b s) (λ p. with_value (value_of i s) (λ a. with_value (value_of j s) (slice_assigned s v p a))) t h in
    let y = value_ok (value_of i s) (λ a. with_value (value_of j s) (slice_assigned s v x.0 a)) t x.1 in
    let z = value_ok (value_of j s) (slice_assigned s v x.0 y.0) t y.1 in
    let r = part_assigned s v x.0 (unsigned_abs y.0) (unsigned_abs z.0) in
    part_alike s v x.0 _ _ t (ends_ok y.0 z.0 (spot_width s x.0) r t z.1)
assigned_alike (Bind n b) v s t h = bound_alike s n b v t h

counted_alike : (p : LeftSide) (v : ℤ) (s : Store) → Alike s (counted p v s)
counted_alike (Whole b) v s = same s s refl
counted_alike (LeftBit b i) v s = same s s refl
counted_alike (LeftSlice b i j) v s = same s s refl
counted_alike (Bind n b) v s =
    record { design = refl; values = refl; locals = length-set s.locals n _; even = λ i. i }

pub assign_keeps : (p : LeftSide) (v : ℤ) (s s' : Store) → assigned p v s ≡ Ok s' → Keeps FitsExpression FitsSet FitsLeft s s'
assign_keeps p v s s' h = keeps s s' (assigned_alike p v s s' h)

pub count_keeps : (p : LeftSide) (n : ℤ) (s : Store) → Keeps FitsExpression FitsSet FitsLeft s (counted p n s)
count_keeps p n s = keeps s (counted p n s) (counted_alike p n s)

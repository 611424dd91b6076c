-- An evaluation changes pending values and locals alone.
use Rattle.std.proofs.Common.{◌≡◌, ℕ, ◌+◌, Bool, true, false, cond, [], ◌∷◌, length, refl, sym, ◌∙◌, subst}
use Rattle.std.specs.Prelude.{ℤ, pos, ◌+ℤ◌, ◌-ℤ◌, Result, Ok, Err, unsigned_abs, if◌then◌else◌}
use Rattle.std.proofs.lemmas.List.{length-set}
use Rattle.mh_codes.specs.Ranges.{is_inside}
use Rattle.mh_num.specs.declared.bounds.OutOfBounds.{OutOfBounds}
use Rattle.mh_flow.specs.declared.resumed.Resumed.{Resumed}
use Rattle.mh_flow.specs.declared.resumed.Resumed.TheVariants as resumed
use Rattle.mh_flow.specs.Flow as flow
use Rattle.mh_design.specs.declared.statement.Binding.{Binding}
use Rattle.mh_design.specs.declared.statement.Binding.TheVariants as binding
use Rattle.mh_design.specs.Tree.{Expression, LeftSide, Whole, LeftBit, LeftSlice, Bind}
use Rattle.mh_design.specs.Values.{Limits, Store, Fault, Between, with_value, inside, indexed, with_ends, value_of, local_at}
use Rattle.mh_design.specs.Assignments.{meaning, taken, part_taken, pending_is, set_pending, limits_at, pending_at, Spot, SignalSpot, LocalSpot, spot_of, spot_width, set_local, with_signals, with_held, whole_assigned, part_assigned, bit_assigned, slice_assigned, low_limits, bound_to, assigned, counted}
use Rattle.mh_design.specs.Deltas.{Left, Flows, turn_limit}

-- The second store has the design, the time, and of the signals all but the pending values of the first; and as many locals and pending
-- values.
pub record IsFramed (s t : Store) : Type 0 where
  pub design : t.design ≡ s.design
  pub time : t.time ≡ s.time
  pub values : t.signals.values ≡ s.signals.values
  pub waiters : t.signals.waiters ≡ s.signals.waiters
  pub limits : t.signals.limits ≡ s.signals.limits
  pub pending : length t.signals.pending ≡ length s.signals.pending
  pub locals : length t.locals ≡ length s.locals

pub unchanged : (s : Store) → IsFramed s s
unchanged s =
    record { design = refl; time = refl; values = refl; waiters = refl; limits = refl; pending = refl; locals = refl }

pub and_framed : {s t u : Store} → IsFramed s t → IsFramed t u → IsFramed s u
and_framed a b =
    record { design = b.design ∙ a.design; time = b.time ∙ a.time; values = b.values ∙ a.values; waiters = b.waiters ∙ a.waiters; limits = b.limits ∙ a.limits; pending = b.pending ∙ a.pending; locals = b.locals ∙ a.locals }

-- Steps of an assignment that has succeeded have succeeded.
value_ok : {A B : Type 0} (r : Result A Fault) (f : A → Result B Fault) (t : B) → with_value r f ≡ Ok t → (x : A) × (f x ≡ Ok t)
value_ok (Ok x) f t h = (x, h)
value_ok (Err e) f t h = absurd cc

tested_ok : {A : Type 0} (b : Bool) (r : Result A Fault) (e : Fault) (t : A) → (if b then r else Err e) ≡ Ok t → r ≡ Ok t
tested_ok true r e t h = h
tested_ok false r e t h = absurd cc

inside_ok : {A : Type 0} (z low high : ℤ) (r : Result A Fault) (t : A) → inside z low high r ≡ Ok t → r ≡ Ok t
inside_ok z low high r t h = tested_ok (is_inside low high z) r _ t h

indexed_ok : {A : Type 0} (z : ℤ) (n : ℕ) (r : Result A Fault) (t : A) → indexed z n r ≡ Ok t → r ≡ Ok t
indexed_ok z n r t h = inside_ok z (pos 0) (pos n -ℤ pos 1) r t h

ends_ok : {A : Type 0} (i j : ℤ) (w : ℕ) (r : Result A Fault) (t : A) → with_ends i j w r ≡ Ok t → r ≡ Ok t
ends_ok i j w r t h =
    inside_ok i (j +ℤ pos 1) (pos w) r t (indexed_ok j w (inside i (j +ℤ pos 1) (pos w) r) t h)

-- What becomes of signals and locals.
pending_frame : (s : Store) (n : ℕ) (r : Result ℤ OutOfBounds) (t : Store) → with_signals s (pending_is s.signals n r) ≡ Ok t → IsFramed s t
pending_frame s n (Ok z) t h =
    let e : record s { signals = set_pending s.signals n z } ≡ t = cc in
    subst (λ x. IsFramed s x) e (record { design = refl; time = refl; values = refl; waiters = refl; limits = refl; pending = length-set s.signals.pending n z; locals = refl })
pending_frame s n (Err e) t h = absurd cc

held_frame : (s : Store) (n : ℕ) (l : Limits) (r : Result ℤ OutOfBounds) (t : Store) → with_held s n l r ≡ Ok t → IsFramed s t
held_frame s n l (Ok z) t h =
    let e : set_local s n (record { value = z; limits = l }) ≡ t = cc in
    subst (λ x. IsFramed s x) e (record { design = refl; time = refl; values = refl; waiters = refl; limits = refl; pending = refl; locals = length-set s.locals n _ })
held_frame s n l (Err e) t h = absurd cc

whole_frame : (s : Store) (v : ℤ) (p : Spot) (t : Store) → whole_assigned s v p ≡ Ok t → IsFramed s t
whole_frame s v (SignalSpot n) t h = pending_frame s n (taken (limits_at s.signals n) v) t h
whole_frame s v (LocalSpot n) t h =
    held_frame s n (local_at s n).limits (taken (local_at s n).limits v) t h

part_frame : (s : Store) (v : ℤ) (p : Spot) (i j : ℕ) (t : Store) → part_assigned s v p i j ≡ Ok t → IsFramed s t
part_frame s v (SignalSpot n) i j t h =
    pending_frame s n (part_taken (limits_at s.signals n) i j (pending_at s.signals n) v) t h
part_frame s v (LocalSpot n) i j t h =
    held_frame s n (local_at s n).limits (part_taken (local_at s n).limits i j (local_at s n).value v) t h

bound_frame : (s : Store) (n : ℕ) (b : Binding) (v : ℤ) (t : Store) → bound_to s n b v ≡ Ok t → IsFramed s t
bound_frame s n binding.Plain v t h = held_frame s n (local_at s n).limits (Ok v) t h
bound_frame s n (binding.Bounded b) v t h =
    held_frame s n (Between b.lo b.top b.wraps) (taken (Between b.lo b.top b.wraps) v) t h
bound_frame s n (binding.LowBits k wraps) v t h = held_frame s n (low_limits k wraps) (Ok _) t h

assigned_frame : (p : LeftSide) (v : ℤ) (s t : Store) → assigned p v s ≡ Ok t → IsFramed s t
assigned_frame (Whole b) v s t h =
    let x = value_ok (spot_of b s) (whole_assigned s v) t h in
    whole_frame s v x.0 t x.1
assigned_frame (LeftBit b i) v s t h =
    let x = value_ok (spot_of b s) (λ p. with_value (value_of i s) (bit_assigned s v p)) t h in
    let y = value_ok (value_of i s) (bit_assigned s v x.0) t x.1 in
    part_frame s v x.0 _ _ t (indexed_ok y.0 (spot_width s x.0) (part_assigned s v x.0 (unsigned_abs y.0 + 1) (unsigned_abs y.0)) t y.1)
assigned_frame (LeftSlice b i j) v s t h =
    let x = value_ok (spot_of b s) (λ p. with_value (value_of i s) (λ a. with_value (value_of j s) (slice_assigned s v p a))) t h in
    let y = value_ok (value_of i s) (λ a. with_value (value_of j s) (slice_assigned s v x.0 a)) t x.1 in
    let z = value_ok (value_of j s) (slice_assigned s v x.0 y.0) t y.1 in
    let r = part_assigned s v x.0 (unsigned_abs y.0) (unsigned_abs z.0) in
    part_frame s v x.0 _ _ t (ends_ok y.0 z.0 (spot_width s x.0) r t z.1)
assigned_frame (Bind n b) v s t h = bound_frame s n b v t h

counted_frame : (p : LeftSide) (v : ℤ) (s : Store) → IsFramed s (counted p v s)
counted_frame (Whole b) v s = unchanged s
counted_frame (LeftBit b i) v s = unchanged s
counted_frame (LeftSlice b i j) v s = unchanged s
counted_frame (Bind n b) v s =
    record { design = refl; time = refl; values = refl; waiters = refl; limits = refl; pending = refl; locals = length-set s.locals n _ }

-- What one rewriting leaves.
abbrev Outcome : Type 0
Outcome = flow.Outcome Expression LeftSide Store Fault

abbrev Keeps : Store → Outcome → Type 0
Keeps s (flow.Proceeds k xs t) = IsFramed s t
Keeps s (flow.Halts k r xs t) = IsFramed s t
Keeps s (flow.Fails k f) = Unit {0}
Keeps s flow.Ends = Unit {0}

keeps_value : {A : Type 0} (s : Store) (k : ℕ) (r : Result A Fault) (f : A → Outcome) → ((x : A) → r ≡ Ok x → Keeps s (f x)) → Keeps s (flow.with_value k r f)
keeps_value s k (Ok x) f h = h x refl
keeps_value s k (Err e) f h = tt

keeps_choice : (s : Store) (b : Bool) (x y : Outcome) → Keeps s x → Keeps s y → Keeps s (cond b x y)
keeps_choice s true x y a b = a
keeps_choice s false x y a b = b

keeps_statement : (s : Store) (k : ℕ) (x : flow.Statement Expression LeftSide) (rest : Left) → Keeps s (flow.statement_outcome meaning k x rest s)
keeps_statement s k (flow.SetStatement p e) rest =
    keeps_value s k (value_of e s) _ (λ v h. keeps_value s k (assigned p v s) _ (λ t i. assigned_frame p v s t i))
keeps_statement s k (flow.IfStatement e a b) rest = keeps_value s k (value_of e s) _ (λ v h. unchanged s)
keeps_statement s k (flow.WhileStatement e b) rest = keeps_value s k (value_of e s) _ (λ v h. unchanged s)
keeps_statement s k (flow.CountStatement p x y z b) rest =
    keeps_value s k (value_of x s) _ (λ v h. keeps_value s k (value_of y s) _ (λ w i. keeps_value s k (value_of z s) _ (λ u j. unchanged s)))
keeps_statement s k (flow.WaitStatement w) rest = unchanged s
keeps_statement s k (flow.SayStatement w) rest = unchanged s
keeps_statement s k (flow.CheckStatement e) rest =
    keeps_value s k (value_of e s) _ (λ v h. keeps_choice s (meaning.is_true v) _ _ (unchanged s) (unchanged s))
keeps_statement s k flow.StopStatement rest = unchanged s
keeps_statement s k flow.BreakStatement rest = unchanged s
keeps_statement s k flow.ContinueStatement rest = unchanged s

keeps : (xs : Left) (s : Store) → Keeps s (flow.rewriting meaning xs s)
keeps [] s = tt
keeps (flow.Pending k x ∷ rest) s = keeps_statement s k x rest
keeps (flow.BegunWhile k e b ∷ rest) s = keeps_value s k (value_of e s) _ (λ v h. unchanged s)
keeps (flow.BegunCount k p n z d b ∷ rest) s =
    keeps_choice s (flow.is_before n z d) _ _ (counted_frame p n s) (unchanged s)

keeps_by : (xs : Left) (s : Store) (o : Outcome) → flow.rewriting meaning xs s ≡ o → Keeps s o
keeps_by xs s o e = subst (λ x. Keeps s x) e (keeps xs s)

reaches_framed : {xs : Left} {s : Store} {n : ℕ} {ys : Left} {t : Store} {m : ℕ} → flow.Reaches meaning turn_limit xs s n ys t m → IsFramed s t
reaches_framed {s = s} flow.here = unchanged s
reaches_framed (flow.onward {ys = ys} {t = t} r e le) = and_framed (reaches_framed r) (keeps_by ys t _ e)

stays : {s t : Store} → t ≡ s → IsFramed s t
stays {s = s} e = subst (λ x. IsFramed s x) (sym e) (unchanged s)

answer_framed : (r : Resumed Fault) (xs : Left) (s : Store) (n : ℕ) (ys : Left) (t : Store) (m : ℕ) → flow.Answers meaning turn_limit r xs s n ys t m → IsFramed s t
answer_framed (resumed.Waits k) xs s n ys t m h = keeps_by xs s _ h.0
answer_framed (resumed.Says k) xs s n ys t m h = keeps_by xs s _ h.0
answer_framed resumed.Stopped xs s n ys t m h = keeps_by xs s _ h.0
answer_framed resumed.Ended xs s n ys t m h = stays h.1.1
answer_framed (resumed.CheckFailed at) xs s n ys t m h = keeps_by xs s _ h.0
answer_framed (resumed.Fault at f) xs s n ys t m h = stays h.2.1
answer_framed resumed.TurnLimit xs s n ys t m h = stays h.2.1

-- An evaluation keeps the design, the time, the values and what the generators wait for.
pub flows_framed : {xs : Left} {s : Store} {n : ℕ} {r : Resumed Fault} {ys : Left} {t : Store} {m : ℕ} → Flows xs s n r ys t m → IsFramed s t
flows_framed {r = r} {ys = ys} {t = t} {m = m} f =
    and_framed (reaches_framed f.reached) (answer_framed r f.head f.store f.count ys t m f.answered)

-- An evaluation has one answer, and leaves one thing, want of memory aside.
use Rattle.std.proofs.Common.{◌≡◌, ℕ, ◌+◌, ◌-◌, ◌<◌, ◌≤◌, Bool, true, false, cond, List, [], ◌∷◌, refl, sym, ap, ◌∙◌, subst, arith, inl, inr}
use Rattle.std.specs.Prelude.{Result, Ok, Err, nat_lt}
use Rattle.std.proofs.lemmas.Bool.{ltb-true, lt-ltb}
use Rattle.mh_flow.specs.declared.lang.Lang.{Ghosts}
use Rattle.mh_flow.specs.declared.resumed.Resumed.{Resumed}
use Rattle.mh_flow.specs.declared.resumed.Resumed.TheVariants.{Waits, Says, Stopped, Ended, CheckFailed, Fault, TurnLimit}
use Rattle.mh_flow.specs.Flow.{Item, SetStatement, IfStatement, WhileStatement, CountStatement, WaitStatement, SayStatement, CheckStatement, StopStatement, BreakStatement, ContinueStatement, Pending, BegunWhile, BegunCount, Outcome, Proceeds, Halts, Fails, Ends, with_value, rewriting, does_count, Reaches, here, onward, Answers, FailsAt, Evaluates, IsNoMemory}

module _ {L E P V S F : Type 0} (l : Ghosts L E P V S F) (budget : ℕ) where
  -- the same rewritings, from the first on
  data Forth : List (Item E P) → S → ℕ → List (Item E P) → S → ℕ → Type 0 where
    stay : {xs : List (Item E P)} {s : S} {n : ℕ} → Forth xs s n xs s n
    go : {xs zs ys : List (Item E P)} {s u t : S} {n m : ℕ} (k : ℕ) → rewriting l xs s ≡ Proceeds k zs u → k ≤ budget - n → Forth zs u (n + k) ys t m → Forth xs s n ys t m

  and_then : {xs ys zs : List (Item E P)} {s t u : S} {n m : ℕ} (k : ℕ) → Forth xs s n ys t m → rewriting l ys t ≡ Proceeds k zs u → k ≤ budget - m → Forth xs s n zs u (m + k)
  and_then k stay e le = go k e le stay
  and_then k (go j d lj f) e le = go j d lj (and_then k f e le)

  forth : {xs : List (Item E P)} {s : S} {n : ℕ} {ys : List (Item E P)} {t : S} {m : ℕ} → Reaches l budget xs s n ys t m → Forth xs s n ys t m
  forth here = stay
  forth (onward {k = k} r e le) = and_then k (forth r) e le

  -- nothing more is done
  abbrev IsOver : List (Item E P) → S → ℕ → Type 0
  IsOver ys t m = (k : ℕ) (zs : List (Item E P)) (u : S) → rewriting l ys t ≡ Proceeds k zs u → k ≤ budget - m → ⊥

  pub record Same (ys : List (Item E P)) (t : S) (m : ℕ) (ys' : List (Item E P)) (t' : S) (m' : ℕ) : Type 0 where
    pub items : ys ≡ ys'
    pub store : t ≡ t'
    pub count : m ≡ m'

  met : {ys : List (Item E P)} {t : S} {m : ℕ} {ys' : List (Item E P)} {t' : S} {m' : ℕ} → Forth ys t m ys' t' m' → IsOver ys t m → Same ys t m ys' t' m'
  met stay o = record { items = refl; store = refl; count = refl }
  met (go {zs = zs} {u = u} k e le f) o = absurd (o k zs u e le)

  step_on : {xs : List (Item E P)} {s : S} {n : ℕ} {ys : List (Item E P)} {t : S} {m : ℕ} (k : ℕ) (zs : List (Item E P)) (u : S) → Forth xs s n ys t m → IsOver ys t m → rewriting l xs s ≡ Proceeds k zs u → k ≤ budget - n → Forth zs u (n + k) ys t m
  step_on k zs u stay o e le = absurd (o k zs u e le)
  step_on {n = n} {ys = ys} {t = t} {m = m} k zs u (go {zs = zs'} {u = u'} j d lj f) o e le =
      let w : Proceeds j zs' u' ≡ Proceeds k zs u = sym d ∙ e in
      let ek : j ≡ k = cc in
      let ez : zs' ≡ zs = cc in
      let eu : u' ≡ u = cc in
      subst (λ x. Forth zs u (n + x) ys t m) ek (subst (λ x. Forth zs x (n + j) ys t m) eu (subst (λ x. Forth x u' (n + j) ys t m) ez f))

  meets : {xs : List (Item E P)} {s : S} {n : ℕ} {ys : List (Item E P)} {t : S} {m : ℕ} {ys' : List (Item E P)} {t' : S} {m' : ℕ} → Forth xs s n ys t m → Forth xs s n ys' t' m' → IsOver ys t m → IsOver ys' t' m' → Same ys t m ys' t' m'
  meets stay g o o' = met g o
  meets (go {zs = zs} {u = u} k e le f) g o o' = meets f (step_on k zs u g o' e le) o o'

  -- how a rewriting counts
  abbrev move_counts : Outcome E P S F → ℕ
  move_counts (Proceeds k zs u) = k
  move_counts (Halts k r zs u) = k
  move_counts (Fails k f) = 1
  move_counts Ends = 0

  given_counts : {A : Type 0} (k : ℕ) (r : Result A F) (f : A → Outcome E P S F) → ((x : A) → move_counts (f x) ≡ 1) → move_counts (with_value k r f) ≡ 1
  given_counts k (Ok x) f h = h x
  given_counts k (Err e) f h = refl

  cond_counts : (b : Bool) (x y : Outcome E P S F) → move_counts x ≡ 1 → move_counts y ≡ 1 → move_counts (cond b x y) ≡ 1
  cond_counts true x y h k = h
  cond_counts false x y h k = k

  counted : (ys : List (Item E P)) (t : S) → does_count ys ≡ true → move_counts (rewriting l ys t) ≡ 1
  counted [] t h = cc
  counted (Pending k (SetStatement p e) ∷ rest) t h =
      given_counts k (l.value_of e t) _ (λ v. given_counts k (l.assigned p v t) _ (λ x. refl))
  counted (Pending k (IfStatement e a b) ∷ rest) t h = given_counts k (l.value_of e t) _ (λ v. refl)
  counted (Pending k (WhileStatement e b) ∷ rest) t h = given_counts k (l.value_of e t) _ (λ v. refl)
  counted (Pending k (CountStatement p x y z b) ∷ rest) t h =
      given_counts k (l.value_of x t) _ (λ u. given_counts k (l.value_of y t) _ (λ v. given_counts k (l.value_of z t) _ (λ w. refl)))
  counted (Pending k (WaitStatement w) ∷ rest) t h = cc
  counted (Pending k (SayStatement w) ∷ rest) t h = refl
  counted (Pending k (CheckStatement e) ∷ rest) t h =
      given_counts k (l.value_of e t) _ (λ v. cond_counts (l.is_true v) _ _ refl refl)
  counted (Pending k StopStatement ∷ rest) t h = refl
  counted (Pending k BreakStatement ∷ rest) t h = refl
  counted (Pending k ContinueStatement ∷ rest) t h = refl
  counted (BegunWhile k e b ∷ rest) t h = given_counts k (l.value_of e t) _ (λ v. refl)
  counted (BegunCount k p n z d b ∷ rest) t h = rw h refl

  -- an answer, and what is left after it, as one value
  data Out : Type 0 where
    Gives : Resumed F → List (Item E P) → S → ℕ → Out

  abbrev halted : Resumed F → List (Item E P) → S → ℕ → Out
  halted (Waits w) ys t m = Gives (Waits w) ys t 0
  halted r ys t m = Gives r ys t (m + 1)

  abbrev out_of : Bool → Outcome E P S F → List (Item E P) → S → ℕ → Out
  out_of true v ys t m = Gives TurnLimit ys t m
  out_of false (Proceeds k zs u) ys t m = Gives Ended ys t m
  out_of false (Halts k r zs u) ys t m = halted r zs u m
  out_of false (Fails k f) ys t m = Gives (Fault k f) ys t m
  out_of false Ends ys t m = Gives Ended ys t m

  abbrev limit : List (Item E P) → ℕ → Bool
  limit ys m = cond (does_count ys) (cond (nat_lt m budget) false true) false

  cond_false : (b : Bool) → cond b false false ≡ false
  cond_false true = refl
  cond_false false = refl

  is_false : (b : Bool) → (b ≡ true → ⊥) → b ≡ false
  is_false true h = absurd (h refl)
  is_false false h = refl

  below : (ys : List (Item E P)) (m : ℕ) → m < budget → limit ys m ≡ false
  below ys m h = ap (λ b. cond (does_count ys) (cond b false true) false) (lt-ltb m budget h) ∙ cond_false (does_count ys)

  uncounted : (ys : List (Item E P)) (t : S) (m : ℕ) → (move_counts (rewriting l ys t) ≡ 1 → ⊥) → limit ys m ≡ false
  uncounted ys t m h =
      ap (λ b. cond b (cond (nat_lt m budget) false true) false) (is_false (does_count ys) (λ e. h (counted ys t e)))

  reached : (ys : List (Item E P)) (m : ℕ) → does_count ys ≡ true → budget ≤ m → limit ys m ≡ true
  reached ys m e h = ap (λ b. cond b (cond (nat_lt m budget) false true) false) e ∙ ap (λ b. cond b false true) (is_false (nat_lt m budget) (λ x. let lt : m < budget = ltb-true m budget x in omega arith))

  gives : (ys : List (Item E P)) (t : S) (m : ℕ) (b : Bool) (v : Outcome E P S F) (o : Out) → limit ys m ≡ b → rewriting l ys t ≡ v → o ≡ out_of b v ys t m → o ≡ out_of (limit ys m) (rewriting l ys t) ys t m
  gives ys t m b v o eb ev h =
      h ∙ ap (λ x. out_of x v ys t m) (sym eb) ∙ ap (λ x. out_of (limit ys m) x ys t m) (sym ev)

  fails_is : (ys : List (Item E P)) (t : S) (k : ℕ) (f : F) → l.is_memory f ≡ false → FailsAt l budget ys t k f → rewriting l ys t ≡ Fails k f
  fails_is [] t k f none h = h
  fails_is (Pending i (SetStatement p e) ∷ rest) t k f none (inl h) = h
  fails_is (Pending i (SetStatement p e) ∷ rest) t k f none (inr h) = let e0 : true ≡ false = sym h.1 ∙ none in cc
  fails_is (Pending i (IfStatement e a b) ∷ rest) t k f none h = h
  fails_is (Pending i (WhileStatement e b) ∷ rest) t k f none h = h
  fails_is (Pending i (CountStatement p x y z b) ∷ rest) t k f none h = h
  fails_is (Pending i (WaitStatement w) ∷ rest) t k f none h = h
  fails_is (Pending i (SayStatement w) ∷ rest) t k f none h = h
  fails_is (Pending i (CheckStatement e) ∷ rest) t k f none h = h
  fails_is (Pending i StopStatement ∷ rest) t k f none h = h
  fails_is (Pending i BreakStatement ∷ rest) t k f none h = h
  fails_is (Pending i ContinueStatement ∷ rest) t k f none h = h
  fails_is (BegunWhile i e b ∷ rest) t k f none h = h
  fails_is (BegunCount i p n z d b ∷ rest) t k f none h = h

  over : (r : Resumed F) (ys : List (Item E P)) (t : S) (m : ℕ) (ys' : List (Item E P)) (t' : S) (m' : ℕ) → IsNoMemory l r → Answers l budget r ys t m ys' t' m' → IsOver ys t m
  over (Waits w) ys t m ys' t' m' none h = λ k zs u e le. let x : Halts 0 (Waits w) ys' t' ≡ Proceeds k zs u = sym h.0 ∙ e in cc
  over (Says w) ys t m ys' t' m' none h = λ k zs u e le. let x : Halts 1 (Says w) ys' t' ≡ Proceeds k zs u = sym h.0 ∙ e in cc
  over Stopped ys t m ys' t' m' none h = λ k zs u e le. let x : Halts 1 Stopped ys' t' ≡ Proceeds k zs u = sym h.0 ∙ e in cc
  over (CheckFailed w) ys t m ys' t' m' none h = λ k zs u e le. let x : Halts 1 (CheckFailed w) ys' t' ≡ Proceeds k zs u = sym h.0 ∙ e in cc
  over Ended ys t m ys' t' m' none h = λ k zs u e le. let x : Ends ≡ Proceeds k zs u = sym h.0 ∙ e in cc
  over (Fault i f) ys t m ys' t' m' none h = λ k zs u e le. let x : Fails i f ≡ Proceeds k zs u = sym (fails_is ys t i f none h.1) ∙ e in cc
  over TurnLimit ys t m ys' t' m' none h = λ k zs u e le. let x : k ≡ 1 = sym (ap move_counts e) ∙ counted ys t h.0 in absurd (omega (arith, x, le, h.1))

  stays : (r : Resumed F) (ys : List (Item E P)) (t : S) (m : ℕ) (zs : List (Item E P)) (u : S) (p : ℕ) → (zs ≡ ys) × (u ≡ t) × (p ≡ m) → Gives r zs u p ≡ Gives r ys t m
  stays r ys t m zs u p h = ap (λ x. Gives r x u p) h.0 ∙ ap (λ x. Gives r ys x p) h.1 ∙ ap (Gives r ys t) h.2

  -- what is left at the end, and how it counts, is the same in two evaluations
  pub same_head : (xs : List (Item E P)) (s : S) (n : ℕ) (r r' : Resumed F) (ys ys' : List (Item E P)) (t t' : S) (m m' : ℕ) → IsNoMemory l r → IsNoMemory l r' → (a : Evaluates l budget xs s n r ys t m) (b : Evaluates l budget xs s n r' ys' t' m') → Same a.head a.store a.count b.head b.store b.count
  same_head xs s n r r' ys ys' t t' m m' none none' a b =
      meets (forth a.reached) (forth b.reached) (over r a.head a.store a.count ys t m none a.answered) (over r' b.head b.store b.count ys' t' m' none' b.answered)

  out : (r : Resumed F) (ys : List (Item E P)) (t : S) (m : ℕ) (zs : List (Item E P)) (u : S) (p : ℕ) → IsNoMemory l r → Answers l budget r ys t m zs u p → Gives r zs u p ≡ out_of (limit ys m) (rewriting l ys t) ys t m
  out (Waits w) ys t m zs u p none h =
      gives ys t m false _ _ (uncounted ys t m (λ e. let x : 0 ≡ 1 = sym (ap move_counts h.0) ∙ e in omega arith)) h.0 (ap (Gives (Waits w) zs u) h.1)
  out (Says w) ys t m zs u p none h = gives ys t m false _ _ (below ys m h.1) h.0 (ap (Gives (Says w) zs u) h.2)
  out Stopped ys t m zs u p none h = gives ys t m false _ _ (below ys m h.1) h.0 (ap (Gives Stopped zs u) h.2)
  out (CheckFailed w) ys t m zs u p none h =
      gives ys t m false _ _ (below ys m h.1) h.0 (ap (Gives (CheckFailed w) zs u) h.2)
  out Ended ys t m zs u p none h =
      gives ys t m false _ _ (uncounted ys t m (λ e. let x : 0 ≡ 1 = sym (ap move_counts h.0) ∙ e in omega arith)) h.0 (stays Ended ys t m zs u p h.1)
  out (Fault k f) ys t m zs u p none h =
      gives ys t m false _ _ (below ys m h.0) (fails_is ys t k f none h.1) (stays (Fault k f) ys t m zs u p h.2)
  out TurnLimit ys t m zs u p none h =
      gives ys t m true _ _ (reached ys m h.0 h.1) refl (stays TurnLimit ys t m zs u p h.2)

  -- An evaluation has one answer, and leaves one thing.
  pub evaluates_once : (xs : List (Item E P)) (s : S) (n : ℕ) (r r' : Resumed F) (ys ys' : List (Item E P)) (t t' : S) (m m' : ℕ) → IsNoMemory l r → IsNoMemory l r' → Evaluates l budget xs s n r ys t m → Evaluates l budget xs s n r' ys' t' m' → (r ≡ r') × (ys ≡ ys') × (t ≡ t') × (m ≡ m')
  evaluates_once xs s n r r' ys ys' t t' m m' none none' a b =
      let h = same_head xs s n r r' ys ys' t t' m m' none none' a b in
      let x : Gives r ys t m ≡ out_of (limit a.head a.count) (rewriting l a.head a.store) a.head a.store a.count = out r a.head a.store a.count ys t m none a.answered in
      let y : Gives r' ys' t' m' ≡ out_of (limit b.head b.count) (rewriting l b.head b.store) b.head b.store b.count = out r' b.head b.store b.count ys' t' m' none' b.answered in
      let z : out_of (limit a.head a.count) (rewriting l a.head a.store) a.head a.store a.count ≡ out_of (limit b.head b.count) (rewriting l b.head b.store) b.head b.store b.count = ap (λ i. out_of (limit i a.count) (rewriting l i a.store) i a.store a.count) h.items ∙ ap (λ i. out_of (limit b.head a.count) (rewriting l b.head i) b.head i a.count) h.store ∙ ap (λ i. out_of (limit b.head i) (rewriting l b.head b.store) b.head b.store i) h.count in
      let w : Gives r ys t m ≡ Gives r' ys' t' m' = x ∙ z ∙ sym y in
      (cc, cc, cc, cc)

-- What is known of the locals at a place, and the walk for one of them.
use Rattle.std.proofs.Common.{◌≡◌, ℕ, zero, suc, ◌<◌, Bool, true, false, ◌&&◌, ◌||◌, List, [], ◌∷◌, ◌++◌, length, Option, Some, None, refl, ap, sym, ◌∙◌, arith}
use Rattle.std.specs.Prelude.{slice_get, slice_set, ◌==◌}
use Rattle.std.proofs.Math.Dec.{eqb-suc-suc}
use Rattle.std.proofs.lemmas.Bool.{ne_eqb}
use Rattle.mh_design.specs.declared.assigned.Flow.{Flow}
use Rattle.mh_design.specs.Assigned.{both, joined, passes, followed, next, walk, walk_block, walk_arm, walk_arms}
use Rattle.mh_design.specs.Tree.{Statement, Block, End, Then, Arm, block, arms}
use Rattle.mh_exprs.specs.declared.typed.Work.{Work}
use Rattle.mh_exprs.specs.Leaves.{is_true}
use Rattle.mh_lower.specs.Paths.{Paths, on_both, meet}

-- whether every path has assigned a local, where there is one
abbrev pub seen : ℕ → Paths → Option Bool
seen v None = None
seen v (Some bs) = Some (is_true (slice_get bs v))

-- what is known of a local
abbrev pub flow_at : ℕ → Work → Flow
flow_at v w = record { sound = true; falls = seen v w.here; breaks = seen v w.breaks; continues = seen v w.continues }

pub same_flow : (p q : Flow) → p.sound ≡ q.sound → p.falls ≡ q.falls → p.breaks ≡ q.breaks → p.continues ≡ q.continues → p ≡ q
same_flow p q a b c e = λ i. record { sound = a i; falls = b i; breaks = c i; continues = e i }

-- ---- paths that come together

and_true : (a : Bool) → (a && true) ≡ a
and_true true = refl
and_true false = refl

and_comm : (a b : Bool) → (a && b) ≡ (b && a)
and_comm true true = refl
and_comm true false = refl
and_comm false true = refl
and_comm false false = refl

and_assoc : (a b c : Bool) → ((a && b) && c) ≡ (a && (b && c))
and_assoc true b c = refl
and_assoc false b c = refl

and_false : (a : Bool) → (a && false) ≡ false
and_false true = refl
and_false false = refl

pub both_none : (x : Option Bool) → both x None ≡ x
both_none None = refl
both_none (Some a) = refl

pub both_comm : (x y : Option Bool) → both x y ≡ both y x
both_comm None None = refl
both_comm None (Some b) = refl
both_comm (Some a) None = refl
both_comm (Some a) (Some b) = ap Some (and_comm a b)

pub both_assoc : (x y z : Option Bool) → both (both x y) z ≡ both x (both y z)
both_assoc None y z = refl
both_assoc (Some a) None z = refl
both_assoc (Some a) (Some b) None = refl
both_assoc (Some a) (Some b) (Some c) = ap Some (and_assoc a b c)

pub both_swap : (x y z : Option Bool) → both (both x y) z ≡ both (both x z) y
both_swap x y z = both_assoc x y z ∙ ap (both x) (both_comm y z) ∙ sym (both_assoc x z y)

true_on_both : (ys zs : List Bool) (v : ℕ) → is_true (slice_get (on_both ys zs) v) ≡ (is_true (slice_get ys v) && is_true (slice_get zs v))
true_on_both [] zs v = refl
true_on_both (y ∷ ys) [] v = sym (and_false (is_true (slice_get (y ∷ ys) v)))
true_on_both (y ∷ ys) (z ∷ zs) zero = refl
true_on_both (y ∷ ys) (z ∷ zs) (suc v) = true_on_both ys zs v

pub seen_meet : (v : ℕ) (p q : Paths) → seen v (meet p q) ≡ both (seen v p) (seen v q)
seen_meet v None q = refl
seen_meet v (Some ys) None = refl
seen_meet v (Some ys) (Some zs) = ap Some (true_on_both ys zs v)

-- ---- a local gets a value

pub true_set : (bs : List Bool) (u v : ℕ) → u < length bs → is_true (slice_get (slice_set bs u true) v) ≡ (is_true (slice_get bs v) || u == v)
true_set [] u v h = absurd (omega arith)
true_set (b ∷ bs) zero zero h = or_yes b
  where
    or_yes : (b : Bool) → true ≡ (b || true)
    or_yes true = refl
    or_yes false = refl
true_set (b ∷ bs) zero (suc v) h = or_no (is_true (slice_get bs v)) (zero == suc v) (ne_eqb zero (suc v) (λ e. absurd (omega (arith, e))))
  where
    or_no : (b c : Bool) → c ≡ false → b ≡ (b || c)
    or_no true c e = refl
    or_no false c e = sym e
true_set (b ∷ bs) (suc u) zero h = or_no b (suc u == zero) (ne_eqb (suc u) zero (λ e. absurd (omega (arith, e))))
  where
    or_no : (b c : Bool) → c ≡ false → b ≡ (b || c)
    or_no true c e = refl
    or_no false c e = sym e
true_set (b ∷ bs) (suc u) (suc v) h = true_set bs u v (omega arith) ∙ ap (λ c. is_true (slice_get bs v) || c) (sym (eqb-suc-suc u v))

-- ---- the walk

followed_assoc : (p q r : Flow) → followed (followed p q) r ≡ followed p (followed q r)
followed_assoc p q r = same_flow (followed (followed p q) r) (followed p (followed q r)) (and_assoc p.sound q.sound r.sound) refl (both_assoc p.breaks q.breaks r.breaks) (both_assoc p.continues q.continues r.continues)

next_followed : (p f : Flow) (o : Option Bool) (q : Bool → Flow) → next (followed p f) o q ≡ followed p (next f o q)
next_followed p f None q = refl
next_followed p f (Some a) q = followed_assoc p f (q a)

module _ (v : ℕ) where
  pub walk_followed : (b : Block) (p f : Flow) → walk_block v b (followed p f) ≡ followed p (walk_block v b f)
  walk_followed End p f = refl
  walk_followed (Then s b) p f = ap (walk_block v b) (next_followed p f f.falls (λ a. walk v s a)) ∙ walk_followed b p (next f f.falls (λ a. walk v s a))

  -- from where a path leads on
  pub walk_after : (b : Block) (p : Flow) (a : Bool) → p.falls ≡ Some a → walk_block v b p ≡ followed p (walk_block v b (passes true a))
  walk_after b p a e = ap (walk_block v b) (same_flow p (followed p (passes true a)) (sym (and_true p.sound)) e (sym (both_none p.breaks)) (sym (both_none p.continues))) ∙ walk_followed b p (passes true a)

  -- from where none does
  pub walk_dead : (b : Block) (p : Flow) → p.falls ≡ None → walk_block v b p ≡ p
  walk_dead End p e = refl
  walk_dead (Then s b) p e = ap (λ o. walk_block v b (next p o (λ a. walk v s a))) e ∙ walk_dead b p e

  pub walk_end : (out : List Statement) (s : Statement) (p : Flow) → walk_block v (block (out ++ s ∷ [])) p ≡ next (walk_block v (block out) p) (walk_block v (block out) p).falls (λ a. walk v s a)
  walk_end [] s p = refl
  walk_end (x ∷ out) s p = walk_end out s (next p p.falls (λ a. walk v x a))

  pub arms_end : (rs : List Arm) (r : Arm) (a : Bool) (p : Flow) → walk_arms v (arms (rs ++ r ∷ [])) a p ≡ joined (walk_arms v (arms rs) a p) (walk_arm v r a)
  arms_end [] r a p = refl
  arms_end (x ∷ rs) r a p = arms_end rs r a (joined p (walk_arm v x a))

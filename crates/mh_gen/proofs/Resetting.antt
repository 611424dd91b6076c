-- The assignments of a reset.
use Rattle.std.proofs.Common.{ℕ, suc, ◌+◌, ◌-◌, ◌<◌, ◌≤◌, ◌≡◌, Bool, true, false, if◌then◌else◌, List, [], ◌∷◌, length, refl, ap, sym, subst, ◌∙◌, arith}
use Rattle.std.specs.List.{filter, range_with_len}
use Rattle.mh_flow.specs.Flow as flow
use Rattle.mh_flat.specs.Body.{block_of}
use Rattle.mh_design.specs.declared.design.Design.{Design}
use Rattle.mh_design.specs.declared.design.Generator.{Generator}
use Rattle.mh_design.specs.Tree as tree
use Rattle.mh_design.specs.Bodies as spec
use Rattle.mh_gen.specs.declared.steps.Reached.{Reached}
use Rattle.mh_gen.specs.Steps.{Steps, Puts}
use Rattle.mh_gen.proofs.Making.{followed-end, followed-followed}

module _ (d : Design) (g : Generator) where
  -- the signals from n on that the generator drives
  abbrev pub driven_from : ℕ → List ℕ
  driven_from n = filter (spec.is_driven d g) (range_with_len n (length d.signals - n))

  abbrev pub resets_from : ℕ → spec.Flowing
  resets_from n = spec.resets d (driven_from n)

  abbrev pub reset_of : ℕ → flow.Statement tree.Expression tree.LeftSide
  reset_of n = flow.SetStatement (tree.Whole (tree.LeftSignal n)) (tree.Integer (spec.initial_value d n))

  filtered : (n m : ℕ) (b : Bool) → spec.is_driven d g n ≡ b → filter (spec.is_driven d g) (range_with_len n (suc m)) ≡ (if b then n ∷ filter (spec.is_driven d g) (range_with_len (n + 1) m) else filter (spec.is_driven d g) (range_with_len (n + 1) m))
  filtered n m b e =
      ap (λ x. if x then n ∷ filter (spec.is_driven d g) (range_with_len (n + 1) m) else filter (spec.is_driven d g) (range_with_len (n + 1) m)) e

  from-next : (n : ℕ) (b : Bool) → n < length d.signals → spec.is_driven d g n ≡ b → driven_from n ≡ (if b then n ∷ driven_from (n + 1) else driven_from (n + 1))
  from-next n b h e =
      let m : length d.signals - n ≡ suc (length d.signals - (n + 1)) = omega arith in
      ap (λ k. filter (spec.is_driven d g) (range_with_len n k)) m ∙ filtered n (length d.signals - (n + 1)) b e

  from-all : driven_from 0 ≡ spec.driven d g
  from-all = let m : length d.signals - 0 ≡ length d.signals = omega arith in ap (λ k. filter (spec.is_driven d g) (range_with_len 0 k)) m

  from-end : (n : ℕ) → length d.signals ≤ n → driven_from n ≡ []
  from-end n h = let m : length d.signals - n ≡ 0 = omega arith in ap (λ k. filter (spec.is_driven d g) (range_with_len n k)) m

  -- What a reset does to the signals below n is made.
  pub record Resetting (before now : Steps) (at r : Reached) (n : ℕ) : Type 0 where
    pub steps : spec.followed_by (block_of now) (resets_from n) ≡ spec.followed_by (block_of before) (spec.resets d (spec.driven d g))
    pub number : r.number ≡ at.number
    pub count : r.count + flow.block_size (resets_from n) ≡ at.count + flow.block_size (spec.resets d (spec.driven d g))

  pub resetting-start : (before : Steps) (at : Reached) → Resetting before before at at 0
  resetting-start before at = record {
    steps = ap (λ ns. spec.followed_by (block_of before) (spec.resets d ns)) from-all;
    number = refl;
    count = ap (λ ns. at.count + flow.block_size (spec.resets d ns)) from-all;
  }

  pub resetting-skip : (before now : Steps) (at r : Reached) (n : ℕ) → n < length d.signals → spec.is_driven d g n ≡ false → Resetting before now at r n → Resetting before now at r (n + 1)
  resetting-skip before now at r n h e w = record {
    steps = ap (λ ns. spec.followed_by (block_of now) (spec.resets d ns)) (sym (from-next n false h e)) ∙ w.steps;
    number = w.number;
    count = ap (λ ns. r.count + flow.block_size (spec.resets d ns)) (sym (from-next n false h e)) ∙ w.count;
  }

  pub resetting-next : (before now after : Steps) (at r q : Reached) (n : ℕ) → n < length d.signals → spec.is_driven d g n ≡ true → Puts now after r q (spec.only (reset_of n)) 0 → Resetting before now at r n → Resetting before after at q (n + 1)
  resetting-next before now after at r q n h e p w =
      let u = p.number in
      let v = w.number in
      let c = p.count in
      let f = w.count in
      let z = ap (λ ns. flow.block_size (spec.resets d ns)) (from-next n true h e) in
      record {
        steps = ap (λ x. spec.followed_by x (resets_from (n + 1))) p.steps
            ∙ followed-followed (block_of now) (spec.only (reset_of n)) (resets_from (n + 1))
            ∙ ap (λ ns. spec.followed_by (block_of now) (spec.resets d ns)) (sym (from-next n true h e))
            ∙ w.steps;
        number = omega (arith, u, v);
        count = omega (arith, c, f, z);
      }

  by-test : (before now after : Steps) (at r q : Reached) (n : ℕ) (b : Bool) → spec.is_driven d g n ≡ b → n < length d.signals → (spec.is_driven d g n ≡ true → Puts now after r q (spec.only (reset_of n)) 0) → (spec.is_driven d g n ≡ false → (after ≡ now) × (q ≡ r)) → Resetting before now at r n → Resetting before after at q (n + 1)
  by-test before now after at r q n true e h y z w = resetting-next before now after at r q n h e (y e) w
  by-test before now after at r q n false e h y z w =
      let k = z e in
      subst (λ x. Resetting before x at q (n + 1)) (sym k.0) (subst (λ x. Resetting before now at x (n + 1)) (sym k.1) (resetting-skip before now at r n h e w))

  pub resetting-step : (before now after : Steps) (at r q : Reached) (n : ℕ) → n < length d.signals → (spec.is_driven d g n ≡ true → Puts now after r q (spec.only (reset_of n)) 0) → (spec.is_driven d g n ≡ false → (after ≡ now) × (q ≡ r)) → Resetting before now at r n → Resetting before after at q (n + 1)
  resetting-step before now after at r q n h y z w = by-test before now after at r q n (spec.is_driven d g n) refl h y z w

  pub resetting-ends : (before now : Steps) (at r : Reached) (n : ℕ) → length d.signals ≤ n → Resetting before now at r n → Puts before now at r (spec.resets d (spec.driven d g)) 0
  resetting-ends before now at r n h w =
      let c = w.count in
      let u = w.number in
      let z : flow.block_size (resets_from n) ≡ 0 = ap (λ ns. flow.block_size (spec.resets d ns)) (from-end n h) in
      record {
        steps = sym (followed-end (block_of now)) ∙ ap (λ ns. spec.followed_by (block_of now) (spec.resets d ns)) (sym (from-end n h)) ∙ w.steps;
        number = omega (arith, u);
        count = omega (arith, c, z);
      }

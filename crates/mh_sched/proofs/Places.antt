-- The lines of the places of a generator's code.
use Rattle.std.proofs.Common.{◌≡◌, ℕ, zero, suc, ◌+◌, ◌-◌, ◌<◌, ◌≤◌, List, [], ◌∷◌, ◌++◌, map, length, get_or, refl, sym, ap, ◌∙◌, arith}
use Rattle.std.specs.Prelude.{Option, None, Some}
use Rattle.mh_design.specs.declared.design.Design.{Design}
use Rattle.mh_design.specs.declared.design.Generator.{Generator}
use Rattle.mh_design.specs.declared.design.GenKind.{GenKind}
use Rattle.mh_design.specs.declared.design.GenKind.TheVariants as generator
use Rattle.mh_design.specs.Bodies.{function_lines, reset_lines, lines_by, driven}
use Rattle.mh_design.specs.Deltas.{line_of_place}
use Rattle.mh_sched.specs.declared.plan.Plan.{Plan}
use Rattle.mh_sched.specs.Kept.{IsPlan}
use Rattle.mh_sched.specs.Notes.{reset_places, places_before}

-- Lines that are all the same stand before others.
below_prefix : {X : Type 0} (l : ℕ) (ns : List X) (ls : List ℕ) (k : ℕ) → k < length ns → get_or (map (λ n. l) ns ++ ls) k l ≡ l
below_prefix l [] ls k h = absurd (omega (arith, h))
below_prefix l (n ∷ ns) ls zero h = refl
below_prefix l (n ∷ ns) ls (suc k) h = below_prefix l ns ls k (omega (arith, h))

after_prefix : {X : Type 0} (l : ℕ) (ns : List X) (ls : List ℕ) (j : ℕ) → get_or (map (λ n. l) ns ++ ls) (length ns + j) l ≡ get_or ls j l
after_prefix l [] ls j = let e : 0 + j ≡ j = omega arith in ap (λ k. get_or ls k l) e
after_prefix l (n ∷ ns) ls j = let e : length (n ∷ ns) + j ≡ suc (length ns + j) = omega arith in ap (λ k. get_or (map (λ n. l) (n ∷ ns) ++ ls) k l) e ∙ after_prefix l ns ls j

-- A last one that is the default doesn't matter.
last_default : (l : ℕ) (ls : List ℕ) (j : ℕ) → get_or (ls ++ l ∷ []) j l ≡ get_or ls j l
last_default l [] zero = refl
last_default l [] (suc j) = refl
last_default l (x ∷ ls) zero = refl
last_default l (x ∷ ls) (suc j) = last_default l ls j

module _ (d : Design) (g : Generator) where
  abbrev lines_of : GenKind → ℕ → ℕ
  lines_of x k = get_or (lines_by d g x) k g.line

  reset_below : (r : Option ℕ) (j : ℕ) → j < reset_places d g r → get_or (reset_lines d g r ++ function_lines g) j g.line ≡ g.line
  reset_below None j h = absurd (omega (arith, h))
  reset_below (Some n) zero h = refl
  reset_below (Some n) (suc j) h = below_prefix g.line (driven d g) (function_lines g) j (omega (arith, h))

  reset_after : (r : Option ℕ) (j : ℕ) → get_or (reset_lines d g r ++ function_lines g) (reset_places d g r + j) g.line ≡ get_or (function_lines g) j g.line
  reset_after None j = let e : 0 + j ≡ j = omega arith in ap (λ k. get_or (function_lines g) k g.line) e
  reset_after (Some n) j =
      let e : reset_places d g (Some n) + j ≡ suc (length (driven d g) + j) = omega arith in
      ap (λ k. get_or (reset_lines d g (Some n) ++ function_lines g) k g.line) e ∙ after_prefix g.line (driven d g) (function_lines g) j

  pub before_function : (x : GenKind) (k : ℕ) → k < places_before d g x → lines_of x k ≡ g.line
  before_function generator.Comb zero h = refl
  before_function generator.Comb (suc k) h = absurd (omega (arith, h))
  before_function (generator.Always ws) zero h = refl
  before_function (generator.Always ws) (suc zero) h = refl
  before_function (generator.Always ws) (suc (suc k)) h = absurd (omega (arith, h))
  before_function (generator.Seq w r) zero h = refl
  before_function (generator.Seq w r) (suc zero) h = refl
  before_function (generator.Seq w r) (suc (suc k)) h = reset_below r k (omega (arith, h))
  before_function generator.Instance k h = absurd (omega (arith, h))

  in_function : (x : GenKind) (j : ℕ) → lines_of x (places_before d g x + j) ≡ get_or (function_lines g) j g.line
  in_function generator.Comb j =
      let e : 1 + j ≡ suc j = omega arith in
      ap (lines_of generator.Comb) e ∙ last_default g.line (function_lines g) j
  in_function (generator.Always ws) j =
      let e : 2 + j ≡ suc (suc j) = omega arith in
      ap (lines_of (generator.Always ws)) e
  in_function (generator.Seq w r) j =
      let e : places_before d g (generator.Seq w r) + j ≡ suc (suc (reset_places d g r + j)) = omega arith in
      ap (lines_of (generator.Seq w r)) e ∙ reset_after r j
  in_function generator.Instance j = let e : 0 + j ≡ j = omega arith in ap (lines_of generator.Instance) e

  pub after_function : (x : GenKind) (k : ℕ) → places_before d g x ≤ k → lines_of x k ≡ get_or (function_lines g) (k - places_before d g x) g.line
  after_function x k h =
      let e : k ≡ places_before d g x + (k - places_before d g x) = omega (arith, h) in
      ap (lines_of x) e ∙ in_function x (k - places_before d g x)

-- The line of a place, by what is kept.
pub line_before : (d : Design) (g : Generator) (p : Plan) (k : ℕ) → IsPlan d g p → k < p.before → p.generator.now.line ≡ line_of_place d g k
line_before d g p k w h =
    let b = w.before in
    ap (λ x. x.line) w.generator ∙ sym (before_function d g g.kind k (omega (arith, b, h)))

pub line_after : (d : Design) (g : Generator) (p : Plan) (k : ℕ) → IsPlan d g p → p.before ≤ k → get_or p.lines.items (k - p.before) p.generator.now.line ≡ line_of_place d g k
line_after d g p k w h =
    let b = w.before in
    ap (λ xs. get_or xs (k - p.before) p.generator.now.line) w.lines ∙ ap (λ n. get_or (function_lines g) (k - n) p.generator.now.line) b ∙ ap (λ x. get_or (function_lines g) (k - places_before d g g.kind) x.line) w.generator ∙ sym (after_function d g g.kind k (omega (arith, b, h)))

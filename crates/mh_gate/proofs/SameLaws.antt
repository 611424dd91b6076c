-- The gate of a flat design has the values that the design has in a run.
use Rattle.std.proofs.Common.{ℕ, pos, List, [], ◌∷◌, ◌≡◌, ◌==◌, Bool, true, false, cond, Option, Some, None, Ok, arith, refl, sym, ap, subst, ◌∙◌}
use Rattle.mh_design.specs.declared.design.Design.{Design as Flat}
use Rattle.mh_design.specs.declared.design.Generator.{Generator as FlatGenerator}
use Rattle.mh_design.specs.declared.design.GenKind.{GenKind as FlatKind}
use Rattle.mh_design.specs.declared.design.GenKind.TheVariants as runs
use Rattle.mh_design.specs.declared.expression.BinaryOp.{BinaryOp}
use Rattle.mh_design.specs.declared.expression.BinaryOp.TheVariants as binary
use Rattle.mh_design.specs.declared.expression.UnaryOp.{UnaryOp}
use Rattle.mh_design.specs.declared.expression.UnaryOp.TheVariants as unary
use Rattle.mh_design.specs.Numbering.{body_of}
use Rattle.mh_design.specs.Tree as tree
use Rattle.mh_design.specs.Tree.{Expression, Expressions, NoMore, More, Operation, Operator, LeftBase, LeftSignal, LeftElement, LeftLocal, LeftSide, Whole, Statement, Set, Block, End, Then}
use Rattle.mh_design.specs.Values.{operand, signal_value, value_of}
use Rattle.mh_gate.specs.declared.design.Design.{Design}
use Rattle.mh_gate.specs.declared.design.GStmt.TheVariants.{Assign}
use Rattle.mh_gate.specs.declared.expression.GExpr.{GExpr}
use Rattle.mh_gate.specs.declared.expression.GExpr.TheVariants as gate
use Rattle.mh_gate.specs.declared.gate.Driven.{Driven}
use Rattle.mh_gate.specs.Design.{statements}
use Rattle.mh_gate.specs.Gate.{signal_in, negated, joined, joined_if, operated, gate_in, target_in, driven_as, driven_by, driven_in, driven_of, driven_alone, driven_by_generator, is_gate, design_of, design_with, gate_of}
use Rattle.mh_gate.specs.Same.{SameValue, KeepsBody, KeepsDesign}

same_of : {A : Type 0} (a b : A) → Some a ≡ Some b → a ≡ b
same_of a b is = cc

no_some : {A : Type 0} (a : A) → ◌≡◌ {A = Option A} None (Some a) → ⊥
no_some a is = cc

-- ---- the right side

-- the part that is a signal
signal_is : (e : Expression) (n : ℕ) → signal_in e ≡ Some n → e ≡ tree.Signal n
signal_is (tree.Signal m) n is = ap tree.Signal (same_of m n is)
signal_is (tree.Integer z) n is = absurd (no_some n is)
signal_is (tree.Truth b) n is = absurd (no_some n is)
signal_is (tree.Item e i) n is = absurd (no_some n is)
signal_is (tree.Fixed z b) n is = absurd (no_some n is)
signal_is (tree.Local l) n is = absurd (no_some n is)
signal_is tree.Now n is = absurd (no_some n is)
signal_is (Operation o xs) n is = absurd (no_some n is)

-- the expressions of the gates
signal_value_of : (a : ℕ) → SameValue (tree.Signal a) (gate.Signal a)
unfolding operand
signal_value_of a s now h = ap Ok (h a)

not_value_of : (a : ℕ) → SameValue (Operation (tree.Unary unary.Not) (More (tree.Signal a) NoMore)) (gate.Not a)
unfolding operand
not_value_of a s now h = by (now a) (h a)
  where
    by : (n : ℕ) → signal_value s a ≡ pos n → value_of (Operation (tree.Unary unary.Not) (More (tree.Signal a) NoMore)) s ≡ Ok (pos (cond (n == 0) 1 0))
    by n is = grind arith

module _ (a b : ℕ) where
  abbrev both : BinaryOp → Expression
  both o = Operation (tree.Binary o) (More (tree.Signal a) (More (tree.Signal b) NoMore))

  and_value_of : SameValue (both binary.BitAnd) (gate.And a b)
  unfolding operand
  and_value_of s now h = rw (h a, h b) refl

  or_value_of : SameValue (both binary.BitOr) (gate.Or a b)
  unfolding operand
  or_value_of s now h = rw (h a, h b) refl

  xor_value_of : SameValue (both binary.BitXor) (gate.Xor a b)
  unfolding operand
  xor_value_of s now h = rw (h a, h b) refl

negated_is : (o : UnaryOp) (e : Expression) (x : Option ℕ) (g : GExpr) → signal_in e ≡ x → negated o x ≡ Some g → SameValue (Operation (tree.Unary o) (More e NoMore)) g
negated_is unary.Not e (Some a) g at is =
    subst (λ v. SameValue (Operation (tree.Unary unary.Not) (More v NoMore)) g) (sym (signal_is e a at))
    (subst (SameValue (Operation (tree.Unary unary.Not) (More (tree.Signal a) NoMore))) (same_of (gate.Not a) g is) (not_value_of a))
negated_is unary.Not e None g at is = absurd (no_some g is)
negated_is unary.Minus e x g at is = absurd (no_some g is)
negated_is unary.Plus e x g at is = absurd (no_some g is)
negated_is unary.Invert e x g at is = absurd (no_some g is)

joined_is : (o : BinaryOp) (a b : ℕ) (g : GExpr) → joined o a b ≡ Some g → SameValue (both a b o) g
joined_is binary.BitAnd a b g is = subst (SameValue (both a b binary.BitAnd)) (same_of (gate.And a b) g is) (and_value_of a b)
joined_is binary.BitOr a b g is = subst (SameValue (both a b binary.BitOr)) (same_of (gate.Or a b) g is) (or_value_of a b)
joined_is binary.BitXor a b g is = subst (SameValue (both a b binary.BitXor)) (same_of (gate.Xor a b) g is) (xor_value_of a b)
joined_is binary.Add a b g is = absurd (no_some g is)
joined_is binary.Subtract a b g is = absurd (no_some g is)
joined_is binary.Multiply a b g is = absurd (no_some g is)
joined_is binary.Divide a b g is = absurd (no_some g is)
joined_is binary.Remainder a b g is = absurd (no_some g is)
joined_is binary.ShiftLeft a b g is = absurd (no_some g is)
joined_is binary.ShiftRight a b g is = absurd (no_some g is)
joined_is binary.Equal a b g is = absurd (no_some g is)
joined_is binary.NotEqual a b g is = absurd (no_some g is)
joined_is binary.Less a b g is = absurd (no_some g is)
joined_is binary.LessEqual a b g is = absurd (no_some g is)
joined_is binary.Greater a b g is = absurd (no_some g is)
joined_is binary.GreaterEqual a b g is = absurd (no_some g is)

-- the same, of parts that are signals
joined_if_is : (o : BinaryOp) (e f : Expression) (x y : Option ℕ) (g : GExpr) → signal_in e ≡ x → signal_in f ≡ y → joined_if o x y ≡ Some g → SameValue (Operation (tree.Binary o) (More e (More f NoMore))) g
joined_if_is o e f (Some a) (Some b) g at and is =
    subst (λ v. SameValue (Operation (tree.Binary o) (More v (More f NoMore))) g) (sym (signal_is e a at))
    (subst (λ v. SameValue (Operation (tree.Binary o) (More (tree.Signal a) (More v NoMore))) g) (sym (signal_is f b and)) (joined_is o a b g is))
joined_if_is o e f (Some a) None g at and is = absurd (no_some g is)
joined_if_is o e f None y g at and is = absurd (no_some g is)

operated_is : (o : Operator) (xs : Expressions) (g : GExpr) → operated o xs ≡ Some g → SameValue (Operation o xs) g
operated_is (tree.Unary o) NoMore g is = absurd (no_some g is)
operated_is (tree.Unary o) (More a NoMore) g is = negated_is o a (signal_in a) g refl is
operated_is (tree.Unary o) (More a (More b xs)) g is = absurd (no_some g is)
operated_is (tree.Binary o) NoMore g is = absurd (no_some g is)
operated_is (tree.Binary o) (More a NoMore) g is = absurd (no_some g is)
operated_is (tree.Binary o) (More a (More b NoMore)) g is = joined_if_is o a b (signal_in a) (signal_in b) g refl refl is
operated_is (tree.Binary o) (More a (More b (More c xs))) g is = absurd (no_some g is)
operated_is (tree.ElementOf m) xs g is = absurd (no_some g is)
operated_is (tree.TableElementOf t) xs g is = absurd (no_some g is)
operated_is tree.BitOf xs g is = absurd (no_some g is)
operated_is tree.SliceOf xs g is = absurd (no_some g is)
operated_is tree.And xs g is = absurd (no_some g is)
operated_is tree.Or xs g is = absurd (no_some g is)
operated_is tree.Concat xs g is = absurd (no_some g is)
operated_is tree.Signed xs g is = absurd (no_some g is)
operated_is tree.ToInt xs g is = absurd (no_some g is)
operated_is tree.ToBool xs g is = absurd (no_some g is)

-- an expression and its gate
same_value : (e : Expression) (g : GExpr) → gate_in e ≡ Some g → SameValue e g
same_value (tree.Signal n) g is = subst (SameValue (tree.Signal n)) (same_of (gate.Signal n) g is) (signal_value_of n)
same_value (Operation o xs) g is = operated_is o xs g is
same_value (tree.Integer z) g is = absurd (no_some g is)
same_value (tree.Truth b) g is = absurd (no_some g is)
same_value (tree.Item e i) g is = absurd (no_some g is)
same_value (tree.Fixed z b) g is = absurd (no_some g is)
same_value (tree.Local l) g is = absurd (no_some g is)
same_value tree.Now g is = absurd (no_some g is)

-- ---- the generator

-- a body of one assignment, and what it drives
record Drives (b : Block) (g : Driven) : Type 0 where
  line : ℕ
  expression : Expression
  body : b ≡ Then (Set line (Whole (LeftSignal g.target)) expression) End
  same : SameValue expression g.value

target_is : (l : LeftSide) (n : ℕ) → target_in l ≡ Some n → l ≡ Whole (LeftSignal n)
target_is (Whole (LeftSignal m)) n is = ap (λ x. Whole (LeftSignal x)) (same_of m n is)
target_is (Whole (LeftElement m i)) n is = absurd (no_some n is)
target_is (Whole (LeftLocal m)) n is = absurd (no_some n is)
target_is (tree.LeftBit l i) n is = absurd (no_some n is)
target_is (tree.LeftSlice l i j) n is = absurd (no_some n is)
target_is (tree.Bind v k) n is = absurd (no_some n is)

drives_as : (path : List ℕ) (line : ℕ) (l : LeftSide) (e : Expression) (t : Option ℕ) (v : Option GExpr) (g : Driven) → target_in l ≡ t → gate_in e ≡ v → driven_as path t v ≡ Some g → Drives (Then (Set line l e) End) g
drives_as path line l e (Some t) (Some v) g to is from =
    subst (Drives (Then (Set line l e) End)) (same_of (record { function = path; target = t; value = v }) g from)
    (record { line = line; expression = e; body = ap (λ x. Then (Set line x e) End) (target_is l t to); same = same_value e v is })
drives_as path line l e (Some t) None g to is from = absurd (no_some g from)
drives_as path line l e None v g to is from = absurd (no_some g from)

drives_by : (path : List ℕ) (s : Statement) (g : Driven) → driven_by path s ≡ Some g → Drives (Then s End) g
drives_by path (Set line l e) g is = drives_as path line l e (target_in l) (gate_in e) g refl refl is
drives_by path (tree.If line arms other) g is = absurd (no_some g is)
drives_by path (tree.While line test body) g is = absurd (no_some g is)
drives_by path (tree.For line v down from to step body) g is = absurd (no_some g is)
drives_by path s g is = absurd (no_some g is)

drives_in : (path : List ℕ) (b : Block) (g : Driven) → driven_in path b ≡ Some g → Drives b g
drives_in path (Then s End) g is = drives_by path s g is
drives_in path End g is = absurd (no_some g is)
drives_in path (Then s (Then t b)) g is = absurd (no_some g is)

drives_of : (path : List ℕ) (k : FlatKind) (b : Block) (g : Driven) → driven_of path k b ≡ Some g → Drives b g
drives_of path runs.Comb b g is = drives_in path b g is
drives_of path (runs.Always w) b g is = absurd (no_some g is)
drives_of path (runs.Seq w r) b g is = absurd (no_some g is)
drives_of path runs.Instance b g is = absurd (no_some g is)

-- ---- the design

-- a gate of a design, and its one statement
made : (d : Flat) (x : Option Driven) (g : Design) → design_with d x ≡ Some g → (y : Driven) × (x ≡ Some y) × (statements g ≡ Assign y.target y.value ∷ [])
made d None g is = absurd (no_some g is)
made d (Some y) g is = by (is_gate d y) is
  where
    by : (b : Bool) → cond b (Some (design_of d y)) None ≡ Some g → (z : Driven) × (Some y ≡ Some z) × (statements g ≡ Assign z.target z.value ∷ [])
    by true e = (y, refl, ap statements (sym (same_of (design_of d y) g e)))
    by false e = absurd (no_some g e)

keeps : (b : Block) (y : Driven) (g : Design) → Drives b y → statements g ≡ Assign y.target y.value ∷ [] → KeepsBody b g
keeps b y g w is = record { line = w.line; target = y.target; expression = w.expression; value = y.value; body = w.body; statement = is; same = w.same }

pub keeps_body : (d : Flat) (path : List ℕ) (k : FlatKind) (b : Block) (g : Design) → design_with d (driven_of path k b) ≡ Some g → KeepsBody b g
keeps_body d path k b g is =
    let m = made d (driven_of path k b) g is in
    keeps b m.0 g (drives_of path k b m.0 m.1) m.2

pub keeps_design : (d : Flat) (g : Design) → gate_of d ≡ Some g → KeepsDesign d g
keeps_design d g is = by d.generators refl
  where
    by : (gs : List FlatGenerator) → d.generators ≡ gs → KeepsDesign d g
    by [] e = absurd (no_some g (sym (ap (λ (x : List FlatGenerator). design_with d (driven_alone driven_by_generator x)) e) ∙ is))
    by (x ∷ []) e = record {
      generator = x;
      alone = e;
      body = keeps_body d x.path x.kind (body_of x) g (sym (ap (λ (x : List FlatGenerator). design_with d (driven_alone driven_by_generator x)) e) ∙ is);
    }
    by (x ∷ y ∷ gs) e = absurd (no_some g (sym (ap (λ (x : List FlatGenerator). design_with d (driven_alone driven_by_generator x)) e) ∙ is))

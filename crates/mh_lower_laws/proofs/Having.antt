-- What is known of an expression that was read, by its parts.
use Rattle.std.proofs.Common.{◌≡◌, ℕ, ℤ, Bool, true, false, List, [], ◌∷◌, length, Option, Some, None, refl, ap, sym, ◌∙◌, subst}
use Rattle.std.specs.Prelude.{nat_lt}
use Rattle.std.specs.List.{list_all, list_any}
use Rattle.std.proofs.lemmas.Bool.{and_from, or_from}
use Rattle.std.proofs.lemmas.List.Folds.{list_all-append, list_any-append}
use Rattle.mh_codes.specs.Widths.{width_of}
use Rattle.mh_num.specs.declared.bounds.Bounds.{Bounds}
use Rattle.mh_design.specs.declared.design.Design.{Design}
use Rattle.mh_design.specs.declared.design.Kind.{Kind}
use Rattle.mh_design.specs.declared.design.Kind.TheVariants as kind
use Rattle.mh_design.specs.declared.design.Local.{Local as Variable}
use Rattle.mh_design.specs.declared.kinds.ValueKind.{ValueKind}
use Rattle.mh_design.specs.declared.kinds.ValueKind.TheVariants as value
use Rattle.mh_design.specs.declared.expression.GExpr.{GExpr}
use Rattle.mh_design.specs.declared.expression.GExpr.TheVariants as e
use Rattle.mh_design.specs.Assigned.{is_local}
use Rattle.mh_design.specs.Constants.{keeps_rule, part_keeps, base_width, kind_width}
use Rattle.mh_design.specs.Kinds.{is_bits, read_as, operated, has_base, is_base, kind_of, kinds_of}
use Rattle.mh_design.specs.Numbering.{expressions, all_expressions}
use Rattle.mh_design.specs.Tree.{Expression, Expressions, Operator, Integer, Truth, Operation, NoMore, More, expression_of, one, two, three}
use Rattle.mh_design.specs.WellFormed.{kind_fits}
use Rattle.mh_design.proofs.Shapes.{expression-integer, expression-truth}
use Rattle.mh_exprs.specs.declared.typed.Typed.{Typed}
use Rattle.mh_exprs.specs.declared.typed.Work.{Work}
use Rattle.mh_exprs.specs.Leaves.{is_assigned, declared, integer, truth}
use Rattle.mh_exprs.specs.Operations.{bounds_in}
use Rattle.mh_lower_laws.specs.Holds.{Extends}
use Rattle.mh_lower_laws.specs.Laws.{Known, HasKind}
use Rattle.mh_lower_laws.proofs.Growth.{grown, from_parts, from_more, kind_later, kinds_later, keeps_later, all_keep_later, width_same}

-- an enum that a kind names is there
abbrev pub value_fits : Design → ValueKind → Bool
value_fits d value.Bool = true
value_fits d value.Int = true
value_fits d (value.Bits s) = true
value_fits d (value.Item n) = nat_lt n (length d.enums)

-- an index and a slice may be taken of it, within these bounds
pub record IsBase (ls : List Variable) (d : Design) (x : Expression) (k : ValueKind) (b : Bounds) : Type 0 where
  pub base : is_base x ≡ true
  pub width : base_width d ls x ≡ Some (width_of b.lo b.top)
  pub bits : is_bits k ≡ true

-- what is known of what was read
pub record Has (w : Work) (ls : List Variable) (d : Design) (t : Typed) : Type 0 where
  pub fits : HasKind w ls d (expression_of t.expr) t.kind
  pub base : (b : Bounds) → bounds_in t.base ≡ Some b → IsBase ls d (expression_of t.expr) t.kind b
  pub enums : value_fits d t.kind ≡ true

-- what is known of the parts of an operation
pub record HaveKinds (w : Work) (ls : List Variable) (d : Design) (xs : Expressions) (ks : List ValueKind) : Type 0 where
  pub kinds : kinds_of d ls xs ≡ Some ks
  pub keeps : list_all (keeps_rule d ls) (all_expressions xs) ≡ true
  pub assigned : (v : ℕ) → is_assigned w.here v ≡ false → list_any (is_local v) (all_expressions xs) ≡ false

module _ (w : Work) (ls : List Variable) (d : Design) where
  pub no_parts : HaveKinds w ls d NoMore []
  no_parts = record { kinds = refl; keeps = refl; assigned = λ v h. refl }

  pub more_parts : (x : Expression) (k : ValueKind) (xs : Expressions) (ks : List ValueKind) → HasKind w ls d x k → HaveKinds w ls d xs ks → HaveKinds w ls d (More x xs) (k ∷ ks)
  more_parts x k xs ks h p = record {
    kinds = from_more (kind_of d ls x) (kinds_of d ls xs) k ks h.kind p.kinds;
    keeps = list_all-append (keeps_rule d ls) (expressions x) (all_expressions xs) ∙ and_from (list_all (keeps_rule d ls) (expressions x)) (list_all (keeps_rule d ls) (all_expressions xs)) h.keeps p.keeps;
    assigned = λ v u. list_any-append (is_local v) (expressions x) (all_expressions xs) ∙ or_from (list_any (is_local v) (expressions x)) (list_any (is_local v) (all_expressions xs)) (h.assigned v u) (p.assigned v u);
  }

  pub one_part : (x : Expression) (k : ValueKind) → HasKind w ls d x k → HaveKinds w ls d (one x) (k ∷ [])
  one_part x k h = more_parts x k NoMore [] h no_parts

  pub two_parts : (x y : Expression) (k l : ValueKind) → HasKind w ls d x k → HasKind w ls d y l → HaveKinds w ls d (two x y) (k ∷ l ∷ [])
  two_parts x y k l h i = more_parts x k (one y) (l ∷ []) h (one_part y l i)

  pub three_parts : (x y z : Expression) (k l m : ValueKind) → HasKind w ls d x k → HasKind w ls d y l → HasKind w ls d z m → HaveKinds w ls d (three x y z) (k ∷ l ∷ m ∷ [])
  three_parts x y z k l m h i j = more_parts x k (two y z) (l ∷ m ∷ []) h (two_parts y z l m i j)

  -- an operation by its parts
  pub of_operation : (o : Operator) (xs : Expressions) (ks : List ValueKind) (k : ValueKind) → HaveKinds w ls d xs ks → has_base o xs ≡ true → operated d o ks ≡ Some k → part_keeps d ls o xs ≡ true → HasKind w ls d (Operation o xs) k
  of_operation o xs ks k p b f q = record {
    kind = from_parts (has_base o xs) (operated d o) (kinds_of d ls xs) ks k b p.kinds f;
    keeps = and_from (part_keeps d ls o xs) (list_all (keeps_rule d ls) (all_expressions xs)) q p.keeps;
    assigned = p.assigned;
  }

  pub has_kind_as : (x y : Expression) (k : ValueKind) → y ≡ x → HasKind w ls d x k → HasKind w ls d y k
  has_kind_as x y k e h = subst (λ z. HasKind w ls d z k) (sym e) h

  no_bounds : (t : Typed) → t.base ≡ None → (b : Bounds) → bounds_in t.base ≡ Some b → IsBase ls d (expression_of t.expr) t.kind b
  no_bounds t e b h = let f : None ≡ Some b = ap bounds_in (sym e) ∙ h in absurd (cc)

  -- what has no declared kind
  pub has_plain : (g : GExpr) (x : Expression) (k : ValueKind) (width : Option ℤ) → expression_of g ≡ x → HasKind w ls d x k → value_fits d k ≡ true → Has w ls d (record { expr = g; kind = k; width = width; base = None })
  has_plain g x k width e h f = record { fits = has_kind_as x (expression_of g) k e h; base = λ b q. absurd (cc); enums = f }

  bounds_are : (k : Kind) (x : Expression) (b : Bounds) → is_base x ≡ true → base_width d ls x ≡ kind_width k → bounds_in (Some k) ≡ Some b → IsBase ls d x (read_as k) b
  bounds_are kind.Bool x b p q h = absurd (cc)
  bounds_are kind.Int x b p q h = absurd (cc)
  bounds_are (kind.Bits c) x b p q h = let same : c ≡ b = cc in record { base = p; width = q ∙ ap (λ (z : Bounds). Some (width_of z.lo z.top)) same; bits = refl }
  bounds_are (kind.Item n) x b p q h = absurd (cc)

  enum_there : (k : Kind) → kind_fits d k ≡ true → value_fits d (read_as k) ≡ true
  enum_there kind.Bool h = refl
  enum_there kind.Int h = refl
  enum_there (kind.Bits b) h = refl
  enum_there (kind.Item n) h = h

  -- what has one
  pub has_declared : (g : GExpr) (x : Expression) (k : Kind) → expression_of g ≡ x → HasKind w ls d x (read_as k) → is_base x ≡ true → base_width d ls x ≡ kind_width k → kind_fits d k ≡ true → Has w ls d (declared g k)
  has_declared g x k e h p q f = record {
    fits = has_kind_as x (expression_of g) (read_as k) e h;
    base = λ b i. subst (λ z. IsBase ls d z (read_as k) b) (sym e) (bounds_are k x b p q i);
    enums = enum_there k f;
  }

  pub has_integer : (z : ℤ) → Has w ls d (integer (e.Integer z))
  has_integer z = has_plain (e.Integer z) (Integer z) value.Int None (expression-integer z) (record { kind = refl; keeps = refl; assigned = λ v u. refl }) refl

  pub has_truth : (b : Bool) → Has w ls d (truth (e.Truth b))
  has_truth b = has_plain (e.Truth b) (Truth b) value.Bool None (expression-truth b) (record { kind = refl; keeps = refl; assigned = λ v u. refl }) refl

-- ---- in a design that has more

module _ (w : Work) (ls : List Variable) (d f : Design) (x : Extends d f) where
  pub has_kind_later : (y : Expression) (k : ValueKind) → HasKind w ls d y k → HasKind w ls f y k
  has_kind_later y k h = record { kind = kind_later d f (grown d f x) ls y k h.kind; keeps = keeps_later d f (grown d f x) ls y k h.kind h.keeps; assigned = h.assigned }

  pub value_fits_later : (k : ValueKind) → value_fits d k ≡ true → value_fits f k ≡ true
  value_fits_later value.Bool h = refl
  value_fits_later value.Int h = refl
  value_fits_later (value.Bits s) h = refl
  value_fits_later (value.Item n) h = ap (λ es. nat_lt n (length es)) (grown d f x).enums ∙ h

  pub kind_fits_later : (k : Kind) → kind_fits d k ≡ true → kind_fits f k ≡ true
  kind_fits_later kind.Bool h = refl
  kind_fits_later kind.Int h = refl
  kind_fits_later (kind.Bits b) h = refl
  kind_fits_later (kind.Item n) h = ap (λ es. nat_lt n (length es)) (grown d f x).enums ∙ h

  pub has_later : (t : Typed) → Has w ls d t → Has w ls f t
  has_later t h = record {
    fits = has_kind_later (expression_of t.expr) t.kind h.fits;
    base = λ b i. record {
      base = (h.base b i).base;
      width = width_same d f (grown d f x) ls (expression_of t.expr) t.kind h.fits.kind ∙ (h.base b i).width;
      bits = (h.base b i).bits;
    };
    enums = value_fits_later t.kind h.enums;
  }

  pub have_kinds_later : (xs : Expressions) (ks : List ValueKind) → HaveKinds w ls d xs ks → HaveKinds w ls f xs ks
  have_kinds_later xs ks h = record {
    kinds = kinds_later d f (grown d f x) ls xs ks h.kinds;
    keeps = all_keep_later d f (grown d f x) ls xs ks h.kinds h.keeps;
    assigned = h.assigned;
  }

  pub known_later : Known w ls d → Known w ls f
  known_later h = record { kinds = h.kinds; fit = λ v k e. kind_fits_later k (h.fit v k e) }

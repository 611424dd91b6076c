-- How deep what is read is: an expression is no deeper than that of the source.
use Rattle.std.proofs.Common.{◌≡◌, ℕ, zero, suc, ◌-◌, ◌≤◌, max, ℤ, pos, ◌+ℤ◌, Bool, true, false, ◌&&◌, List, [], ◌∷◌, ◌++◌, map, length, Option, Some, None, Result, Ok, Err, IfOk, refl, ap, ◌∙◌, arith, if◌then◌else◌}
use Rattle.std.specs.Prelude.{nat_lt, bytes_eq, codes}
use Rattle.std.proofs.lemmas.Bool.{and_parts, and_from, lt-ltb}
use Rattle.mh_num.specs.Results.{in_i128}
use Rattle.mh_num.specs.declared.bounds.Bounds.{Bounds}
use Rattle.mh_pytree.specs.declared.expression.Operator.{Operator}
use Rattle.mh_pytree.specs.declared.expression.Operator.TheVariants as op
use Rattle.mh_pytree.specs.declared.expression.Sign.{Sign}
use Rattle.mh_pytree.specs.declared.expression.Sign.TheVariants as sign
use Rattle.mh_text.specs.declared.code.Code.{Code}
use Rattle.mh_text.specs.declared.code.Code.TheVariants.{E2NotElaborable, E3BadArguments, E5TooWide, E10KindClash}
use Rattle.mh_consts.specs.declared.kinds.Const.{Const, out-Const}
use Rattle.mh_consts.specs.declared.kinds.Const.TheOpen.{Const-F}
use Rattle.mh_consts.specs.declared.scope.Scope.{Scope}
use Rattle.mh_consts.specs.Expression as x
use Rattle.mh_consts.specs.Expression.{Ex, Exs, Head, Keys}
use Rattle.mh_consts.specs.Constant.{value}
use Rattle.mh_consts.specs.Names.{lookup}
use Rattle.mh_consts.specs.Outcome.{after, given}
use Rattle.mh_design.specs.declared.design.Design.{Design}
use Rattle.mh_design.specs.declared.kinds.ValueKind.{ValueKind}
use Rattle.mh_design.specs.declared.expression.GExpr.{GExpr}
use Rattle.mh_design.specs.declared.expression.GExpr.TheVariants as e
use Rattle.mh_design.specs.declared.expression.UnaryOp.{UnaryOp}
use Rattle.mh_design.specs.declared.expression.UnaryOp.TheVariants as unary
use Rattle.mh_design.specs.declared.expression.BinaryOp.{BinaryOp}
use Rattle.mh_design.specs.declared.expression.BinaryOp.TheVariants as binary
use Rattle.mh_design.specs.Constants.{constant_of}
use Rattle.mh_design.specs.Depth.{is_within, are_within}
use Rattle.mh_design.specs.Kinds.{signal_kind, is_number, is_bits, is_part, unary_kind}
use Rattle.mh_design.specs.Tree as tree
use Rattle.mh_design.specs.Tree.{Expression, Expressions, Operation, NoMore, More, expression_of, row}
use Rattle.mh_design.proofs.Shapes as shapes
use Rattle.mh_exprs.specs.declared.locals.Locals.{Locals}
use Rattle.mh_exprs.specs.declared.names.Plan.{Plan}
use Rattle.mh_exprs.specs.declared.names.Plan.TheVariants as plan
use Rattle.mh_exprs.specs.declared.typed.Typed.{Typed}
use Rattle.mh_exprs.specs.declared.typed.Row.{Row}
use Rattle.mh_exprs.specs.declared.typed.Work.{Work}
use Rattle.mh_exprs.specs.Calls.{Collection, Listed, Tupled, Neither, callee_of, collection_of, is_maker, plan_of}
use Rattle.mh_exprs.specs.Constant.{folds}
use Rattle.mh_exprs.specs.Expression as spec
use Rattle.mh_exprs.specs.Expression.{read, operation, first, second, all}
use Rattle.mh_exprs.specs.Leaves.{is_assigned, kind_at}
use Rattle.mh_exprs.specs.Leaves as leaves
use Rattle.mh_exprs.specs.Operations.{bounds_in}
use Rattle.mh_exprs.specs.Operations as operations
use Rattle.mh_exprs.specs.Step.{Step, pure, refuse, just, seeing, chain}
use Rattle.mh_lower_laws.proofs.Stepping.{ok_after, ok_if}

-- ---- how deep an expression of a source is, without its brackets

abbrev mutual
  pub ex_depth : Ex → ℕ
  ex_depth (x.Number n) = 1
  ex_depth (x.Str bytes) = 1
  ex_depth (x.Truth b) = 1
  ex_depth x.Nothing = 1
  ex_depth (x.Name t) = 1
  ex_depth (x.And a b) = suc (max (ex_depth a) (ex_depth b))
  ex_depth (x.Or a b) = suc (max (ex_depth a) (ex_depth b))
  ex_depth (x.Op h xs) = suc (exs_depth xs)
  ex_depth (x.Collect item t over) = suc (max (ex_depth item) (ex_depth over))

  pub exs_depth : Exs → ℕ
  exs_depth x.NoMore = 0
  exs_depth (x.More e es) = max (ex_depth e) (exs_depth es)

pub some_depth : (a : Ex) → 1 ≤ ex_depth a
some_depth (x.Number n) = omega arith
some_depth (x.Str bytes) = omega arith
some_depth (x.Truth b) = omega arith
some_depth x.Nothing = omega arith
some_depth (x.Name t) = omega arith
some_depth (x.And a b) = omega arith
some_depth (x.Or a b) = omega arith
some_depth (x.Op h xs) = omega arith
some_depth (x.Collect item t over) = omega arith

-- ---- what has so many levels

pub leaf_within : (m : ℕ) → 1 ≤ m → nat_lt 0 m ≡ true
leaf_within m h = lt-ltb 0 m h

within : (o : tree.Operator) (xs : Expressions) (k : ℕ) → are_within xs k ≡ true → is_within (Operation o xs) (suc k) ≡ true
within o xs k h = let e : suc k - 1 ≡ k = omega arith in and_from (nat_lt 0 (suc k)) (are_within xs (suc k - 1)) (lt-ltb 0 (suc k) (omega arith)) (ap (are_within xs) e ∙ h)

-- an expression that was read has at most so many levels
abbrev pub Deep : ℕ → Typed → Type 0
Deep m t = is_within (expression_of t.expr) m ≡ true

deep_as : (g : GExpr) (y : Expression) (m : ℕ) → expression_of g ≡ y → is_within y m ≡ true → is_within (expression_of g) m ≡ true
deep_as g y m e h = ap (λ z. is_within z m) e ∙ h

pub integer_deep : (z : ℤ) (m : ℕ) → 1 ≤ m → is_within (expression_of (e.Integer z)) m ≡ true
integer_deep z m h = deep_as (e.Integer z) (tree.Integer z) m (shapes.expression-integer z) (leaf_within m h)

one_deep : (o : tree.Operator) (a : GExpr) (k : ℕ) → is_within (expression_of a) k ≡ true → is_within (Operation o (tree.one (expression_of a))) (suc k) ≡ true
one_deep o a k h = within o (tree.one (expression_of a)) k (and_from (is_within (expression_of a) k) true h refl)

two_deep : (o : tree.Operator) (a b : GExpr) (k : ℕ) → is_within (expression_of a) k ≡ true → is_within (expression_of b) k ≡ true → is_within (Operation o (tree.two (expression_of a) (expression_of b))) (suc k) ≡ true
two_deep o a b k h i = within o (tree.two (expression_of a) (expression_of b)) k (and_from (is_within (expression_of a) k) _ h (and_from (is_within (expression_of b) k) true i refl))

three_deep : (o : tree.Operator) (a b c : GExpr) (k : ℕ) → is_within (expression_of a) k ≡ true → is_within (expression_of b) k ≡ true → is_within (expression_of c) k ≡ true →
    is_within (Operation o (tree.three (expression_of a) (expression_of b) (expression_of c))) (suc k) ≡ true
three_deep o a b c k h i j = within o (tree.three (expression_of a) (expression_of b) (expression_of c)) k (and_from (is_within (expression_of a) k) _ h (and_from (is_within (expression_of b) k) _ i (and_from (is_within (expression_of c) k) true j refl)))

-- any answer, and one of which this holds
pub any_then : {A B : Type 0} (Q : B → Type 0) (r : Result A Code) (f : A → Result B Code) → ((y : A) → IfOk (f y) Q) → IfOk (after r f) Q
any_then Q (Ok y) f h = h y
any_then Q (Err code) f h = tt

of_deep : (g : GExpr) (width : Option ℤ) (o : Option ValueKind) (m : ℕ) → is_within (expression_of g) m ≡ true → IfOk (operations.of_kind g width o) (Deep m)
of_deep g width None m h = tt
of_deep g width (Some k) m h = h

-- ---- leaves

step_deep : (wide : Bool) (d : Design) (y : Const-F Const) (m : ℕ) → 1 ≤ m → IfOk (leaves.leaf_step wide d y) (Deep m)
step_deep wide d (Const-F.Int n) m h = integer_deep n m h
step_deep wide d (Const-F.Truth b) m h = deep_as (e.Truth b) (tree.Truth b) m (shapes.expression-truth b) (leaf_within m h)
step_deep wide d (Const-F.Item n place) m h = ok_if (Deep m) (nat_lt place _) _ _ (λ q. deep_as (e.Item n place) (tree.Item n place) m (shapes.expression-item n place) (leaf_within m h)) (λ q. tt)
step_deep true d (Const-F.Bounded v b) m h = deep_as (e.Fixed v b) (tree.Fixed v b) m (shapes.expression-fixed v b) (leaf_within m h)
step_deep false d (Const-F.Bounded v b) m h = integer_deep v m h
step_deep wide d (Const-F.Signal n k) m h = any_then (Deep m) (given (signal_kind d n) E10KindClash) _ (λ l. deep_as (e.Signal n) (tree.Signal n) m (shapes.expression-signal n) (leaf_within m h))
step_deep wide d y m h = tt

pub leaf_deep : (wide : Bool) (v : Const) (d : Design) (m : ℕ) → 1 ≤ m → IfOk (leaves.leaf wide v d) (Deep m)
leaf_deep wide v d m h = step_deep wide d (out-Const v) m h

pub local_deep : (w : Work) (v m : ℕ) → 1 ≤ m → IfOk (leaves.local w v) (Deep m)
local_deep w v m h = ok_if (Deep m) (is_assigned w.here v) _ _ (λ a. any_then (Deep m) (given (kind_at w v) _) _ (λ k. deep_as (e.Local v) (tree.Local v) m (shapes.expression-local v) (leaf_within m h))) (λ a. tt)

held_deep : (o : Option Const) (d : Design) (m : ℕ) → 1 ≤ m → IfOk (leaves.held o d) (Deep m)
held_deep None d m h = tt
held_deep (Some v) d m h = leaf_deep false v d m h

named_deep : (n : Option ℕ) (o : Option Const) (w : Work) (d : Design) (m : ℕ) → 1 ≤ m → IfOk (leaves.name_or n o w d) (Deep m)
named_deep (Some n) o w d m h = local_deep w n m h
named_deep None o w d m h = held_deep o d m h

-- ---- steps

-- from this design the step gives what has at most so many levels
abbrev pub DeepStep : ℕ → Design → Step Typed → Type 0
DeepStep m d p = IfOk (p d) (λ y. Deep m y.0)

pub just_deep : (m : ℕ) (d : Design) (r : Result Typed Code) → IfOk r (Deep m) → IfOk (just r d) (λ y. Deep m y.0)
just_deep m d (Ok t) h = h
just_deep m d (Err code) h = tt

pub chain_deep : {A B : Type 0} (P : A → Type 0) (Q : B → Type 0) (d : Design) (p : Step A) (f : A → Step B) → IfOk (p d) (λ y. P y.0) → ((a : A) (g : Design) → P a → IfOk (f a g) (λ y. Q y.0)) → IfOk (chain p f d) (λ y. Q y.0)
chain_deep P Q d p f h k = ok_after (λ y. P y.0) (λ y. Q y.0) (p d) (λ y. f y.0 y.1) h (λ y q. k y.0 y.1 q)

-- whatever a step gives
pub any_chain : {A B : Type 0} (Q : B → Type 0) (d : Design) (p : Step A) (f : A → Step B) → ((a : A) (g : Design) → IfOk (f a g) (λ y. Q y.0)) → IfOk (chain p f d) (λ y. Q y.0)
any_chain Q d p f k = any_then (λ y. Q y.0) (p d) (λ y. f y.0 y.1) (λ y. k y.0 y.1)

name_deep : (s : Scope) (locals : Locals) (w : Work) (t : List ℕ) (m : ℕ) (d : Design) → 1 ≤ m → DeepStep m d (leaves.name s locals w t)
name_deep s locals w t m d h = just_deep m d (leaves.name_or (lookup locals.numbers t) (lookup s.names t) w d) (named_deep (lookup locals.numbers t) (lookup s.names t) w d m h)

element_deep : (s : Scope) (list : ℕ) (t : Typed) (k : ℕ) (d : Design) → Deep k t → DeepStep (suc k) d (leaves.element s list t)
element_deep s list t k d h = any_chain (Deep (suc k)) d (leaves.cell s list t) (λ m. pure (leaves.declared (e.Element m.0 t.expr) m.1))
    (λ m g. deep_as (e.Element m.0 t.expr) _ (suc k) (shapes.expression-element m.0 t.expr) (one_deep (tree.ElementOf m.0) t.expr k h))

table_deep : (zs : List ℤ) (t : Typed) (k : ℕ) (d : Design) → Deep k t → DeepStep (suc k) d (leaves.table_element zs t)
table_deep zs t k d h = any_chain (Deep (suc k)) d (just (leaves.index_at (length zs) t)) (λ u. chain (leaves.table zs) (λ n. pure (leaves.integer (e.TableElement n t.expr))))
    (λ u g. any_chain (Deep (suc k)) g (leaves.table zs) (λ n. pure (leaves.integer (e.TableElement n t.expr))) (λ n f. deep_as (e.TableElement n t.expr) _ (suc k) (shapes.expression-table_element n t.expr) (one_deep (tree.TableElementOf n) t.expr k h)))

item_deep : (cs : List Const) (t : Typed) (k : ℕ) (d : Design) → DeepStep (suc k) d (leaves.item_of cs t)
item_deep cs t k d = any_chain (Deep (suc k)) d (just (leaves.place_in cs (constant_of (expression_of t.expr)))) (λ v. seeing (leaves.leaf false v)) (λ v g. just_deep (suc k) g (leaves.leaf false v g) (leaf_deep false v g (suc k) (omega arith)))

as_deep : (cs : List Const) (o : Option (List ℤ)) (t : Typed) (k : ℕ) (d : Design) → Deep k t → DeepStep (suc k) d (leaves.tuple_as cs o t)
as_deep cs (Some zs) t k d h = table_deep zs t k d h
as_deep cs None t k d h = item_deep cs t k d

tuple_deep : (cs : List Const) (t : Typed) (k : ℕ) (d : Design) → Deep k t → DeepStep (suc k) d (leaves.tuple_element cs t)
tuple_deep [] t k d h = tt
tuple_deep (v ∷ cs) t k d h = as_deep (v ∷ cs) (leaves.integers_onto [] (v ∷ cs)) t k d h

-- ---- operations

unary_deep : (o : UnaryOp) (t : Typed) (width : Option ℤ) (k : ℕ) → Deep k t → IfOk (operations.of_kind (e.Unary o t.expr) width (unary_kind o t.kind)) (Deep (suc k))
unary_deep o t width k h = of_deep (e.Unary o t.expr) width (unary_kind o t.kind) (suc k) (deep_as (e.Unary o t.expr) (Operation (tree.Unary o) (tree.one (expression_of t.expr))) (suc k) (shapes.expression-unary o t.expr) (one_deep (tree.Unary o) t.expr k h))

signed_deep : (o : Sign) (t : Typed) (k : ℕ) → Deep k t → IfOk (operations.signed o t) (Deep (suc k))
signed_deep sign.Minus t k h = unary_deep unary.Minus t None k h
signed_deep sign.Plus t k h = unary_deep unary.Plus t None k h
signed_deep sign.Invert t k h = unary_deep unary.Invert t t.width k h

negated_deep : (t : Typed) (k : ℕ) → Deep k t → IfOk (operations.negated t) (Deep (suc k))
negated_deep t k h = unary_deep unary.Not t None k h

both_deep : (o : BinaryOp) (t u : Typed) (k : ℕ) → Deep k t → Deep k u → IfOk (operations.both o t u) (Deep (suc k))
both_deep o t u k h i = of_deep _ None _ (suc k) (deep_as (e.Binary o t.expr u.expr) _ (suc k) (shapes.expression-binary o t.expr u.expr) (two_deep (tree.Binary o) t.expr u.expr k h i))

logical_deep : (b : Bool) (g : GExpr) (m : ℕ) → is_within (expression_of g) m ≡ true → IfOk {T = Typed} {E = Code} (if b then Ok (leaves.truth g) else Err E10KindClash) (Deep m)
logical_deep true g m h = h
logical_deep false g m h = tt

pub operated_deep : (o : Operator) (t u : Typed) (k : ℕ) → Deep k t → Deep k u → IfOk (operations.operated o t u) (Deep (suc k))
operated_deep op.Or t u k h i = logical_deep (is_number t.kind && is_number u.kind) (e.Or t.expr u.expr) (suc k) (deep_as (e.Or t.expr u.expr) _ (suc k) (shapes.expression-or t.expr u.expr) (two_deep tree.Or t.expr u.expr k h i))
operated_deep op.And t u k h i = logical_deep (is_number t.kind && is_number u.kind) (e.And t.expr u.expr) (suc k) (deep_as (e.And t.expr u.expr) _ (suc k) (shapes.expression-and t.expr u.expr) (two_deep tree.And t.expr u.expr k h i))
operated_deep op.Equal t u k h i = both_deep binary.Equal t u k h i
operated_deep op.NotEqual t u k h i = both_deep binary.NotEqual t u k h i
operated_deep op.Less t u k h i = both_deep binary.Less t u k h i
operated_deep op.LessEqual t u k h i = both_deep binary.LessEqual t u k h i
operated_deep op.Greater t u k h i = both_deep binary.Greater t u k h i
operated_deep op.GreaterEqual t u k h i = both_deep binary.GreaterEqual t u k h i
operated_deep op.BitOr t u k h i = both_deep binary.BitOr t u k h i
operated_deep op.BitXor t u k h i = both_deep binary.BitXor t u k h i
operated_deep op.BitAnd t u k h i = both_deep binary.BitAnd t u k h i
operated_deep op.ShiftLeft t u k h i = both_deep binary.ShiftLeft t u k h i
operated_deep op.ShiftRight t u k h i = both_deep binary.ShiftRight t u k h i
operated_deep op.Add t u k h i = both_deep binary.Add t u k h i
operated_deep op.Subtract t u k h i = both_deep binary.Subtract t u k h i
operated_deep op.Multiply t u k h i = both_deep binary.Multiply t u k h i
operated_deep op.Divide t u k h i = both_deep binary.Divide t u k h i
operated_deep op.Remainder t u k h i = both_deep binary.Remainder t u k h i

bit_deep : (t u : Typed) (k : ℕ) → Deep k t → Deep k u → IfOk (operations.bit t u) (Deep (suc k))
bit_deep t u k h i = any_then (Deep (suc k)) (given (bounds_in t.base) E10KindClash) _ (λ b. any_then (Deep (suc k)) (operations.bit_fits b u) _ (λ z. deep_as (e.Bit t.expr u.expr) _ (suc k) (shapes.expression-bit t.expr u.expr) (two_deep tree.BitOf t.expr u.expr k h i)))

slice_deep : (t u v : Typed) (k : ℕ) → Deep k t → Deep k u → Deep k v → IfOk (operations.slice t u v) (Deep (suc k))
slice_deep t u v k h i j = any_then (Deep (suc k)) (given (bounds_in t.base) E10KindClash) _ (λ b. any_then (Deep (suc k)) (operations.slice_fits b u v) _
    (λ z. deep_as (e.Slice t.expr u.expr v.expr) _ (suc k) (shapes.expression-slice t.expr u.expr v.expr) (three_deep tree.SliceOf t.expr u.expr v.expr k h i j)))

end_deep : (name : List ℕ) (b : Bounds) (m : ℕ) → 1 ≤ m → IfOk (operations.end_named name b) (Deep m)
end_deep name b m h = ok_if (Deep m) (bytes_eq name (codes "min")) _ _ (λ q. integer_deep b.lo m h) (λ q. ok_if (Deep m) (bytes_eq name (codes "max")) _ _ (λ r. any_then (Deep m) (given (in_i128 (b.top +ℤ pos 1)) E5TooWide) (λ n. Ok (leaves.integer (e.Integer n))) (λ n. integer_deep n m h)) (λ r. tt))

attribute_deep : (name : List ℕ) (t : Typed) (m : ℕ) → 1 ≤ m → IfOk (operations.attribute name t) (Deep m)
attribute_deep name t m h = ok_if (Deep m) (operations.is_no_reading name) _ _ (λ q. tt) (λ q. any_then (Deep m) (given (bounds_in t.base) E10KindClash) _ (λ b. end_deep name b m h))

length_deep : (t : Typed) (m : ℕ) → 1 ≤ m → IfOk (operations.length t) (Deep m)
length_deep t m h = any_then (Deep m) (given t.width E3BadArguments) _ (λ n. integer_deep n m h)

made_deep : (b : Bool) (t : Typed) (code : Code) (m : ℕ) → Deep m t → IfOk (if b then Ok t else Err code) (Deep m)
made_deep true t code m h = h
made_deep false t code m h = tt

to_integer_deep : (t : Typed) (k : ℕ) → Deep k t → IfOk (operations.to_integer t) (Deep (suc k))
to_integer_deep t k h = made_deep (is_number t.kind) (leaves.integer (e.Int t.expr)) E10KindClash (suc k) (deep_as (e.Int t.expr) _ (suc k) (shapes.expression-int t.expr) (one_deep tree.ToInt t.expr k h))

to_truth_deep : (t : Typed) (k : ℕ) → Deep k t → IfOk (operations.to_truth t) (Deep (suc k))
to_truth_deep t k h = made_deep (is_number t.kind) (leaves.truth (e.Bool t.expr)) E10KindClash (suc k) (deep_as (e.Bool t.expr) _ (suc k) (shapes.expression-bool t.expr) (one_deep tree.ToBool t.expr k h))

unbounded_deep : (t : Typed) (k : ℕ) → Deep k t → IfOk (operations.unbounded t) (Deep (suc k))
unbounded_deep t k h = made_deep (is_number t.kind) (leaves.integer (e.Int t.expr)) E3BadArguments (suc k) (deep_as (e.Int t.expr) _ (suc k) (shapes.expression-int t.expr) (one_deep tree.ToInt t.expr k h))

read_signed_deep : (t : Typed) (k : ℕ) → Deep k t → IfOk (operations.read_signed t) (Deep (suc k))
read_signed_deep t k h = made_deep (is_bits t.kind) (leaves.integer (e.Signed t.expr)) E10KindClash (suc k) (deep_as (e.Signed t.expr) _ (suc k) (shapes.expression-signed t.expr) (one_deep tree.Signed t.expr k h))

without_deep : (keys : Keys) (t : Typed) (m : ℕ) → Deep m t → IfOk (spec.without_arguments keys t) (Deep m)
without_deep [] t m h = h
without_deep (key ∷ keys) t m h = tt

method_deep : (name : List ℕ) (keys : Keys) (t : Typed) (k : ℕ) → Deep k t → IfOk (spec.method name keys t) (Deep (suc k))
method_deep name keys t k h = by_name (bytes_eq name (codes "signed"))
  where
    by_name : (b : Bool) → IfOk (if b then after (operations.read_signed t) (spec.without_arguments keys) else Err E10KindClash) (Deep (suc k))
    by_name true = ok_after (Deep (suc k)) (Deep (suc k)) (operations.read_signed t) (spec.without_arguments keys) (read_signed_deep t k h) (λ u i. without_deep keys u (suc k) i)
    by_name false = tt

-- the parts of a `concat`
abbrev AllDeep : ℕ → List GExpr → Type 0
AllDeep m gs = are_within (row (map expression_of gs)) m ≡ true

deep_end : (gs : List GExpr) (g : GExpr) (m : ℕ) → AllDeep m gs → is_within (expression_of g) m ≡ true → AllDeep m (gs ++ g ∷ [])
deep_end [] g m h i = and_from (is_within (expression_of g) m) true i refl
deep_end (f ∷ gs) g m h i = let p = and_parts (is_within (expression_of f) m) (are_within (row (map expression_of gs)) m) h in and_from (is_within (expression_of f) m) _ p.0 (deep_end gs g m p.1 i)

joined_deep : (r : Row) (t : Typed) (m : ℕ) → AllDeep m r.parts → Deep m t → IfOk (operations.joined r t) (λ q. AllDeep m q.parts)
joined_deep r t m h i = ok_if (λ q. AllDeep m q.parts) (is_part t.kind) _ _ (λ b. any_then (λ q. AllDeep m q.parts) (operations.sum_width r.width (operations.part_width t.kind t.width)) _ (λ o. deep_end r.parts t.expr m h i)) (λ b. tt)

-- ---- expressions

module _ (s : Scope) (locals : Locals) (w : Work) where
  folding_deep : (m : ℕ) (d : Design) (wide : Bool) (a : Ex) (p : Step Typed) → 1 ≤ m → DeepStep m d p → DeepStep m d (spec.folding s locals wide a p)
  folding_deep m d wide a p h i = by_test (folds s locals a)
    where
      by_test : (b : Bool) → DeepStep m d (if b then spec.folded s wide a else p)
      by_test true = any_chain (Deep m) d (just (value s a)) (λ v. seeing (leaves.leaf wide v)) (λ v g. just_deep m g (leaves.leaf wide v g) (leaf_deep wide v g m h))
      by_test false = i

  on_one_deep : (k m : ℕ) (d : Design) (p : Step Typed) (f : Typed → Result Typed Code) → DeepStep k d p → ((t : Typed) → Deep k t → IfOk (f t) (Deep m)) → DeepStep m d (spec.on_one p f)
  on_one_deep k m d p f h i = chain_deep (Deep k) (Deep m) d p (λ t. just (f t)) h (λ t g j. just_deep m g (f t) (i t j))

  on_two_deep : (k m : ℕ) (d : Design) (p q : Step Typed) (f : Typed → Typed → Result Typed Code) → DeepStep k d p → ((g : Design) → DeepStep k g q) → ((t u : Typed) → Deep k t → Deep k u → IfOk (f t u) (Deep m)) → DeepStep m d (spec.on_two p q f)
  on_two_deep k m d p q f h i j = chain_deep (Deep k) (Deep m) d p (λ t. chain q (λ u. just (f t u))) h (λ t g a. chain_deep (Deep k) (Deep m) g q (λ u. just (f t u)) (i g) (λ u g' b. just_deep m g' (f t u) (j t u a b)))

  on_three_deep : (k m : ℕ) (d : Design) (p q r : Step Typed) (f : Typed → Typed → Typed → Result Typed Code) → DeepStep k d p → ((g : Design) → DeepStep k g q) → ((g : Design) → DeepStep k g r) →
      ((t u v : Typed) → Deep k t → Deep k u → Deep k v → IfOk (f t u v) (Deep m)) → DeepStep m d (spec.on_three p q r f)
  on_three_deep k m d p q r f h i l j = chain_deep (Deep k) (Deep m) d p (λ t. chain q (λ u. chain r (λ v. just (f t u v)))) h
      (λ t g a. chain_deep (Deep k) (Deep m) g q (λ u. chain r (λ v. just (f t u v))) (i g) (λ u g' b. chain_deep (Deep k) (Deep m) g' r (λ v. just (f t u v)) (l g') (λ v g'' c. just_deep m g'' (f t u v) (j t u v a b c))))

  indexed_deep : (k : ℕ) (d : Design) (c : Collection) (p q : Step Typed) → DeepStep k d p → ((g : Design) → DeepStep k g q) → DeepStep (suc k) d (spec.indexed s c p q)
  indexed_deep k d (Listed n) p q h i = chain_deep (Deep k) (Deep (suc k)) d q (λ t. leaves.element s n t) (i d) (λ t g j. element_deep s n t k g j)
  indexed_deep k d (Tupled cs) p q h i = chain_deep (Deep k) (Deep (suc k)) d q (λ t. leaves.tuple_element cs t) (i d) (λ t g j. tuple_deep cs t k g j)
  indexed_deep k d Neither p q h i = on_two_deep k (suc k) d p q operations.bit h i (λ t u a b. bit_deep t u k a b)

  misfit_deep : (m : ℕ) (d : Design) (p : Step (Unit {0})) → DeepStep m d (spec.misfit p)
  misfit_deep m d p = any_chain (Deep m) d p (λ u. refuse E3BadArguments) (λ u g. tt)

  row_deep : (k : ℕ) (d : Design) (p : Step Row) → IfOk (p d) (λ y. AllDeep k y.0.parts) → DeepStep (suc k) d (spec.joined_row p)
  row_deep k d p h = chain_deep (λ r. AllDeep k r.parts) (Deep (suc k)) d p (λ r. pure (operations.concatenated r)) h
      (λ r g i. deep_as (e.Concat r.parts) (Operation tree.Concat (row (map expression_of r.parts))) (suc k) (shapes.expression-concat r.parts) (within tree.Concat (row (map expression_of r.parts)) k i))

  called_deep : (k : ℕ) (d : Design) (c : Plan) (wide narrow : Step Typed) (p : Step Row) (q : Step (Unit {0})) → DeepStep k d wide → DeepStep k d narrow → IfOk (p d) (λ y. AllDeep k y.0.parts) → DeepStep (suc k) d (spec.called c wide narrow p q)
  called_deep k d (plan.Refused code) wide narrow p q a b r = tt
  called_deep k d plan.Now wide narrow p q a b r = deep_as e.Now tree.Now (suc k) shapes.expression-now (leaf_within (suc k) (omega arith))
  called_deep k d plan.Length wide narrow p q a b r = on_one_deep k (suc k) d wide operations.length a (λ t i. length_deep t (suc k) (omega arith))
  called_deep k d plan.Integer wide narrow p q a b r = on_one_deep k (suc k) d narrow operations.to_integer b (λ t i. to_integer_deep t k i)
  called_deep k d plan.Truth wide narrow p q a b r = on_one_deep k (suc k) d narrow operations.to_truth b (λ t i. to_truth_deep t k i)
  called_deep k d plan.Unbounded wide narrow p q a b r = on_one_deep k (suc k) d narrow operations.unbounded b (λ t i. unbounded_deep t k i)
  called_deep k d plan.Row wide narrow p q a b r = row_deep k d p r
  called_deep k d plan.Misfit wide narrow p q a b r = misfit_deep (suc k) d q

  zero_deep : (k : ℕ) (a : Ex) (xs : Exs) (d : Design) → max (ex_depth a) (exs_depth xs) ≤ k → DeepStep k d (pure operations.zero_end)
  zero_deep k a xs d h = integer_deep (pos 0) k (let o = some_depth a in omega (arith, o, h))

  either_deep : (m : ℕ) (d : Design) (b : Bool) (p q : Step Typed) → DeepStep m d p → DeepStep m d q → DeepStep m d (if b then p else q)
  either_deep m d true p q h i = h
  either_deep m d false p q h i = i

  next_deep : (k : ℕ) (r : Result Row Code) (f : Row → Step Row) (g : Design) → IfOk r (λ q. AllDeep k q.parts) → ((q : Row) → AllDeep k q.parts → IfOk (f q g) (λ y. AllDeep k y.0.parts)) → IfOk (chain (just r) f g) (λ y. AllDeep k y.0.parts)
  next_deep k (Ok q) f g h i = i q h
  next_deep k (Err code) f g h i = tt

  mutual
    pub reads_deep : (wide : Bool) (a : Ex) (m : ℕ) (d : Design) → ex_depth a ≤ m → DeepStep m d (read s locals w wide a)
    reads_deep wide (x.Number n) m d h = folding_deep m d wide (x.Number n) (refuse E10KindClash) h tt
    reads_deep wide (x.Str bytes) m d h = folding_deep m d wide (x.Str bytes) (refuse E10KindClash) h tt
    reads_deep wide (x.Truth b) m d h = folding_deep m d wide (x.Truth b) (refuse E10KindClash) h tt
    reads_deep wide x.Nothing m d h = folding_deep m d wide x.Nothing (refuse E10KindClash) h tt
    reads_deep wide (x.Name t) m d h = folding_deep m d wide (x.Name t) (leaves.name s locals w t) h (name_deep s locals w t m d h)
    reads_deep wide (x.And a b) zero d h = absurd (omega (arith, h))
    reads_deep wide (x.And a b) (suc k) d h =
        folding_deep (suc k) d wide (x.And a b) (spec.on_two (read s locals w false a) (read s locals w false b) (operations.operated op.And)) (omega arith)
        (on_two_deep k (suc k) d (read s locals w false a) (read s locals w false b) (operations.operated op.And) (reads_deep false a k d (omega (arith, h))) (λ g. reads_deep false b k g (omega (arith, h))) (λ t u i j. operated_deep op.And t u k i j))
    reads_deep wide (x.Or a b) zero d h = absurd (omega (arith, h))
    reads_deep wide (x.Or a b) (suc k) d h =
        folding_deep (suc k) d wide (x.Or a b) (spec.on_two (read s locals w false a) (read s locals w false b) (operations.operated op.Or)) (omega arith)
        (on_two_deep k (suc k) d (read s locals w false a) (read s locals w false b) (operations.operated op.Or) (reads_deep false a k d (omega (arith, h))) (λ g. reads_deep false b k g (omega (arith, h))) (λ t u i j. operated_deep op.Or t u k i j))
    reads_deep wide (x.Op o xs) zero d h = absurd (omega (arith, h))
    reads_deep wide (x.Op o xs) (suc k) d h = folding_deep (suc k) d wide (x.Op o xs) (operation s locals w o xs) (omega arith) (operations_deep o xs k d (omega (arith, h)))
    reads_deep wide (x.Collect item t over) m d h = folding_deep m d wide (x.Collect item t over) (refuse E10KindClash) (omega (arith, h)) tt

    operations_deep : (o : Head) (xs : Exs) (k : ℕ) (d : Design) → exs_depth xs ≤ k → DeepStep (suc k) d (operation s locals w o xs)
    operations_deep (x.Apply o) (x.More a xs) k d h = on_one_deep k (suc k) d (read s locals w (spec.is_wide o) a) (operations.signed o) (reads_deep (spec.is_wide o) a k d (omega (arith, h))) (λ t i. signed_deep o t k i)
    operations_deep (x.Apply o) x.NoMore k d h = tt
    operations_deep x.Negation (x.More a xs) k d h = on_one_deep k (suc k) d (read s locals w false a) operations.negated (reads_deep false a k d (omega (arith, h))) (λ t i. negated_deep t k i)
    operations_deep x.Negation x.NoMore k d h = tt
    operations_deep (x.Both o) (x.More a xs) k d h = on_two_deep k (suc k) d (read s locals w false a) (first s locals w false xs) (operations.operated o) (reads_deep false a k d (omega (arith, h))) (λ g. firsts_deep false xs k g (omega (arith, h))) (λ t u i j. operated_deep o t u k i j)
    operations_deep (x.Both o) x.NoMore k d h = tt
    operations_deep (x.Attribute name) (x.More a xs) k d h = on_one_deep k (suc k) d (read s locals w true a) (operations.attribute name) (reads_deep true a k d (omega (arith, h))) (λ t i. attribute_deep name t (suc k) (omega arith))
    operations_deep (x.Attribute name) x.NoMore k d h = tt
    operations_deep x.Index (x.More a xs) k d h = indexed_deep k d (collection_of s locals a) (read s locals w true a) (first s locals w false xs) (reads_deep true a k d (omega (arith, h))) (λ g. firsts_deep false xs k g (omega (arith, h)))
    operations_deep x.Index x.NoMore k d h = tt
    operations_deep x.Slice (x.More a xs) k d h = on_three_deep k (suc k) d (read s locals w true a) (first s locals w false xs) (second s locals w xs) operations.slice (reads_deep true a k d (omega (arith, h))) (λ g. firsts_deep false xs k g (omega (arith, h))) (λ g. seconds_deep xs k g (omega (arith, h)))
        (λ t u v i j l. slice_deep t u v k i j l)
    operations_deep x.Slice x.NoMore k d h = tt
    operations_deep x.SliceFrom (x.More a xs) k d h = on_three_deep k (suc k) d (read s locals w true a) (first s locals w false xs) (pure operations.zero_end) operations.slice (reads_deep true a k d (omega (arith, h))) (λ g. firsts_deep false xs k g (omega (arith, h))) (λ g. zero_deep k a xs g h)
        (λ t u v i j l. slice_deep t u v k i j l)
    operations_deep x.SliceFrom x.NoMore k d h = tt
    operations_deep (x.Resize maker) (x.More a xs) k d h =
        either_deep (suc k) d (is_maker (callee_of s locals (x.Name maker))) (refuse E2NotElaborable) (spec.on_three (read s locals w true a) (first s locals w false xs) (pure operations.zero_end) operations.slice) tt
        (on_three_deep k (suc k) d (read s locals w true a) (first s locals w false xs) (pure operations.zero_end) operations.slice (reads_deep true a k d (omega (arith, h))) (λ g. firsts_deep false xs k g (omega (arith, h))) (λ g. zero_deep k a xs g h)
        (λ t u v i j l. slice_deep t u v k i j l))
    operations_deep (x.Resize maker) x.NoMore k d h = tt
    operations_deep x.Whole xs k d h = tt
    operations_deep (x.Call keys) (x.More a xs) k d h =
        called_deep k d (plan_of (callee_of s locals a) keys) (first s locals w true xs) (first s locals w false xs) (spec.row s locals w operations.empty_row xs) (all s locals w xs) (firsts_deep true xs k d (omega (arith, h))) (firsts_deep false xs k d (omega (arith, h)))
        (rows_deep xs k operations.empty_row d (omega (arith, h)) refl)
    operations_deep (x.Call keys) x.NoMore k d h = tt
    operations_deep (x.Method name keys) (x.More a xs) k d h = on_one_deep k (suc k) d (read s locals w true a) (spec.method name keys) (reads_deep true a k d (omega (arith, h))) (λ t i. method_deep name keys t k i)
    operations_deep (x.Method name keys) x.NoMore k d h = tt
    operations_deep x.TupleOf xs k d h = tt
    operations_deep x.ListOf xs k d h = tt

    firsts_deep : (wide : Bool) (xs : Exs) (k : ℕ) (d : Design) → exs_depth xs ≤ k → DeepStep k d (first s locals w wide xs)
    firsts_deep wide x.NoMore k d h = tt
    firsts_deep wide (x.More a xs) k d h = reads_deep wide a k d (omega (arith, h))

    seconds_deep : (xs : Exs) (k : ℕ) (d : Design) → exs_depth xs ≤ k → DeepStep k d (second s locals w xs)
    seconds_deep x.NoMore k d h = tt
    seconds_deep (x.More a xs) k d h = firsts_deep false xs k d (omega (arith, h))

    rows_deep : (xs : Exs) (k : ℕ) (r : Row) (d : Design) → exs_depth xs ≤ k → AllDeep k r.parts → IfOk (spec.row s locals w r xs d) (λ y. AllDeep k y.0.parts)
    rows_deep x.NoMore k r d h i = i
    rows_deep (x.More a xs) k r d h i =
        chain_deep (Deep k) (λ r. AllDeep k r.parts) d (read s locals w true a) (λ t. chain (just (operations.joined r t)) (λ q. spec.row s locals w q xs)) (reads_deep true a k d (omega (arith, h)))
        (λ t g j. next_deep k (operations.joined r t) (λ q. spec.row s locals w q xs) g (joined_deep r t k i j) (λ q o. rows_deep xs k q g (omega (arith, h)) o))

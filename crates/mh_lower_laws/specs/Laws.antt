-- What is known of what was read.
use Rattle.std.specs.Prelude.{◌≡◌, ◌≤◌, ℕ, suc, Bool, true, false, List, [], ◌∷◌, ◌++◌, length, Some, Ok}
use Rattle.std.specs.List.{list_all}
use Rattle.mh_pytree.specs.declared.expression.PyExpr.{PyExpr}
use Rattle.mh_pytree.specs.declared.statement.FuncDef.{FuncDef}
use Rattle.mh_pytree.specs.Depth.{def_depth}
use Rattle.mh_pytree.specs.Names.{def_names}
use Rattle.mh_consts.specs.declared.scope.Scope.{Scope}
use Rattle.mh_consts.specs.Expression.{ex_of}
use Rattle.mh_design.specs.declared.design.Design.{Design}
use Rattle.mh_design.specs.declared.design.Generator.{Generator}
use Rattle.mh_design.specs.declared.design.Kind.{Kind}
use Rattle.mh_design.specs.declared.design.Local.{Local as Variable}
use Rattle.mh_design.specs.declared.kinds.ValueKind.{ValueKind}
use Rattle.mh_design.specs.Assigned.{reads_local, is_assigned_first, all_below}
use Rattle.mh_design.specs.Constants.{constants_keep}
use Rattle.mh_design.specs.Kinds.{local_kind, kind_of}
use Rattle.mh_design.specs.Tree.{Expression, expression_of}
use Rattle.mh_design.specs.Numbering.{block_statements}
use Rattle.mh_design.specs.Statements.{statement_fits, block_exits_fit}
use Rattle.mh_design.specs.Depth.{block_is_within}
use Rattle.mh_design.specs.WellFormed.{kind_fits, starts_fit, is_instance, generator_fits}
use Rattle.mh_exprs.specs.declared.locals.Locals.{Locals}
use Rattle.mh_exprs.specs.declared.typed.Typed.{Typed}
use Rattle.mh_exprs.specs.declared.typed.Work.{Work}
use Rattle.mh_exprs.specs.Expression.{read}
use Rattle.mh_lower.specs.Generators.{Read, def_of, read_of, IsNamed}
use Rattle.mh_exprs.specs.Leaves.{kind_at, is_assigned}
use Rattle.mh_lower_laws.specs.Holds.{Holds, Extends}

-- ---- expressions

-- the locals that have a kind so far have it among these variables, and it fits
pub record Known (w : Work) (vs : List Variable) (d : Design) : Type 0 where
  pub kinds : (v : ℕ) (k : Kind) → kind_at w v ≡ Some k → local_kind vs v ≡ Some k
  pub fit : (v : ℕ) (k : Kind) → kind_at w v ≡ Some k → kind_fits d k ≡ true

-- The expression has this kind; constant indices and slices in it keep their rule; and no local stands in it that some path that leads here
-- hasn't assigned.
pub record HasKind (w : Work) (vs : List Variable) (d : Design) (x : Expression) (k : ValueKind) : Type 0 where
  pub kind : kind_of d vs x ≡ Some k
  pub keeps : constants_keep d vs x ≡ true
  pub assigned : (v : ℕ) → is_assigned w.here v ≡ false → reads_local v x ≡ false

-- Reading an expression of a source.
abbrev pub HaveKinds : Type 0
HaveKinds = (s : Scope) (ls : Locals) (w : Work) (vs : List Variable) (wide : Bool) (a : PyExpr) (d : Design) (t : Typed) (e : Design) →
    Holds s d → Known w vs d → read s ls w wide (ex_of a) d ≡ Ok (t, e) → Extends d e × Holds s e × HasKind w vs e (expression_of t.expr) t.kind

-- ---- generators

-- What is asked of a generator, its names and its depth aside, of one that was read: what it waits for is there, and its reset is one; the
-- kinds of its locals fit; each statement fits by itself, so that kinds fit, numbers name something, constant indices and slices keep their
-- rule, and a `yield` stands in an `@instance`; each `break` and `continue` stands in a loop; and each local is read only where each path
-- has assigned it.
pub record Fits (d : Design) (r : Read) : Type 0 where
  pub starts : starts_fit d r.kind ≡ true
  pub locals : list_all (λ v. kind_fits d v.kind) r.locals ≡ true
  pub statements : list_all (statement_fits d r.locals (is_instance r.kind)) (block_statements r.body) ≡ true
  pub exits : block_exits_fit false r.body ≡ true
  pub assigned : all_below (length r.locals) (is_assigned_first r.body) ≡ true

-- Reading a generator.
abbrev pub GeneratorsFit : Type 0
GeneratorsFit = (s : Scope) (f : FuncDef) (d : Design) (r : Read) (e : Design) → Holds s d → def_of s d f ≡ Ok (r, e) → Extends d e × Holds s e × Fits e r

-- A body has at most one level more than its definition: `a += b` becomes an assignment of `a + b`.
abbrev pub BodiesAreWithin : Type 0
BodiesAreWithin = (s : Scope) (f : FuncDef) (d : Design) (r : Read) (e : Design) (n : ℕ) → def_depth f ≤ n → def_of s d f ≡ Ok (r, e) → block_is_within r.body (suc n) ≡ true

abbrev pub with_generator : Design → Generator → Design
with_generator d g = record d { generators = d.generators ++ g ∷ [] }

-- All that a design asks of a generator, so that it holds with this one at its end. A `def` is a level of its module, so that those of a
-- module of 200 levels have at most 199.
abbrev pub WholeFit : Type 0
WholeFit = (s : Scope) (f : FuncDef) (d : Design) (g : Generator) (e : Design) →
    Holds s d → def_names f ≡ true → def_depth f ≤ 199 → IsNamed f g → def_of s d f ≡ Ok (read_of g, e) → (generator_fits e g ≡ true) × Holds s (with_generator e g)

-- Names and parts as the program holds them.
use Rattle.std.specs.Prelude.{◌≡◌, ℕ, List, [], Option, Some, None, Result, Ok, Err, map}
use Rattle.std.proofs.Common.{Bor}
use Rattle.mh_pytree.specs.declared.expression.PyExpr.{PyExpr}
use Rattle.mh_consts.specs.declared.kinds.Builtin.{Builtin}
use Rattle.mh_consts.specs.declared.kinds.Const.TheVariants as c
use Rattle.mh_consts.specs.Expression as x
use Rattle.mh_consts.specs.Expression.{Ex, Exs, ex_of, exs, given_of, one, parts_of, three, two}
use Rattle.mh_pytree.specs.declared.statement.FuncDef.{FuncDef}
use Rattle.mh_design.specs.declared.design.Design.{Design}
use Rattle.mh_design.specs.declared.design.Generator.{Generator}
use Rattle.mh_lower.specs.Generators.{Read, read_of, IsNamed}
use Rattle.mh_world.specs.World.{Bindings, Broken}
use Rattle.mh_text.specs.declared.fault.Fault.{Fault}
use Rattle.mh_text.specs.declared.fault.Fault.TheVariants as fault
use Rattle.mh_elab.specs.declared.kids.Kids.{Kids}
use Rattle.mh_elab.specs.declared.kids.Kids.TheVariants as k

abbrev pub texts : List (Bor (List ℕ)) → List (List ℕ)
texts ts = map (λ t. t.now) ts

-- the parts of an operation
abbrev pub parts_in : Ex → Exs
parts_in (x.Op h xs) = xs
parts_in e = x.NoMore

abbrev pub expression_at : Bor PyExpr → Ex
expression_at e = ex_of e.now

abbrev pub exs_of : Kids → Exs
exs_of k.Nothing = x.NoMore
exs_of (k.One a) = one (ex_of a.now)
exs_of (k.Two a b) = two (ex_of a.now) (ex_of b.now)
exs_of (k.Three a b c) = three (ex_of a.now) (ex_of b.now) (ex_of c.now)
exs_of (k.All xs) = exs (map ex_of xs.now)
exs_of (k.Behind f xs) = x.More (ex_of f.now) (parts_of (map given_of xs.now))
exs_of (k.Defaults vs) = exs (map expression_at vs.items)

-- the generator of a definition, with the design after it, unless memory ran out
abbrev pub ReadsAs : Result (Read × Design) Broken → FuncDef → Result Generator (Fault Broken) → Design → Type 0
ReadsAs r f (Ok g) d = (r ≡ Ok (read_of g, d)) × IsNamed f g
ReadsAs r f (Err (fault.Broken rule)) d = r ≡ Err rule
ReadsAs r f (Err fault.Memory) d = Unit {0}

-- names of MyHDL, with what they are bound to
abbrev pub bindings_of : List (Bor (List ℕ) × Builtin) → Bindings
bindings_of rows = map (λ r. (r.0.now, c.Builtin r.1)) rows

-- names that are all there
abbrev pub names_given : Option (List (List ℕ)) → List (List ℕ)
names_given None = []
names_given (Some ts) = ts

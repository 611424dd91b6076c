-- Words for the trees of worked examples, and what is shown of an answer.
use Rattle.std.specs.Prelude.{ℕ, ℤ, pos, List, [], ◌∷◌, ◌++◌, map, Option, Some, None, Result, Ok, Err, Bool, true, false, codes}
use Rattle.mh_pytree.specs.declared.expression.Operator.TheVariants as op
use Rattle.mh_pytree.specs.declared.expression.Operator.{Operator}
use Rattle.mh_pytree.specs.declared.expression.Sign.TheVariants as sign
use Rattle.mh_design.specs.declared.design.SignalDecl.{SignalDecl}
use Rattle.mh_design.specs.declared.design.MemDecl.{MemDecl}
use Rattle.mh_design.specs.declared.design.TableDecl.{TableDecl}
use Rattle.mh_design.specs.declared.design.Design.{Design}
use Rattle.mh_consts.specs.Expression as x
use Rattle.mh_consts.specs.Expression.{Ex, Exs, one, two, three, exs, Keys}
use Rattle.mh_world.specs.World.{Broken}
use Rattle.mh_world.specs.Statements.{St, Fn, Func, Block, block, Target, ToName, ToItem, ToNames, ToNothing, Where, OrElse, NoChoice, End, Parameter}
use Rattle.mh_world.specs.Statements as s
use Rattle.mh_world.specs.declared.kinds.Verb.{Verb}
use Rattle.mh_plans.specs.declared.designs.Request.{Request}
use Rattle.mh_world.specs.World.{World, after}
use Rattle.mh_elab.specs.Elaboration.{executed}
use Rattle.mh_plans.specs.Plans.{Plan, Drawn, plans}
use Rattle.mh_elab.specs.Answer.{elaborated_within}

-- ---- expressions

abbrev pub n : ℕ → Ex
n k = x.Number (pos k)

abbrev pub minus : ℕ → Ex
minus k = x.Op (x.Apply sign.Minus) (one (n k))

abbrev pub v : List ℕ → Ex
v t = x.Name t

abbrev pub both : Operator → Ex → Ex → Ex
both o a b = x.Op (x.Both o) (two a b)

abbrev pub add : Ex → Ex → Ex
add a b = both op.Add a b

abbrev pub by_place : List Ex → Keys
by_place [] = []
by_place (e ∷ es) = None ∷ by_place es

-- a call with arguments by position, and with further ones by name
abbrev pub call : Ex → List Ex → Ex
call f es = x.Op (x.Call (by_place es)) (x.More f (exs es))

abbrev pub call_with : Ex → List Ex → List (List ℕ × Ex) → Ex
call_with f es gs = x.Op (x.Call (by_place es ++ map (λ g. Some g.0) gs)) (x.More f (exs (es ++ map (λ g. g.1) gs)))

abbrev pub method : Ex → List ℕ → List Ex → Ex
method a t es = x.Op (x.Method t (by_place es)) (x.More a (exs es))

abbrev pub method_with : Ex → List ℕ → List Ex → List (List ℕ × Ex) → Ex
method_with a t es gs = x.Op (x.Method t (by_place es ++ map (λ g. Some g.0) gs)) (x.More a (exs (es ++ map (λ g. g.1) gs)))

abbrev pub list : List Ex → Ex
list es = x.Op x.ListOf (exs es)

abbrev pub tuple : List Ex → Ex
tuple es = x.Op x.TupleOf (exs es)

abbrev pub at : Ex → Ex → Ex
at a i = x.Op x.Index (two a i)

abbrev pub dot : Ex → List ℕ → Ex
dot a t = x.Op (x.Attribute t) (one a)

-- ---- statements

abbrev pub set : ℕ → List ℕ → Ex → St
set l t e = s.Assign l (ToName t) (v t) e

abbrev pub set_item : ℕ → Ex → Ex → Ex → St
set_item l a i e = s.Assign l (ToItem a i) (at a i) e

abbrev pub unpack : ℕ → List (List ℕ) → Ex → St
unpack l ts e = s.Assign l (ToNames ts) (tuple (map v ts)) e

-- `t.next = e`
abbrev pub drive : ℕ → Ex → Ex → St
drive l t e = s.Assign l (ToNothing (one t)) (dot t (codes "next")) e

abbrev pub def : ℕ → List ℕ → List Parameter → List St → St
def l t ps b = s.Define (Func l t [] ps (block b))

abbrev pub needed : List (List ℕ) → List Parameter
needed ts = map (λ t. (t, None)) ts

abbrev pub marked : Ex → ℕ → List ℕ → List (List ℕ) → List St → St
marked m l t ps b = s.Define (Func l t (m ∷ []) (needed ps) (block b))

abbrev pub block_def : ℕ → List ℕ → List (List ℕ) → List St → St
block_def l t ps b = marked (v (codes "block")) l t ps b

abbrev pub comb : ℕ → List ℕ → List St → St
comb l t b = marked (v (codes "always_comb")) l t [] b

abbrev pub imports : ℕ → St
imports l = s.ImportAll l

abbrev pub if_then : ℕ → Ex → List St → List St → St
if_then l e b c = s.If l (OrElse (Where e (block b)) NoChoice) (block c)

abbrev pub for_in : ℕ → List ℕ → Ex → List St → St
for_in l t e b = s.For l t e (block b)

abbrev pub while_do : ℕ → Ex → List St → St
while_do l e b = s.While l e (block b)

-- `Signal(bool(0))`, and `intbv(value)[width:]`
abbrev pub bit : Ex
bit = call (v (codes "Signal")) (call (v (codes "bool")) (n 0 ∷ []) ∷ [])

abbrev pub sized : ℕ → ℕ → Ex
sized value width = x.Op (x.Resize (codes "intbv")) (two (call (v (codes "intbv")) (n value ∷ [])) (n width))

-- ---- answers

-- the rule that is broken, with its line
abbrev pub refusal : {A : Type 0} → Result A Broken → Option Broken
refusal (Ok r) = None
refusal (Err b) = Some b

-- within 60 statements and 4 open calls
abbrev pub run : List St → Option Broken
run ss = refusal (elaborated_within 60 4 (block ss))

-- what is shown of a design
pub record Shown : Type 0 where
  pub name : List ℕ
  pub line : ℕ
  pub ports : List ℕ
  pub signals : List (List ℕ)
  pub mems : List (List ℕ × List ℕ × ℕ)
  pub tables : List (List ℕ × List ℤ)
  pub generators : List (List ℕ × ℕ)
  pub listed : List (List ℕ)

abbrev pub shown : Plan → Shown
shown p = record {
  name = p.design.name;
  line = p.design.line;
  ports = p.design.ports;
  signals = map (λ d. d.path) p.design.signals;
  mems = map (λ m. (m.path, m.cells, m.line)) p.design.mems;
  tables = map (λ t. (t.path, t.values)) p.design.tables;
  generators = map (λ g. (g.path, g.line)) p.generators;
  listed = p.design.listed;
}

abbrev pub show_all : Result (List Plan × List Request) Broken → Option (List Shown × List Request)
show_all (Ok r) = Some (map shown r.0, r.1)
show_all (Err b) = None

-- within 200 statements and 8 open calls
abbrev pub execute : List St → Result World Broken
execute ss = executed 200 8 (block ss)

abbrev pub made : List St → Option (List Shown × List Request)
made ss = show_all (after (execute ss) plans)

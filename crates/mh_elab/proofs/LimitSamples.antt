-- Memories, tables and the limits of designs on worked examples, each by computing.
use Rattle.std.proofs.Common.{◌≡◌, ℕ, ℤ, pos, List, [], ◌∷◌, ◌++◌, Option, Some, None, Result, Ok, Err, refl, Bool, true, false, codes, zero, suc}
use Rattle.std.specs.Fmt.{digits}
use Rattle.mh_consts.specs.Numbers.{bounds_of}
use Rattle.mh_consts.specs.declared.kinds.Const as X
use Rattle.mh_consts.specs.declared.kinds.Const.TheVariants as c
use Rattle.mh_design.specs.declared.design.GenKind.TheVariants as generator
use Rattle.mh_design.specs.declared.design.Kind.TheVariants as kind
use Rattle.mh_design.specs.declared.design.SignalDecl.{SignalDecl}
use Rattle.mh_design.specs.declared.design.Design.{Design}
use Rattle.mh_consts.specs.declared.kinds.SignalKind.TheVariants as kinds
use Rattle.mh_design.specs.declared.expression.BinaryOp.TheVariants as binary
use Rattle.mh_world.specs.declared.kinds.Verb.TheVariants as verb
use Rattle.mh_design.specs.Tree as t
use Rattle.mh_lower.specs.Generators.{Read}
use Rattle.mh_world.specs.World.{Broken}
use Rattle.mh_world.specs.Statements as s
use Rattle.mh_world.specs.Statements.{St}
use Rattle.mh_world.specs.World.{World, Made, begins, no_design}
use Rattle.mh_world.specs.Functions.{add_generator}
use Rattle.mh_plans.specs.Plans.{Plan, Drawn, plans, plan_fits}
use Rattle.mh_elab.proofs.Words.{n, v, call, method, list, at, set, block_def, imports, bit, execute, show_all, Shown}

-- ---- a memory and a table: as the body of a generator would have added them

abbrev y : List ℕ
y = codes "y"

-- signals: 0 to 3 are the elements of two lists, 4 is y
abbrev lists : List St
lists = imports 1 ∷ set 2 (codes "spare") (list (bit ∷ bit ∷ [])) ∷ set 3 (codes "mem") (list (bit ∷ bit ∷ []))
    ∷ block_def 4 (codes "top") (codes "m" ∷ y ∷ []) (s.Return 5 (list []) ∷ [])
    ∷ set 6 y bit ∷ set 7 (codes "t") (call (v (codes "top")) (v (codes "mem") ∷ v y ∷ [])) ∷ s.Value 8 (method (v (codes "t")) (codes "convert") []) ∷ []

abbrev held : Result World Broken → World
held (Ok w) = w
held (Err b) = begins 0

abbrev read : Read
read = record { kind = generator.Comb; locals = []; body = t.block (t.Set 9 (t.Whole (t.LeftSignal 4)) (t.Operation (t.Binary binary.Add) (t.two (t.Operation (t.ElementOf 1) (t.one (t.Integer (pos 1)))) (t.Operation (t.TableElementOf 1) (t.one (t.Integer (pos 0)))))) ∷ []) }

abbrev grown : Design → Design
grown d = record d {
  mems = record { list = 0; path = []; kind = kind.Bool; cells = 0 ∷ 1 ∷ []; line = 0 } ∷ record { list = 1; path = []; kind = kind.Bool; cells = 2 ∷ 3 ∷ []; line = 0 } ∷ [];
  tables = record { path = []; values = pos 5 ∷ [] } ∷ record { path = []; values = pos 5 ∷ pos 6 ∷ [] } ∷ [];
}

abbrev with_mems : World → World
with_mems w = record w {
  generators = record { name = codes "g"; line = 9; inside = Some 0; kind = read.kind; locals = read.locals; body = read.body } ∷ [];
  instances = record { name = codes "top"; line = 4; arguments = (codes "m", c.List 1) ∷ (y, c.Signal 4 kinds.Truth) ∷ []; outer = None; called = None; parts = c.Generator 0 ∷ [] } ∷ [];
  tuples = (c.Int (pos 5) ∷ [], record { words = codes "a"; inside = None }) ∷ (c.Int (pos 5) ∷ c.Int (pos 6) ∷ [], record { words = codes "b"; inside = None }) ∷ (c.Int (pos 5) ∷ c.Int (pos 6) ∷ [], record { words = codes "later"; inside = None }) ∷ [];
  design = grown w.design;
}

pub memory_made : show_all (plans (with_mems (held (execute lists)))) ≡ Some (
  record {
    name = codes "top";
    line = 4;
    ports = 0 ∷ [];
    signals = y ∷ codes "mem_0" ∷ codes "mem_1" ∷ [];
    mems = (codes "mem", 1 ∷ 2 ∷ [], 3) ∷ [];
    tables = (codes "b", pos 5 ∷ pos 6 ∷ []) ∷ [];
    generators = (codes "g", 9) ∷ [];
    listed = codes "m" ∷ [];
  } ∷ [],
  record { verb = verb.Convert; top = 0; n = 0; line = 8 } ∷ [],
)
unfolding X.out-Const denote.Hole.Carrier.out bounds_of digits
memory_made = refl

-- ---- limits

abbrev doubled : {A : Type 0} → ℕ → List A → List A
doubled zero xs = xs
doubled (suc k) xs = doubled k (xs ++ xs)

abbrev one_signal : SignalDecl
one_signal = record { path = []; kind = kind.Bool; init = pos 0; reset = None; line = 1 }

abbrev one_generator : Drawn
one_generator = record { path = []; line = 1; kind = generator.Comb; locals = []; body = t.End }

abbrev sized : List SignalDecl → List ℕ → List Drawn → Plan
sized ss cells gs = record { design = record no_design { signals = ss; mems = record { list = 0; path = []; kind = kind.Bool; cells = cells; line = 0 } ∷ [] }; generators = gs }

pub signals_fit : plan_fits (sized (doubled 12 (one_signal ∷ [])) [] []) ≡ true
signals_fit = refl

pub signals_more : plan_fits (sized (one_signal ∷ doubled 12 (one_signal ∷ [])) [] []) ≡ false
signals_more = refl

-- elements of memories aren't counted among the signals
pub signals_outside : plan_fits (sized (one_signal ∷ doubled 12 (one_signal ∷ [])) (0 ∷ []) []) ≡ true
signals_outside = refl

pub generators_fit : plan_fits (sized [] [] (doubled 10 (one_generator ∷ []))) ≡ true
generators_fit = refl

pub generators_more : plan_fits (sized [] [] (one_generator ∷ doubled 10 (one_generator ∷ []))) ≡ false
generators_more = refl

pub elements_fit : plan_fits (sized [] (doubled 16 (0 ∷ [])) []) ≡ true
elements_fit = refl

pub elements_more : plan_fits (sized [] (0 ∷ doubled 16 (0 ∷ [])) []) ≡ false
elements_more = refl

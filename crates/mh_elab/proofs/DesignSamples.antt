-- The designs of worked examples, each by computing.
use Rattle.std.proofs.Common.{◌≡◌, ◌∙◌, ap, ℕ, pos, List, [], ◌∷◌, Some, refl, true, codes}
use Rattle.mh_pytree.specs.declared.expression.Operator.TheVariants as op
use Rattle.mh_consts.specs.Expression as x
use Rattle.mh_consts.specs.Expression.{Ex, two}
use Rattle.mh_consts.specs.Numbers.{bounds_of}
use Rattle.mh_consts.specs.declared.kinds.Const as X
use Rattle.mh_design.proofs.Shapes.{shapes}
use Rattle.mh_world.specs.declared.kinds.Verb.TheVariants as verb
use Rattle.mh_lower.specs.Bodies.{branch_line, if_line, read_lines}
use Rattle.mh_lower.specs.Statements.{assign, condition}
use Rattle.mh_world.specs.Statements as s
use Rattle.std.specs.Fmt.{digits}
use Rattle.mh_world.specs.Statements.{St}
use Rattle.mh_elab.proofs.Words.{n, v, both, add, call, call_with, method, method_with, list, at, dot, set, drive, def, needed, marked, block_def, comb, imports, if_then, for_in, bit, sized, execute, made, show_all, Shown}
use Rattle.mh_design.specs.declared.expression.BinaryOp.TheVariants as binary
use Rattle.mh_design.specs.Tree as t
use Rattle.mh_design.specs.Tree.{expression_of}
use Rattle.mh_design.specs.declared.expression.GExpr.TheVariants as e
use Rattle.mh_elab.proofs.Drawing.{bodies, drawn, set_at}

abbrev a : List ℕ
a = codes "a"

abbrev b : List ℕ
b = codes "b"

abbrev y : List ℕ
y = codes "y"

abbrev g : List ℕ
g = codes "g"

-- a gate
abbrev gate : List St
gate = imports 1
    ∷ block_def 4 (codes "gate") (y ∷ a ∷ b ∷ []) (comb 6 (codes "logic") (drive 7 (v y) (both op.BitAnd (v a) (v b)) ∷ []) ∷ s.Return 8 (v (codes "logic")) ∷ [])
    ∷ set 9 y bit ∷ set 10 a bit ∷ set 11 b bit
    ∷ set 12 g (call (v (codes "gate")) (v y ∷ v a ∷ v b ∷ []))
    ∷ s.Value 13 (method_with (v g) (codes "convert") [] ((codes "hdl", x.Str (codes "Verilog")) ∷ [])) ∷ []

gate_right : expression_of (e.Binary binary.BitAnd (e.Signal 1) (e.Signal 2)) ≡ t.Operation (t.Binary binary.BitAnd) (t.two (t.Signal 1) (t.Signal 2))
gate_right = simp (shapes) refl

gate_bodies : bodies (execute gate) ≡ t.block (t.Set 7 (t.Whole (t.LeftSignal 0)) (t.Operation (t.Binary binary.BitAnd) (t.two (t.Signal 1) (t.Signal 2))) ∷ []) ∷ []
unfolding X.out-Const denote.Hole.Carrier.out bounds_of digits read_lines assign
gate_bodies = ap (λ r. t.block (t.Set 7 (t.Whole (t.LeftSignal 0)) r ∷ []) ∷ []) gate_right

pub gate_made : made gate ≡ Some (
  record { name = codes "gate"; line = 4; ports = 0 ∷ 1 ∷ 2 ∷ []; signals = y ∷ a ∷ b ∷ []; mems = []; tables = []; generators = (codes "logic", 6) ∷ []; listed = [] } ∷ [],
  record { verb = verb.Convert; top = 0; n = 0; line = 13 } ∷ [],
)
unfolding X.out-Const denote.Hole.Carrier.out bounds_of digits read_lines assign
gate_made = ap show_all (drawn (execute gate) _ gate_bodies) ∙ refl

-- a design that a plain function makes twice
abbrev count : List ℕ
count = codes "count"

abbrev enable : List ℕ
enable = codes "enable"

abbrev clock : List ℕ
clock = codes "clock"

abbrev reset : List ℕ
reset = codes "reset"

abbrev increments : List St
increments = s.Import 1 (codes "block" ∷ codes "always_seq" ∷ codes "Signal" ∷ codes "ResetSignal" ∷ codes "modbv" ∷ [])
    ∷ block_def 4 (codes "inc") (count ∷ enable ∷ clock ∷ reset ∷ [])
    (s.Value 5 (x.Str (codes "Incrementer"))
    ∷ marked (call_with (v (codes "always_seq")) (dot (v clock) (codes "posedge") ∷ []) ((reset, v reset) ∷ [])) 7 (codes "seq") []
    (if_then 8 (v enable) (drive 9 (v count) (add (v count) (n 1)) ∷ []) [] ∷ [])
    ∷ s.Return 10 (v (codes "seq")) ∷ [])
    ∷ def 12 (codes "convert_inc") (needed (codes "hdl" ∷ []))
    (set 13 count (call (v (codes "Signal")) (x.Op (x.Resize (codes "modbv")) (two (call (v (codes "modbv")) (n 0 ∷ [])) (n 8)) ∷ []))
    ∷ set 14 enable bit ∷ set 15 clock bit
    ∷ set 16 reset (call_with (v (codes "ResetSignal")) (n 0 ∷ []) ((codes "active", n 0) ∷ (codes "isasync", x.Truth true) ∷ []))
    ∷ set 17 (codes "inc_1") (call (v (codes "inc")) (v count ∷ v enable ∷ v clock ∷ v reset ∷ []))
    ∷ s.Value 18 (method_with (v (codes "inc_1")) (codes "convert") [] ((codes "hdl", v (codes "hdl")) ∷ [])) ∷ [])
    ∷ s.Value 20 (call_with (v (codes "convert_inc")) [] ((codes "hdl", x.Str (codes "Verilog")) ∷ []))
    ∷ s.Value 21 (call_with (v (codes "convert_inc")) [] ((codes "hdl", x.Str (codes "VHDL")) ∷ [])) ∷ []

abbrev increment : ℕ → t.Expression → t.Expression → t.Block
increment k test sum = t.block (t.If 8 (t.arms (t.ArmOf test (t.block (t.Set 9 (t.Whole (t.LeftSignal k)) sum ∷ [])) ∷ [])) (t.block []) ∷ [])

increment_plain : (k j : ℕ) → increment k (expression_of (e.Signal j)) (expression_of (e.Binary binary.Add (e.Signal k) (e.Integer (pos 1)))) ≡ increment k (t.Signal j) (t.Operation (t.Binary binary.Add) (t.two (t.Signal k) (t.Integer (pos 1))))
increment_plain k j = simp (shapes) refl

abbrev increment_of : ℕ → ℕ → t.Block
increment_of k j = increment k (t.Signal j) (t.Operation (t.Binary binary.Add) (t.two (t.Signal k) (t.Integer (pos 1))))

increments_bodies : bodies (execute increments) ≡ increment_of 0 1 ∷ increment_of 4 5 ∷ []
unfolding X.out-Const denote.Hole.Carrier.out bounds_of digits read_lines if_line branch_line assign condition
increments_bodies = ap (λ p. p ∷ increment 4 (expression_of (e.Signal 5)) (expression_of (e.Binary binary.Add (e.Signal 4) (e.Integer (pos 1)))) ∷ []) (increment_plain 0 1) ∙ ap (λ q. increment_of 0 1 ∷ q ∷ []) (increment_plain 4 5)

abbrev increment_shown : Shown
increment_shown = record { name = codes "inc"; line = 4; ports = 0 ∷ 1 ∷ 2 ∷ 3 ∷ []; signals = count ∷ enable ∷ clock ∷ reset ∷ []; mems = []; tables = []; generators = (codes "seq", 7) ∷ []; listed = [] }

pub increments_made : made increments ≡ Some (
  increment_shown ∷ increment_shown ∷ [],
  record { verb = verb.Convert; top = 0; n = 0; line = 18 } ∷ record { verb = verb.Convert; top = 1; n = 0; line = 18 } ∷ [],
)
unfolding X.out-Const denote.Hole.Carrier.out bounds_of digits read_lines if_line branch_line assign condition
increments_made = ap show_all (drawn (execute increments) _ increments_bodies) ∙ refl

-- instances in a list that is bound to a name, and `instances()`
abbrev sig : ℕ → Ex
sig width = call (v (codes "Signal")) (sized 0 width ∷ [])

abbrev q : List ℕ
q = codes "q"

abbrev d : List ℕ
d = codes "d"

abbrev clk : List ℕ
clk = codes "clk"

abbrev w : List ℕ
w = codes "w"

abbrev chain : List St
chain = imports 1
    ∷ block_def 4 (codes "stage") (q ∷ d ∷ codes "k" ∷ clk ∷ [])
    (set 5 (codes "t") (sig 8)
    ∷ comb 7 (codes "mix") (drive 8 (v (codes "t")) (both op.BitAnd (both op.BitXor (v d) (add (v q) (v (codes "k")))) (n 255)) ∷ [])
    ∷ marked (call (v (codes "always")) (dot (v clk) (codes "posedge") ∷ [])) 10 (codes "keep") [] (drive 11 (v q) (v (codes "t")) ∷ [])
    ∷ s.Return 12 (list (v (codes "mix") ∷ v (codes "keep") ∷ [])) ∷ [])
    ∷ block_def 15 (codes "chain") (y ∷ codes "x" ∷ clk ∷ [])
    (set 16 w (x.Collect (sig 8) (codes "i") (call (v (codes "range")) (n 1 ∷ [])))
    ∷ set 17 (codes "p") (list (call (v (codes "stage")) (at (v w) (n 0) ∷ v (codes "x") ∷ n 0 ∷ v clk ∷ []) ∷ []))
    ∷ for_in 18 (codes "i") (call (v (codes "range")) (n 1 ∷ n 1 ∷ []))
    (s.Value 19 (method (v (codes "p")) (codes "append") (n 0 ∷ [])) ∷ [])
    ∷ set 20 (codes "last") (at (v w) (n 0))
    ∷ comb 22 (codes "out") (drive 23 (v y) (v (codes "last")) ∷ [])
    ∷ s.Return 24 (call (v (codes "instances")) []) ∷ [])
    ∷ set 26 y (sig 8) ∷ set 27 (codes "x") (sig 8) ∷ set 28 clk bit
    ∷ set 29 (codes "c") (call (v (codes "chain")) (v y ∷ v (codes "x") ∷ v clk ∷ []))
    ∷ s.Value 30 (method_with (v (codes "c")) (codes "convert") [] ((codes "hdl", x.Str (codes "Verilog")) ∷ [])) ∷ []

abbrev chain_bodies_as : t.Expression → t.Expression → t.Expression → List t.Block
chain_bodies_as a b c = set_at 8 4 a ∷ set_at 11 3 b ∷ set_at 23 0 c ∷ []

abbrev mixed : t.Expression
mixed = t.Operation (t.Binary binary.BitAnd) (t.two (t.Operation (t.Binary binary.BitXor) (t.two (t.Signal 1) (t.Operation (t.Binary binary.Add) (t.two (t.Signal 3) (t.Integer (pos 0)))))) (t.Integer (pos 255)))

chain_plain : chain_bodies_as (expression_of (e.Binary binary.BitAnd (e.Binary binary.BitXor (e.Signal 1) (e.Binary binary.Add (e.Signal 3) (e.Integer (pos 0)))) (e.Integer (pos 255)))) (expression_of (e.Signal 4)) (expression_of (e.Signal 3)) ≡ chain_bodies_as mixed (t.Signal 4) (t.Signal 3)
chain_plain = simp (shapes) refl

chain_bodies : bodies (execute chain) ≡ chain_bodies_as mixed (t.Signal 4) (t.Signal 3)
unfolding X.out-Const denote.Hole.Carrier.out bounds_of digits read_lines assign
chain_bodies = chain_plain

pub chain_made : made chain ≡ Some (
  record {
    name = codes "chain";
    line = 15;
    ports = 0 ∷ 1 ∷ 2 ∷ [];
    signals = y ∷ codes "x" ∷ clk ∷ codes "w_0" ∷ codes "stage_t" ∷ [];
    mems = [];
    tables = [];
    generators = (codes "stage_mix", 7) ∷ (codes "stage_keep", 10) ∷ (codes "out", 22) ∷ [];
    listed = [];
  } ∷ [],
  record { verb = verb.Convert; top = 0; n = 0; line = 30 } ∷ [],
)
unfolding X.out-Const denote.Hole.Carrier.out bounds_of digits read_lines assign
chain_made = ap show_all (drawn (execute chain) _ chain_bodies) ∙ refl

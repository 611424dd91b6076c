-- The names and the parts of designs on worked examples, each by computing.
use Rattle.std.proofs.Common.{◌≡◌, ◌∙◌, ap, pos, List, [], ◌∷◌, Some, None, refl, codes}
use Rattle.mh_consts.specs.Expression.{two}
use Rattle.mh_consts.specs.Numbers.{bounds_of}
use Rattle.mh_consts.specs.declared.kinds.Const as X
use Rattle.mh_design.proofs.Shapes.{shapes}
use Rattle.mh_world.specs.declared.kinds.Verb.TheVariants as verb
use Rattle.mh_lower.specs.Bodies.{read_lines}
use Rattle.mh_lower.specs.Statements.{assign}
use Rattle.mh_world.specs.Statements as s
use Rattle.std.specs.Fmt.{digits}
use Rattle.mh_world.specs.Statements.{St, Func, block}
use Rattle.mh_elab.proofs.Words.{n, v, call, method, method_with, list, at, set, drive, def, needed, block_def, comb, imports, bit, execute, made, show_all}
use Rattle.mh_design.specs.Tree as t
use Rattle.mh_design.specs.Tree.{expression_of}
use Rattle.mh_design.specs.declared.expression.GExpr.TheVariants as e
use Rattle.mh_elab.proofs.Drawing.{bodies, drawn, set_at}

-- A port has the name of its parameter; one signal for two of them has the first. What isn't returned is no part, and what is returned twice counts once.
abbrev ports : List St
ports = (imports 1 ∷ block_def 2 (codes "top") ((codes "reg") ∷ (codes "Out") ∷ (codes "out") ∷ []) (comb 3 (codes "g1") (drive 4 (v (codes "Out")) (n 1) ∷ []) ∷ comb 5 (codes "g2") (drive 6 (v (codes "reg")) (n 1) ∷ []) ∷ comb 7 (codes "g3") (drive 8 (v (codes "out")) (n 1) ∷ []) ∷ s.Return 9 (list (v (codes "g2") ∷ v (codes "g1") ∷ v (codes "g2") ∷ [])) ∷ []) ∷ set 10 (codes "p") (bit) ∷ set 11 (codes "o") (bit) ∷ set 12 (codes "t") ((call (v (codes "top")) ((v (codes "p")) ∷ (v (codes "o")) ∷ (v (codes "o")) ∷ []))) ∷ s.Value 13 (method (v (codes "t")) (codes "run_sim") ([])) ∷ [])

ports_plain : (set_at 4 1 (expression_of (e.Integer (pos 1))) ∷ set_at 6 0 (expression_of (e.Integer (pos 1))) ∷ set_at 8 1 (expression_of (e.Integer (pos 1))) ∷ []) ≡ (set_at 4 1 (t.Integer (pos 1)) ∷ set_at 6 0 (t.Integer (pos 1)) ∷ set_at 8 1 (t.Integer (pos 1)) ∷ [])
ports_plain = simp (shapes) refl

ports_bodies : bodies (execute ports) ≡ (set_at 4 1 (t.Integer (pos 1)) ∷ set_at 6 0 (t.Integer (pos 1)) ∷ set_at 8 1 (t.Integer (pos 1)) ∷ [])
unfolding X.out-Const denote.Hole.Carrier.out bounds_of digits read_lines assign
ports_bodies = ports_plain

pub ports_made : made ports ≡ Some ((record { name = codes "top"; line = 2; ports = (0 ∷ 1 ∷ 1 ∷ []); signals = ((codes "reg") ∷ (codes "Out") ∷ []); mems = []; tables = []; generators = (((codes "g2"), 5) ∷ ((codes "g1"), 3) ∷ []); listed = [] } ∷ []), (record { verb = verb.RunSim; top = 0; n = 1000000; line = 13 } ∷ []))
unfolding X.out-Const denote.Hole.Carrier.out bounds_of digits read_lines assign
ports_made = ap show_all (drawn (execute ports) _ ports_bodies) ∙ refl

-- A list in a list; a name that is bound later to an element; a signal of the module; a signal that a parameter names first; an instance that a name is bound to, and one in a list.
abbrev paths : List St
paths = (imports 1 ∷ block_def 2 (codes "leaf") ((codes "q") ∷ []) (comb 3 (codes "one") (drive 4 (v (codes "q")) (n 1) ∷ []) ∷ s.Return 5 (list (v (codes "one") ∷ [])) ∷ []) ∷ set 6 (codes "m") (bit) ∷ block_def 7 (codes "top") ((codes "y") ∷ []) (set 8 (codes "w") (list (list (bit ∷ bit ∷ []) ∷ list (bit ∷ bit ∷ []) ∷ [])) ∷ set 9 (codes "u") (at (at (v (codes "w")) (n 1)) (n 0)) ∷ comb 10 (codes "g") (drive 11 (v (codes "u")) (n 1) ∷ []) ∷ comb 12 (codes "h") (drive 13 (v (codes "m")) (n 1) ∷ []) ∷ set 14 (codes "s1") ((call (v (codes "leaf")) (bit ∷ []))) ∷ set 15 (codes "p") (list ((call (v (codes "leaf")) (bit ∷ [])) ∷ [])) ∷ s.Return 16 (call (v (codes "instances")) ([])) ∷ []) ∷ set 17 (codes "y") (bit) ∷ set 18 (codes "t") ((call (v (codes "top")) ((v (codes "y")) ∷ []))) ∷ s.Value 19 (method (v (codes "t")) (codes "run_sim") ([])) ∷ [])

paths_plain : (set_at 11 4 (expression_of (e.Integer (pos 1))) ∷ set_at 13 0 (expression_of (e.Integer (pos 1))) ∷ set_at 4 6 (expression_of (e.Integer (pos 1))) ∷ set_at 4 7 (expression_of (e.Integer (pos 1))) ∷ []) ≡ (set_at 11 4 (t.Integer (pos 1)) ∷ set_at 13 0 (t.Integer (pos 1)) ∷ set_at 4 6 (t.Integer (pos 1)) ∷ set_at 4 7 (t.Integer (pos 1)) ∷ [])
paths_plain = simp (shapes) refl

paths_bodies : bodies (execute paths) ≡ (set_at 11 4 (t.Integer (pos 1)) ∷ set_at 13 0 (t.Integer (pos 1)) ∷ set_at 4 6 (t.Integer (pos 1)) ∷ set_at 4 7 (t.Integer (pos 1)) ∷ [])
unfolding X.out-Const denote.Hole.Carrier.out bounds_of digits read_lines assign
paths_bodies = paths_plain

pub paths_made : made paths ≡ Some ((record { name = codes "top"; line = 7; ports = (0 ∷ []); signals = ((codes "y") ∷ (codes "m") ∷ (codes "w_1_0") ∷ (codes "s1_q") ∷ (codes "leaf_q") ∷ []); mems = []; tables = []; generators = (((codes "g"), 10) ∷ ((codes "h"), 12) ∷ ((codes "s1_one"), 3) ∷ ((codes "leaf_one"), 3) ∷ []); listed = [] } ∷ []), (record { verb = verb.RunSim; top = 0; n = 1000000; line = 19 } ∷ []))
unfolding X.out-Const denote.Hole.Carrier.out bounds_of digits read_lines assign
paths_made = ap show_all (drawn (execute paths) _ paths_bodies) ∙ refl

-- An instance that was made outside the top, and that two blocks return; elements that get into a list that has a name, by `append`.
abbrev shared : List St
shared = (imports 1 ∷ block_def 2 (codes "leaf") ((codes "q") ∷ []) (set 3 (codes "own") (bit) ∷ comb 4 (codes "one") (drive 5 (v (codes "own")) (n 1) ∷ []) ∷ s.Return 6 (list (v (codes "one") ∷ [])) ∷ []) ∷ set 7 (codes "m") (bit) ∷ set 8 (codes "l") ((call (v (codes "leaf")) ((v (codes "m")) ∷ []))) ∷ block_def 9 (codes "wrap") ((codes "i") ∷ []) (set 10 (codes "w") (list []) ∷ s.Value 11 (method (v (codes "w")) (codes "append") (bit ∷ [])) ∷ set 12 (codes "u") (at (v (codes "w")) (n 0)) ∷ comb 13 (codes "g") (drive 14 (v (codes "u")) (n 1) ∷ []) ∷ s.Return 15 (list (v (codes "g") ∷ v (codes "i") ∷ [])) ∷ []) ∷ block_def 16 (codes "top") ([]) (set 17 (codes "a1") ((call (v (codes "wrap")) ((v (codes "l")) ∷ []))) ∷ set 18 (codes "a2") ((call (v (codes "wrap")) ((v (codes "l")) ∷ []))) ∷ s.Return 19 (list (v (codes "a2") ∷ v (codes "a1") ∷ [])) ∷ []) ∷ set 20 (codes "t") ((call (v (codes "top")) ([]))) ∷ s.Value 21 (method (v (codes "t")) (codes "run_sim") ([])) ∷ [])

shared_plain : (set_at 5 1 (expression_of (e.Integer (pos 1))) ∷ set_at 14 2 (expression_of (e.Integer (pos 1))) ∷ set_at 14 3 (expression_of (e.Integer (pos 1))) ∷ []) ≡ (set_at 5 1 (t.Integer (pos 1)) ∷ set_at 14 2 (t.Integer (pos 1)) ∷ set_at 14 3 (t.Integer (pos 1)) ∷ [])
shared_plain = simp (shapes) refl

shared_bodies : bodies (execute shared) ≡ (set_at 5 1 (t.Integer (pos 1)) ∷ set_at 14 2 (t.Integer (pos 1)) ∷ set_at 14 3 (t.Integer (pos 1)) ∷ [])
unfolding X.out-Const denote.Hole.Carrier.out bounds_of digits read_lines assign
shared_bodies = shared_plain

pub shared_made : made shared ≡ Some ((record { name = codes "top"; line = 16; ports = ([]); signals = ((codes "own") ∷ (codes "a1_w_0") ∷ (codes "a2_w_0") ∷ []); mems = []; tables = []; generators = (((codes "a2_g"), 13) ∷ ((codes "one"), 4) ∷ ((codes "a1_g"), 13) ∷ []); listed = [] } ∷ []), (record { verb = verb.RunSim; top = 0; n = 1000000; line = 21 } ∷ []))
unfolding X.out-Const denote.Hole.Carrier.out bounds_of digits read_lines assign
shared_made = ap show_all (drawn (execute shared) _ shared_bodies) ∙ refl

-- Designs in order of first request; a default value counts as an argument, and a list that holds signals is listed.
abbrev requests : List St
requests = (imports 1 ∷ set 2 (codes "m") (bit) ∷ s.Define (Func 3 (codes "top") (v (codes "block") ∷ []) (((codes "w"), None) ∷ ((codes "y"), Some (v (codes "m"))) ∷ []) (block (comb 4 (codes "g") (drive 5 (v (codes "y")) (n 1) ∷ []) ∷ s.Return 6 (list (v (codes "g") ∷ [])) ∷ []))) ∷ set 7 (codes "t1") ((call (v (codes "top")) (list (bit ∷ []) ∷ []))) ∷ set 8 (codes "t2") ((call (v (codes "top")) (list [] ∷ []))) ∷ s.Value 9 (method_with (v (codes "t2")) (codes "run_sim") [] (((codes "quiet"), n 1) ∷ ((codes "duration"), n 7) ∷ [])) ∷ s.Value 10 (method (v (codes "t1")) (codes "convert") (n 1 ∷ n 2 ∷ [])) ∷ s.Value 11 (method (v (codes "t2")) (codes "convert") ([])) ∷ [])

requests_plain : (set_at 5 0 (expression_of (e.Integer (pos 1))) ∷ set_at 5 0 (expression_of (e.Integer (pos 1))) ∷ []) ≡ (set_at 5 0 (t.Integer (pos 1)) ∷ set_at 5 0 (t.Integer (pos 1)) ∷ [])
requests_plain = simp (shapes) refl

requests_bodies : bodies (execute requests) ≡ (set_at 5 0 (t.Integer (pos 1)) ∷ set_at 5 0 (t.Integer (pos 1)) ∷ [])
unfolding X.out-Const denote.Hole.Carrier.out bounds_of digits read_lines assign
requests_bodies = requests_plain

pub requests_made : made requests ≡ Some ((record { name = codes "top"; line = 3; ports = (0 ∷ []); signals = ((codes "y") ∷ []); mems = []; tables = []; generators = (((codes "g"), 4) ∷ []); listed = [] } ∷ record { name = codes "top"; line = 3; ports = (0 ∷ []); signals = ((codes "y") ∷ []); mems = []; tables = []; generators = (((codes "g"), 4) ∷ []); listed = ((codes "w") ∷ []) } ∷ []), (record { verb = verb.RunSim; top = 0; n = 7; line = 9 } ∷ record { verb = verb.Convert; top = 1; n = 0; line = 10 } ∷ record { verb = verb.Convert; top = 0; n = 0; line = 11 } ∷ []))
unfolding X.out-Const denote.Hole.Carrier.out bounds_of digits read_lines assign
requests_made = ap show_all (drawn (execute requests) _ requests_bodies) ∙ refl

-- `instances()` goes by the first binding of a name and finds its latest value, and an instance once.
abbrev rebound : List St
rebound = (imports 1 ∷ block_def 2 (codes "leaf") ((codes "q") ∷ []) (comb 3 (codes "one") (drive 4 (v (codes "q")) (n 1) ∷ []) ∷ s.Return 5 (list (v (codes "one") ∷ [])) ∷ []) ∷ block_def 6 (codes "top") ((codes "p") ∷ (codes "q") ∷ (codes "r") ∷ []) (set 7 (codes "a") ((call (v (codes "leaf")) ((v (codes "p")) ∷ []))) ∷ set 8 (codes "b") ((call (v (codes "leaf")) ((v (codes "q")) ∷ []))) ∷ set 9 (codes "a") ((call (v (codes "leaf")) ((v (codes "r")) ∷ []))) ∷ set 10 (codes "c") ((v (codes "b"))) ∷ s.Return 11 (call (v (codes "instances")) ([])) ∷ []) ∷ set 12 (codes "t") ((call (v (codes "top")) (bit ∷ bit ∷ bit ∷ []))) ∷ s.Value 13 (method (v (codes "t")) (codes "run_sim") ([])) ∷ [])

rebound_plain : (set_at 4 0 (expression_of (e.Integer (pos 1))) ∷ set_at 4 1 (expression_of (e.Integer (pos 1))) ∷ set_at 4 2 (expression_of (e.Integer (pos 1))) ∷ []) ≡ (set_at 4 0 (t.Integer (pos 1)) ∷ set_at 4 1 (t.Integer (pos 1)) ∷ set_at 4 2 (t.Integer (pos 1)) ∷ [])
rebound_plain = simp (shapes) refl

rebound_bodies : bodies (execute rebound) ≡ (set_at 4 0 (t.Integer (pos 1)) ∷ set_at 4 1 (t.Integer (pos 1)) ∷ set_at 4 2 (t.Integer (pos 1)) ∷ [])
unfolding X.out-Const denote.Hole.Carrier.out bounds_of digits read_lines assign
rebound_bodies = rebound_plain

pub rebound_made : made rebound ≡ Some ((record { name = codes "top"; line = 6; ports = (0 ∷ 1 ∷ 2 ∷ []); signals = ((codes "p") ∷ (codes "q") ∷ (codes "r") ∷ []); mems = []; tables = []; generators = (((codes "a_one"), 3) ∷ ((codes "b_one"), 3) ∷ []); listed = [] } ∷ []), (record { verb = verb.RunSim; top = 0; n = 1000000; line = 13 } ∷ []))
unfolding X.out-Const denote.Hole.Carrier.out bounds_of digits read_lines assign
rebound_made = ap show_all (drawn (execute rebound) _ rebound_bodies) ∙ refl

-- A block within a block sees the names of the outer one; a plain function's names stand in the block that calls it.
abbrev nested : List St
nested = (imports 1 ∷ def 2 (codes "make") (needed ((codes "y") ∷ [])) (set 3 (codes "own") (bit) ∷ comb 4 (codes "g") (drive 5 (v (codes "own")) (n 1) ∷ []) ∷ s.Return 6 (v (codes "g")) ∷ []) ∷ block_def 7 (codes "top") ((codes "y") ∷ []) (block_def 8 (codes "inner") ([]) (comb 9 (codes "h") (drive 10 (v (codes "y")) (n 1) ∷ []) ∷ s.Return 11 (list (v (codes "h") ∷ [])) ∷ []) ∷ set 12 (codes "i") ((call (v (codes "inner")) ([]))) ∷ set 13 (codes "k") ((call (v (codes "make")) ((v (codes "y")) ∷ []))) ∷ s.Return 14 (call (v (codes "instances")) ([])) ∷ []) ∷ set 15 (codes "t") ((call (v (codes "top")) (bit ∷ []))) ∷ s.Value 16 (method (v (codes "t")) (codes "run_sim") ([])) ∷ [])

nested_plain : (set_at 10 0 (expression_of (e.Integer (pos 1))) ∷ set_at 5 1 (expression_of (e.Integer (pos 1))) ∷ []) ≡ (set_at 10 0 (t.Integer (pos 1)) ∷ set_at 5 1 (t.Integer (pos 1)) ∷ [])
nested_plain = simp (shapes) refl

nested_bodies : bodies (execute nested) ≡ (set_at 10 0 (t.Integer (pos 1)) ∷ set_at 5 1 (t.Integer (pos 1)) ∷ [])
unfolding X.out-Const denote.Hole.Carrier.out bounds_of digits read_lines assign
nested_bodies = nested_plain

pub nested_made : made nested ≡ Some ((record { name = codes "top"; line = 7; ports = (0 ∷ []); signals = ((codes "y") ∷ (codes "own") ∷ []); mems = []; tables = []; generators = (((codes "i_h"), 9) ∷ ((codes "g"), 4) ∷ []); listed = [] } ∷ []), (record { verb = verb.RunSim; top = 0; n = 1000000; line = 16 } ∷ []))
unfolding X.out-Const denote.Hole.Carrier.out bounds_of digits read_lines assign
nested_made = ap show_all (drawn (execute nested) _ nested_bodies) ∙ refl

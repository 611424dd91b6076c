-- Blocks, decorators, and what a generator has read, on worked examples, each by computing.
use Rattle.std.proofs.Common.{◌≡◌, ℕ, List, [], ◌∷◌, Some, None, refl, codes}
use Rattle.mh_text.specs.declared.code.Code.TheVariants.{E1UnknownName, E2NotElaborable, E6BadReturn}
use Rattle.mh_consts.specs.Expression.{two}
use Rattle.mh_consts.specs.Numbers.{bounds_of}
use Rattle.mh_consts.specs.declared.kinds.Const as X
use Rattle.mh_lower.specs.Bodies.{read_lines}
use Rattle.mh_lower.specs.Statements.{assign}
use Rattle.mh_world.specs.Statements as s
use Rattle.mh_world.specs.Statements.{Func, block}
use Rattle.mh_elab.proofs.Words.{n, v, call, method, list, at, set, set_item, drive, def, needed, marked, block_def, comb, imports, for_in, bit, run}

abbrev a : List ℕ
a = codes "a"

abbrev b : List ℕ
b = codes "b"

abbrev f : List ℕ
f = codes "f"

abbrev g : List ℕ
g = codes "g"

abbrev i : List ℕ
i = codes "i"

abbrev w : List ℕ
w = codes "w"

-- ---- blocks and decorators

-- a decorator that isn't known, one that is none, two of them, and parameters of a generator
pub mark_unknown : run (marked (v (codes "nowhere")) 2 f (a ∷ []) (s.Pass 3 ∷ []) ∷ []) ≡ Some (E1UnknownName, 2)
unfolding X.out-Const denote.Hole.Carrier.out bounds_of
mark_unknown = refl

pub mark_none : run (marked (v (codes "len")) 2 f [] (s.Pass 3 ∷ []) ∷ []) ≡ Some (E2NotElaborable, 2)
unfolding X.out-Const denote.Hole.Carrier.out bounds_of
mark_none = refl

pub mark_twice : run (imports 1 ∷ s.Define (Func 2 f (v (codes "block") ∷ v (codes "block") ∷ []) [] (block (s.Pass 3 ∷ []))) ∷ []) ≡ Some (E2NotElaborable, 2)
unfolding X.out-Const denote.Hole.Carrier.out bounds_of
mark_twice = refl

pub mark_parameters : run (imports 1 ∷ marked (v (codes "always_comb")) 2 f (a ∷ []) (s.Pass 3 ∷ []) ∷ []) ≡ Some (E2NotElaborable, 2)
unfolding X.out-Const denote.Hole.Carrier.out bounds_of
mark_parameters = refl

pub mark_called : run (imports 1 ∷ marked (call (v (codes "block")) []) 2 f [] (s.Pass 3 ∷ []) ∷ []) ≡ Some (E2NotElaborable, 2)
unfolding X.out-Const denote.Hole.Carrier.out bounds_of
mark_called = refl

-- a block may return nothing to speak of, but no list in a list
pub returns_empty : run (imports 1 ∷ block_def 2 b [] (s.Return 3 (list []) ∷ []) ∷ s.Value 4 (call (v b) []) ∷ []) ≡ None
unfolding X.out-Const denote.Hole.Carrier.out bounds_of
returns_empty = refl

pub returns_nested : run (imports 1 ∷ block_def 2 b [] (s.Return 3 (list []) ∷ []) ∷ block_def 4 f [] (s.Return 5 (list (list (call (v b) [] ∷ []) ∷ [])) ∷ []) ∷ s.Value 6 (call (v f) []) ∷ []) ≡ Some (E6BadReturn, 5)
unfolding X.out-Const denote.Hole.Carrier.out bounds_of
returns_nested = refl

-- a rule that the body of a generator breaks, and a name that it reads and that isn't bound
pub body_broken : run (imports 1 ∷ comb 2 f (drive 3 (v a) (n 1) ∷ []) ∷ []) ≡ Some (E1UnknownName, 3)
unfolding X.out-Const denote.Hole.Carrier.out bounds_of read_lines assign
body_broken = refl

-- ---- what a generator has read

-- a name is bound again
pub bound_again : run (imports 1 ∷ set 2 a bit ∷ set 3 b bit ∷ comb 4 f (drive 5 (v a) (v b) ∷ []) ∷ set 6 b bit ∷ []) ≡ Some (E2NotElaborable, 6)
unfolding X.out-Const denote.Hole.Carrier.out bounds_of read_lines assign
bound_again = refl

pub imported_again : run (imports 1 ∷ set 2 a bit ∷ set 3 b bit ∷ comb 4 f (drive 5 (v a) (call (v (codes "bool")) (v b ∷ [])) ∷ []) ∷ set 6 f (n 1) ∷ set 7 (codes "bool") (n 1) ∷ []) ≡ Some (E2NotElaborable, 7)
unfolding X.out-Const denote.Hole.Carrier.out bounds_of read_lines assign
imported_again = refl

-- by a `for`, and by several names
pub bound_by_for : run (imports 1 ∷ set 2 a bit ∷ for_in 3 i (call (v (codes "range")) (n 2 ∷ [])) (comb 4 f (drive 5 (v a) (v i) ∷ []) ∷ []) ∷ []) ≡ Some (E2NotElaborable, 3)
unfolding X.out-Const denote.Hole.Carrier.out bounds_of read_lines assign
bound_by_for = refl

-- in another call of the function it is another name
pub bound_elsewhere : run (imports 1 ∷ set 2 a bit ∷ block_def 3 g (b ∷ []) (comb 4 f (drive 5 (v a) (v b) ∷ []) ∷ s.Return 6 (v f) ∷ []) ∷ s.Value 7 (call (v g) (v a ∷ [])) ∷ s.Value 8 (call (v g) (v a ∷ [])) ∷ set 9 b (n 1) ∷ set 10 a (n 1) ∷ []) ≡ Some (E2NotElaborable, 10)
unfolding X.out-Const denote.Hole.Carrier.out bounds_of read_lines assign
bound_elsewhere = refl

-- a binding in the function itself would hide what was read
pub hidden_later : run (imports 1 ∷ set 2 a bit ∷ block_def 3 g [] (comb 4 f (drive 5 (v a) (n 1) ∷ []) ∷ set 6 a (n 1) ∷ s.Return 7 (v f) ∷ []) ∷ s.Value 8 (call (v g) []) ∷ []) ≡ Some (E2NotElaborable, 6)
unfolding X.out-Const denote.Hole.Carrier.out bounds_of read_lines assign
hidden_later = refl

-- a list that a name of it was read of is changed under another name
pub list_changed : run (imports 1 ∷ set 2 w (list (bit ∷ [])) ∷ set 3 a (v w) ∷ set 4 b bit ∷ comb 5 f (drive 6 (v b) (call (v (codes "len")) (v w ∷ [])) ∷ []) ∷ s.Value 7 (method (v a) (codes "append") (n 1 ∷ [])) ∷ []) ≡ Some (E2NotElaborable, 7)
unfolding X.out-Const denote.Hole.Carrier.out bounds_of read_lines assign
list_changed = refl

pub list_item_changed : run (imports 1 ∷ set 2 w (list (bit ∷ [])) ∷ set 3 a (v w) ∷ set 4 b bit ∷ comb 5 f (drive 6 (v b) (call (v (codes "len")) (v w ∷ [])) ∷ []) ∷ set_item 7 (v a) (n 0) (n 1) ∷ []) ≡ Some (E2NotElaborable, 7)
unfolding X.out-Const denote.Hole.Carrier.out bounds_of read_lines assign
list_item_changed = refl

-- a list inside it is changed, and its own variable is none of its reads
pub list_inside : run (imports 1 ∷ set 2 w (list (list [] ∷ [])) ∷ set 4 b bit ∷ comb 5 f (drive 6 (v b) (call (v (codes "len")) (v w ∷ [])) ∷ []) ∷ s.Value 7 (method (at (v w) (n 0)) (codes "append") (n 1 ∷ [])) ∷ []) ≡ None
unfolding X.out-Const denote.Hole.Carrier.out bounds_of read_lines assign
list_inside = refl

-- by a definition, and by an import
pub defined_again : run (imports 1 ∷ set 2 a bit ∷ comb 3 f (drive 4 (v a) (n 1) ∷ []) ∷ def 5 f [] (s.Pass 6 ∷ []) ∷ def 7 a [] (s.Pass 8 ∷ []) ∷ []) ≡ Some (E2NotElaborable, 7)
unfolding X.out-Const denote.Hole.Carrier.out bounds_of read_lines assign
defined_again = refl

pub import_again : run (imports 1 ∷ set 2 a bit ∷ comb 3 f (drive 4 (v a) (call (v (codes "concat")) (v a ∷ [])) ∷ []) ∷ imports 5 ∷ []) ≡ Some (E2NotElaborable, 5)
unfolding X.out-Const denote.Hole.Carrier.out bounds_of read_lines assign
import_again = refl

-- in a plain function too, whose caller may bind its own name
pub bound_in_function : run (imports 1 ∷ def 2 g (needed (a ∷ [])) (comb 3 f (drive 4 (v a) (n 1) ∷ []) ∷ s.Return 5 (v f) ∷ []) ∷ set 6 b bit ∷ s.Value 7 (call (v g) (v b ∷ [])) ∷ set 8 b (n 1) ∷ set 9 a (n 1) ∷ def 10 g (needed (a ∷ [])) (comb 11 f (drive 12 (v a) (n 1) ∷ []) ∷ set 13 a (n 2) ∷ []) ∷ s.Value 14 (call (v g) (bit ∷ [])) ∷ []) ≡ Some (E2NotElaborable, 13)
unfolding X.out-Const denote.Hole.Carrier.out bounds_of read_lines assign
bound_in_function = refl

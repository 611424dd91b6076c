-- Names, functions and calls on worked examples, each by computing.
use Rattle.std.proofs.Common.{◌≡◌, ℕ, List, [], ◌∷◌, Some, None, refl, codes}
use Rattle.mh_pytree.specs.declared.expression.Operator.TheVariants as op
use Rattle.mh_text.specs.declared.code.Code.TheVariants.{E1UnknownName, E2NotElaborable, E3BadArguments, E4BadRange, E8DepthLimit, E10KindClash}
use Rattle.mh_consts.specs.Expression as x
use Rattle.mh_consts.specs.Expression.{two, three}
use Rattle.mh_consts.specs.Numbers.{bounds_of}
use Rattle.mh_consts.specs.declared.kinds.Const as X
use Rattle.mh_world.specs.Statements as s
use Rattle.mh_world.specs.Statements.{Func, block}
use Rattle.mh_elab.proofs.Words.{n, v, both, add, call, call_with, list, at, set, def, needed, imports, if_then, run}

abbrev a : List ℕ
a = codes "a"

abbrev b : List ℕ
b = codes "b"

abbrev f : List ℕ
f = codes "f"

abbrev g : List ℕ
g = codes "g"

-- ---- names and imports

-- names of MyHDL are bound by an import alone
pub not_imported : run (s.Value 1 (v (codes "Signal")) ∷ []) ≡ Some (E1UnknownName, 1)
unfolding X.out-Const denote.Hole.Carrier.out bounds_of
not_imported = refl

pub imported : run (s.Import 1 (codes "Signal" ∷ codes "intbv" ∷ []) ∷ s.Value 2 (v (codes "Signal")) ∷ []) ≡ None
unfolding X.out-Const denote.Hole.Carrier.out bounds_of
imported = refl

pub imported_unknown : run (s.Import 1 (codes "Signal" ∷ codes "traceSignals" ∷ []) ∷ []) ≡ Some (E1UnknownName, 1)
unfolding X.out-Const denote.Hole.Carrier.out bounds_of
imported_unknown = refl

-- a name of the module is seen until the function binds its own, which the module doesn't see
pub scopes : run (set 1 a (n 1) ∷ def 2 f [] (set 3 b (v a) ∷ set 4 a (n 9) ∷ s.Return 5 (add (v a) (v b)) ∷ []) ∷ if_then 6 (both op.Equal (add (call (v f) []) (v a)) (n 11)) (s.Value 7 (v b) ∷ []) [] ∷ []) ≡ Some (E1UnknownName, 7)
unfolding X.out-Const denote.Hole.Carrier.out bounds_of
scopes = refl

-- ---- functions and calls

-- what is no function
pub calls_number : run (set 1 a (n 1) ∷ s.Value 2 (call (v a) []) ∷ []) ≡ Some (E10KindClash, 2)
unfolding X.out-Const denote.Hole.Carrier.out bounds_of
calls_number = refl

-- arguments by name, and default values
pub by_name : run (s.Define (Func 1 f [] ((a, None) ∷ (b, Some (n 5)) ∷ []) (block (s.Return 2 (both op.Subtract (v a) (v b)) ∷ []))) ∷ if_then 3 (both op.Equal (call_with (v f) [] ((b, n 2) ∷ (a, n 9) ∷ [])) (n 7)) (if_then 4 (both op.Equal (call (v f) (n 6 ∷ [])) (n 1)) (s.Value 5 (v (codes "nowhere")) ∷ []) [] ∷ []) [] ∷ []) ≡ Some (E1UnknownName, 5)
unfolding X.out-Const denote.Hole.Carrier.out bounds_of
by_name = refl

pub by_name_twice : run (def 1 f (needed (a ∷ [])) (s.Pass 2 ∷ []) ∷ s.Value 3 (call_with (v f) (n 1 ∷ []) ((a, n 2) ∷ [])) ∷ []) ≡ Some (E3BadArguments, 3)
unfolding X.out-Const denote.Hole.Carrier.out bounds_of
by_name_twice = refl

pub by_other_name : run (def 1 f (needed (a ∷ [])) (s.Pass 2 ∷ []) ∷ s.Value 3 (call_with (v f) (n 1 ∷ []) ((b, n 2) ∷ [])) ∷ []) ≡ Some (E3BadArguments, 3)
unfolding X.out-Const denote.Hole.Carrier.out bounds_of
by_other_name = refl

pub place_after_name : run (def 1 f (needed (a ∷ b ∷ [])) (s.Pass 2 ∷ []) ∷ s.Value 3 (x.Op (x.Call (Some a ∷ None ∷ [])) (three (v f) (n 1) (n 2))) ∷ []) ≡ Some (E3BadArguments, 3)
unfolding X.out-Const denote.Hole.Carrier.out bounds_of
place_after_name = refl

pub too_many : run (def 1 f [] (s.Pass 2 ∷ []) ∷ s.Value 3 (call (v f) (n 1 ∷ [])) ∷ []) ≡ Some (E3BadArguments, 3)
unfolding X.out-Const denote.Hole.Carrier.out bounds_of
too_many = refl

-- default values are evaluated as the definition is executed
pub default_unknown : run (s.Define (Func 1 f [] ((a, Some (v (codes "nowhere"))) ∷ []) (block (s.Pass 2 ∷ []))) ∷ []) ≡ Some (E1UnknownName, 1)
unfolding X.out-Const denote.Hole.Carrier.out bounds_of
default_unknown = refl

-- two parameters of one name, and one without a default value after one that has one
pub parameter_twice : run (def 1 f (needed (a ∷ a ∷ [])) (s.Pass 2 ∷ []) ∷ []) ≡ Some (E2NotElaborable, 1)
unfolding X.out-Const denote.Hole.Carrier.out bounds_of
parameter_twice = refl

pub default_before : run (s.Define (Func 1 f [] ((a, Some (n 1)) ∷ (b, None) ∷ []) (block (s.Pass 2 ∷ []))) ∷ []) ≡ Some (E2NotElaborable, 1)
unfolding X.out-Const denote.Hole.Carrier.out bounds_of
default_before = refl

-- a plain function within another is called only where the module has bound it
pub nested : run (def 1 f [] (def 2 g [] (s.Return 3 (n 4) ∷ []) ∷ s.Return 4 (call (v g) []) ∷ []) ∷ s.Value 5 (call (v f) []) ∷ []) ≡ Some (E2NotElaborable, 4)
unfolding X.out-Const denote.Hole.Carrier.out bounds_of
nested = refl

pub nested_bound : run (def 1 f [] (def 2 g [] (s.Return 3 (v (codes "nowhere")) ∷ []) ∷ s.Return 4 (v g) ∷ []) ∷ set 5 a (call (v f) []) ∷ s.Value 6 (call (v a) []) ∷ []) ≡ Some (E1UnknownName, 3)
unfolding X.out-Const denote.Hole.Carrier.out bounds_of
nested_bound = refl

pub nested_unbound : run (def 1 f [] (def 2 g [] (s.Return 3 (v (codes "nowhere")) ∷ []) ∷ s.Return 4 (v g) ∷ []) ∷ s.Value 6 (call (call (v f) []) []) ∷ []) ≡ Some (E2NotElaborable, 6)
unfolding X.out-Const denote.Hole.Carrier.out bounds_of
nested_unbound = refl

-- it sees the names of the function in which it was defined
pub closure : run (def 1 f (needed (a ∷ [])) (def 2 g [] (s.Return 3 (at (v a) (n 5)) ∷ []) ∷ set 4 a (list (n 1 ∷ [])) ∷ s.Return 5 (v g) ∷ []) ∷ set 6 b (call (v f) (n 8 ∷ [])) ∷ s.Value 7 (call (v b) []) ∷ []) ≡ Some (E4BadRange, 3)
unfolding X.out-Const denote.Hole.Carrier.out bounds_of
closure = refl

-- as many open calls as there may be, and arguments that don't fit before one too many
pub four_deep : run (def 1 f (needed (a ∷ [])) (if_then 2 (both op.Less (v a) (n 4)) (s.Return 3 (call (v f) (add (v a) (n 1) ∷ [])) ∷ []) [] ∷ []) ∷ s.Value 4 (call (v f) (n 1 ∷ [])) ∷ s.Value 5 (call (v f) (n 0 ∷ [])) ∷ []) ≡ Some (E8DepthLimit, 3)
unfolding X.out-Const denote.Hole.Carrier.out bounds_of
four_deep = refl

pub arguments_first : run (def 1 f (needed (a ∷ [])) (if_then 2 (both op.Less (v a) (n 4)) (s.Return 3 (call (v f) (add (v a) (n 1) ∷ [])) ∷ []) (s.Return 4 (call (v f) []) ∷ []) ∷ []) ∷ s.Value 5 (call (v f) (n 1 ∷ [])) ∷ []) ≡ Some (E3BadArguments, 4)
unfolding X.out-Const denote.Hole.Carrier.out bounds_of
arguments_first = refl

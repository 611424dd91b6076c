-- Loops and counted statements on worked examples, each by computing.
use Rattle.std.proofs.Common.{◌≡◌, ℕ, List, [], ◌∷◌, Some, None, refl, codes}
use Rattle.mh_pytree.specs.declared.expression.Operator.TheVariants as op
use Rattle.mh_text.specs.declared.code.Code.TheVariants.{E1UnknownName, E2NotElaborable, E4BadRange, E7ElabLimit}
use Rattle.mh_consts.specs.Expression as x
use Rattle.mh_consts.specs.Numbers.{bounds_of}
use Rattle.mh_consts.specs.declared.kinds.Const as X
use Rattle.mh_world.specs.Statements as s
use Rattle.mh_elab.proofs.Words.{n, minus, v, both, add, call, method, list, at, set, if_then, for_in, run}

abbrev a : List ℕ
a = codes "a"

abbrev i : List ℕ
i = codes "i"

abbrev w : List ℕ
w = codes "w"

-- what goes over a range, and the name that stays
pub goes_over : run (for_in 1 i (call (v (codes "range")) (n 3 ∷ [])) (s.Pass 2 ∷ []) ∷ if_then 3 (both op.Equal (v i) (n 2)) (s.Value 4 (v (codes "nowhere")) ∷ []) [] ∷ []) ≡ Some (E1UnknownName, 4)
unfolding X.out-Const denote.Hole.Carrier.out bounds_of
goes_over = refl

pub goes_down : run (for_in 1 i (call (v (codes "range")) (n 3 ∷ n 0 ∷ minus 2 ∷ [])) (s.Pass 2 ∷ []) ∷ if_then 3 (both op.Equal (v i) (n 1)) (s.Value 4 (v (codes "nowhere")) ∷ []) [] ∷ []) ≡ Some (E1UnknownName, 4)
unfolding X.out-Const denote.Hole.Carrier.out bounds_of
goes_down = refl

-- a list that grows while it is gone over
pub grows : run (set 1 w (list (n 1 ∷ [])) ∷ for_in 2 i (v w) (if_then 3 (both op.Less (v i) (n 4)) (s.Value 4 (method (v w) (codes "append") (add (v i) (n 1) ∷ [])) ∷ []) [] ∷ []) ∷ if_then 5 (both op.Equal (v i) (n 4)) (s.Value 6 (v (codes "nowhere")) ∷ []) [] ∷ []) ≡ Some (E1UnknownName, 6)
unfolding X.out-Const denote.Hole.Carrier.out bounds_of
grows = refl

-- what isn't gone over
pub goes_over_number : run (for_in 1 i (n 3) (s.Pass 2 ∷ []) ∷ []) ≡ Some (E2NotElaborable, 1)
unfolding X.out-Const denote.Hole.Carrier.out bounds_of
goes_over_number = refl

-- `continue` and `break` end a turn and a loop
pub leaves : run (set 1 a (n 0) ∷ for_in 2 i (call (v (codes "range")) (n 9 ∷ [])) (if_then 3 (both op.Equal (v i) (n 1)) (s.Continue 4 ∷ []) [] ∷ if_then 5 (both op.Equal (v i) (n 4)) (s.Break 6 ∷ []) [] ∷ set 7 a (add (v a) (v i)) ∷ []) ∷ if_then 8 (both op.Equal (v a) (n 5)) (s.Value 9 (v (codes "nowhere")) ∷ []) [] ∷ []) ≡ Some (E1UnknownName, 9)
unfolding X.out-Const denote.Hole.Carrier.out bounds_of
leaves = refl

-- each statement counts when it is reached, and each item of a list with `for`
pub counts : run (set 1 a (x.Collect (v i) i (call (v (codes "range")) (n 59 ∷ []))) ∷ []) ≡ None
unfolding X.out-Const denote.Hole.Carrier.out bounds_of
counts = refl

pub counts_more : run (set 1 a (x.Collect (v i) i (call (v (codes "range")) (n 60 ∷ []))) ∷ []) ≡ Some (E7ElabLimit, 1)
unfolding X.out-Const denote.Hole.Carrier.out bounds_of
counts_more = refl

pub counts_turns : run (for_in 1 i (call (v (codes "range")) (n 59 ∷ [])) (s.Pass 2 ∷ []) ∷ []) ≡ None
unfolding X.out-Const denote.Hole.Carrier.out bounds_of
counts_turns = refl

pub counts_turns_more : run (for_in 1 i (call (v (codes "range")) (n 60 ∷ [])) (s.Pass 2 ∷ []) ∷ []) ≡ Some (E7ElabLimit, 2)
unfolding X.out-Const denote.Hole.Carrier.out bounds_of
counts_turns_more = refl

-- the variable of a list with `for` is its own
pub own_variable : run (set 1 i (n 7) ∷ set 2 a (x.Collect (add (v i) (n 1)) i (call (v (codes "range")) (n 3 ∷ []))) ∷ if_then 3 (both op.Equal (v i) (n 7)) (s.Value 4 (at (v a) (n 3)) ∷ []) [] ∷ []) ≡ Some (E4BadRange, 4)
unfolding X.out-Const denote.Hole.Carrier.out bounds_of
own_variable = refl

pub own_variable_gone : run (set 1 a (x.Collect (v i) i (call (v (codes "range")) (n 3 ∷ []))) ∷ s.Value 2 (v i) ∷ []) ≡ Some (E1UnknownName, 2)
unfolding X.out-Const denote.Hole.Carrier.out bounds_of
own_variable_gone = refl

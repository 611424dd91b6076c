-- Values, and what makes them, on worked examples, each by computing.
use Rattle.std.proofs.Common.{◌≡◌, ℕ, List, [], ◌∷◌, Some, None, refl, true, codes}
use Rattle.mh_pytree.specs.declared.expression.Operator.TheVariants as op
use Rattle.mh_text.specs.declared.code.Code.TheVariants.{E1UnknownName, E2NotElaborable, E3BadArguments, E4BadRange, E10KindClash}
use Rattle.mh_consts.specs.Expression as x
use Rattle.mh_consts.specs.Expression.{two}
use Rattle.mh_consts.specs.Numbers.{bounds_of}
use Rattle.mh_consts.specs.declared.kinds.Const as X
use Rattle.mh_world.specs.Statements as s
use Rattle.mh_elab.proofs.Words.{n, v, both, add, call, call_with, method, list, at, dot, set, drive, def, needed, imports, if_then, bit, run}

abbrev a : List ℕ
a = codes "a"

abbrev b : List ℕ
b = codes "b"

abbrev f : List ℕ
f = codes "f"

abbrev w : List ℕ
w = codes "w"

-- a right side that isn't needed
pub short : run (s.Value 1 (x.And (n 0) (v (codes "nowhere"))) ∷ s.Value 2 (x.Or (n 3) (v (codes "nowhere"))) ∷ s.Value 3 (x.And (n 1) (v (codes "nowhere"))) ∷ []) ≡ Some (E1UnknownName, 3)
unfolding X.out-Const denote.Hole.Carrier.out bounds_of
short = refl

-- `__name__`
pub main : run (if_then 1 (both op.Equal (v (codes "__name__")) (x.Str (codes "__main__"))) (s.Value 2 (v (codes "nowhere")) ∷ []) [] ∷ []) ≡ Some (E1UnknownName, 2)
unfolding X.out-Const denote.Hole.Carrier.out bounds_of
main = refl

-- `.append` gives nothing; another method of lists, and another attribute
pub appends : run (set 1 w (list []) ∷ set 2 a (method (v w) (codes "append") (n 1 ∷ [])) ∷ s.Value 3 (at (v w) (n 0)) ∷ s.Value 4 (add (v a) (n 1)) ∷ []) ≡ Some (E10KindClash, 4)
unfolding X.out-Const denote.Hole.Carrier.out bounds_of
appends = refl

pub extends : run (set 1 w (list []) ∷ s.Value 2 (method (v w) (codes "extend") (v w ∷ [])) ∷ []) ≡ Some (E2NotElaborable, 2)
unfolding X.out-Const denote.Hole.Carrier.out bounds_of
extends = refl

pub other_method : run (set 1 w (list []) ∷ s.Value 2 (method (v w) (codes "flatten") []) ∷ []) ≡ Some (E10KindClash, 2)
unfolding X.out-Const denote.Hole.Carrier.out bounds_of
other_method = refl

pub appends_two : run (set 1 w (list []) ∷ s.Value 2 (method (v w) (codes "append") (n 1 ∷ n 2 ∷ [])) ∷ []) ≡ Some (E3BadArguments, 2)
unfolding X.out-Const denote.Hole.Carrier.out bounds_of
appends_two = refl

-- two names of one list
pub shares : run (set 1 w (list []) ∷ set 2 a (v w) ∷ s.Value 3 (method (v a) (codes "append") (n 1 ∷ [])) ∷ s.Value 4 (at (v w) (n 1)) ∷ []) ≡ Some (E4BadRange, 4)
unfolding X.out-Const denote.Hole.Carrier.out bounds_of
shares = refl

-- a signal isn't read
pub reads_signal : run (imports 1 ∷ set 2 a bit ∷ if_then 3 (v a) (s.Pass 4 ∷ []) [] ∷ []) ≡ Some (E2NotElaborable, 3)
unfolding X.out-Const denote.Hole.Carrier.out bounds_of
reads_signal = refl

pub adds_signal : run (imports 1 ∷ set 2 a bit ∷ s.Value 3 (add (v a) (n 1)) ∷ []) ≡ Some (E2NotElaborable, 3)
unfolding X.out-Const denote.Hole.Carrier.out bounds_of
adds_signal = refl

pub next_signal : run (imports 1 ∷ set 2 a bit ∷ drive 3 (v a) (n 1) ∷ []) ≡ Some (E2NotElaborable, 3)
unfolding X.out-Const denote.Hole.Carrier.out bounds_of
next_signal = refl

pub next_unknown : run (drive 1 (v a) (n 1) ∷ []) ≡ Some (E1UnknownName, 1)
unfolding X.out-Const denote.Hole.Carrier.out bounds_of
next_unknown = refl

-- what `Signal` takes
pub signal_of_signal : run (imports 1 ∷ set 2 a bit ∷ set 3 b (call (v (codes "Signal")) (v a ∷ [])) ∷ []) ≡ Some (E3BadArguments, 3)
unfolding X.out-Const denote.Hole.Carrier.out bounds_of
signal_of_signal = refl

pub signal_of_text : run (imports 1 ∷ set 2 a (call (v (codes "Signal")) (x.Str (codes "a") ∷ [])) ∷ []) ≡ Some (E3BadArguments, 2)
unfolding X.out-Const denote.Hole.Carrier.out bounds_of
signal_of_text = refl

-- `ResetSignal` has both keywords, and bits
pub reset : run (imports 1 ∷ set 2 a (call_with (v (codes "ResetSignal")) (n 0 ∷ []) ((codes "active", n 1) ∷ (codes "isasync", x.Truth true) ∷ [])) ∷ []) ≡ None
unfolding X.out-Const denote.Hole.Carrier.out bounds_of
reset = refl

pub reset_two : run (imports 1 ∷ set 2 a (call_with (v (codes "ResetSignal")) (n 2 ∷ []) ((codes "active", n 1) ∷ (codes "isasync", x.Truth true) ∷ [])) ∷ []) ≡ Some (E3BadArguments, 2)
unfolding X.out-Const denote.Hole.Carrier.out bounds_of
reset_two = refl

pub reset_half : run (imports 1 ∷ set 2 a (call_with (v (codes "ResetSignal")) (n 0 ∷ []) ((codes "active", n 1) ∷ [])) ∷ []) ≡ Some (E3BadArguments, 2)
unfolding X.out-Const denote.Hole.Carrier.out bounds_of
reset_half = refl

-- enums
pub enum : run (imports 1 ∷ set 2 a (call_with (v (codes "enum")) (x.Str (codes "A") ∷ x.Str (codes "B") ∷ []) ((codes "encoding", x.Str (codes "one_hot")) ∷ [])) ∷ set 3 b (call (v (codes "Signal")) (dot (v a) (codes "B") ∷ [])) ∷ s.Value 4 (dot (v a) (codes "C")) ∷ []) ≡ Some (E10KindClash, 4)
unfolding X.out-Const denote.Hole.Carrier.out bounds_of
enum = refl

pub enum_empty : run (imports 1 ∷ set 2 a (call (v (codes "enum")) []) ∷ []) ≡ Some (E3BadArguments, 2)
unfolding X.out-Const denote.Hole.Carrier.out bounds_of
enum_empty = refl

pub enum_twice : run (imports 1 ∷ set 2 a (call (v (codes "enum")) (x.Str (codes "A") ∷ x.Str (codes "A") ∷ [])) ∷ []) ≡ Some (E3BadArguments, 2)
unfolding X.out-Const denote.Hole.Carrier.out bounds_of
enum_twice = refl

pub enum_otherwise : run (imports 1 ∷ set 2 a (call_with (v (codes "enum")) (x.Str (codes "A") ∷ []) ((codes "encoding", x.Str (codes "gray")) ∷ [])) ∷ []) ≡ Some (E3BadArguments, 2)
unfolding X.out-Const denote.Hole.Carrier.out bounds_of
enum_otherwise = refl

-- delays
pub delay : run (imports 1 ∷ set 2 a (call (v (codes "delay")) (n 1 ∷ [])) ∷ set 3 a (call (v (codes "delay")) (n 2147483648 ∷ [])) ∷ []) ≡ Some (E4BadRange, 3)
unfolding X.out-Const denote.Hole.Carrier.out bounds_of
delay = refl

pub delay_zero : run (imports 1 ∷ set 2 a (call (v (codes "delay")) (n 0 ∷ [])) ∷ []) ≡ Some (E4BadRange, 2)
unfolding X.out-Const denote.Hole.Carrier.out bounds_of
delay_zero = refl

pub delay_of_signal : run (imports 1 ∷ set 2 a bit ∷ set 3 a (call (v (codes "delay")) (v a ∷ [])) ∷ []) ≡ Some (E3BadArguments, 3)
unfolding X.out-Const denote.Hole.Carrier.out bounds_of
delay_of_signal = refl

-- what is for generators or decorators alone
pub now : run (imports 1 ∷ s.Value 2 (call (v (codes "now")) []) ∷ []) ≡ Some (E2NotElaborable, 2)
unfolding X.out-Const denote.Hole.Carrier.out bounds_of
now = refl

pub block_called : run (imports 1 ∷ def 2 f [] (s.Pass 3 ∷ []) ∷ s.Value 4 (call (v (codes "block")) (v f ∷ [])) ∷ []) ≡ Some (E2NotElaborable, 4)
unfolding X.out-Const denote.Hole.Carrier.out bounds_of
block_called = refl

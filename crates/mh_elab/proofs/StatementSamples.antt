-- Which rule a source breaks first, and at which line, on worked examples, each by computing: one of each rule, and statements.
use Rattle.std.proofs.Common.{◌≡◌, ℕ, List, [], ◌∷◌, Some, None, refl, true, false, codes}
use Rattle.mh_pytree.specs.declared.expression.Operator.TheVariants as op
use Rattle.mh_text.specs.declared.code.Code.TheVariants.{E1UnknownName, E2NotElaborable, E3BadArguments, E4BadRange, E5TooWide, E6BadReturn, E7ElabLimit, E8DepthLimit, E10KindClash}
use Rattle.mh_consts.specs.Expression as x
use Rattle.mh_consts.specs.Numbers.{bounds_of}
use Rattle.mh_consts.specs.declared.kinds.Const as X
use Rattle.mh_world.specs.Statements as s
use Rattle.mh_world.specs.Statements.{ToName, ToItem, ToNothing, block}
use Rattle.mh_elab.proofs.Words.{n, minus, v, both, add, call, call_with, list, tuple, at, set, set_item, unpack, def, needed, block_def, imports, if_then, while_do, sized, run}

abbrev a : List ℕ
a = codes "a"

abbrev b : List ℕ
b = codes "b"

abbrev f : List ℕ
f = codes "f"

abbrev w : List ℕ
w = codes "w"

-- ---- one of each rule

-- an unknown name
pub unknown : run (set 1 a (n 5) ∷ set 2 a (v (codes "y")) ∷ []) ≡ Some (E1UnknownName, 2)
unfolding X.out-Const denote.Hole.Carrier.out bounds_of
unknown = refl

-- what is no target: its parts aren't looked at, but the right side is
pub no_target : run (s.Assign 1 (ToNothing x.NoMore) (add (v a) (n 1)) (n 3) ∷ []) ≡ Some (E2NotElaborable, 1)
unfolding X.out-Const denote.Hole.Carrier.out bounds_of
no_target = refl

pub no_target_later : run (s.Assign 1 (ToNothing x.NoMore) (add (v a) (n 1)) (v a) ∷ []) ≡ Some (E1UnknownName, 1)
unfolding X.out-Const denote.Hole.Carrier.out bounds_of
no_target_later = refl

-- a missing argument
pub missing : run (def 1 f (needed (a ∷ [])) (s.Return 2 (v a) ∷ []) ∷ s.Value 3 (call (v f) []) ∷ []) ≡ Some (E3BadArguments, 3)
unfolding X.out-Const denote.Hole.Carrier.out bounds_of
missing = refl

-- a value outside its bounds, and too many bits
pub outside : run (imports 1 ∷ set 2 a (call_with (v (codes "intbv")) (n 9 ∷ []) ((codes "min", n 0) ∷ (codes "max", n 8) ∷ [])) ∷ []) ≡ Some (E4BadRange, 2)
unfolding X.out-Const denote.Hole.Carrier.out bounds_of
outside = refl

pub wide : run (imports 1 ∷ set 2 a (sized 0 128) ∷ []) ≡ Some (E5TooWide, 2)
unfolding X.out-Const denote.Hole.Carrier.out bounds_of
wide = refl

-- what a block returns
pub bad_return : run (imports 1 ∷ block_def 3 b [] (s.Return 4 (n 3) ∷ []) ∷ s.Value 5 (call (v b) []) ∷ []) ≡ Some (E6BadReturn, 4)
unfolding X.out-Const denote.Hole.Carrier.out bounds_of
bad_return = refl

pub no_return : run (imports 1 ∷ block_def 3 b [] (s.Pass 4 ∷ []) ∷ s.Value 5 (call (v b) []) ∷ []) ≡ Some (E6BadReturn, 3)
unfolding X.out-Const denote.Hole.Carrier.out bounds_of
no_return = refl

-- a loop without end
pub endless : run (while_do 1 (x.Truth true) (s.Pass 2 ∷ []) ∷ []) ≡ Some (E7ElabLimit, 2)
unfolding X.out-Const denote.Hole.Carrier.out bounds_of
endless = refl

-- calls without end: at the line of the statement that makes the call that is too many
pub deep : run (def 1 f (needed (a ∷ [])) (s.Return 2 (call (v f) (add (v a) (n 1) ∷ [])) ∷ []) ∷ s.Value 3 (call (v f) (n 0 ∷ [])) ∷ []) ≡ Some (E8DepthLimit, 2)
unfolding X.out-Const denote.Hole.Carrier.out bounds_of
deep = refl

-- kinds that don't fit
pub clash : run (set 1 a (add x.Nothing (n 1)) ∷ []) ≡ Some (E10KindClash, 1)
unfolding X.out-Const denote.Hole.Carrier.out bounds_of
clash = refl

-- ---- statements

-- what elaboration doesn't execute is refused without a look at its parts
pub claims : run (s.Assert 1 (v (codes "nowhere")) ∷ []) ≡ Some (E2NotElaborable, 1)
unfolding X.out-Const denote.Hole.Carrier.out bounds_of
claims = refl

-- the parts of a call are evaluated before it is refused
pub prints_unknown : run (s.Value 1 (call (v (codes "print")) ((v (codes "nowhere")) ∷ [])) ∷ []) ≡ Some (E1UnknownName, 1)
unfolding X.out-Const denote.Hole.Carrier.out bounds_of
prints_unknown = refl

pub prints : run (s.Value 1 (call (v (codes "print")) (n 1 ∷ [])) ∷ []) ≡ Some (E2NotElaborable, 1)
unfolding X.out-Const denote.Hole.Carrier.out bounds_of
prints = refl

-- a `return` of the module, and a `break` outside a loop, in order of execution
pub returns : run (set 1 a (n 1) ∷ s.Return 2 (n 1) ∷ []) ≡ Some (E2NotElaborable, 2)
unfolding X.out-Const denote.Hole.Carrier.out bounds_of
returns = refl

pub breaks : run (if_then 1 (x.Truth false) (s.Break 2 ∷ []) [] ∷ s.Break 3 ∷ []) ≡ Some (E2NotElaborable, 3)
unfolding X.out-Const denote.Hole.Carrier.out bounds_of
breaks = refl

-- as many names as items
pub unpacks : run (unpack 1 (a ∷ b ∷ []) (list (n 1 ∷ n 2 ∷ [])) ∷ s.Value 2 (add (v a) (v b)) ∷ []) ≡ None
unfolding X.out-Const denote.Hole.Carrier.out bounds_of
unpacks = refl

pub unpacks_list : run (unpack 1 (a ∷ []) (list (n 1 ∷ [])) ∷ s.Value 2 (v a) ∷ []) ≡ None
unfolding X.out-Const denote.Hole.Carrier.out bounds_of
unpacks_list = refl

pub unpacks_more : run (unpack 1 (a ∷ b ∷ []) (list (n 1 ∷ [])) ∷ []) ≡ Some (E2NotElaborable, 1)
unfolding X.out-Const denote.Hole.Carrier.out bounds_of
unpacks_more = refl

pub unpacks_number : run (unpack 1 (a ∷ b ∷ []) (n 1) ∷ []) ≡ Some (E2NotElaborable, 1)
unfolding X.out-Const denote.Hole.Carrier.out bounds_of
unpacks_number = refl

-- items of lists take values, and others don't
pub items : run (set 1 w (list (n 1 ∷ n 2 ∷ [])) ∷ set_item 2 (v w) (n 1) (n 5) ∷ if_then 3 (both op.Equal (at (v w) (n 1)) (n 5)) (s.Value 4 (v (codes "nowhere")) ∷ []) [] ∷ []) ≡ Some (E1UnknownName, 4)
unfolding X.out-Const denote.Hole.Carrier.out bounds_of
items = refl

pub item_outside : run (set 1 w (list (n 1 ∷ n 2 ∷ [])) ∷ set_item 2 (v w) (n 2) (n 5) ∷ []) ≡ Some (E4BadRange, 2)
unfolding X.out-Const denote.Hole.Carrier.out bounds_of
item_outside = refl

pub item_below : run (set 1 w (list (n 1 ∷ n 2 ∷ [])) ∷ set_item 2 (v w) (minus 1) (n 5) ∷ []) ≡ Some (E4BadRange, 2)
unfolding X.out-Const denote.Hole.Carrier.out bounds_of
item_below = refl

pub item_of_tuple : run (set 1 w (tuple (n 1 ∷ n 2 ∷ [])) ∷ set_item 2 (v w) (n 1) (n 5) ∷ []) ≡ Some (E2NotElaborable, 2)
unfolding X.out-Const denote.Hole.Carrier.out bounds_of
item_of_tuple = refl

-- the right side comes first
pub right_first : run (set 1 w (list (n 1 ∷ [])) ∷ set_item 2 (v w) (n 7) (v (codes "nowhere")) ∷ []) ≡ Some (E1UnknownName, 2)
unfolding X.out-Const denote.Hole.Carrier.out bounds_of
right_first = refl

pub right_before_parts : run (set 1 w (list (n 1 ∷ [])) ∷ set_item 2 (v w) (v (codes "nowhere")) (both op.Divide (n 1) (n 0)) ∷ []) ≡ Some (E4BadRange, 2)
unfolding X.out-Const denote.Hole.Carrier.out bounds_of
right_before_parts = refl

-- an augmented assignment reads, and binds again
pub augments : run (set 1 a (n 2) ∷ s.Augment 2 op.Multiply (ToName a) (v a) (n 3) ∷ if_then 3 (both op.Equal (v a) (n 6)) (s.Value 4 (v (codes "nowhere")) ∷ []) [] ∷ []) ≡ Some (E1UnknownName, 4)
unfolding X.out-Const denote.Hole.Carrier.out bounds_of
augments = refl

pub augments_item : run (set 1 w (list (n 1 ∷ n 2 ∷ [])) ∷ s.Augment 2 op.Add (ToItem (v w) (n 0)) (at (v w) (n 0)) (n 3) ∷ if_then 3 (both op.Equal (at (v w) (n 0)) (n 4)) (s.Value 4 (v (codes "nowhere")) ∷ []) [] ∷ []) ≡ Some (E1UnknownName, 4)
unfolding X.out-Const denote.Hole.Carrier.out bounds_of
augments_item = refl

pub augments_list : run (set 1 w (list (n 1 ∷ [])) ∷ s.Augment 2 op.Add (ToName w) (v w) (v w) ∷ []) ≡ Some (E10KindClash, 2)
unfolding X.out-Const denote.Hole.Carrier.out bounds_of
augments_list = refl

pub augments_unknown : run (s.Augment 1 op.Add (ToName a) (v a) (n 1) ∷ []) ≡ Some (E1UnknownName, 1)
unfolding X.out-Const denote.Hole.Carrier.out bounds_of
augments_unknown = refl

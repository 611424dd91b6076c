-- Requests, and the items of tuples, on worked examples, each by computing.
use Rattle.std.proofs.Common.{◌≡◌, ℕ, pos, List, [], ◌∷◌, Some, None, Ok, refl, ap, true, codes}
use Rattle.mh_text.specs.declared.code.Code.TheVariants.{E3BadArguments, E4BadRange, E10KindClash}
use Rattle.mh_consts.specs.Expression as x
use Rattle.mh_consts.specs.Numbers.{bounds_of}
use Rattle.mh_consts.specs.declared.kinds.Const as X
use Rattle.mh_consts.specs.declared.kinds.Const.TheOpen.{Const-F}
use Rattle.mh_consts.specs.declared.kinds.Const.TheVariants as c
use Rattle.mh_consts.proofs.Values.{out-tuple}
use Rattle.mh_world.specs.World.{begins}
use Rattle.mh_world.specs.Lists.{items_of, items_step, item_step}
use Rattle.mh_world.specs.Blocks.{parts_step}
use Rattle.mh_world.specs.Statements as s
use Rattle.mh_elab.proofs.Words.{n, minus, v, call, method, method_with, list, tuple, set, block_def, imports, run}

abbrev a : List ℕ
a = codes "a"

abbrev b : List ℕ
b = codes "b"

abbrev g : List ℕ
g = codes "g"

-- ---- requests

-- durations
pub run_negative : run (imports 1 ∷ block_def 2 b [] (s.Return 3 (list []) ∷ []) ∷ set 4 g (call (v b) []) ∷ s.Value 5 (method (v g) (codes "run_sim") (n 0 ∷ [])) ∷ s.Value 6 (method (v g) (codes "run_sim") (minus 1 ∷ [])) ∷ []) ≡ Some (E4BadRange, 6)
unfolding X.out-Const denote.Hole.Carrier.out bounds_of
run_negative = refl

pub run_long : run (imports 1 ∷ block_def 2 b [] (s.Return 3 (list []) ∷ []) ∷ set 4 g (call (v b) []) ∷ s.Value 5 (method (v g) (codes "run_sim") (n 2147483647 ∷ [])) ∷ s.Value 6 (method_with (v g) (codes "run_sim") [] ((codes "duration", n 2147483648) ∷ [])) ∷ []) ≡ Some (E4BadRange, 6)
unfolding X.out-Const denote.Hole.Carrier.out bounds_of
run_long = refl

pub run_text : run (imports 1 ∷ block_def 2 b [] (s.Return 3 (list []) ∷ []) ∷ set 4 g (call (v b) []) ∷ s.Value 5 (method (v g) (codes "run_sim") (x.Str [] ∷ [])) ∷ []) ≡ Some (E3BadArguments, 5)
unfolding X.out-Const denote.Hole.Carrier.out bounds_of
run_text = refl

pub run_both : run (imports 1 ∷ block_def 2 b [] (s.Return 3 (list []) ∷ []) ∷ set 4 g (call (v b) []) ∷ s.Value 5 (method_with (v g) (codes "run_sim") (n 1 ∷ []) ((codes "duration", n 2) ∷ [])) ∷ []) ≡ Some (E3BadArguments, 5)
unfolding X.out-Const denote.Hole.Carrier.out bounds_of
run_both = refl

pub other_request : run (imports 1 ∷ block_def 2 b [] (s.Return 3 (list []) ∷ []) ∷ set 4 g (call (v b) []) ∷ s.Value 5 (method_with (v g) (codes "config_sim") [] ((codes "trace", x.Truth true) ∷ [])) ∷ s.Value 6 (method (v g) (codes "quit_sim") []) ∷ s.Value 7 (method (v g) (codes "trace") []) ∷ []) ≡ Some (E10KindClash, 7)
unfolding X.out-Const denote.Hole.Carrier.out bounds_of
other_request = refl

-- ---- tuples

-- a tuple has as many items as there are names, and is gone over by place
pub of_tuple : items_of (c.Tuple (c.Int (pos 1) ∷ c.None ∷ [])) (begins 9) ≡ Ok (c.Int (pos 1) ∷ c.None ∷ [])
of_tuple = ap (items_step (begins 9)) (out-tuple (c.Int (pos 1) ∷ c.None ∷ []))

pub second_of_tuple : item_step 1 (X.out-Const (c.Tuple (c.Int (pos 1) ∷ c.None ∷ []))) 1 (begins 9) ≡ Ok (Some c.None)
second_of_tuple = ap (λ x. item_step 1 x 1 (begins 9)) (out-tuple (c.Int (pos 1) ∷ c.None ∷ []))

pub behind_tuple : item_step 1 (X.out-Const (c.Tuple (c.Int (pos 1) ∷ c.None ∷ []))) 2 (begins 9) ≡ Ok None
behind_tuple = ap (λ x. item_step 1 x 2 (begins 9)) (out-tuple (c.Int (pos 1) ∷ c.None ∷ []))

-- what a tuple of instances and generators returns, each once, and one with anything else in it
pub parts_of_tuple : parts_step (begins 9) c.None (Const-F.Tuple (c.Generator 1 ∷ c.Instance 0 ∷ c.Generator 1 ∷ [])) ≡ Some (c.Generator 1 ∷ c.Instance 0 ∷ [])
unfolding X.out-Const denote.Hole.Carrier.out
parts_of_tuple = refl

pub no_parts_of_tuple : parts_step (begins 9) c.None (Const-F.Tuple (c.Generator 1 ∷ c.None ∷ [])) ≡ None
unfolding X.out-Const denote.Hole.Carrier.out
no_parts_of_tuple = refl

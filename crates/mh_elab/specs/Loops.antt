-- Statements one after the other, and turns of loops. A loop has at most one turn more than there are
-- statements left to execute as it begins, since each turn executes one at least.
use Rattle.std.specs.Prelude.{ℕ, zero, suc, ◌+◌, Bool, List, [], ◌∷◌, Option, Some, None, Ok, Err, if◌then◌else◌}
use Rattle.mh_text.specs.declared.code.Code.TheVariants.{E7ElabLimit}
use Rattle.mh_consts.specs.declared.kinds.Const.{Const}
use Rattle.mh_world.specs.World.{World, Run, pure, refuse, change, counted, ◌>>=◌, ◌>>◌}
use Rattle.mh_world.specs.declared.kinds.Flow.{Flow}
use Rattle.mh_world.specs.declared.kinds.Flow.TheVariants.{Goes, Leaves, Again, Returns}
use Rattle.mh_world.specs.Named.{bind_name, push_inner, pop_inner}
use Rattle.mh_world.specs.Lists.{item}

-- the rest of a block, unless it is left
abbrev pub again : Flow → Run Flow → Run Flow
again Goes rest = rest
again f rest = pure f

-- the next turn of a loop, unless the loop is left
abbrev pub turn : Flow → Run Flow → Run Flow
turn Goes rest = rest
turn Again rest = rest
turn Leaves rest = pure Goes
turn (Returns l v) rest = pure (Returns l v)

abbrev pub while : ℕ → ℕ → Run Bool → Run Flow → Run Flow
while zero l test body = refuse E7ElabLimit l
while (suc n) l test body = do
  t ← test
  if t then (do f ← body; turn f (while n l test body)) else pure Goes

-- a turn of a `for` with this item
abbrev pub each : ℕ → Option Const → List ℕ → Run Flow → Run Flow → Run Flow
each l None t body rest = pure Goes
each l (Some v) t body rest = do
  bind_name l t v
  f ← body
  turn f rest

abbrev pub over : ℕ → ℕ → List ℕ → Const → ℕ → Run Flow → Run Flow
over zero l t v i body = refuse E7ElabLimit l
over (suc n) l t v i body = do
  x ← item l v i
  each l x t body (over n l t v (i + 1) body)

-- An item of a list with `for` counts as a statement. Its variable is seen while the item is made.
abbrev pub gather : ℕ → Option Const → List ℕ → Run Const → Run (List Const) → Run (List Const)
gather l None t e rest = pure []
gather l (Some y) t e rest = do
  counted l
  change (push_inner t y)
  z ← e
  change pop_inner
  zs ← rest
  pure (z ∷ zs)

abbrev pub collect : ℕ → ℕ → List ℕ → Const → ℕ → Run Const → Run (List Const)
collect zero l t v i e = refuse E7ElabLimit l
collect (suc n) l t v i e = do
  x ← item l v i
  gather l x t e (collect n l t v (i + 1) e)

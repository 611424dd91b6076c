-- The meaning of a source: what its statements do, in order of execution (Python's order: parts from
-- left to right, the right side of an assignment before its target). The first rule that is broken is
-- the answer, with the line of the statement that is being executed; a function's statements bring
-- their own lines. What isn't allowed is this project's own rule.
use Rattle.std.specs.Prelude.{ℕ, zero, suc, Bool, true, false, List, [], ◌∷◌, Option, Some, None, Result, Ok, Err, if◌then◌else◌, nat_eq, length, slice_get, drop, codes}
use Rattle.mh_pytree.specs.declared.expression.Operator.{Operator}
use Rattle.mh_text.specs.declared.code.Code.TheVariants.{E1UnknownName, E2NotElaborable, E8DepthLimit, E10KindClash}
use Rattle.mh_consts.specs.declared.kinds.Builtin.{Builtin}
use Rattle.mh_consts.specs.declared.kinds.Builtin.TheVariants as builtin
use Rattle.mh_consts.specs.declared.kinds.Const.{Const, out-Const}
use Rattle.mh_consts.specs.declared.kinds.Const.TheOpen.{Const-F}
use Rattle.mh_consts.specs.declared.kinds.Const.TheVariants as c
use Rattle.mh_consts.specs.Expression as x
use Rattle.mh_consts.specs.Expression.{Ex, Exs, Head, Keys, one, two}
use Rattle.mh_consts.specs.Names.{lookup}
use Rattle.mh_consts.specs.Numbers as number
use Rattle.mh_consts.specs.Operators.{operated}
use Rattle.mh_world.specs.World.{Broken}
use Rattle.mh_world.specs.declared.kinds.Mark.{Mark}
use Rattle.mh_world.specs.declared.kinds.Mark.TheVariants.{Plain, Blocked, Generates}
use Rattle.mh_world.specs.declared.kinds.Flow.{Flow}
use Rattle.mh_world.specs.declared.kinds.Flow.TheVariants.{Goes, Leaves, Again, Returns}
use Rattle.mh_world.specs.Statements as s
use Rattle.mh_world.specs.Statements.{St, Fn, Func, Block, Choice, Choices, Target, ToName, ToItem, ToNames, ToNothing, Parameter, End, Then, Where, NoChoice, OrElse, line_of}
use Rattle.mh_world.specs.World.{World, Bindings, Run, after, pure, refuse, at, seeing, given, counted, turns, begins, ◌>>=◌, ◌>>◌}
use Rattle.mh_world.specs.Seen.{name}
use Rattle.mh_world.specs.Named.{bind_name}
use Rattle.mh_world.specs.Lists.{new_list, get_item, set_item, items_of}
use Rattle.mh_world.specs.Heads.{operate, call_builtin}
use Rattle.mh_world.specs.Functions.{marked, parameters_fit, defaults, with_defaults, new_function, callee, enter, returned, leave}
use Rattle.mh_elab.specs.Definitions.{new_generator}
use Rattle.mh_elab.specs.Loops.{again, while, over, collect}

-- the truth of a condition
abbrev pub truth : ℕ → Const → Run Bool
truth l v = at l (number.truth v)

-- ---- imports

-- the names of MyHDL
abbrev pub importable : List (List ℕ × Const)
importable = (codes "block", c.Builtin builtin.Block) ∷ (codes "instance", c.Builtin builtin.Instance) ∷ (codes "instances", c.Builtin builtin.Instances)
    ∷ (codes "always", c.Builtin builtin.Always) ∷ (codes "always_comb", c.Builtin builtin.AlwaysComb) ∷ (codes "always_seq", c.Builtin builtin.AlwaysSeq)
    ∷ (codes "Signal", c.Builtin builtin.Signal) ∷ (codes "ResetSignal", c.Builtin builtin.ResetSignal) ∷ (codes "intbv", c.Builtin builtin.Intbv)
    ∷ (codes "modbv", c.Builtin builtin.Modbv) ∷ (codes "enum", c.Builtin builtin.Enum) ∷ (codes "concat", c.Builtin builtin.Concat)
    ∷ (codes "delay", c.Builtin builtin.Delay) ∷ (codes "now", c.Builtin builtin.Now) ∷ (codes "downrange", c.Builtin builtin.Downrange)
    ∷ (codes "StopSimulation", c.Builtin builtin.StopSimulation) ∷ []

abbrev pub bind_pairs : ℕ → Bindings → Run (Unit {0})
bind_pairs l [] = pure tt
bind_pairs l (b ∷ bs) = do
  bind_name l b.0 b.1
  bind_pairs l bs

abbrev pub import_names : ℕ → List (List ℕ) → Run (Unit {0})
import_names l [] = pure tt
import_names l (t ∷ ts) = do
  given (lookup importable t) E1UnknownName l (bind_name l t)
  import_names l ts

-- ---- assignments

-- the parts of a target, which are evaluated after the right side
abbrev pub target_parts : Target → Exs
target_parts (ToItem base place) = two base place
target_parts (ToNothing parts) = parts
target_parts t = x.NoMore

abbrev pub bind_names : ℕ → List (List ℕ) → List Const → Run (Unit {0})
bind_names l (t ∷ ts) (v ∷ vs) = do
  bind_name l t v
  bind_names l ts vs
bind_names l ts vs = pure tt

-- as many names as there are items
abbrev pub unpack : ℕ → List (List ℕ) → List Const → Run (Unit {0})
unpack l ts vs = if nat_eq (length ts) (length vs) then bind_names l ts vs else refuse E2NotElaborable l

-- a value is assigned to a target whose parts have these values
abbrev pub put : ℕ → Target → Const → List Const → Run (Unit {0})
put l (ToName t) v us = bind_name l t v
put l (ToItem base place) v us = given (slice_get us 0) E10KindClash l (λ a. given (slice_get us 1) E10KindClash l (λ i. set_item l a i v))
put l (ToNames ts) v us = do
  vs ← seeing l (items_of v)
  unpack l ts vs
put l (ToNothing parts) v us = refuse E2NotElaborable l

-- of an augmented assignment: what is evaluated to read the target, and what it holds then
abbrev pub read_parts : Target → Ex → Exs
read_parts (ToName t) left = x.NoMore
read_parts (ToItem base place) left = two base place
read_parts t left = one left

abbrev pub held : ℕ → Target → List Const → Run Const
held l (ToName t) us = name l t
held l (ToItem base place) us = given (slice_get us 0) E10KindClash l (λ a. given (slice_get us 1) E10KindClash l (λ i. get_item l a i))
held l t us = given (slice_get us 0) E10KindClash l pure

abbrev pub is_target : Target → Bool
is_target (ToName t) = true
is_target (ToItem base place) = true
is_target t = false

abbrev pub update : ℕ → Operator → Target → List Const → Const → Const → Run (Unit {0})
update l op t us a b =
    if is_target t then (do v ← at l (operated op a b); put l t v us) else refuse E2NotElaborable l

-- ---- definitions

-- the default values, where it isn't a generator
abbrev pub def_parts : Mark → List Parameter → Exs
def_parts Generates ps = x.NoMore
def_parts m ps = defaults ps

abbrev pub def_fits : Mark → ℕ → List Parameter → Run (Unit {0})
def_fits Generates l ps = pure tt
def_fits m l ps = parameters_fit l ps

abbrev pub define_as : Mark → Fn → List Const → Run (Unit {0})
define_as Generates (Func l t ms ps b) vs = new_generator l t ms ps b
define_as Blocked (Func l t ms ps b) vs = new_function l t true (with_defaults ps vs) b
define_as Plain (Func l t ms ps b) vs = new_function l t false (with_defaults ps vs) b

-- ---- loops

-- a `break` or `continue` stands in a loop
abbrev pub leave_loop : Bool → ℕ → Flow → Run Flow
leave_loop loop l f = if loop then pure f else refuse E2NotElaborable l

-- `call` executes a call of the function of a number
module _ (call : ℕ → ℕ → Keys → List Const → Run Const) where
  abbrev pub call_step : ℕ → Keys → List Const → Const-F Const → Run Const
  call_step l keys vs (Const-F.Function n) = call l n keys (drop 1 vs)
  call_step l keys vs (Const-F.Builtin b) = call_builtin l b keys vs
  call_step l keys vs v = refuse E10KindClash l

  -- a call's first part is what is called
  abbrev pub apply : ℕ → Head → List Const → Run Const
  apply l (x.Call keys) vs = given (slice_get vs 0) E10KindClash l (λ f. call_step l keys vs (out-Const f))
  apply l h vs = operate l h vs

  abbrev mutual
    -- an expression of the statement at this line
    pub expr : ℕ → Ex → Run Const
    expr l (x.Number n) = pure (c.Int n)
    expr l (x.Str bytes) = pure (c.Str bytes)
    expr l (x.Truth b) = pure (c.Truth b)
    expr l x.Nothing = pure c.None
    expr l (x.Name t) = name l t
    expr l (x.And a b) = do
      v ← expr l a
      t ← truth l v
      if t then (do u ← expr l b; r ← truth l u; pure (c.Truth r)) else pure (c.Truth false)
    expr l (x.Or a b) = do
      v ← expr l a
      t ← truth l v
      if t then pure (c.Truth true) else (do u ← expr l b; r ← truth l u; pure (c.Truth r))
    expr l (x.Op h xs) = do
      vs ← exprs l xs
      apply l h vs
    expr l (x.Collect e t r) = do
      v ← expr l r
      n ← turns
      vs ← collect n l t v 0 (expr l e)
      new_list l vs

    -- parts, from left to right
    pub exprs : ℕ → Exs → Run (List Const)
    exprs l x.NoMore = pure []
    exprs l (x.More e es) = do
      v ← expr l e
      vs ← exprs l es
      pure (v ∷ vs)

  abbrev pub assign : ℕ → Target → Ex → Run (Unit {0})
  assign l t e = do
    v ← expr l e
    us ← exprs l (target_parts t)
    put l t v us

  abbrev pub augment : ℕ → Operator → Target → Ex → Ex → Run (Unit {0})
  augment l op t left e = do
    us ← exprs l (read_parts t left)
    a ← held l t us
    b ← expr l e
    update l op t us a b

  -- decorators are looked at before default values are evaluated
  abbrev pub define : Fn → Run (Unit {0})
  define (Func l t ms ps b) = do
    m ← marked l ms
    def_fits m l ps
    vs ← exprs l (def_parts m ps)
    define_as m (Func l t ms ps b) vs

  abbrev pub test : ℕ → Ex → Run Bool
  test l e = do
    v ← expr l e
    truth l v

  abbrev mutual
    -- the first argument tells whether a loop is around
    pub stmt : Bool → St → Run Flow
    stmt loop (s.Value l e) = expr l e >> pure Goes
    stmt loop (s.Assign l t left e) = assign l t e >> pure Goes
    stmt loop (s.Augment l op t left e) = augment l op t left e >> pure Goes
    stmt loop (s.Pass l) = pure Goes
    stmt loop (s.Break l) = leave_loop loop l Leaves
    stmt loop (s.Continue l) = leave_loop loop l Again
    stmt loop (s.Return l e) = do
      v ← expr l e
      returned l v
    stmt loop (s.Yield l e) = refuse E2NotElaborable l
    stmt loop (s.Raise l e) = refuse E2NotElaborable l
    stmt loop (s.Assert l e) = refuse E2NotElaborable l
    stmt loop (s.ImportAll l) = bind_pairs l importable >> pure Goes
    stmt loop (s.Import l names) = import_names l names >> pure Goes
    stmt loop (s.Define f) = define f >> pure Goes
    stmt loop (s.If l cs other) = choose loop l cs (block loop other)
    stmt loop (s.While l e b) = do
      n ← turns
      while n l (test l e) (block true b)
    stmt loop (s.For l t e b) = do
      v ← expr l e
      n ← turns
      over n l t v 0 (block true b)

    pub block : Bool → Block → Run Flow
    block loop End = pure Goes
    block loop (Then st b) = do
      counted (line_of st)
      f ← stmt loop st
      again f (block loop b)

    -- the first choice whose condition holds, or else the rest
    pub choose : Bool → ℕ → Choices → Run Flow → Run Flow
    choose loop l NoChoice rest = rest
    choose loop l (OrElse c cs) rest = choice loop l c (choose loop l cs rest)

    pub choice : Bool → ℕ → Choice → Run Flow → Run Flow
    choice loop l (Where e b) rest = do
      t ← test l e
      if t then block loop b else rest

-- a call of a function, where so many more may be open at once
abbrev pub call : ℕ → ℕ → ℕ → Keys → List Const → Run Const
call zero l n keys vs = do
  d ← callee l n keys vs
  refuse E8DepthLimit l
call (suc m) l n keys vs = do
  d ← callee l n keys vs
  caller ← enter d
  f ← block (call m) false d.body
  leave d.line caller f

-- what a source has made after its last statement, where so many statements may be executed and so many
-- calls may be open at once
abbrev pub executed : ℕ → ℕ → Block → Result World Broken
executed limit most b = after (block (call most) false b (begins limit)) (λ r. Ok r.1)

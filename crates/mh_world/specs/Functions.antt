-- Definitions of functions, and their calls (Python's rules, and MyHDL's for blocks; what may be called
-- where is this project's own rule).
use Rattle.std.specs.Prelude.{ℕ, zero, Bool, true, false, ◌&&◌, List, [], ◌∷◌, ◌++◌, length, Option, Some, None, Result, Ok, Err, if◌then◌else◌, is_some, drop, slice_get}
use Rattle.mh_text.specs.declared.code.Code.{Code}
use Rattle.mh_text.specs.declared.code.Code.TheVariants.{E1UnknownName, E2NotElaborable, E3BadArguments, E6BadReturn, E10KindClash}
use Rattle.mh_consts.specs.declared.kinds.Builtin.{Builtin}
use Rattle.mh_consts.specs.declared.kinds.Builtin.TheVariants as builtin
use Rattle.mh_consts.specs.declared.kinds.Const.{Const, out-Const}
use Rattle.mh_consts.specs.declared.kinds.Const.TheOpen.{Const-F}
use Rattle.mh_consts.specs.declared.kinds.Const.TheVariants as c
use Rattle.mh_consts.specs.Expression as x
use Rattle.mh_consts.specs.Expression.{Ex, Exs, Keys, name_in, maker}
use Rattle.mh_consts.specs.Names.{lookup, bind}
use Rattle.mh_design.specs.declared.design.GenKind.{GenKind}
use Rattle.mh_design.specs.declared.design.Local.{Local}
use Rattle.mh_design.specs.Tree as tree
use Rattle.mh_world.specs.Statements.{St, Fn, Func, Block, Parameter}
use Rattle.mh_world.specs.World.{World, Function, Made, Bindings, Broken, Run, after, pure, refuse, look, change, given, ◌>>=◌, ◌>>◌}
use Rattle.mh_world.specs.Seen.{find, scope_of, inside, is_module}
use Rattle.mh_world.specs.Named.{bind_name, binds}
use Rattle.mh_world.specs.Arguments.{matched}
use Rattle.mh_world.specs.Blocks.{instance}
use Rattle.mh_world.specs.declared.kinds.Flow.{Flow}
use Rattle.mh_world.specs.declared.kinds.Flow.TheVariants.{Goes, Leaves, Again, Returns}
use Rattle.mh_world.specs.declared.kinds.Frame.{Frame}
use Rattle.mh_world.specs.declared.kinds.Mark.{Mark}
use Rattle.mh_world.specs.declared.kinds.Mark.TheVariants.{Plain, Blocked, Generates}
use Rattle.mh_world.specs.declared.kinds.Instance.{Instance}

-- ---- decorators

abbrev pub mark_builtin : Builtin → Mark
mark_builtin builtin.Block = Blocked
mark_builtin b = Generates

abbrev pub mark_step : Const-F Const → Mark
mark_step (Const-F.Builtin b) = mark_builtin b
mark_step v = Generates

abbrev pub mark_held_step : Const → Mark
mark_held_step v = mark_step (out-Const v)

abbrev pub mark_held : ℕ → Option Const → Run Mark
mark_held l None = refuse E1UnknownName l
mark_held l (Some v) = pure (mark_step (out-Const v))

abbrev pub or_name : Option (List ℕ) → Option (List ℕ) → Option (List ℕ)
or_name (Some t) u = Some t
or_name None u = u

-- the name that a decorator is, or that it calls
abbrev pub mark_name : Ex → Option (List ℕ)
mark_name e = or_name (name_in e) (maker e)

abbrev pub is_named : Ex → Bool
is_named e = is_some (name_in e)

abbrev pub mark_by : ℕ → Bool → Option (List ℕ) → Run Mark
mark_by l named None = pure Generates
mark_by l named (Some t) = do
  v ← look (λ w. find w t)
  m ← mark_held l v
  pure (if named then m else Generates)

-- `block` stands without arguments; two decorators are none
abbrev pub marked : ℕ → List Ex → Run Mark
marked l [] = pure Plain
marked l (e ∷ []) = mark_by l (is_named e) (mark_name e)
marked l es = refuse E2NotElaborable l

-- ---- parameters: their names differ, and none without a default value follows one that has one

abbrev pub differ_onto : List (List ℕ × Bool) → List Parameter → Bool
differ_onto met [] = true
differ_onto met (p ∷ ps) = if is_some (lookup met p.0) then false else differ_onto (bind met p.0 true) ps

abbrev pub all_differ : List Parameter → Bool
all_differ ps = differ_onto [] ps

abbrev pub all_have_defaults : List Parameter → Bool
all_have_defaults [] = true
all_have_defaults (p ∷ ps) = is_some p.1 && all_have_defaults ps

abbrev pub defaults_come_last : List Parameter → Bool
defaults_come_last [] = true
defaults_come_last (p ∷ ps) = if is_some p.1 then all_have_defaults ps else defaults_come_last ps

abbrev pub parameters_keep : ℕ → List Parameter → Result (Unit {0}) Broken
parameters_keep l ps = if all_differ ps && defaults_come_last ps then Ok tt else Err (E2NotElaborable, l)

abbrev pub parameters_fit : ℕ → List Parameter → Run (Unit {0})
parameters_fit l ps w = after (parameters_keep l ps) (λ u. Ok (u, w))

-- the default values, which are evaluated as the definition is executed
abbrev pub default_onto : Option Ex → Exs → Exs
default_onto None es = es
default_onto (Some e) es = x.More e es

abbrev pub defaults : List Parameter → Exs
defaults [] = x.NoMore
defaults (p ∷ ps) = default_onto p.1 (defaults ps)

-- a parameter that has a default value takes the next of these values
abbrev pub default_value : Bool → List Const → Option Const
default_value has_one vs = if has_one then slice_get vs 0 else None

abbrev pub values_left : Bool → List Const → List Const
values_left has_one vs = if has_one then drop 1 vs else vs

abbrev pub with_defaults : List Parameter → List Const → List (List ℕ × Option Const)
with_defaults [] vs = []
with_defaults (p ∷ ps) vs = (p.0, default_value (is_some p.1) vs) ∷ with_defaults ps (values_left (is_some p.1) vs)

-- ---- a definition is executed

abbrev pub add_function : Function → World → World
add_function f w = record w { functions = w.functions ++ f ∷ []; known = w.known ++ false ∷ [] }

abbrev pub add_defined : ℕ → List ℕ → Bool → List (List ℕ × Option Const) → Block → World → World
add_defined l t block ps b w = add_function (record { line = l; name = t; is_block = block; params = ps; body = b; home = w.current }) w

abbrev pub new_function : ℕ → List ℕ → Bool → List (List ℕ × Option Const) → Block → Run (Unit {0})
new_function l t block ps b = do
  n ← look (λ w. length w.functions)
  change (add_defined l t block ps b)
  bind_name l t (c.Function n)

-- a generator of this name, whose definition is at the line
abbrev pub add_generator : List ℕ → ℕ → GenKind → List Local → tree.Block → World → World
add_generator t l kind locals b w = record w
    { generators = w.generators ++ record { name = t; line = l; inside = inside w; kind = kind; locals = locals; body = b } ∷ [] }

-- ---- calls

abbrev pub is_true : Option Bool → Bool
is_true None = false
is_true (Some b) = b

abbrev pub may_be_called : Function → Bool → Bool
may_be_called f known = if f.is_block then true else known

abbrev pub may_be_called_at : World → ℕ → Bool → Bool
may_be_called_at w n is_block = if is_block then true else is_true (slice_get w.known n)

-- a function that isn't a block is called only where the module has bound it
abbrev pub callable : ℕ → Bool → Function → Run Function
callable l known f = if may_be_called f known then pure f else refuse E2NotElaborable l

-- what is called, with the value of each of its parameters
pub record Called : Type 0 where
  pub line : ℕ  -- of the word `def`
  pub name : List ℕ
  pub is_block : Bool
  pub body : Block
  pub home : ℕ
  pub arguments : Bindings

abbrev pub called_with : Function → Bindings → Called
called_with f bs = record { line = f.line; name = f.name; is_block = f.is_block; body = f.body; home = f.home; arguments = bs }

abbrev pub callee : ℕ → ℕ → Keys → List Const → Run Called
callee l n keys vs = do
  o ← look (λ w. slice_get w.functions n)
  known ← look (λ w. is_true (slice_get w.known n))
  f ← given o E10KindClash l (callable l known)
  given (matched f.params keys vs) E3BadArguments l (λ bs. pure (called_with f bs))

-- where the caller goes on: its frame, and the instance that the call makes if it is that of a block
abbrev pub Caller : Type 0
Caller = ℕ × Option ℕ

-- an instance of the block of this name, whose definition is at the line
abbrev pub new_instance : List ℕ → ℕ → Bindings → World → World
new_instance t l bs w = record w
    { instances = w.instances ++ record { name = t; line = l; arguments = bs; outer = inside w; called = None; parts = [] } ∷ [] }

abbrev pub new_frame : ℕ → Option ℕ → World → World
new_frame home inner w = record w
    { frames = w.frames ++ record { names = []; inner = []; parent = Some home; inside = inner; frozen = [] } ∷ []; current = length w.frames }

abbrev pub bind_all : Bindings → World → World
bind_all [] w = w
bind_all (b ∷ bs) w = bind_all bs (binds b.0 b.1 w)

abbrev pub enter_block : Called → Run Caller
enter_block d w = Ok ((w.current, Some (length w.instances)), bind_all d.arguments (new_frame d.home (Some (length w.instances)) (new_instance d.name d.line d.arguments w)))

abbrev pub enter_plain : Called → Run Caller
enter_plain d w = Ok ((w.current, None), bind_all d.arguments (new_frame d.home (inside w) w))

-- a call begins, in a frame of its own
abbrev pub enter : Called → Run Caller
enter d = if d.is_block then enter_block d else enter_plain d

abbrev pub back_to : ℕ → World → World
back_to i w = record w { current = i }

-- ---- what a call gives

abbrev pub returned : ℕ → Const → Run Flow
returned l v w = (if is_module w then refuse E2NotElaborable l else pure (Returns l v)) w

-- of a plain function
abbrev pub value_of : Flow → Const
value_of (Returns l v) = v
value_of f = c.None

-- of a block: it is refused at the `return`, or else at the definition
abbrev pub instance_of : ℕ → ℕ → Flow → Run Const
instance_of l i (Returns k v) = instance k i v
instance_of l i f = refuse E6BadReturn l

abbrev pub gives : ℕ → Option ℕ → Flow → Run Const
gives l None f = pure (value_of f)
gives l (Some i) f = instance_of l i f

-- a call of the function whose definition is at the line ends, and the caller goes on
abbrev pub leave : ℕ → Caller → Flow → Run Const
leave l x r = do
  change (back_to x.0)
  gives l x.1 r

-- What an operation gives at the values of its parts, calls of functions of the source aside.
use Rattle.std.specs.Prelude.{ℕ, Bool, true, false, List, [], ◌∷◌, Option, Some, None, if◌then◌else◌, bytes_eq, slice_get, codes, drop}
use Rattle.std.specs.List.{list_any}
use Rattle.mh_text.specs.declared.code.Code.TheVariants.{E2NotElaborable, E3BadArguments, E10KindClash}
use Rattle.mh_consts.specs.declared.kinds.Builtin.{Builtin}
use Rattle.mh_consts.specs.declared.kinds.Builtin.TheVariants as builtin
use Rattle.mh_consts.specs.declared.kinds.Const.{Const, out-Const}
use Rattle.mh_consts.specs.declared.kinds.Const.TheOpen.{Const-F}
use Rattle.mh_consts.specs.declared.kinds.Const.TheVariants as c
use Rattle.mh_consts.specs.Constant.{applied}
use Rattle.mh_consts.specs.Constant.{operate as outcome}
use Rattle.mh_consts.specs.Expression as x
use Rattle.mh_consts.specs.Expression.{Ex, Head, Keys}
use Rattle.mh_world.specs.World.{World, Run, refuse, seeing, given}
use Rattle.mh_world.specs.Seen.{scope_of}
use Rattle.mh_world.specs.Arguments.{one_positional}
use Rattle.mh_world.specs.Lists.{new_list, append}
use Rattle.mh_world.specs.Signals.{make_signal, make_reset, make_enum, make_delay}
use Rattle.mh_world.specs.Blocks.{find_instances}
use Rattle.mh_world.specs.Requests.{instance_method}

-- the name that an operation looks up
abbrev pub names_in_head : Head → List (List ℕ)
names_in_head (x.Resize maker) = maker ∷ []
names_in_head h = []

-- an operation of constants
abbrev pub computed : ℕ → Head → List Const → Run Const
computed l h vs = seeing l (λ w. applied (scope_of w (names_in_head h)) h vs)

-- ---- methods

-- the other methods that lists have in Python
abbrev pub list_methods : List (List ℕ)
list_methods = codes "extend" ∷ codes "insert" ∷ codes "remove" ∷ codes "pop" ∷ codes "clear" ∷ codes "index" ∷ codes "count"
    ∷ codes "sort" ∷ codes "reverse" ∷ codes "copy" ∷ []

abbrev pub append_one : ℕ → ℕ → Keys → List Const → Run Const
append_one l n keys vs = given (one_positional keys vs) E3BadArguments l (append l n)

abbrev pub list_method : ℕ → List ℕ → Keys → ℕ → List Const → Run Const
list_method l name keys n vs =
    if bytes_eq name (codes "append") then append_one l n keys vs
    else (if list_any (bytes_eq name) list_methods then refuse E2NotElaborable l else refuse E10KindClash l)

abbrev pub method_step : ℕ → List ℕ → Keys → List Const → Const-F Const → Run Const
method_step l name keys vs (Const-F.List n) = list_method l name keys n (drop 1 vs)
method_step l name keys vs (Const-F.Instance i) = instance_method l name keys i (drop 1 vs)
method_step l name keys vs base = computed l (x.Method name keys) vs

-- ---- calls

-- what a function that MyHDL or Python has gives at its arguments; the parts are the function and these
abbrev pub call_builtin : ℕ → Builtin → Keys → List Const → Run Const
call_builtin l builtin.Signal keys vs = make_signal l keys (drop 1 vs)
call_builtin l builtin.ResetSignal keys vs = make_reset l keys (drop 1 vs)
call_builtin l builtin.Enum keys vs = make_enum l keys (drop 1 vs)
call_builtin l builtin.Delay keys vs = make_delay l keys (drop 1 vs)
call_builtin l builtin.Instances keys vs = find_instances l keys
call_builtin l builtin.Range keys vs = computed l (x.Call keys) vs
call_builtin l builtin.Downrange keys vs = computed l (x.Call keys) vs
call_builtin l builtin.Len keys vs = computed l (x.Call keys) vs
call_builtin l builtin.Int keys vs = computed l (x.Call keys) vs
call_builtin l builtin.Bool keys vs = computed l (x.Call keys) vs
call_builtin l builtin.Intbv keys vs = computed l (x.Call keys) vs
call_builtin l builtin.Modbv keys vs = computed l (x.Call keys) vs
call_builtin l builtin.Concat keys vs = computed l (x.Call keys) vs
call_builtin l builtin.Block keys vs = refuse E2NotElaborable l
call_builtin l builtin.Instance keys vs = refuse E2NotElaborable l
call_builtin l builtin.Always keys vs = refuse E2NotElaborable l
call_builtin l builtin.AlwaysComb keys vs = refuse E2NotElaborable l
call_builtin l builtin.AlwaysSeq keys vs = refuse E2NotElaborable l
call_builtin l builtin.Now keys vs = refuse E2NotElaborable l
call_builtin l builtin.StopSimulation keys vs = refuse E2NotElaborable l
call_builtin l builtin.Print keys vs = refuse E2NotElaborable l

-- ---- an operation

abbrev pub operate : ℕ → Head → List Const → Run Const
operate l x.ListOf vs = new_list l vs
operate l (x.Method name keys) vs = given (slice_get vs 0) E10KindClash l (λ base. method_step l name keys vs (out-Const base))
operate l h vs = computed l h vs

-- ---- the operation that an expression is

abbrev pub head_in : Ex → Option Head
head_in (x.Op h xs) = Some h
head_in e = None

abbrev pub names_of_head : Option Head → List (List ℕ)
names_of_head None = []
names_of_head (Some h) = names_in_head h

abbrev pub names_in : Ex → List (List ℕ)
names_in e = names_of_head (head_in e)

abbrev pub names_held : Option (List ℕ) → List (List ℕ)
names_held None = []
names_held (Some t) = t ∷ []

abbrev pub computed_in : ℕ → Ex → List Const → Run Const
computed_in l e vs = seeing l (λ w. outcome (scope_of w (names_in e)) e vs)

abbrev pub operate_in : ℕ → Ex → List Const → Run Const
operate_in l (x.Op h xs) vs = operate l h vs
operate_in l e vs = computed_in l e vs

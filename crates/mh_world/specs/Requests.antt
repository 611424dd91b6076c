-- What a source asks of an instance: `x.convert(..)` with any arguments, and `x.run_sim(n)`, where n may
-- be left out or named `duration`, and further names are ignored (this project's own rule).
use Rattle.std.specs.Prelude.{ℕ, ℤ, pos, negsuc, ◌^◌, Bool, List, [], ◌∷◌, ◌++◌, Option, Some, None, Result, Ok, Err, if◌then◌else◌, nat_lt, bytes_eq, codes}
use Rattle.mh_text.specs.declared.code.Code.{Code}
use Rattle.mh_text.specs.declared.code.Code.TheVariants.{E3BadArguments, E4BadRange, E10KindClash}
use Rattle.mh_consts.specs.declared.kinds.Const.{Const}
use Rattle.mh_consts.specs.declared.kinds.Const.TheVariants as c
use Rattle.mh_consts.specs.Expression.{Keys}
use Rattle.mh_consts.specs.Names.{lookup}
use Rattle.mh_consts.specs.Numbers.{content}
use Rattle.mh_consts.specs.Outcome as outcome
use Rattle.mh_world.specs.World.{World, Bindings, Run, pure, refuse, at, change, given, ◌>>=◌, ◌>>◌}
use Rattle.mh_world.specs.Arguments.{Arguments, split}
use Rattle.mh_world.specs.declared.kinds.Asked.{Asked}
use Rattle.mh_world.specs.declared.kinds.Verb.{Verb}
use Rattle.mh_world.specs.declared.kinds.Verb.TheVariants as verb

abbrev pub with_request : Asked → World → World
with_request a w = record w { requests = w.requests ++ a ∷ [] }

abbrev pub ask : Verb → ℕ → ℕ → ℕ → Run Const
ask v i n l = do
  change (with_request (record { verb = v; instance = i; n = n; line = l }))
  pure c.None

abbrev pub duration_of : ℤ → Result ℕ Code
duration_of (pos n) = if nat_lt n (2 ^ 31) then Ok n else Err E4BadRange
duration_of (negsuc n) = Err E4BadRange

abbrev pub duration_held : Option Const → Result ℕ Code
duration_held None = Ok 1000000
duration_held (Some v) = outcome.after (content v) duration_of

abbrev pub one_duration : Const → Option Const → Result ℕ Code
one_duration v None = duration_held (Some v)
one_duration v (Some u) = Err E3BadArguments

abbrev pub duration_in : List Const → Option Const → Result ℕ Code
duration_in [] named = duration_held named
duration_in (v ∷ []) named = one_duration v named
duration_in vs named = Err E3BadArguments

abbrev pub duration_given : Arguments → Result ℕ Code
duration_given a = duration_in a.positional (lookup a.named (codes "duration"))

abbrev pub run_for : ℕ → ℕ → Arguments → Run Const
run_for l i a = do
  n ← at l (duration_given a)
  ask verb.RunSim i n l

-- `x.run_sim(n)`
abbrev pub run_sim : ℕ → ℕ → Keys → List Const → Run Const
run_sim l i keys vs = given (split keys vs) E3BadArguments l (run_for l i)

-- a method of an instance
abbrev pub instance_method : ℕ → List ℕ → Keys → ℕ → List Const → Run Const
instance_method l name keys i vs =
    if bytes_eq name (codes "convert") then ask verb.Convert i 0 l
    else (if bytes_eq name (codes "run_sim") then run_sim l i keys vs
    else (if bytes_eq name (codes "config_sim") then pure c.None
    else (if bytes_eq name (codes "quit_sim") then pure c.None else refuse E10KindClash l)))

-- What is called, and how, and what is indexed, in a generator.
use Rattle.std.specs.Prelude.{ℕ, Bool, true, false, ◌&&◌, List, [], Option, Some, None, if◌then◌else◌, bytes_eq, codes, length, nat_eq}
use Rattle.mh_text.specs.declared.code.Code.TheVariants.{E1UnknownName, E2NotElaborable, E10KindClash}
use Rattle.mh_consts.specs.declared.kinds.Builtin.{Builtin}
use Rattle.mh_consts.specs.declared.kinds.Builtin.TheVariants as builtin
use Rattle.mh_consts.specs.Builtins.{all_positional, key_at}
use Rattle.mh_consts.specs.declared.kinds.Const.{Const, out-Const}
use Rattle.mh_consts.specs.declared.kinds.Const.TheOpen.{Const-F}
use Rattle.mh_consts.specs.declared.scope.Scope.{Scope}
use Rattle.mh_consts.specs.Expression as x
use Rattle.mh_consts.specs.Expression.{Ex, Exs, Keys}
use Rattle.mh_consts.specs.Names.{lookup}
use Rattle.mh_exprs.specs.declared.locals.Locals.{Locals}
use Rattle.mh_exprs.specs.declared.names.Found.{Found}
use Rattle.mh_exprs.specs.declared.names.Found.TheVariants as found_as
use Rattle.mh_exprs.specs.declared.names.Callee.{Callee}
use Rattle.mh_exprs.specs.declared.names.Callee.TheVariants as callee
use Rattle.mh_exprs.specs.declared.names.Form.{Form}
use Rattle.mh_exprs.specs.declared.names.Form.TheVariants as form
use Rattle.mh_exprs.specs.declared.names.Plan.{Plan}
use Rattle.mh_exprs.specs.declared.names.Plan.TheVariants as plan
use Rattle.mh_exprs.specs.Constant.{is_local, outside}

-- ---- what is called

abbrev pub callee_step : Const-F Const → Callee
callee_step (Const-F.Builtin b) = callee.Known b
callee_step (Const-F.Function n) = callee.Refused E2NotElaborable  -- a function of the source
callee_step (Const-F.Signal n k) = callee.Refused E2NotElaborable  -- a shadow of a signal
callee_step v = callee.Refused E10KindClash

abbrev pub callee_held : Option Const → Callee
callee_held None = callee.Refused E1UnknownName
callee_held (Some v) = callee_step (out-Const v)

-- a local is no function
abbrev pub callee_named : Bool → Option Const → Callee
callee_named true v = callee.Refused E10KindClash
callee_named false v = callee_held v

abbrev pub callee_by : Scope → Locals → Option (List ℕ) → Callee
callee_by s ls None = callee.Refused E10KindClash
callee_by s ls (Some t) = callee_named (is_local ls t) (lookup s.names t)

abbrev pub callee_of : Scope → Locals → Ex → Callee
callee_of s ls f = callee_by s ls (x.name_in f)

-- the form `maker(..)[n:]` makes a bounded number where the name is that of `intbv` or `modbv`
abbrev pub is_maker : Callee → Bool
is_maker (callee.Known builtin.Intbv) = true
is_maker (callee.Known builtin.Modbv) = true
is_maker c = false

-- ---- how it is called

abbrev pub pair_form : List ℕ → List ℕ → Form
pair_form a b =
    if bytes_eq a (codes "min") && bytes_eq b (codes "max") then form.LowHigh
    else (if bytes_eq a (codes "max") && bytes_eq b (codes "min") then form.HighLow else form.Other)

abbrev pub one_form : Option (List ℕ) → Form
one_form None = form.Single
one_form (Some key) = form.Other

abbrev pub three_form : Option (List ℕ) → Option (List ℕ) → Option (List ℕ) → Form
three_form None (Some a) (Some b) = pair_form a b
three_form first second third = form.Other

abbrev pub form_of : Keys → Form
form_of keys =
    if nat_eq (length keys) 1 then one_form (key_at keys 0)
    else (if nat_eq (length keys) 3 then three_form (key_at keys 0) (key_at keys 1) (key_at keys 2) else form.Other)

-- ---- what it reads

abbrev pub once : Plan → Form → Plan
once p form.Single = p
once p f = plan.Misfit

-- `intbv` and `modbv` with bounds stand on the right side of `v = ..` alone
abbrev pub made : Form → Plan
made form.Single = plan.Unbounded
made form.LowHigh = plan.Refused E2NotElaborable
made form.HighLow = plan.Refused E2NotElaborable
made form.Other = plan.Misfit

-- `concat` takes one argument or more, by position
abbrev pub is_row : Keys → Bool
is_row [] = false
is_row keys = all_positional keys

abbrev pub joins : Bool → Plan
joins true = plan.Row
joins false = plan.Misfit

abbrev pub now : Keys → Plan
now [] = plan.Now
now keys = plan.Misfit

abbrev pub plan_named : Builtin → Keys → Plan
plan_named builtin.Len keys = once plan.Length (form_of keys)
plan_named builtin.Int keys = once plan.Integer (form_of keys)
plan_named builtin.Bool keys = once plan.Truth (form_of keys)
plan_named builtin.Intbv keys = made (form_of keys)
plan_named builtin.Modbv keys = made (form_of keys)
plan_named builtin.Concat keys = joins (is_row keys)
plan_named builtin.Now keys = now keys
plan_named builtin.Range keys = plan.Refused E10KindClash
plan_named builtin.Downrange keys = plan.Refused E10KindClash
plan_named b keys = plan.Refused E2NotElaborable

-- what a call reads, by what is called and how its arguments are given
abbrev pub plan_of : Callee → Keys → Plan
plan_of (callee.Refused code) keys = plan.Refused code
plan_of (callee.Known b) keys = plan_named b keys

-- ---- what is indexed

-- a list or a tuple of elaboration, or an expression of the generator
pub data Collection : Type 0 where
  Listed : (list : ℕ) → Collection
  Tupled : (items : List Const) → Collection
  Neither : Collection

abbrev pub collection_step : Const-F Const → Collection
collection_step (Const-F.List n) = Listed n
collection_step (Const-F.Tuple vs) = Tupled vs
collection_step v = Neither

abbrev pub collection_held : Option Const → Collection
collection_held None = Neither
collection_held (Some v) = collection_step (out-Const v)

abbrev pub outside_by : Scope → Locals → Option (List ℕ) → Option Const
outside_by s ls None = None
outside_by s ls (Some t) = outside s ls t

-- what a name that isn't that of a local is bound to, of an expression that is a name
abbrev pub outside_in : Scope → Locals → Ex → Option Const
outside_in s ls a = outside_by s ls (x.name_in a)

-- what the program found
abbrev pub found : Found → Collection
found (found_as.List n) = Listed n
found (found_as.Tuple vs) = Tupled vs.now
found found_as.Neither = Neither

abbrev pub collection_of : Scope → Locals → Ex → Collection
collection_of s ls a = collection_held (outside_in s ls a)

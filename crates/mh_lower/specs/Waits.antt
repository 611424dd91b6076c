-- What a `yield` and an `@always` wait for: an edge, a change of a signal, or a delay that is a
-- constant. This is this project's own rule.
use Rattle.std.specs.Prelude.{ℤ, pos, negsuc, Bool, true, false, ◌&&◌, ◌||◌, not, List, [], ◌∷◌, ◌++◌, Result, Ok, Err, if◌then◌else◌, nat_le}
use Rattle.mh_text.specs.declared.code.Code.{Code}
use Rattle.mh_text.specs.declared.code.Code.TheVariants.{E2NotElaborable, E3BadArguments, E4BadRange, E10KindClash}
use Rattle.mh_consts.specs.declared.kinds.Builtin.TheVariants as builtin
use Rattle.mh_consts.specs.declared.kinds.Const.{Const, out-Const}
use Rattle.mh_consts.specs.declared.kinds.Const.TheOpen.{Const-F}
use Rattle.mh_consts.specs.declared.scope.Scope.{Scope}
use Rattle.mh_consts.specs.Expression as x
use Rattle.mh_consts.specs.Expression.{Ex, Exs, Keys}
use Rattle.mh_consts.specs.Outcome.{after}
use Rattle.mh_consts.specs.Constant.{value, is_plain}
use Rattle.mh_design.specs.declared.design.Wait.{Wait}
use Rattle.mh_design.specs.declared.design.Wait.TheVariants as wait
use Rattle.mh_exprs.specs.declared.locals.Locals.{Locals}
use Rattle.mh_exprs.specs.declared.names.Callee.{Callee}
use Rattle.mh_exprs.specs.declared.names.Callee.TheVariants as callee
use Rattle.mh_exprs.specs.declared.names.Form.{Form}
use Rattle.mh_exprs.specs.declared.names.Form.TheVariants as form
use Rattle.mh_lower.specs.Bindings.{constant_number}
use Rattle.mh_exprs.specs.Calls.{callee_of, form_of}
use Rattle.mh_exprs.specs.Constant.{names_local}
use Rattle.mh_lower.specs.Views.{View, view, Named, Text, Tupled, Called, Attributed, Indexed, Ranged, RangedFrom, Resized, Entire, Another}

-- a delay of 1 to 2^31 - 1
abbrev pub delay : ℤ → Result Wait Code
delay (pos n) = if nat_le 1 n && nat_le n 2147483647 then Ok (wait.Delay n) else Err E4BadRange
delay (negsuc n) = Err E4BadRange

abbrev pub delay_call : Scope → Locals → Form → Exs → Result Wait Code
delay_call s ls form.Single (x.More a x.NoMore) = after (constant_number s ls a) delay
delay_call s ls f xs = Err E3BadArguments

abbrev pub held_wait_step : Const-F Const → Result Wait Code
held_wait_step (Const-F.Edge n rising) = Ok (wait.Edge n rising)
held_wait_step (Const-F.Signal n k) = Ok (wait.Change n)
held_wait_step (Const-F.Delay n) = Ok (wait.Delay n)
held_wait_step v = Err E10KindClash

-- what elaboration knows
abbrev pub held_wait : Scope → Locals → Ex → Result Wait Code
held_wait s ls e =
    if names_local ls e || not (is_plain s e) then Err E2NotElaborable
    else after (value s e) (λ v. held_wait_step (out-Const v))

abbrev pub is_delay : Callee → Bool
is_delay (callee.Known builtin.Delay) = true
is_delay c = false

abbrev pub wait_view : Scope → Locals → Ex → View → Result Wait Code
wait_view s ls e (Tupled xs) = Err E2NotElaborable
wait_view s ls e (Called keys f xs) =
    if is_delay (callee_of s ls f) then delay_call s ls (form_of keys) xs else held_wait s ls e
wait_view s ls e v = held_wait s ls e

abbrev pub wait_for : Scope → Locals → Ex → Result Wait Code
wait_for s ls e = wait_view s ls e (view e)

abbrev pub waits_onto : Scope → Locals → List Wait → Exs → Result (List Wait) Code
waits_onto s ls ws x.NoMore = Ok ws
waits_onto s ls ws (x.More e es) = after (wait_for s ls e) (λ v. waits_onto s ls (ws ++ v ∷ []) es)

-- of a `yield`: one, or several after commas
abbrev pub yielded_items : Scope → Locals → Exs → Result (List Wait) Code
yielded_items s ls x.NoMore = Err E2NotElaborable
yielded_items s ls xs = waits_onto s ls [] xs

abbrev pub yielded_view : Scope → Locals → Ex → View → Result (List Wait) Code
yielded_view s ls e (Tupled xs) = yielded_items s ls xs
yielded_view s ls e v = after (wait_for s ls e) (λ v. Ok (v ∷ []))

abbrev pub yielded : Scope → Locals → Ex → Result (List Wait) Code
yielded s ls e = yielded_view s ls e (view e)

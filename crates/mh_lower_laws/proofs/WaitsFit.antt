-- What is waited for is there.
use Rattle.std.proofs.Common.{◌≡◌, ℕ, ℤ, pos, negsuc, Bool, true, false, not, ◌&&◌, ◌||◌, List, [], ◌∷◌, ◌++◌, length, Option, Some, None, Result, Ok, Err, IfOk, refl}
use Rattle.std.specs.Prelude.{nat_le, nat_lt, slice_get}
use Rattle.std.specs.List.{list_all}
use Rattle.std.specs.Option.{option_map, option_map_or}
use Rattle.std.proofs.lemmas.Bool.{and_from, or_parts}
use Rattle.mh_text.specs.declared.code.Code.{Code}
use Rattle.mh_text.specs.declared.code.Code.TheVariants.{E2NotElaborable, E4BadRange}
use Rattle.mh_consts.specs.declared.kinds.SignalKind.{SignalKind}
use Rattle.mh_consts.specs.declared.kinds.Const.{Const, out-Const}
use Rattle.mh_consts.specs.declared.kinds.Const.TheOpen.{Const-F}
use Rattle.mh_consts.specs.declared.scope.Scope.{Scope}
use Rattle.mh_consts.specs.Expression as x
use Rattle.mh_consts.specs.Expression.{Ex, Exs}
use Rattle.mh_consts.specs.Outcome.{after}
use Rattle.mh_consts.specs.Constant.{value, is_plain}
use Rattle.mh_design.specs.declared.design.Design.{Design}
use Rattle.mh_design.specs.declared.design.SignalDecl.{SignalDecl}
use Rattle.mh_design.specs.declared.design.Wait.{Wait}
use Rattle.mh_design.specs.declared.design.Wait.TheVariants as wait
use Rattle.mh_design.specs.Statements.{wait_fits}
use Rattle.mh_design.specs.WellFormed.{same_kind}
use Rattle.mh_exprs.specs.declared.locals.Locals.{Locals}
use Rattle.mh_exprs.specs.declared.names.Form.{Form}
use Rattle.mh_exprs.specs.declared.names.Form.TheVariants as form
use Rattle.mh_lower.specs.Bindings.{constant_number}
use Rattle.mh_exprs.specs.Calls.{callee_of, form_of}
use Rattle.mh_exprs.specs.Constant.{names_local}
use Rattle.mh_lower.specs.Views as views
use Rattle.mh_lower.specs.Views.{View, view}
use Rattle.mh_lower.specs.Waits.{delay, delay_call, held_wait_step, held_wait, is_delay, wait_view, wait_for, waits_onto, yielded_view, yielded}
use Rattle.mh_lower_laws.specs.Holds.{declared_kind, is_signal, is_of, Holds}
use Rattle.mh_lower_laws.proofs.Basics.{if_there, all_both}
use Rattle.mh_lower_laws.proofs.OfDesign.{step_of}
use Rattle.mh_lower_laws.proofs.ScopeValues.{opened, value_fine}
use Rattle.mh_lower_laws.proofs.Stepping.{ok_after, ok_if}

not_false : (b : Bool) → not b ≡ false → b ≡ true
not_false true h = refl
not_false false h = absurd (cc)

module _ (d : Design) where
  abbrev Fits : Wait → Type 0
  Fits v = wait_fits d v ≡ true

  signal_there : (n : ℕ) (k : SignalKind) → is_signal d n k ≡ true → nat_lt n (length d.signals) ≡ true
  signal_there n k h = by_signal (slice_get d.signals n) refl h
    where
      by_signal : (o : Option SignalDecl) → slice_get d.signals n ≡ o → option_map_or (same_kind (declared_kind k)) (option_map (λ x. x.kind) o) false ≡ true → nat_lt n (length d.signals) ≡ true
      by_signal (Some x) e q = if_there d.signals n x e
      by_signal None e q = absurd (cc)

  delay_fits : (n : ℤ) → IfOk (delay n) Fits
  delay_fits (pos n) = ok_if Fits (nat_le 1 n && nat_le n 2147483647) (Ok (wait.Delay n)) (Err E4BadRange) (λ h. h) (λ h. tt)
  delay_fits (negsuc n) = tt

  any_delay : (r : Result ℤ Code) → IfOk (after r delay) Fits
  any_delay (Ok n) = delay_fits n
  any_delay (Err code) = tt

  step_fits : (x : Const-F Const) → step_of d x ≡ true → IfOk (held_wait_step x) Fits
  step_fits (Const-F.Edge n rising) h = h
  step_fits (Const-F.Signal n k) h = signal_there n k h
  step_fits (Const-F.Delay n) h = h
  step_fits Const-F.None h = tt
  step_fits (Const-F.Int n) h = tt
  step_fits (Const-F.Truth b) h = tt
  step_fits (Const-F.Str t) h = tt
  step_fits (Const-F.EnumType n names) h = tt
  step_fits (Const-F.Item n place) h = tt
  step_fits (Const-F.Bounded v b) h = tt
  step_fits (Const-F.Range a b step) h = tt
  step_fits (Const-F.List n) h = tt
  step_fits (Const-F.Tuple items) h = tt
  step_fits (Const-F.Function n) h = tt
  step_fits (Const-F.Instance n) h = tt
  step_fits (Const-F.Generator n) h = tt
  step_fits (Const-F.Builtin b) h = tt

  module _ (s : Scope) (locals : Locals) (holds : Holds s d) where
    held_fits : (e : Ex) → IfOk (held_wait s locals e) Fits
    held_fits e = ok_if Fits (names_local locals e || not (is_plain s e)) (Err E2NotElaborable) (after (value s e) (λ v. held_wait_step (out-Const v))) (λ h. tt)
        (λ h. ok_after (λ v. is_of d v ≡ true) Fits (value s e) _ (value_fine d s holds.names holds.lists e (not_false (is_plain s e) (or_parts (names_local locals e) (not (is_plain s e)) h).1)) (λ v q. step_fits (out-Const v) (opened d v q)))

    call_fits : (f : Form) (xs : Exs) → IfOk (delay_call s locals f xs) Fits
    call_fits form.Single (x.More a x.NoMore) = any_delay (constant_number s locals a)
    call_fits form.Single (x.More a (x.More b xs)) = tt
    call_fits form.Single x.NoMore = tt
    call_fits form.LowHigh xs = tt
    call_fits form.HighLow xs = tt
    call_fits form.Other xs = tt

    view_fits : (e : Ex) (v : View) → IfOk (wait_view s locals e v) Fits
    view_fits e (views.Tupled xs) = tt
    view_fits e (views.Called keys f xs) = ok_if Fits (is_delay (callee_of s locals f)) (delay_call s locals (form_of keys) xs) (held_wait s locals e) (λ h. call_fits (form_of keys) xs) (λ h. held_fits e)
    view_fits e (views.Named t) = held_fits e
    view_fits e (views.Text bytes) = held_fits e
    view_fits e (views.Attributed a name) = held_fits e
    view_fits e (views.Indexed a i) = held_fits e
    view_fits e (views.Ranged a i j) = held_fits e
    view_fits e (views.RangedFrom a i) = held_fits e
    view_fits e (views.Resized a n) = held_fits e
    view_fits e (views.Entire a) = held_fits e
    view_fits e views.Another = held_fits e

    pub wait_for_fits : (e : Ex) → IfOk (wait_for s locals e) Fits
    wait_for_fits e = view_fits e (view e)

    pub waits_fit : (ws : List Wait) (es : Exs) → list_all (wait_fits d) ws ≡ true → IfOk (waits_onto s locals ws es) (λ vs. list_all (wait_fits d) vs ≡ true)
    waits_fit ws x.NoMore h = h
    waits_fit ws (x.More e es) h = ok_after Fits (λ vs. list_all (wait_fits d) vs ≡ true) (wait_for s locals e) _ (wait_for_fits e) (λ v q. waits_fit (ws ++ v ∷ []) es (all_both (wait_fits d) ws (v ∷ []) h (and_from (wait_fits d v) true q refl)))

    one_wait : (e : Ex) → IfOk (after (wait_for s locals e) (λ v. Ok (v ∷ []))) (λ vs. list_all (wait_fits d) vs ≡ true)
    one_wait e = ok_after Fits (λ vs. list_all (wait_fits d) vs ≡ true) (wait_for s locals e) _ (wait_for_fits e) (λ v q. and_from (wait_fits d v) true q refl)

    yielded_by : (e : Ex) (v : View) → IfOk (yielded_view s locals e v) (λ vs. list_all (wait_fits d) vs ≡ true)
    yielded_by e (views.Tupled x.NoMore) = tt
    yielded_by e (views.Tupled (x.More a es)) = waits_fit [] (x.More a es) refl
    yielded_by e (views.Called keys f xs) = one_wait e
    yielded_by e (views.Named t) = one_wait e
    yielded_by e (views.Text bytes) = one_wait e
    yielded_by e (views.Attributed a name) = one_wait e
    yielded_by e (views.Indexed a i) = one_wait e
    yielded_by e (views.Ranged a i j) = one_wait e
    yielded_by e (views.RangedFrom a i) = one_wait e
    yielded_by e (views.Resized a n) = one_wait e
    yielded_by e (views.Entire a) = one_wait e
    yielded_by e views.Another = one_wait e

    pub yielded_fit : (e : Ex) → IfOk (yielded s locals e) (λ vs. list_all (wait_fits d) vs ≡ true)
    yielded_fit e = yielded_by e (view e)

-- Operations keep a world that fits, and give values of its design.
use Rattle.std.proofs.Common.{◌≡◌, ℕ, Bool, true, false, ◌&&◌, List, [], ◌∷◌, ◌++◌, Option, Some, None, Result, Ok, Err, refl, ap, sym, ◌∙◌, if◌then◌else◌, slice_get, drop, bytes_eq, codes}
use Rattle.std.specs.List.{list_all, list_any}
use Rattle.mh_text.specs.declared.code.Code.{Code}
use Rattle.mh_text.specs.declared.code.Code.TheVariants.{E2NotElaborable, E3BadArguments, E10KindClash}
use Rattle.mh_consts.specs.declared.kinds.Builtin.{Builtin}
use Rattle.mh_consts.specs.declared.kinds.Builtin.TheVariants as builtin
use Rattle.mh_consts.specs.declared.kinds.Const.{Const, out-Const}
use Rattle.mh_consts.specs.declared.kinds.Const.TheOpen.{Const-F}
use Rattle.mh_consts.specs.declared.kinds.Const.TheVariants as c
use Rattle.mh_consts.specs.Constant.{applied}
use Rattle.mh_consts.specs.Constant.{operate as outcome}
use Rattle.mh_consts.specs.Expression as x
use Rattle.mh_consts.specs.Expression.{Ex, Head, Keys}
use Rattle.mh_lower_laws.specs.Holds.{is_of}
use Rattle.mh_lower_laws.proofs.Basics.{all_at}
use Rattle.mh_lower_laws.proofs.ScopeValues.{of_none}
use Rattle.mh_world.specs.declared.kinds.Asked.{Asked}
use Rattle.mh_world.specs.declared.kinds.Verb.{Verb}
use Rattle.mh_world.specs.declared.kinds.Verb.TheVariants as verb
use Rattle.mh_world.specs.World.{World, Run, refuse, given, at, pure}
use Rattle.mh_world.specs.Seen.{scope_of}
use Rattle.mh_world.specs.Arguments.{Arguments, one_positional, split}
use Rattle.mh_world.specs.Lists.{append}
use Rattle.mh_world.specs.Requests.{ask, duration_given, run_for, run_sim, instance_method}
use Rattle.mh_world.specs.Heads.{names_in_head, computed, list_methods, append_one, list_method, method_step, call_builtin, operate, names_in, computed_in, operate_in}
use Rattle.mh_world_laws.specs.Fits.{Fits, are_of}
use Rattle.mh_world_laws.specs.Laws.{Kept, IsOf}
use Rattle.mh_world_laws.proofs.Lists.{all_drop}
use Rattle.mh_world_laws.proofs.Designs.{later_self}
use Rattle.mh_world_laws.proofs.Keeping.{Gives, still, if_given, if_tested, seen}
use Rattle.mh_world_laws.proofs.Worlds.{with_plain}
use Rattle.mh_world_laws.proofs.Seeing.{scope_holds}
use Rattle.mh_world_laws.proofs.Listing.{seen_then, new_keeps, append_keeps}
use Rattle.mh_world_laws.proofs.Applying.{applied_fine, operate_fine}
use Rattle.mh_world_laws.proofs.Making.{positional_of, make_signal_keeps, make_reset_keeps, make_enum_keeps, make_delay_keeps, find_instances_keeps}

module _ (w : World) (h : Fits w) where
  computed_keeps : (l : ℕ) (y : Head) (vs : List Const) → are_of w.design vs ≡ true → Gives IsOf w (computed l y vs w)
  computed_keeps l y vs q =
      let s = scope_holds w h (names_in_head y) in
      seen IsOf l w (applied (scope_of w (names_in_head y)) y vs) h (applied_fine w.design (scope_of w (names_in_head y)) s.names s.lists y vs q)

  -- ---- methods

  append_one_keeps : (l n : ℕ) (keys : Keys) (vs : List Const) → are_of w.design vs ≡ true → Gives IsOf w (append_one l n keys vs w)
  append_one_keeps l n keys vs q = if_given IsOf w (one_positional keys vs) E3BadArguments l (append l n) (λ v e. append_keeps w h l n v (positional_of w.design keys vs v q e))

  list_method_keeps : (l : ℕ) (name : List ℕ) (keys : Keys) (n : ℕ) (vs : List Const) → are_of w.design vs ≡ true → Gives IsOf w (list_method l name keys n vs w)
  list_method_keeps l name keys n vs q =
      if_tested IsOf w (bytes_eq name (codes "append")) (append_one l n keys vs) (if list_any (bytes_eq name) list_methods then refuse E2NotElaborable l else refuse E10KindClash l) (λ e. append_one_keeps l n keys vs q)
      (λ e. if_tested IsOf w (list_any (bytes_eq name) list_methods) (refuse E2NotElaborable l) (refuse E10KindClash l) (λ r. tt) (λ r. tt))

  ask_keeps : (v : Verb) (i n l : ℕ) → Gives IsOf w (ask v i n l w)
  ask_keeps v i n l = record { fits = with_plain w h w.known (w.requests ++ record { verb = v; instance = i; n = n; line = l } ∷ []) w.left; later = later_self w.design; value = of_none w.design }

  run_for_keeps : (l i : ℕ) (a : Arguments) → Gives IsOf w (run_for l i a w)
  run_for_keeps l i a = seen_then IsOf l w (duration_given a) (λ n. ask verb.RunSim i n l) (λ n e. ask_keeps verb.RunSim i n l)

  run_sim_keeps : (l i : ℕ) (keys : Keys) (vs : List Const) → Gives IsOf w (run_sim l i keys vs w)
  run_sim_keeps l i keys vs = if_given IsOf w (split keys vs) E3BadArguments l (run_for l i) (λ a e. run_for_keeps l i a)

  none_given : Gives IsOf w (pure c.None w)
  none_given = still IsOf w c.None h (of_none w.design)

  instance_method_keeps : (l : ℕ) (name : List ℕ) (keys : Keys) (i : ℕ) (vs : List Const) → Gives IsOf w (instance_method l name keys i vs w)
  instance_method_keeps l name keys i vs =
      if_tested IsOf w (bytes_eq name (codes "convert")) _ _ (λ e. ask_keeps verb.Convert i 0 l)
      (λ e. if_tested IsOf w (bytes_eq name (codes "run_sim")) _ _ (λ r. run_sim_keeps l i keys vs)
      (λ r. if_tested IsOf w (bytes_eq name (codes "config_sim")) _ _ (λ s. none_given)
      (λ s. if_tested IsOf w (bytes_eq name (codes "quit_sim")) _ _ (λ t. none_given) (λ t. tt))))

  method_keeps : (l : ℕ) (name : List ℕ) (keys : Keys) (vs : List Const) (y : Const-F Const) → are_of w.design vs ≡ true → Gives IsOf w (method_step l name keys vs y w)
  method_keeps l name keys vs (Const-F.List n) q = list_method_keeps l name keys n (drop 1 vs) (all_drop (is_of w.design) vs q)
  method_keeps l name keys vs (Const-F.Instance i) q = instance_method_keeps l name keys i (drop 1 vs)
  method_keeps l name keys vs Const-F.None q = computed_keeps l (x.Method name keys) vs q
  method_keeps l name keys vs (Const-F.Int n) q = computed_keeps l (x.Method name keys) vs q
  method_keeps l name keys vs (Const-F.Truth b) q = computed_keeps l (x.Method name keys) vs q
  method_keeps l name keys vs (Const-F.Str t) q = computed_keeps l (x.Method name keys) vs q
  method_keeps l name keys vs (Const-F.Delay n) q = computed_keeps l (x.Method name keys) vs q
  method_keeps l name keys vs (Const-F.EnumType n names) q = computed_keeps l (x.Method name keys) vs q
  method_keeps l name keys vs (Const-F.Item n place) q = computed_keeps l (x.Method name keys) vs q
  method_keeps l name keys vs (Const-F.Bounded z b) q = computed_keeps l (x.Method name keys) vs q
  method_keeps l name keys vs (Const-F.Signal n k) q = computed_keeps l (x.Method name keys) vs q
  method_keeps l name keys vs (Const-F.Edge n rising) q = computed_keeps l (x.Method name keys) vs q
  method_keeps l name keys vs (Const-F.Range a b step) q = computed_keeps l (x.Method name keys) vs q
  method_keeps l name keys vs (Const-F.Tuple items) q = computed_keeps l (x.Method name keys) vs q
  method_keeps l name keys vs (Const-F.Function n) q = computed_keeps l (x.Method name keys) vs q
  method_keeps l name keys vs (Const-F.Generator n) q = computed_keeps l (x.Method name keys) vs q
  method_keeps l name keys vs (Const-F.Builtin b) q = computed_keeps l (x.Method name keys) vs q

  -- ---- calls

  pub builtin_keeps : (l : ℕ) (b : Builtin) (keys : Keys) (vs : List Const) → are_of w.design vs ≡ true → Gives IsOf w (call_builtin l b keys vs w)
  builtin_keeps l builtin.Signal keys vs q = make_signal_keeps w h l keys (drop 1 vs) (all_drop (is_of w.design) vs q)
  builtin_keeps l builtin.ResetSignal keys vs q = make_reset_keeps w h l keys (drop 1 vs)
  builtin_keeps l builtin.Enum keys vs q = make_enum_keeps w h l keys (drop 1 vs)
  builtin_keeps l builtin.Delay keys vs q = make_delay_keeps w h l keys (drop 1 vs)
  builtin_keeps l builtin.Instances keys vs q = find_instances_keeps w h l keys
  builtin_keeps l builtin.Range keys vs q = computed_keeps l (x.Call keys) vs q
  builtin_keeps l builtin.Downrange keys vs q = computed_keeps l (x.Call keys) vs q
  builtin_keeps l builtin.Len keys vs q = computed_keeps l (x.Call keys) vs q
  builtin_keeps l builtin.Int keys vs q = computed_keeps l (x.Call keys) vs q
  builtin_keeps l builtin.Bool keys vs q = computed_keeps l (x.Call keys) vs q
  builtin_keeps l builtin.Intbv keys vs q = computed_keeps l (x.Call keys) vs q
  builtin_keeps l builtin.Modbv keys vs q = computed_keeps l (x.Call keys) vs q
  builtin_keeps l builtin.Concat keys vs q = computed_keeps l (x.Call keys) vs q
  builtin_keeps l builtin.Block keys vs q = tt
  builtin_keeps l builtin.Instance keys vs q = tt
  builtin_keeps l builtin.Always keys vs q = tt
  builtin_keeps l builtin.AlwaysComb keys vs q = tt
  builtin_keeps l builtin.AlwaysSeq keys vs q = tt
  builtin_keeps l builtin.Now keys vs q = tt
  builtin_keeps l builtin.StopSimulation keys vs q = tt
  builtin_keeps l builtin.Print keys vs q = tt

  -- ---- operations

  pub operate_keeps : (l : ℕ) (y : Head) (vs : List Const) → are_of w.design vs ≡ true → Gives IsOf w (operate l y vs w)
  operate_keeps l x.ListOf vs q = new_keeps w h l vs q
  operate_keeps l (x.Method name keys) vs q = if_given IsOf w (slice_get vs 0) E10KindClash l (λ base. method_step l name keys vs (out-Const base)) (λ base e. method_keeps l name keys vs (out-Const base) q)
  operate_keeps l (x.Apply o) vs q = computed_keeps l (x.Apply o) vs q
  operate_keeps l x.Negation vs q = computed_keeps l x.Negation vs q
  operate_keeps l (x.Both o) vs q = computed_keeps l (x.Both o) vs q
  operate_keeps l (x.Attribute name) vs q = computed_keeps l (x.Attribute name) vs q
  operate_keeps l x.Index vs q = computed_keeps l x.Index vs q
  operate_keeps l x.Slice vs q = computed_keeps l x.Slice vs q
  operate_keeps l x.SliceFrom vs q = computed_keeps l x.SliceFrom vs q
  operate_keeps l (x.Resize maker) vs q = computed_keeps l (x.Resize maker) vs q
  operate_keeps l x.Whole vs q = computed_keeps l x.Whole vs q
  operate_keeps l x.TupleOf vs q = computed_keeps l x.TupleOf vs q
  operate_keeps l (x.Call keys) vs q = computed_keeps l (x.Call keys) vs q

  computed_in_keeps : (l : ℕ) (e : Ex) (vs : List Const) → are_of w.design vs ≡ true → Gives IsOf w (computed_in l e vs w)
  computed_in_keeps l e vs q =
      let s = scope_holds w h (names_in e) in
      seen IsOf l w (outcome (scope_of w (names_in e)) e vs) h (operate_fine w.design (scope_of w (names_in e)) s.names s.lists e vs q)

  pub operate_in_keeps : (l : ℕ) (e : Ex) (vs : List Const) → are_of w.design vs ≡ true → Gives IsOf w (operate_in l e vs w)
  operate_in_keeps l (x.Op y xs) vs q = operate_keeps l y vs q
  operate_in_keeps l (x.Number n) vs q = computed_in_keeps l (x.Number n) vs q
  operate_in_keeps l (x.Str bytes) vs q = computed_in_keeps l (x.Str bytes) vs q
  operate_in_keeps l (x.Truth b) vs q = computed_in_keeps l (x.Truth b) vs q
  operate_in_keeps l x.Nothing vs q = computed_in_keeps l x.Nothing vs q
  operate_in_keeps l (x.Name t) vs q = computed_in_keeps l (x.Name t) vs q
  operate_in_keeps l (x.And a b) vs q = computed_in_keeps l (x.And a b) vs q
  operate_in_keeps l (x.Or a b) vs q = computed_in_keeps l (x.Or a b) vs q
  operate_in_keeps l (x.Collect item t over) vs q = computed_in_keeps l (x.Collect item t over) vs q

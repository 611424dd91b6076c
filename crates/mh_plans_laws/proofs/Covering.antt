-- What a generator of a design uses was chosen for it.
use Rattle.std.proofs.Common.{◌≡◌, ℕ, Bool, true, false, not, ◌&&◌, ◌||◌, List, [], ◌∷◌, ◌++◌, length, Option, Some, None, refl, ap, sym, ◌∙◌, slice_get, is_some}
use Rattle.std.specs.Prelude.{nat_lt, nat_eq}
use Rattle.std.specs.List.{list_all, list_any, flat_map}
use Rattle.std.specs.Option.{option_map, option_map_or, option_and_then}
use Rattle.std.proofs.lemmas.Bool.{and_parts, and_from, or_left, eqb-true}
use Rattle.std.proofs.lemmas.Grind.{flat_map-append}
use Rattle.std.proofs.lemmas.List.Folds.{list_all-append, list_any-append}
use Rattle.mh_consts.specs.declared.kinds.Const.{Const, out-Const}
use Rattle.mh_consts.specs.declared.kinds.Const.TheOpen.{Const-F}
use Rattle.mh_design.specs.declared.design.Design.{Design}
use Rattle.mh_design.specs.declared.design.GenKind.{GenKind}
use Rattle.mh_design.specs.declared.design.GenKind.TheVariants as generator
use Rattle.mh_design.specs.declared.design.Kind.{Kind}
use Rattle.mh_design.specs.declared.design.MemDecl.{MemDecl}
use Rattle.mh_design.specs.declared.design.SignalDecl.{SignalDecl}
use Rattle.mh_design.specs.declared.design.Wait.{Wait}
use Rattle.mh_design.specs.declared.design.Wait.TheVariants as wait
use Rattle.mh_design.specs.Kinds.{signal_kind}
use Rattle.mh_design.specs.Numbering.{block_expressions, block_statements}
use Rattle.mh_design.specs.Statements.{wait_fits, statement_fits}
use Rattle.mh_design.specs.Tree.{Expression, Expressions, Operator, Integer, Truth, Item, Fixed, Signal, Local, Now, Operation, ElementOf, TableElementOf, BitOf, SliceOf, Unary, Binary, And, Or, Concat, Signed, ToInt, ToBool, LeftBase, LeftSignal, LeftElement, LeftLocal, LeftSide, Whole, LeftBit, LeftSlice, Bind, Statement, Set, If, While, For, Break, Continue, Yield, Print, Assert, Stop}
use Rattle.mh_design.specs.Uses.{cells_of, read_by, driven_base, driven_left, driven_by, waited_by}
use Rattle.mh_design.specs.WellFormed.{is_name, is_instance, is_edge, is_reset, starts_fit, local_fits, mem_fits, met, met_next, met_all, cells_kind, same_kind}
use Rattle.mh_lower_laws.specs.Holds.{is_signal, is_of, declared_kind}
use Rattle.mh_lower_laws.proofs.Basics.{if_there, there_if, all_at, all_then, all_both}
use Rattle.mh_lower_laws.proofs.OfDesign.{step_of}
use Rattle.mh_lower_laws.proofs.ScopeValues.{opened}
use Rattle.mh_lower_laws.proofs.StatementGrowth.{found}
use Rattle.mh_world.specs.World.{World, Bindings, Made}
use Rattle.mh_plans.specs.Order.{is_in}
use Rattle.mh_plans.specs.Paths.{signal_step, signal_in, port_onto, ports_in}
use Rattle.mh_plans.specs.Plans.{waited_signals, reset_signals, start_signals, waited_in, signals_used, mem_read, base_mem, left_mem, mem_driven, mems_used, table_read, tables_used, used_below, reads_at, all_signals_used, all_mems_used, all_tables_used, chosen}
use Rattle.mh_plans.specs.Renumbered.{Chosen}
use Rattle.mh_world_laws.specs.Fits.{Fits, Later, MadeFits, made_fits, arguments_fit}
use Rattle.mh_world_laws.proofs.Designs.{signal_there, signal_kind_later, mem_there as mem_stays_there, table_there as table_stays_there}
use Rattle.mh_plans_laws.specs.Draws.{Covers}
use Rattle.mh_plans_laws.proofs.Numbers.{either, all_in, at_in, in_all, in_others, in_used, used_there, from_there, in_ports}
use Rattle.mh_plans_laws.proofs.Stating.{wait_chosen, own_chosen, base_chosen, left_chosen}
use Rattle.mh_plans_laws.proofs.Renumbering.{node_chosen}
use Rattle.mh_plans_laws.proofs.Using.{node_there, wait_there, base_there, left_there, own_there, signal_is_there, block_there, all_own_there, waits_are_there}

-- ---- what holds of each that something gives

flat_all : {X Y : Type 0} (p : Y → Bool) (q : X → Bool) (f : X → List Y) (xs : List X) → ((x : X) → q x ≡ true → list_all p (f x) ≡ true) → list_all q xs ≡ true → list_all p (flat_map f xs) ≡ true
flat_all p q f [] k h = refl
flat_all p q f (x ∷ xs) k h = let a = and_parts (q x) (list_all q xs) h in all_both p (f x) (flat_map f xs) (k x a.0) (flat_all p q f xs k a.1)

pub two_parts : {X : Type 0} (p : X → Bool) (xs ys : List X) → list_all p (xs ++ ys) ≡ true → (list_all p xs ≡ true) × (list_all p ys ≡ true)
two_parts p xs ys h = and_parts (list_all p xs) (list_all p ys) (sym (list_all-append p xs ys) ∙ h)

-- ---- the elements of a memory that fits are there

module _ (d : Design) where
  next_known : (k : Option Kind) (c : ℕ) (x : Kind) → met_next d k c ≡ Some x → (nat_lt c (length d.signals) ≡ true) × ((y : Kind) × (k ≡ Some y))
  next_known None c x h = absurd (cc)
  next_known (Some y) c x h = (by_kind (signal_kind d c) refl h, (y, refl))
    where
      by_kind : (o : Option Kind) → signal_kind d c ≡ o → option_and_then (met y) o ≡ Some x → nat_lt c (length d.signals) ≡ true
      by_kind (Some z) e q = signal_is_there d c z e
      by_kind None e q = absurd (cc)

  all_known : (cs : List ℕ) (k : Option Kind) (x : Kind) → met_all d k cs ≡ Some x → (list_all (λ n. nat_lt n (length d.signals)) cs ≡ true) × ((y : Kind) × (k ≡ Some y))
  all_known [] k x h = (refl, (x, h))
  all_known (c ∷ cs) k x h =
      let r = all_known cs (met_next d k c) x h in
      let n = next_known k c r.1.0 r.1.1 in
      (and_from (nat_lt c (length d.signals)) (list_all (λ n. nat_lt n (length d.signals)) cs) n.0 r.0, n.1)

  cells_there : (cs : List ℕ) (x : Kind) → cells_kind d cs ≡ Some x → list_all (λ n. nat_lt n (length d.signals)) cs ≡ true
  cells_there [] x h = absurd (cc)
  cells_there (c ∷ cs) x h =
      let r = all_known cs (signal_kind d c) x h in
      and_from (nat_lt c (length d.signals)) (list_all (λ n. nat_lt n (length d.signals)) cs) (signal_is_there d c r.1.0 r.1.1) r.0

  mem_cells_there : (m : ℕ) (o : Option MemDecl) → slice_get d.mems m ≡ o → list_all (mem_fits d) d.mems ≡ true → list_all (λ n. nat_lt n (length d.signals)) (option_map_or (λ x. x.cells) o []) ≡ true
  mem_cells_there m None e h = refl
  mem_cells_there m (Some x) e h =
      let f = found (same_kind x.kind) (cells_kind d x.cells) (and_parts (is_name x.path) (option_map_or (same_kind x.kind) (cells_kind d x.cells) false) (all_at (mem_fits d) d.mems m x h e)).1 in
      cells_there x.cells f.0 f.1

  pub cells_of_there : (m : ℕ) → list_all (mem_fits d) d.mems ≡ true → list_all (λ n. nat_lt n (length d.signals)) (cells_of d m) ≡ true
  cells_of_there m h = mem_cells_there m (slice_get d.mems m) refl h

-- ---- ports

module _ (w : World) (h : Fits w) where
  port_there : (x : Const-F Const) (ns : List ℕ) → step_of w.design x ≡ true → list_all (λ n. nat_lt n (length w.design.signals)) ns ≡ true → list_all (λ n. nat_lt n (length w.design.signals)) (port_onto (signal_step x) ns) ≡ true
  port_there (Const-F.Signal n k) ns q r =
      let f = found (same_kind (declared_kind k)) (signal_kind w.design n) q in
      and_from (nat_lt n (length w.design.signals)) (list_all (λ m. nat_lt m (length w.design.signals)) ns) (signal_is_there w.design n f.0 f.1) r
  port_there Const-F.None ns q r = r
  port_there (Const-F.Int n) ns q r = r
  port_there (Const-F.Truth b) ns q r = r
  port_there (Const-F.Str t) ns q r = r
  port_there (Const-F.Delay n) ns q r = r
  port_there (Const-F.EnumType n names) ns q r = r
  port_there (Const-F.Item n place) ns q r = r
  port_there (Const-F.Bounded z b) ns q r = r
  port_there (Const-F.Edge n rising) ns q r = r
  port_there (Const-F.Range a b step) ns q r = r
  port_there (Const-F.List n) ns q r = r
  port_there (Const-F.Tuple items) ns q r = r
  port_there (Const-F.Function n) ns q r = r
  port_there (Const-F.Instance n) ns q r = r
  port_there (Const-F.Generator n) ns q r = r
  port_there (Const-F.Builtin b) ns q r = r

  pub ports_there : (bs : Bindings) → arguments_fit w.design bs ≡ true → list_all (λ n. nat_lt n (length w.design.signals)) (ports_in bs) ≡ true
  ports_there [] k = refl
  ports_there (b ∷ bs) k =
      let a = and_parts (is_name b.0 && is_of w.design b.1) (arguments_fit w.design bs) k in
      port_there (out-Const b.1) (ports_in bs) (opened w.design b.1 (and_parts (is_name b.0) (is_of w.design b.1) a.0).1) (ports_there bs a.1)

  pub signals_there : (ports : List ℕ) (gs : List Made) → list_all (λ n. nat_lt n (length w.design.signals)) ports ≡ true → list_all (λ n. nat_lt n (length w.design.signals)) (chosen w ports gs).signals ≡ true
  signals_there ports gs k = from_there (λ n. nat_lt n (length w.design.signals)) ports (used_below (length w.design.signals) (all_signals_used w gs)) k (used_there (length w.design.signals) (all_signals_used w gs))

-- ---- what a generator uses is there in each later design

module _ (d e : Design) (l : Later d e) where
  signal_less : (n : ℕ) → nat_lt n (length d.signals) ≡ true → nat_lt n (length e.signals) ≡ true
  signal_less n h = let x = there_if d.signals n h in if_there e.signals n x.0 (signal_there d e l n x.0 x.1)

  mem_less : (n : ℕ) → nat_lt n (length d.mems) ≡ true → nat_lt n (length e.mems) ≡ true
  mem_less n h = let x = there_if d.mems n h in if_there e.mems n x.0 (mem_stays_there d e l n x.0 x.1)

  table_less : (n : ℕ) → nat_lt n (length d.tables) ≡ true → nat_lt n (length e.tables) ≡ true
  table_less n h = let x = there_if d.tables n h in if_there e.tables n x.0 (table_stays_there d e l n x.0 x.1)

  module _ (mems : list_all (mem_fits e) e.mems ≡ true) where
    read_there : (x : Expression) → node_there d x ≡ true → list_all (λ n. nat_lt n (length e.signals)) (read_by e x) ≡ true
    read_there (Signal n) h = and_from (nat_lt n (length e.signals)) true (signal_less n h) refl
    read_there (Operation (ElementOf m) xs) h = cells_of_there e m mems
    read_there (Operation (TableElementOf t) xs) h = refl
    read_there (Operation BitOf xs) h = refl
    read_there (Operation SliceOf xs) h = refl
    read_there (Operation (Unary o) xs) h = refl
    read_there (Operation (Binary o) xs) h = refl
    read_there (Operation And xs) h = refl
    read_there (Operation Or xs) h = refl
    read_there (Operation Concat xs) h = refl
    read_there (Operation Signed xs) h = refl
    read_there (Operation ToInt xs) h = refl
    read_there (Operation ToBool xs) h = refl
    read_there (Integer z) h = refl
    read_there (Truth b) h = refl
    read_there (Item n i) h = refl
    read_there (Fixed z b) h = refl
    read_there (Local v) h = refl
    read_there Now h = refl

    driven_base_there : (b : LeftBase) → base_there d b ≡ true → list_all (λ n. nat_lt n (length e.signals)) (driven_base e b) ≡ true
    driven_base_there (LeftSignal n) h = and_from (nat_lt n (length e.signals)) true (signal_less n h) refl
    driven_base_there (LeftElement m i) h = cells_of_there e m mems
    driven_base_there (LeftLocal v) h = refl

    driven_left_there : (t : LeftSide) → left_there d t ≡ true → list_all (λ n. nat_lt n (length e.signals)) (driven_left e t) ≡ true
    driven_left_there (Whole b) h = driven_base_there b h
    driven_left_there (LeftBit b i) h = driven_base_there b h
    driven_left_there (LeftSlice b i j) h = driven_base_there b h
    driven_left_there (Bind v n) h = refl

    driven_there : (s : Statement) → own_there d s ≡ true → list_all (λ n. nat_lt n (length e.signals)) (driven_by e s) ≡ true
    driven_there (Set k t x) h = driven_left_there t h
    driven_there (If k rs other) h = refl
    driven_there (While k x b) h = refl
    driven_there (For k v down a z step b) h = refl
    driven_there (Break k) h = refl
    driven_there (Continue k) h = refl
    driven_there (Yield k ws) h = refl
    driven_there (Print k ps) h = refl
    driven_there (Assert k x) h = refl
    driven_there (Stop k) h = refl

  wait_less : (w : Wait) → wait_there d w ≡ true → list_all (λ n. nat_lt n (length e.signals)) (waited_signals w) ≡ true
  wait_less (wait.Change n) h = and_from (nat_lt n (length e.signals)) true (signal_less n h) refl
  wait_less (wait.Edge n up) h = and_from (nat_lt n (length e.signals)) true (signal_less n h) refl
  wait_less (wait.Delay n) h = refl

  waited_there : (s : Statement) → own_there d s ≡ true → list_all (wait_there d) (waited_by s) ≡ true
  waited_there (Set k t x) h = refl
  waited_there (If k rs other) h = refl
  waited_there (While k x b) h = refl
  waited_there (For k v down a z step b) h = refl
  waited_there (Break k) h = refl
  waited_there (Continue k) h = refl
  waited_there (Yield k ws) h = h
  waited_there (Print k ps) h = refl
  waited_there (Assert k x) h = refl
  waited_there (Stop k) h = refl

  reset_there : (r : Option ℕ) → is_reset d r ≡ true → list_all (λ n. nat_lt n (length e.signals)) (reset_signals r) ≡ true
  reset_there None h = refl
  reset_there (Some n) h = let f = found (λ (s : SignalDecl). is_some s.reset) (slice_get d.signals n) h in and_from (nat_lt n (length e.signals)) true (signal_less n (if_there d.signals n f.0 f.1)) refl

  wait_of_fits : (w : Wait) → wait_fits d w ≡ true → wait_there d w ≡ true
  wait_of_fits w h = (and_parts (wait_there d w) true (waits_are_there d [] false (w ∷ []) (and_from (wait_fits d w) true h refl))).0

  starts_there : (k : GenKind) → starts_fit d k ≡ true → list_all (λ n. nat_lt n (length e.signals)) (start_signals k) ≡ true
  starts_there generator.Comb h = refl
  starts_there (generator.Always ws) h = flat_all (λ n. nat_lt n (length e.signals)) (wait_fits d) waited_signals ws (λ w q. wait_less w (wait_of_fits w q)) h
  starts_there (generator.Seq w r) h =
      let a = and_parts (is_edge w && wait_fits d w) (is_reset d r) h in
      all_both (λ n. nat_lt n (length e.signals)) (waited_signals w) (reset_signals r) (wait_less w (wait_of_fits w (and_parts (is_edge w) (wait_fits d w) a.0).1)) (reset_there r a.1)
  starts_there generator.Instance h = refl

  mem_read_there : (x : Expression) → node_there d x ≡ true → list_all (λ n. nat_lt n (length e.mems)) (mem_read x) ≡ true
  mem_read_there (Operation (ElementOf m) xs) h = and_from (nat_lt m (length e.mems)) true (mem_less m h) refl
  mem_read_there (Operation (TableElementOf t) xs) h = refl
  mem_read_there (Operation BitOf xs) h = refl
  mem_read_there (Operation SliceOf xs) h = refl
  mem_read_there (Operation (Unary o) xs) h = refl
  mem_read_there (Operation (Binary o) xs) h = refl
  mem_read_there (Operation And xs) h = refl
  mem_read_there (Operation Or xs) h = refl
  mem_read_there (Operation Concat xs) h = refl
  mem_read_there (Operation Signed xs) h = refl
  mem_read_there (Operation ToInt xs) h = refl
  mem_read_there (Operation ToBool xs) h = refl
  mem_read_there (Signal n) h = refl
  mem_read_there (Integer z) h = refl
  mem_read_there (Truth b) h = refl
  mem_read_there (Item n i) h = refl
  mem_read_there (Fixed z b) h = refl
  mem_read_there (Local v) h = refl
  mem_read_there Now h = refl

  table_read_there : (x : Expression) → node_there d x ≡ true → list_all (λ n. nat_lt n (length e.tables)) (table_read x) ≡ true
  table_read_there (Operation (ElementOf m) xs) h = refl
  table_read_there (Operation (TableElementOf t) xs) h = and_from (nat_lt t (length e.tables)) true (table_less t h) refl
  table_read_there (Operation BitOf xs) h = refl
  table_read_there (Operation SliceOf xs) h = refl
  table_read_there (Operation (Unary o) xs) h = refl
  table_read_there (Operation (Binary o) xs) h = refl
  table_read_there (Operation And xs) h = refl
  table_read_there (Operation Or xs) h = refl
  table_read_there (Operation Concat xs) h = refl
  table_read_there (Operation Signed xs) h = refl
  table_read_there (Operation ToInt xs) h = refl
  table_read_there (Operation ToBool xs) h = refl
  table_read_there (Signal n) h = refl
  table_read_there (Integer z) h = refl
  table_read_there (Truth b) h = refl
  table_read_there (Item n i) h = refl
  table_read_there (Fixed z b) h = refl
  table_read_there (Local v) h = refl
  table_read_there Now h = refl

  base_mem_there : (b : LeftBase) → base_there d b ≡ true → list_all (λ n. nat_lt n (length e.mems)) (base_mem b) ≡ true
  base_mem_there (LeftSignal n) h = refl
  base_mem_there (LeftElement m i) h = and_from (nat_lt m (length e.mems)) true (mem_less m h) refl
  base_mem_there (LeftLocal v) h = refl

  left_mem_there : (t : LeftSide) → left_there d t ≡ true → list_all (λ n. nat_lt n (length e.mems)) (left_mem t) ≡ true
  left_mem_there (Whole b) h = base_mem_there b h
  left_mem_there (LeftBit b i) h = base_mem_there b h
  left_mem_there (LeftSlice b i j) h = base_mem_there b h
  left_mem_there (Bind v n) h = refl

  mem_driven_there : (s : Statement) → own_there d s ≡ true → list_all (λ n. nat_lt n (length e.mems)) (mem_driven s) ≡ true
  mem_driven_there (Set k t x) h = left_mem_there t h
  mem_driven_there (If k rs other) h = refl
  mem_driven_there (While k x b) h = refl
  mem_driven_there (For k v down a z step b) h = refl
  mem_driven_there (Break k) h = refl
  mem_driven_there (Continue k) h = refl
  mem_driven_there (Yield k ws) h = refl
  mem_driven_there (Print k ps) h = refl
  mem_driven_there (Assert k x) h = refl
  mem_driven_there (Stop k) h = refl

-- ---- what a generator that fits uses

pub record Body (d : Design) (g : Made) : Type 0 where
  pub nodes : list_all (node_there d) (block_expressions g.body) ≡ true
  pub own : list_all (own_there d) (block_statements g.body) ≡ true
  pub starts : starts_fit d g.kind ≡ true

pub body_of_made : (d : Design) (g : Made) → made_fits d g ≡ true → Body d g
body_of_made d g h =
    let a = and_parts (is_name g.name && list_all (local_fits d) g.locals) _ h in
    let b = and_parts (starts_fit d g.kind) _ a.1 in
    let c = and_parts _ _ b.1 in
    let f = (and_parts _ (list_all (statement_fits d g.locals (is_instance g.kind)) (block_statements g.body)) c.0).1 in
    record { nodes = block_there d g.locals (is_instance g.kind) g.body f; own = all_own_there d g.locals (is_instance g.kind) (block_statements g.body) f; starts = b.0 }

module _ (w : World) (h : Fits w) (g : Made) (m : MadeFits w.design g) where
  all_signals_there : list_all (λ n. nat_lt n (length w.design.signals)) (signals_used w.design g) ≡ true
  all_signals_there =
      let b = body_of_made m.before g m.fits in
      all_both (λ n. nat_lt n (length w.design.signals)) (flat_map (read_by w.design) (block_expressions g.body)) (flat_map (driven_by w.design) (block_statements g.body) ++ (waited_in g ++ start_signals g.kind))
      (flat_all (λ n. nat_lt n (length w.design.signals)) (node_there m.before) (read_by w.design) (block_expressions g.body) (read_there m.before w.design m.later h.mems) b.nodes)
      (all_both (λ n. nat_lt n (length w.design.signals)) (flat_map (driven_by w.design) (block_statements g.body)) (waited_in g ++ start_signals g.kind)
      (flat_all (λ n. nat_lt n (length w.design.signals)) (own_there m.before) (driven_by w.design) (block_statements g.body) (driven_there m.before w.design m.later h.mems) b.own)
      (all_both (λ n. nat_lt n (length w.design.signals)) (waited_in g) (start_signals g.kind)
      (flat_all (λ n. nat_lt n (length w.design.signals)) (wait_there m.before) waited_signals (flat_map waited_by (block_statements g.body)) (wait_less m.before w.design m.later)
      (flat_all (wait_there m.before) (own_there m.before) waited_by (block_statements g.body) (waited_there m.before w.design m.later) b.own))
      (starts_there m.before w.design m.later g.kind b.starts)))

  all_mems_there : list_all (λ n. nat_lt n (length w.design.mems)) (mems_used g) ≡ true
  all_mems_there =
      let b = body_of_made m.before g m.fits in
      all_both (λ n. nat_lt n (length w.design.mems)) (flat_map mem_read (block_expressions g.body)) (flat_map mem_driven (block_statements g.body))
      (flat_all (λ n. nat_lt n (length w.design.mems)) (node_there m.before) mem_read (block_expressions g.body) (mem_read_there m.before w.design m.later) b.nodes)
      (flat_all (λ n. nat_lt n (length w.design.mems)) (own_there m.before) mem_driven (block_statements g.body) (mem_driven_there m.before w.design m.later) b.own)

  all_tables_there : list_all (λ n. nat_lt n (length w.design.tables)) (tables_used g) ≡ true
  all_tables_there =
      let b = body_of_made m.before g m.fits in
      flat_all (λ n. nat_lt n (length w.design.tables)) (node_there m.before) table_read (block_expressions g.body) (table_read_there m.before w.design m.later) b.nodes

  -- what a generator among these uses was chosen
  pub covers : (ports : List ℕ) (gs : List Made) (i : ℕ) → slice_get gs i ≡ Some g → Covers w.design (chosen w ports gs) g
  covers ports gs i e = record {
    signals = all_in (λ n. nat_lt n (length w.design.signals)) (is_in (chosen w ports gs).signals) (signals_used w.design g)
        (λ n c t. in_others ports (used_below (length w.design.signals) (all_signals_used w gs)) n (in_used (length w.design.signals) (all_signals_used w gs) n t (in_all (signals_used w.design) gs i g n e c))) all_signals_there;
    mems = all_in (λ n. nat_lt n (length w.design.mems)) (is_in (chosen w ports gs).mems) (mems_used g) (λ n c t. in_used (length w.design.mems) (all_mems_used gs) n t (in_all mems_used gs i g n e c)) all_mems_there;
    tables = all_in (λ n. nat_lt n (length w.design.tables)) (is_in (chosen w ports gs).tables) (tables_used g) (λ n c t. in_used (length w.design.tables) (all_tables_used gs) n t (in_all tables_used gs i g n e c)) all_tables_there;
  }

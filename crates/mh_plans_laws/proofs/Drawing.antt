-- A design has what was chosen of a world, and a generator fits under its numbers.
use Rattle.std.proofs.Common.{◌≡◌, ℕ, Bool, true, false, ◌&&◌, List, [], ◌∷◌, ◌++◌, length, map, Option, Some, None, refl, ap, sym, ◌∙◌, slice_get, is_some}
use Rattle.std.specs.Prelude.{nat_lt}
use Rattle.std.specs.List.{list_all, flat_map}
use Rattle.std.specs.Option.{option_map, option_map_or}
use Rattle.std.proofs.lemmas.Bool.{and_parts, and_from}
use Rattle.std.proofs.lemmas.List.{length-map}
use Rattle.std.proofs.lemmas.List.Folds.{list_all-append}
use Rattle.mh_design.specs.declared.design.Design.{Design}
use Rattle.mh_design.specs.declared.design.EnumDecl.{EnumDecl}
use Rattle.mh_design.specs.declared.design.GenKind.{GenKind}
use Rattle.mh_design.specs.declared.design.GenKind.TheVariants as generator
use Rattle.mh_design.specs.declared.design.Kind.{Kind}
use Rattle.mh_design.specs.declared.design.Kind.TheVariants as kind
use Rattle.mh_design.specs.declared.design.Local.{Local as Variable}
use Rattle.mh_design.specs.declared.design.MemDecl.{MemDecl}
use Rattle.mh_design.specs.declared.design.SignalDecl.{SignalDecl}
use Rattle.mh_design.specs.declared.design.TableDecl.{TableDecl}
use Rattle.mh_design.specs.declared.design.Wait.{Wait}
use Rattle.mh_design.specs.declared.design.Wait.TheVariants as wait
use Rattle.mh_design.specs.Assigned.{is_assigned_first, all_below}
use Rattle.mh_design.specs.Constants.{cell_count, table_length}
use Rattle.mh_design.specs.Depth.{block_is_within}
use Rattle.mh_design.specs.Kinds.{signal_kind, mem_kind}
use Rattle.mh_design.specs.Numbering.{block_expressions, block_statements}
use Rattle.mh_design.specs.Statements.{wait_fits, statement_fits, block_exits_fit}
use Rattle.mh_design.specs.Tree.{Expression, Integer, Truth, Item, Fixed, Signal, Local, Now, Operation, ElementOf, TableElementOf, BitOf, SliceOf, Unary, Binary, And, Or, Concat, Signed, ToInt, ToBool, LeftBase, LeftSignal, LeftElement, LeftLocal, LeftSide, Whole, LeftBit, LeftSlice, Bind, Statement, Set, If, While, For, Break, Continue, Yield, Print, Assert, Stop}
use Rattle.mh_design.specs.Uses.{read_by, driven_base, driven_left, driven_by, waited_by}
use Rattle.mh_design.specs.WellFormed.{is_name, kind_fits, local_fits, is_edge, is_reset, starts_fit, is_instance}
use Rattle.mh_lower_laws.proofs.Basics.{if_there, there_if, all_at, all_then}
use Rattle.mh_lower_laws.proofs.StatementGrowth.{found_later}
use Rattle.mh_world.specs.declared.kinds.Instance.{Instance}
use Rattle.mh_world.specs.World.{World, Made}
use Rattle.mh_plans.specs.Order.{is_in}
use Rattle.mh_plans.specs.Paths.{signal_path, table_path, generator_path, ports_in}
use Rattle.mh_plans.specs.Plans.{waited_signals, reset_signals, start_signals, waited_in, signals_used, mem_read, base_mem, left_mem, mem_driven, mems_used, table_read, tables_used, all_mems_used, all_tables_used, reads_at, chosen, mem_of, design_as, drawn}
use Rattle.mh_plans.specs.Renumbered.{Chosen, number_in, wait_in, kind_in, block_in}
use Rattle.mh_world_laws.specs.Fits.{Fits, Later, MadeFits, made_fits, has_name, arguments_fit, are_of, instance_fits}
use Rattle.mh_world_laws.proofs.Lists.{both_then}
use Rattle.mh_world_laws.proofs.Designs.{signal_there, enum_there, mem_there, table_there, signal_kind_later}
use Rattle.mh_plans_laws.specs.Draws.{Draws, Covers, drawn_fits}
use Rattle.mh_plans_laws.proofs.Numbers.{number_there, number_within, is_there, taken_there, length_taken, at_in, used_there}
use Rattle.mh_plans_laws.proofs.Pathing.{generator_named}
use Rattle.mh_plans_laws.proofs.Renumbering.{Redrawn, node_chosen}
use Rattle.mh_plans_laws.proofs.Stating.{wait_chosen, own_chosen, base_chosen, left_chosen, waits_fit_in, wait_fits_in, block_fits_in}
use Rattle.mh_plans_laws.proofs.Walking.{block_within_same, block_exits_same, all_assigned_same}
use Rattle.mh_plans_laws.proofs.Covering.{two_parts, ports_there, signals_there}

-- ---- a design has what was chosen

module _ (w : World) (top : ℕ) (x : Instance) (k : Chosen) where
  abbrev pub signal_drawn : ℕ → SignalDecl → SignalDecl
  signal_drawn n s = record s { path = signal_path w top x.arguments n }

  abbrev pub mem_drawn : ℕ → MemDecl → MemDecl
  mem_drawn m y = mem_of w top k y

  abbrev pub table_drawn : ℕ → TableDecl → TableDecl
  table_drawn t y = record y { path = table_path w top y.values }

module _ (w : World) (top : ℕ) (x : Instance) (k : Chosen) (signals : list_all (λ n. nat_lt n (length w.design.signals)) k.signals ≡ true) (mems : list_all (λ n. nat_lt n (length w.design.mems)) k.mems ≡ true) (tables : list_all (λ n. nat_lt n (length w.design.tables)) k.tables ≡ true) where
  signal_at : (n : ℕ) → is_in k.signals n ≡ true → (s : SignalDecl) × (slice_get w.design.signals n ≡ Some s) × (slice_get (design_as w top x k).signals (number_in k.signals n) ≡ Some (signal_drawn w top x k n s))
  signal_at n c =
      let t = is_there (signal_drawn w top x k) w.design.signals n (at_in k.signals n (λ m. nat_lt m (length w.design.signals)) signals c) in
      (t.0, t.1, taken_there (signal_drawn w top x k) w.design.signals k.signals (number_in k.signals n) n t.0 signals (number_there k.signals n c) t.1)

  mem_at : (m : ℕ) → is_in k.mems m ≡ true → (y : MemDecl) × (slice_get w.design.mems m ≡ Some y) × (slice_get (design_as w top x k).mems (number_in k.mems m) ≡ Some (mem_drawn w top x k m y))
  mem_at m c =
      let t = is_there (mem_drawn w top x k) w.design.mems m (at_in k.mems m (λ n. nat_lt n (length w.design.mems)) mems c) in
      (t.0, t.1, taken_there (mem_drawn w top x k) w.design.mems k.mems (number_in k.mems m) m t.0 mems (number_there k.mems m c) t.1)

  table_at : (n : ℕ) → is_in k.tables n ≡ true → (y : TableDecl) × (slice_get w.design.tables n ≡ Some y) × (slice_get (design_as w top x k).tables (number_in k.tables n) ≡ Some (table_drawn w top x k n y))
  table_at n c =
      let t = is_there (table_drawn w top x k) w.design.tables n (at_in k.tables n (λ m. nat_lt m (length w.design.tables)) tables c) in
      (t.0, t.1, taken_there (table_drawn w top x k) w.design.tables k.tables (number_in k.tables n) n t.0 tables (number_there k.tables n c) t.1)

  pub length_signals : length (design_as w top x k).signals ≡ length k.signals
  length_signals = length_taken (signal_drawn w top x k) w.design.signals k.signals signals

  pub draws : Draws w.design k (design_as w top x k)
  draws = record {
    signals = λ n c. let t = signal_at n c in ap (option_map (λ (y : SignalDecl). y.kind)) t.2 ∙ sym (ap (option_map (λ (y : SignalDecl). y.kind)) t.1);
    resets = λ n c. let t = signal_at n c in ap (λ o. option_map_or (λ (y : SignalDecl). is_some y.reset) o false) t.2 ∙ sym (ap (λ o. option_map_or (λ (y : SignalDecl). is_some y.reset) o false) t.1);
    mems = λ m c. let t = mem_at m c in ap (option_map (λ (y : MemDecl). y.kind)) t.2 ∙ sym (ap (option_map (λ (y : MemDecl). y.kind)) t.1);
    cells = λ m c. let t = mem_at m c in ap (λ o. option_map_or (λ (y : MemDecl). length y.cells) o 0) t.2 ∙ length-map (t.0).cells (number_in k.signals) ∙ sym (ap (λ o. option_map_or (λ (y : MemDecl). length y.cells) o 0) t.1);
    tables = λ n c. let t = table_at n c in ap (λ o. option_map_or (λ (y : TableDecl). length y.values) o 0) t.2 ∙ sym (ap (λ o. option_map_or (λ (y : TableDecl). length y.values) o 0) t.1);
    tables_there = λ n c. ap (nat_lt (number_in k.tables n)) (length_taken (table_drawn w top x k) w.design.tables k.tables tables) ∙ number_within k.tables n c;
    enums = refl;
  }

module _ (w : World) (h : Fits w) (top : ℕ) (x : Instance) (e : slice_get w.instances top ≡ Some x) where
  pub instance_is : instance_fits w.design x ≡ true
  instance_is = all_at (instance_fits w.design) w.instances top x h.instances e

  pub arguments_are : arguments_fit w.design x.arguments ≡ true
  arguments_are = (and_parts (arguments_fit w.design x.arguments) (are_of w.design x.parts) (and_parts (is_name x.name && has_name x.called) (arguments_fit w.design x.arguments && are_of w.design x.parts) instance_is).1).0

  pub all_signals_chosen : (gs : List Made) → list_all (λ n. nat_lt n (length w.design.signals)) (chosen w (ports_in x.arguments) gs).signals ≡ true
  all_signals_chosen gs = signals_there w h (ports_in x.arguments) gs (ports_there w h x.arguments arguments_are)

  pub designs_draw : (gs : List Made) → Draws w.design (chosen w (ports_in x.arguments) gs) (design_as w top x (chosen w (ports_in x.arguments) gs))
  designs_draw gs = draws w top x (chosen w (ports_in x.arguments) gs) (all_signals_chosen gs) (used_there (length w.design.mems) (all_mems_used gs)) (used_there (length w.design.tables) (all_tables_used gs))

-- ---- of what a generator was read in

module _ (b d e : Design) (l : Later b d) (k : Chosen) (r : Draws d k e) where
  mem_by : (m : ℕ) (x : Kind) (o : Option MemDecl) → slice_get b.mems m ≡ o → option_map (λ y. y.kind) o ≡ Some x → mem_kind d m ≡ Some x
  mem_by m x (Some y) q h = ap (option_map (λ (z : MemDecl). z.kind)) (mem_there b d l m y q) ∙ h
  mem_by m x None q h = absurd (cc)

  cells_by : (m : ℕ) (x : Kind) (o : Option MemDecl) → slice_get b.mems m ≡ o → option_map (λ y. y.kind) o ≡ Some x → cell_count d m ≡ cell_count b m
  cells_by m x (Some y) q h = ap (λ o. option_map_or (λ (z : MemDecl). length z.cells) o 0) (mem_there b d l m y q ∙ sym q)
  cells_by m x None q h = absurd (cc)

  pub redrawn : Redrawn b e k
  redrawn = record {
    signals = λ n x c q. r.signals n c ∙ signal_kind_later b d l n x q;
    resets = λ n c q. r.resets n c ∙ found_later (λ (s : SignalDecl). is_some s.reset) (slice_get b.signals n) (slice_get d.signals n) (signal_there b d l n) q;
    mems = λ m x c q. r.mems m c ∙ mem_by m x (slice_get b.mems m) refl q;
    cells = λ m x c q. r.cells m c ∙ cells_by m x (slice_get b.mems m) refl q;
    tables = λ t c q. let y = there_if b.tables t q in r.tables t c ∙ ap (λ o. option_map_or (λ (z : TableDecl). length z.values) o 0) (table_there b d l t y.0 y.1 ∙ sym y.1);
    tables_there = λ t c. r.tables_there t c;
    enums = λ n y q. ap (λ es. slice_get es n) r.enums ∙ enum_there b d l n y q;
  }

-- ---- what is chosen of what a generator uses

module _ (d : Design) (k : Chosen) where
  node_by : (x : Expression) → list_all (is_in k.signals) (read_by d x) ≡ true → list_all (is_in k.mems) (mem_read x) ≡ true → list_all (is_in k.tables) (table_read x) ≡ true → node_chosen k x ≡ true
  node_by (Signal n) p q s = (and_parts (is_in k.signals n) true p).0
  node_by (Operation (ElementOf m) xs) p q s = (and_parts (is_in k.mems m) true q).0
  node_by (Operation (TableElementOf t) xs) p q s = (and_parts (is_in k.tables t) true s).0
  node_by (Operation BitOf xs) p q s = refl
  node_by (Operation SliceOf xs) p q s = refl
  node_by (Operation (Unary o) xs) p q s = refl
  node_by (Operation (Binary o) xs) p q s = refl
  node_by (Operation And xs) p q s = refl
  node_by (Operation Or xs) p q s = refl
  node_by (Operation Concat xs) p q s = refl
  node_by (Operation Signed xs) p q s = refl
  node_by (Operation ToInt xs) p q s = refl
  node_by (Operation ToBool xs) p q s = refl
  node_by (Integer z) p q s = refl
  node_by (Truth b) p q s = refl
  node_by (Item n i) p q s = refl
  node_by (Fixed z b) p q s = refl
  node_by (Local v) p q s = refl
  node_by Now p q s = refl

  nodes_of : (xs : List Expression) → list_all (is_in k.signals) (flat_map (read_by d) xs) ≡ true → list_all (is_in k.mems) (flat_map mem_read xs) ≡ true → list_all (is_in k.tables) (flat_map table_read xs) ≡ true → list_all (node_chosen k) xs ≡ true
  nodes_of [] p q s = refl
  nodes_of (x ∷ xs) p q s =
      let a = two_parts (is_in k.signals) (read_by d x) (flat_map (read_by d) xs) p in
      let b = two_parts (is_in k.mems) (mem_read x) (flat_map mem_read xs) q in
      let c = two_parts (is_in k.tables) (table_read x) (flat_map table_read xs) s in
      and_from (node_chosen k x) (list_all (node_chosen k) xs) (node_by x a.0 b.0 c.0) (nodes_of xs a.1 b.1 c.1)

  wait_by : (w : Wait) → list_all (is_in k.signals) (waited_signals w) ≡ true → wait_chosen k w ≡ true
  wait_by (wait.Change n) p = (and_parts (is_in k.signals n) true p).0
  wait_by (wait.Edge n up) p = (and_parts (is_in k.signals n) true p).0
  wait_by (wait.Delay n) p = refl

  waits_of : (ws : List Wait) → list_all (is_in k.signals) (flat_map waited_signals ws) ≡ true → list_all (wait_chosen k) ws ≡ true
  waits_of [] p = refl
  waits_of (w ∷ ws) p = let a = two_parts (is_in k.signals) (waited_signals w) (flat_map waited_signals ws) p in and_from (wait_chosen k w) (list_all (wait_chosen k) ws) (wait_by w a.0) (waits_of ws a.1)

  base_by : (b : LeftBase) → list_all (is_in k.signals) (driven_base d b) ≡ true → list_all (is_in k.mems) (base_mem b) ≡ true → base_chosen k b ≡ true
  base_by (LeftSignal n) p q = (and_parts (is_in k.signals n) true p).0
  base_by (LeftElement m i) p q = (and_parts (is_in k.mems m) true q).0
  base_by (LeftLocal v) p q = refl

  left_by : (t : LeftSide) → list_all (is_in k.signals) (driven_left d t) ≡ true → list_all (is_in k.mems) (left_mem t) ≡ true → left_chosen k t ≡ true
  left_by (Whole b) p q = base_by b p q
  left_by (LeftBit b i) p q = base_by b p q
  left_by (LeftSlice b i j) p q = base_by b p q
  left_by (Bind v n) p q = refl

  own_by : (s : Statement) → list_all (is_in k.signals) (driven_by d s) ≡ true → list_all (is_in k.mems) (mem_driven s) ≡ true → list_all (wait_chosen k) (waited_by s) ≡ true → own_chosen k s ≡ true
  own_by (Set l t x) p q r = left_by t p q
  own_by (If l rs other) p q r = refl
  own_by (While l x b) p q r = refl
  own_by (For l v down a z step b) p q r = refl
  own_by (Break l) p q r = refl
  own_by (Continue l) p q r = refl
  own_by (Yield l ws) p q r = r
  own_by (Print l ps) p q r = refl
  own_by (Assert l x) p q r = refl
  own_by (Stop l) p q r = refl

  own_of : (ss : List Statement) → list_all (is_in k.signals) (flat_map (driven_by d) ss) ≡ true → list_all (is_in k.mems) (flat_map mem_driven ss) ≡ true → list_all (wait_chosen k) (flat_map waited_by ss) ≡ true → list_all (own_chosen k) ss ≡ true
  own_of [] p q r = refl
  own_of (s ∷ ss) p q r =
      let a = two_parts (is_in k.signals) (driven_by d s) (flat_map (driven_by d) ss) p in
      let b = two_parts (is_in k.mems) (mem_driven s) (flat_map mem_driven ss) q in
      let c = two_parts (wait_chosen k) (waited_by s) (flat_map waited_by ss) r in
      and_from (own_chosen k s) (list_all (own_chosen k) ss) (own_by s a.0 b.0 c.0) (own_of ss a.1 b.1 c.1)

-- ---- when a generator runs, and its locals

edge_same : (k : Chosen) (w : Wait) → is_edge (wait_in k w) ≡ is_edge w
edge_same k (wait.Change n) = refl
edge_same k (wait.Edge n up) = refl
edge_same k (wait.Delay n) = refl

instance_same : (k : Chosen) (g : GenKind) → is_instance (kind_in k g) ≡ is_instance g
instance_same k generator.Comb = refl
instance_same k (generator.Always ws) = refl
instance_same k (generator.Seq w r) = refl
instance_same k generator.Instance = refl

module _ (b e : Design) (k : Chosen) (r : Redrawn b e k) where
  reset_in : (o : Option ℕ) → list_all (is_in k.signals) (reset_signals o) ≡ true → is_reset b o ≡ true → is_reset e (option_map (number_in k.signals) o) ≡ true
  reset_in None c h = refl
  reset_in (Some n) c h = r.resets n (and_parts (is_in k.signals n) true c).0 h

  starts_in : (g : GenKind) → list_all (is_in k.signals) (start_signals g) ≡ true → starts_fit b g ≡ true → starts_fit e (kind_in k g) ≡ true
  starts_in generator.Comb c h = refl
  starts_in (generator.Always ws) c h = waits_fit_in b e k r [] ws (waits_of b k ws c) h
  starts_in (generator.Seq w o) c h =
      let a = two_parts (is_in k.signals) (waited_signals w) (reset_signals o) c in
      both_then (is_edge w && wait_fits b w) (is_reset b o) (is_edge (wait_in k w) && wait_fits e (wait_in k w)) (is_reset e (option_map (number_in k.signals) o))
      (λ q. both_then (is_edge w) (wait_fits b w) (is_edge (wait_in k w)) (wait_fits e (wait_in k w)) (λ s. edge_same k w ∙ s) (wait_fits_in b e k r [] w (wait_by b k w a.0)) q) (reset_in o a.1) h
  starts_in generator.Instance c h = refl

  kind_fits_in : (x : Kind) → kind_fits b x ≡ true → kind_fits e x ≡ true
  kind_fits_in kind.Bool h = refl
  kind_fits_in kind.Int h = refl
  kind_fits_in (kind.Bits c) h = refl
  kind_fits_in (kind.Item n) h = let y = there_if b.enums n h in if_there e.enums n y.0 (r.enums n y.0 y.1)

  locals_in : (ls : List Variable) → list_all (local_fits b) ls ≡ true → list_all (local_fits e) ls ≡ true
  locals_in ls h = all_then (local_fits b) (local_fits e) ls (λ v q. both_then (is_name v.name) (kind_fits b v.kind) (is_name v.name) (kind_fits e v.kind) (λ s. s) (kind_fits_in v.kind) q) h

-- ---- a generator

module _ (w : World) (h : Fits w) (top : ℕ) (k : Chosen) (e : Design) (r : Draws w.design k e) where
  pub generator_fits : (g : Made) → Covers w.design k g → MadeFits w.design g → drawn_fits e (drawn w top k g) ≡ true
  generator_fits g c m =
      let a = and_parts (is_name g.name && list_all (local_fits m.before) g.locals) _ m.fits in
      let names = and_parts (is_name g.name) (list_all (local_fits m.before) g.locals) a.0 in
      let b = and_parts (starts_fit m.before g.kind) _ a.1 in
      let f = and_parts (block_is_within g.body 200 && list_all (statement_fits m.before g.locals (is_instance g.kind)) (block_statements g.body)) (block_exits_fit false g.body && all_below (length g.locals) (is_assigned_first g.body)) b.1 in
      let s = and_parts (block_is_within g.body 200) (list_all (statement_fits m.before g.locals (is_instance g.kind)) (block_statements g.body)) f.0 in
      let x = and_parts (block_exits_fit false g.body) (all_below (length g.locals) (is_assigned_first g.body)) f.1 in
      let reads = two_parts (is_in k.signals) (flat_map (read_by w.design) (block_expressions g.body)) (flat_map (driven_by w.design) (block_statements g.body) ++ (waited_in g ++ start_signals g.kind)) c.signals in
      let drives = two_parts (is_in k.signals) (flat_map (driven_by w.design) (block_statements g.body)) (waited_in g ++ start_signals g.kind) reads.1 in
      let waits = two_parts (is_in k.signals) (waited_in g) (start_signals g.kind) drives.1 in
      let mems = two_parts (is_in k.mems) (flat_map mem_read (block_expressions g.body)) (flat_map mem_driven (block_statements g.body)) c.mems in
      let nodes = nodes_of w.design k (block_expressions g.body) reads.0 mems.0 c.tables in
      let own = own_of w.design k (block_statements g.body) drives.0 mems.1 (waits_of w.design k (flat_map waited_by (block_statements g.body)) waits.0) in
      let fit : list_all (statement_fits e g.locals (is_instance g.kind)) (block_statements (block_in k g.body)) ≡ true = block_fits_in m.before e k (redrawn m.before w.design e m.later k r) g.locals (is_instance g.kind) g.body own nodes s.1 in
      and_from (is_name (generator_path w top g) && list_all (local_fits e) g.locals) _
      (and_from (is_name (generator_path w top g)) (list_all (local_fits e) g.locals) (generator_named w h top g names.0) (locals_in m.before e k (redrawn m.before w.design e m.later k r) g.locals names.1))
      (and_from (starts_fit e (kind_in k g.kind)) _ (starts_in m.before e k (redrawn m.before w.design e m.later k r) g.kind waits.1 b.0)
      (and_from (block_is_within (block_in k g.body) 200 && list_all (statement_fits e g.locals (is_instance (kind_in k g.kind))) (block_statements (block_in k g.body))) (block_exits_fit false (block_in k g.body) && all_below (length g.locals) (is_assigned_first (block_in k g.body)))
      (and_from (block_is_within (block_in k g.body) 200) (list_all (statement_fits e g.locals (is_instance (kind_in k g.kind))) (block_statements (block_in k g.body))) (block_within_same k g.body 200 ∙ s.0)
      (ap (λ i. list_all (statement_fits e g.locals i) (block_statements (block_in k g.body))) (instance_same k g.kind) ∙ fit))
      (and_from (block_exits_fit false (block_in k g.body)) (all_below (length g.locals) (is_assigned_first (block_in k g.body))) (block_exits_same k false g.body ∙ x.0) (all_assigned_same k (length g.locals) g.body ∙ x.1))))

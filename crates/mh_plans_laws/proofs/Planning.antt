-- All designs are well formed.
use Rattle.std.proofs.Common.{◌≡◌, ℕ, zero, suc, ℤ, Bool, true, false, ◌&&◌, ◌||◌, List, [], ◌∷◌, ◌++◌, length, map, cond, Option, Some, None, Result, Ok, Err, refl, ap, ap₂, sym, ◌∙◌, subst, if◌then◌else◌, slice_get}
use Rattle.std.specs.Prelude.{nat_lt, nat_le, nat_eq, filter}
use Rattle.std.specs.List.{list_all, flat_map}
use Rattle.std.specs.Option.{option_map, option_map_or, option_and_then}
use Rattle.std.proofs.lemmas.Bool.{and_parts, and_from, or_left, or_right, eqb-true, eq-eqb}
use Rattle.std.proofs.lemmas.List.{length-map}
use Rattle.std.proofs.lemmas.List.Folds.{list_all-append, list_all-map}
use Rattle.mh_text.specs.declared.code.Code.TheVariants.{E9SizeLimit}
use Rattle.mh_design.specs.declared.design.Design.{Design}
use Rattle.mh_design.specs.declared.design.Generator.{Generator}
use Rattle.mh_design.specs.declared.design.EnumDecl.{EnumDecl}
use Rattle.mh_design.specs.declared.design.Kind.{Kind}
use Rattle.mh_design.specs.declared.design.Kind.TheVariants as kind
use Rattle.mh_design.specs.declared.design.MemDecl.{MemDecl}
use Rattle.mh_design.specs.declared.design.SignalDecl.{SignalDecl}
use Rattle.mh_design.specs.declared.design.TableDecl.{TableDecl}
use Rattle.mh_design.specs.Kinds.{signal_kind}
use Rattle.mh_design.specs.Numbering.{block_expressions, block_statements}
use Rattle.mh_design.specs.Tree.{Expression, Integer, Truth, Item, Fixed, Signal, Local, Now, Operation, ElementOf, TableElementOf, BitOf, SliceOf, Unary, Binary, And, Or, Concat, Signed, ToInt, ToBool, LeftBase, LeftSignal, LeftElement, LeftLocal, LeftSide, Whole, LeftBit, LeftSlice, Bind, Statement, Set, If, While, For, Break, Continue, Yield, Print, Assert, Stop}
use Rattle.mh_design.specs.Uses.{cells_of, read_by, driven_base, driven_left, driven_by}
use Rattle.mh_design.specs.WellFormed.{is_name, kind_fits, enum_fits, is_item_value, is_value, reset_fits, signal_fits, met, met_next, met_all, cells_kind, same_kind, mem_fits, table_fits, ports_fit, names_fit, declarations_fit, generator_fits, outside_count, element_count, is_well_formed}
use Rattle.mh_lower_laws.proofs.Basics.{all_at}
use Rattle.mh_lower_laws.proofs.Growth.{Grown}
use Rattle.mh_lower_laws.proofs.StatementGrowth.{generator_later}
use Rattle.mh_world.specs.declared.kinds.Instance.{Instance}
use Rattle.mh_world.specs.World.{World, Made, Broken, after}
use Rattle.mh_plans.specs.declared.designs.Request.{Request}
use Rattle.mh_plans.specs.Order.{is_in, generators_of}
use Rattle.mh_plans.specs.Paths.{signal_path, ports_in, list_path, table_path}
use Rattle.mh_plans.specs.Planned.{drawn_of, plan_of}
use Rattle.mh_plans.specs.Plans.{Drawn, Plan, waited_in, start_signals, signals_used, mem_read, base_mem, left_mem, mem_driven, mems_used, below, used_below, reads_at, all_signals_used, all_mems_used, all_tables_used, chosen, listed_in, design_as, drawn, plan, plan_fits, tops, fitting, plan_at, plans_of, plans}
use Rattle.mh_plans.specs.Renumbered.{Chosen, number_in}
use Rattle.mh_world_laws.specs.Fits.{Fits, MadeFits, arguments_fit, has_name, are_of}
use Rattle.mh_world_laws.proofs.Lists.{both_then}
use Rattle.mh_plans_laws.specs.Draws.{Draws, Covers, drawn_fits, plan_is_well_formed}
use Rattle.mh_plans_laws.proofs.Numbers.{either, taken, taken_at, all_taken, all_in, at_in, number_within, used_there, in_ports}
use Rattle.mh_plans_laws.proofs.Pathing.{signal_named, list_named, table_named, listed_named}
use Rattle.mh_plans_laws.proofs.Covering.{two_parts, covers, ports_there}
use Rattle.mh_plans_laws.proofs.Drawing.{signal_drawn, mem_drawn, table_drawn, length_signals, instance_is, arguments_are, all_signals_chosen, designs_draw, generator_fits as drawn_generator_fits}

-- ---- which of a list

record Found {X : Type 0} (f : X → List ℕ) (xs : List X) (n : ℕ) : Type 0 where
  pub at : ℕ
  pub item : X
  pub there : slice_get xs at ≡ Some item
  pub within : is_in (f item) n ≡ true

found_next : {X : Type 0} (f : X → List ℕ) (x : X) (xs : List X) (n : ℕ) → Found f xs n → Found f (x ∷ xs) n
found_next f x xs n r = record { at = suc r.at; item = r.item; there = r.there; within = r.within }

in_either : (ns ms : List ℕ) (n : ℕ) → is_in (ns ++ ms) n ≡ true → (is_in ns n || is_in ms n) ≡ true
in_either [] ms n h = h
in_either (m ∷ ns) ms n h = either (nat_eq n m) (is_in (ns ++ ms) n) h (λ q. or_left_of (nat_eq n m) (is_in ns n) (is_in ms n) q) (λ q. or_right_of (nat_eq n m) (is_in ns n) (is_in ms n) (in_either ns ms n q))
  where
    or_left_of : (a b c : Bool) → a ≡ true → ((a || b) || c) ≡ true
    or_left_of true b c q = refl
    or_left_of false b c q = absurd (cc)

    or_right_of : (a b c : Bool) → (b || c) ≡ true → ((a || b) || c) ≡ true
    or_right_of true b c q = refl
    or_right_of false b c q = q

found_in : {X : Type 0} (f : X → List ℕ) (xs : List X) (n : ℕ) → is_in (flat_map f xs) n ≡ true → Found f xs n
found_in f [] n h = absurd (cc)
found_in f (x ∷ xs) n h =
    either (is_in (f x) n) (is_in (flat_map f xs) n) (in_either (f x) (flat_map f xs) n h) (λ q. record { at = 0; item = x; there = refl; within = q }) (λ q. found_next f x xs n (found_in f xs n q))

filter_by : (p : ℕ → Bool) (b : Bool) (m : ℕ) (ns : List ℕ) (n : ℕ) → p m ≡ b → is_in (cond b (m ∷ ns) ns) n ≡ true → (is_in ns n ≡ true → p n ≡ true) → p n ≡ true
filter_by p true m ns n e h k = either (nat_eq n m) (is_in ns n) h (λ q. ap p (eqb-true n m q) ∙ e) k
filter_by p false m ns n e h k = k h

filtered : (p : ℕ → Bool) (ns : List ℕ) (n : ℕ) → is_in (filter p ns) n ≡ true → p n ≡ true
filtered p [] n h = absurd (cc)
filtered p (m ∷ ms) n h = filter_by p (p m) m (filter p ms) n refl h (filtered p ms n)

-- where the items of what was taken come from
record Taken {X Y : Type 0} (f : ℕ → X → Y) (xs : List X) (y : Y) : Type 0 where
  pub at : ℕ
  pub item : X
  pub there : slice_get xs at ≡ Some item
  pub same : f at item ≡ y

taken_by : {X Y : Type 0} (f : ℕ → X → Y) (xs : List X) (n : ℕ) (o : Option X) (rest : List Y) (i : ℕ) (y : Y) → slice_get xs n ≡ o → slice_get (taken_at f xs n o ++ rest) i ≡ Some y → ((j : ℕ) → slice_get rest j ≡ Some y → Taken f xs y) → Taken f xs y
taken_by f xs n None rest i y e h k = k i h
taken_by f xs n (Some x) rest zero y e h k = record { at = n; item = x; there = e; same = some_same (f n x) y h }
  where
    some_same : {Y : Type 0} (a b : Y) → Some a ≡ Some b → a ≡ b
    some_same a b q = cc
taken_by f xs n (Some x) rest (suc i) y e h k = k i h

taken_from : {X Y : Type 0} (f : ℕ → X → Y) (xs : List X) (ns : List ℕ) (i : ℕ) (y : Y) → slice_get (taken f xs ns) i ≡ Some y → Taken f xs y
taken_from f xs [] i y h = absurd (cc)
taken_from f xs (n ∷ ns) i y h = taken_by f xs n (slice_get xs n) (taken f xs ns) i y refl h (λ j q. taken_from f xs ns j y q)

all_places : {X : Type 0} (p : X → Bool) (xs : List X) → ((i : ℕ) (x : X) → slice_get xs i ≡ Some x → p x ≡ true) → list_all p xs ≡ true
all_places p [] k = refl
all_places p (x ∷ xs) k = and_from (p x) (list_all p xs) (k 0 x refl) (all_places p xs (λ i y e. k (suc i) y e))

-- ---- the cells of a memory that is used

module _ (d : Design) (p : ℕ → Bool) (m : ℕ) where
  same_cells : (n : ℕ) → nat_eq m n ≡ true → list_all p (cells_of d n) ≡ true → list_all p (cells_of d m) ≡ true
  same_cells n e h = ap (λ j. list_all p (cells_of d j)) (eqb-true m n e) ∙ h

  cells_by : (n : ℕ) → is_in (n ∷ []) m ≡ true → list_all p (cells_of d n) ≡ true → list_all p (cells_of d m) ≡ true
  cells_by n i h = either (nat_eq m n) false i (λ e. same_cells n e h) (λ e. absurd (cc))

  read_cells_by : (x : Expression) → is_in (mem_read x) m ≡ true → list_all p (read_by d x) ≡ true → list_all p (cells_of d m) ≡ true
  read_cells_by (Operation (ElementOf n) xs) i h = cells_by n i h
  read_cells_by (Operation (TableElementOf t) xs) i h = absurd (cc)
  read_cells_by (Operation BitOf xs) i h = absurd (cc)
  read_cells_by (Operation SliceOf xs) i h = absurd (cc)
  read_cells_by (Operation (Unary o) xs) i h = absurd (cc)
  read_cells_by (Operation (Binary o) xs) i h = absurd (cc)
  read_cells_by (Operation And xs) i h = absurd (cc)
  read_cells_by (Operation Or xs) i h = absurd (cc)
  read_cells_by (Operation Concat xs) i h = absurd (cc)
  read_cells_by (Operation Signed xs) i h = absurd (cc)
  read_cells_by (Operation ToInt xs) i h = absurd (cc)
  read_cells_by (Operation ToBool xs) i h = absurd (cc)
  read_cells_by (Signal n) i h = absurd (cc)
  read_cells_by (Integer z) i h = absurd (cc)
  read_cells_by (Truth b) i h = absurd (cc)
  read_cells_by (Item n j) i h = absurd (cc)
  read_cells_by (Fixed z b) i h = absurd (cc)
  read_cells_by (Local v) i h = absurd (cc)
  read_cells_by Now i h = absurd (cc)

  read_cells : (xs : List Expression) → is_in (flat_map mem_read xs) m ≡ true → list_all p (flat_map (read_by d) xs) ≡ true → list_all p (cells_of d m) ≡ true
  read_cells [] i h = absurd (cc)
  read_cells (x ∷ xs) i h =
      let a = two_parts p (read_by d x) (flat_map (read_by d) xs) h in
      either (is_in (mem_read x) m) (is_in (flat_map mem_read xs) m) (in_either (mem_read x) (flat_map mem_read xs) m i) (λ q. read_cells_by x q a.0) (λ q. read_cells xs q a.1)

  base_cells : (b : LeftBase) → is_in (base_mem b) m ≡ true → list_all p (driven_base d b) ≡ true → list_all p (cells_of d m) ≡ true
  base_cells (LeftSignal n) i h = absurd (cc)
  base_cells (LeftElement n x) i h = cells_by n i h
  base_cells (LeftLocal v) i h = absurd (cc)

  left_cells : (t : LeftSide) → is_in (left_mem t) m ≡ true → list_all p (driven_left d t) ≡ true → list_all p (cells_of d m) ≡ true
  left_cells (Whole b) i h = base_cells b i h
  left_cells (LeftBit b x) i h = base_cells b i h
  left_cells (LeftSlice b x y) i h = base_cells b i h
  left_cells (Bind v n) i h = absurd (cc)

  driven_cells_by : (s : Statement) → is_in (mem_driven s) m ≡ true → list_all p (driven_by d s) ≡ true → list_all p (cells_of d m) ≡ true
  driven_cells_by (Set l t x) i h = left_cells t i h
  driven_cells_by (If l rs other) i h = absurd (cc)
  driven_cells_by (While l x b) i h = absurd (cc)
  driven_cells_by (For l v down a z step b) i h = absurd (cc)
  driven_cells_by (Break l) i h = absurd (cc)
  driven_cells_by (Continue l) i h = absurd (cc)
  driven_cells_by (Yield l ws) i h = absurd (cc)
  driven_cells_by (Print l ps) i h = absurd (cc)
  driven_cells_by (Assert l x) i h = absurd (cc)
  driven_cells_by (Stop l) i h = absurd (cc)

  driven_cells : (ss : List Statement) → is_in (flat_map mem_driven ss) m ≡ true → list_all p (flat_map (driven_by d) ss) ≡ true → list_all p (cells_of d m) ≡ true
  driven_cells [] i h = absurd (cc)
  driven_cells (s ∷ ss) i h =
      let a = two_parts p (driven_by d s) (flat_map (driven_by d) ss) h in
      either (is_in (mem_driven s) m) (is_in (flat_map mem_driven ss) m) (in_either (mem_driven s) (flat_map mem_driven ss) m i) (λ q. driven_cells_by s q a.0) (λ q. driven_cells ss q a.1)

  used_cells : (g : Made) → is_in (mems_used g) m ≡ true → list_all p (signals_used d g) ≡ true → list_all p (cells_of d m) ≡ true
  used_cells g i h =
      let a = two_parts p (flat_map (read_by d) (block_expressions g.body)) (flat_map (driven_by d) (block_statements g.body) ++ (waited_in g ++ start_signals g.kind)) h in
      let b = two_parts p (flat_map (driven_by d) (block_statements g.body)) (waited_in g ++ start_signals g.kind) a.1 in
      either (is_in (flat_map mem_read (block_expressions g.body)) m) (is_in (flat_map mem_driven (block_statements g.body)) m) (in_either (flat_map mem_read (block_expressions g.body)) (flat_map mem_driven (block_statements g.body)) m i)
      (λ q. read_cells (block_expressions g.body) q a.0) (λ q. driven_cells (block_statements g.body) q b.0)

-- ---- kinds of cells under other numbers

module _ (d e : Design) (k : Chosen) (r : Draws d k e) where
  next_same : (o : Option Kind) (c : ℕ) → is_in k.signals c ≡ true → met_next e o (number_in k.signals c) ≡ met_next d o c
  next_same o c i = ap (λ s. option_and_then (λ x. option_and_then (met x) s) o) (r.signals c i)

  all_same : (cs : List ℕ) (o : Option Kind) → list_all (is_in k.signals) cs ≡ true → met_all e o (map (number_in k.signals) cs) ≡ met_all d o cs
  all_same [] o i = refl
  all_same (c ∷ cs) o i =
      let a = and_parts (is_in k.signals c) (list_all (is_in k.signals) cs) i in
      ap (λ q. met_all e q (map (number_in k.signals) cs)) (next_same o c a.0) ∙ all_same cs (met_next d o c) a.1

  cells_same : (cs : List ℕ) → list_all (is_in k.signals) cs ≡ true → cells_kind e (map (number_in k.signals) cs) ≡ cells_kind d cs
  cells_same [] i = refl
  cells_same (c ∷ cs) i =
      let a = and_parts (is_in k.signals c) (list_all (is_in k.signals) cs) i in
      ap (λ q. met_all e q (map (number_in k.signals) cs)) (r.signals c a.0) ∙ all_same cs (signal_kind d c) a.1

  kind_as : (x : Kind) → kind_fits d x ≡ true → kind_fits e x ≡ true
  kind_as kind.Bool h = refl
  kind_as kind.Int h = refl
  kind_as (kind.Bits b) h = refl
  kind_as (kind.Item n) h = ap (λ (es : List EnumDecl). nat_lt n (length es)) r.enums ∙ h

  value_as : (x : Kind) (z : ℤ) → is_value d x z ≡ true → is_value e x z ≡ true
  value_as kind.Bool z h = h
  value_as kind.Int z h = refl
  value_as (kind.Bits b) z h = h
  value_as (kind.Item n) z h = ap (λ (es : List EnumDecl). option_map_or (λ x. is_item_value x z) (slice_get es n) false) r.enums ∙ h

-- ---- the design of an instance

module _ (w : World) (h : Fits w) (top : ℕ) (x : Instance) (is : slice_get w.instances top ≡ Some x) (ns : List ℕ) where
  abbrev read : List Made
  read = reads_at w ns

  abbrev choice : Chosen
  choice = chosen w (ports_in x.arguments) read

  abbrev design : Design
  design = design_as w top x choice

  pub read_made : (i : ℕ) (g : Made) → slice_get read i ≡ Some g → MadeFits w.design g
  read_made i g q = let t = taken_from (λ n y. y) w.generators ns i g q in subst (MadeFits w.design) t.same (h.generators t.at t.item t.there)

  covered : (i : ℕ) (g : Made) → slice_get read i ≡ Some g → Covers w.design choice g
  covered i g q = covers w h g (read_made i g q) (ports_in x.arguments) read i q

  drawn_there : Draws w.design choice design
  drawn_there = designs_draw w h top x is read

  -- generators
  generators_fit : list_all (drawn_fits design) (map (drawn w top choice) read) ≡ true
  generators_fit = list_all-map (drawn_fits design) (drawn w top choice) read ∙ all_places (λ g. drawn_fits design (drawn w top choice g)) read (λ i g q. drawn_generator_fits w h top choice design drawn_there g (covered i g q) (read_made i g q))

  -- signals
  signal_is : (n : ℕ) (s : SignalDecl) → slice_get w.design.signals n ≡ Some s → signal_fits design (record s { path = signal_path w top x.arguments n }) ≡ true
  signal_is n s q =
      let f = and_parts (is_name s.path && kind_fits w.design s.kind) (is_value w.design s.kind s.init && reset_fits s) (all_at (signal_fits w.design) w.design.signals n s h.signals q) in
      let v = and_parts (is_value w.design s.kind s.init) (reset_fits s) f.1 in
      and_from _ _ (and_from _ _ (signal_named w h top x.arguments n (arguments_are w h top x is)) (kind_as w.design design choice drawn_there s.kind (and_parts (is_name s.path) (kind_fits w.design s.kind) f.0).1))
      (and_from _ _ (value_as w.design design choice drawn_there s.kind s.init v.0) v.1)

  signals_fit : list_all (signal_fits design) design.signals ≡ true
  signals_fit = all_taken (signal_drawn w top x choice) w.design.signals (signal_fits design) choice.signals (λ n s i q. signal_is n s q)

  -- memories
  cells_chosen : (m : ℕ) → is_in choice.mems m ≡ true → list_all (is_in choice.signals) (cells_of w.design m) ≡ true
  cells_chosen m i =
      let t = found_in mems_used read m (filtered (is_in (all_mems_used read)) (below (length w.design.mems)) m i) in
      used_cells w.design (is_in choice.signals) m t.item t.within (covered t.at t.item t.there).signals

  mem_is : (m : ℕ) (y : MemDecl) → is_in choice.mems m ≡ true → slice_get w.design.mems m ≡ Some y → mem_fits design (mem_drawn w top x choice m y) ≡ true
  mem_is m y i q =
      let f = and_parts (is_name y.path) (option_map_or (same_kind y.kind) (cells_kind w.design y.cells) false) (all_at (mem_fits w.design) w.design.mems m y h.mems q) in
      let c : list_all (is_in choice.signals) y.cells ≡ true = ap (λ o. list_all (is_in choice.signals) (option_map_or (λ (z : MemDecl). z.cells) o [])) (sym q) ∙ cells_chosen m i in
      and_from (is_name (list_path w top y.list)) (option_map_or (same_kind y.kind) (cells_kind design (map (number_in choice.signals) y.cells)) false) (list_named w h top y.list)
      (ap (λ o. option_map_or (same_kind y.kind) o false) (cells_same w.design design choice drawn_there y.cells c) ∙ f.1)

  mems_fit : list_all (mem_fits design) design.mems ≡ true
  mems_fit = all_taken (mem_drawn w top x choice) w.design.mems (mem_fits design) choice.mems mem_is

  -- tables
  table_is : (t : ℕ) (y : TableDecl) → slice_get w.design.tables t ≡ Some y → table_fits (table_drawn w top x choice t y) ≡ true
  table_is t y q =
      let f = and_parts (is_name y.path) (nat_lt 0 (length y.values)) (all_at table_fits w.design.tables t y h.tables q) in
      and_from (is_name (table_path w top y.values)) (nat_lt 0 (length y.values)) (table_named w h top y.values) f.1

  tables_fit : list_all table_fits design.tables ≡ true
  tables_fit = all_taken (table_drawn w top x choice) w.design.tables table_fits choice.tables (λ t y i q. table_is t y q)

  -- names and ports
  names_are : names_fit design ≡ true
  names_are = and_from (is_name x.name) (list_all is_name (listed_in w x.arguments))
      (and_parts (is_name x.name) (has_name x.called) (and_parts (is_name x.name && has_name x.called) (arguments_fit w.design x.arguments && are_of w.design x.parts) (instance_is w h top x is)).0).0 (listed_named w h x.arguments (arguments_are w h top x is))

  signals_count : length design.signals ≡ length choice.signals
  signals_count = length_signals w top x choice (all_signals_chosen w h top x is read) (used_there (length w.design.mems) (all_mems_used read)) (used_there (length w.design.tables) (all_tables_used read))

  ports_are : ports_fit design ≡ true
  ports_are =
      list_all-map (λ p. nat_lt p (length design.signals)) (number_in choice.signals) (ports_in x.arguments)
      ∙ all_in (λ n. nat_lt n (length w.design.signals)) (λ n. nat_lt (number_in choice.signals n) (length design.signals)) (ports_in x.arguments)
      (λ n i t. ap (nat_lt (number_in choice.signals n)) signals_count ∙ number_within choice.signals n (in_ports (ports_in x.arguments) (used_below (length w.design.signals) (all_signals_used w read)) n i)) (ports_there w h x.arguments (arguments_are w h top x is))

  pub design_fits : plan_fits (record { design = design; generators = map (drawn w top choice) read }) ≡ true → plan_is_well_formed (record { design = design; generators = map (drawn w top choice) read }) ≡ true
  design_fits f =
      and_from ((names_fit design && plan_fits (record { design = design; generators = map (drawn w top choice) read })) && (ports_fit design && declarations_fit design)) (list_all (drawn_fits design) (map (drawn w top choice) read))
      (and_from (names_fit design && plan_fits (record { design = design; generators = map (drawn w top choice) read })) (ports_fit design && declarations_fit design) (and_from (names_fit design) (plan_fits (record { design = design; generators = map (drawn w top choice) read })) names_are f)
      (and_from (ports_fit design) (declarations_fit design) ports_are
      (and_from (list_all enum_fits design.enums && list_all (signal_fits design) design.signals) (list_all (mem_fits design) design.mems && list_all table_fits design.tables) (and_from (list_all enum_fits design.enums) (list_all (signal_fits design) design.signals) h.enums signals_fit)
      (and_from (list_all (mem_fits design) design.mems) (list_all table_fits design.tables) mems_fit tables_fit))))
      generators_fit

-- ---- designs that aren't too large

ok_same : (p q : Plan) → ◌≡◌ {A = Result Plan Broken} (Ok p) (Ok q) → p ≡ q
ok_same p q e = cc

fitting_is : (p q : Plan) (b : Bool) → plan_fits p ≡ b → if◌then◌else◌ {A = Result Plan Broken} b (Ok p) (Err (E9SizeLimit, 0)) ≡ Ok q → (plan_fits p ≡ true) × (p ≡ q)
fitting_is p q true f e = (f, ok_same p q e)
fitting_is p q false f e = absurd (cc)

pub plan_fits_well : (w : World) (top : ℕ) (x : Instance) (p : Plan) → Fits w → slice_get w.instances top ≡ Some x → fitting (plan w top x) ≡ Ok p → plan_is_well_formed p ≡ true
plan_fits_well w top x p h is q =
    let f = fitting_is (plan w top x) p (plan_fits (plan w top x)) refl q in
    ap plan_is_well_formed (sym f.1) ∙ design_fits w h top x is (generators_of w top) f.0

module _ (w : World) (h : Fits w) where
  one_by : (top : ℕ) (x : Instance) (r : Result Plan Broken) (ps : List Plan) → slice_get w.instances top ≡ Some x → fitting (plan w top x) ≡ r → after r (λ p. Ok (p ∷ [])) ≡ Ok ps → list_all plan_is_well_formed ps ≡ true
  one_by top x (Ok p) ps is q e = let same : p ∷ [] ≡ ps = cc in ap (list_all plan_is_well_formed) (sym same) ∙ and_from (plan_is_well_formed p) true (plan_fits_well w top x p h is q) refl
  one_by top x (Err b) ps is q e = absurd (cc)

  at_by : (top : ℕ) (o : Option Instance) (ps : List Plan) → slice_get w.instances top ≡ o → plan_at w top o ≡ Ok ps → list_all plan_is_well_formed ps ≡ true
  at_by top None ps is e = let same : [] ≡ ps = cc in ap (list_all plan_is_well_formed) (sym same)
  at_by top (Some x) ps is e = one_by top x (fitting (plan w top x)) ps is refl e

  rest_by : (ps : List Plan) (r : Result (List Plan) Broken) (all : List Plan) → list_all plan_is_well_formed ps ≡ true → ((qs : List Plan) → r ≡ Ok qs → list_all plan_is_well_formed qs ≡ true) → after r (λ qs. Ok (ps ++ qs)) ≡ Ok all → list_all plan_is_well_formed all ≡ true
  rest_by ps (Ok qs) all f k e =
      let same : ps ++ qs ≡ all = cc in
      ap (list_all plan_is_well_formed) (sym same) ∙ list_all-append plan_is_well_formed ps qs ∙ and_from (list_all plan_is_well_formed ps) (list_all plan_is_well_formed qs) f (k qs refl)
  rest_by ps (Err b) all f k e = absurd (cc)

  first_by : (r s : Result (List Plan) Broken) (all : List Plan) → ((ps : List Plan) → r ≡ Ok ps → list_all plan_is_well_formed ps ≡ true) → ((qs : List Plan) → s ≡ Ok qs → list_all plan_is_well_formed qs ≡ true) →
      after r (λ ps. after s (λ qs. Ok (ps ++ qs))) ≡ Ok all → list_all plan_is_well_formed all ≡ true
  first_by (Ok ps) s all f k e = rest_by ps s all (f ps refl) k e
  first_by (Err b) s all f k e = absurd (cc)

  all_of : (ts : List ℕ) (ps : List Plan) → plans_of w ts ≡ Ok ps → list_all plan_is_well_formed ps ≡ true
  all_of [] ps e = let same : [] ≡ ps = cc in ap (list_all plan_is_well_formed) (sym same)
  all_of (t ∷ ts) ps e = first_by (plan_at w t (slice_get w.instances t)) (plans_of w ts) ps (λ qs q. at_by t (slice_get w.instances t) qs refl q) (λ qs q. all_of ts qs q) e

  last_by : (r : Result (List Plan) Broken) (f : List Plan → List Request) (ps : List Plan) (rs : List Request) → ((qs : List Plan) → r ≡ Ok qs → list_all plan_is_well_formed qs ≡ true) → after {B = List Plan × List Request} r (λ qs. Ok (qs, f qs)) ≡ Ok (ps, rs) → list_all plan_is_well_formed ps ≡ true
  last_by (Ok qs) f ps rs k e = let same : (qs, f qs) ≡ (ps, rs) = cc in ap (λ (x : List Plan × List Request). list_all plan_is_well_formed x.0) (sym same) ∙ k qs refl
  last_by (Err b) f ps rs k e = absurd (cc)

  pub all_fit : (ps : List Plan) (rs : List Request) → plans w ≡ Ok (ps, rs) → list_all plan_is_well_formed ps ≡ true
  all_fit ps rs e = last_by (plans_of w (tops w)) _ ps rs (λ qs q. all_of (tops w) qs q) e

-- ---- a design is well formed where its plan is

two_ways : (a b : Bool) → (a ≡ true → b ≡ true) → (b ≡ true → a ≡ true) → a ≡ b
two_ways true b f g = sym (f refl)
two_ways false true f g = g refl
two_ways false false f g = refl

all_equal : {X : Type 0} (p q : X → Bool) (xs : List X) → ((x : X) → p x ≡ q x) → list_all p xs ≡ list_all q xs
all_equal p q [] f = refl
all_equal p q (x ∷ xs) f = ap₂ (λ a b. a && b) (f x) (all_equal p q xs f)

abbrev bare : Design → Design
bare d = record d { generators = [] }

to_bare : (d : Design) → Grown d (bare d)
to_bare d = record { signals = refl; enums = refl; mems = λ n x q. q; tables = λ n x q. q }

from_bare : (d : Design) → Grown (bare d) d
from_bare d = record { signals = refl; enums = refl; mems = λ n x q. q; tables = λ n x q. q }

same_generator : (d : Design) (g : Generator) → generator_fits d g ≡ drawn_fits (bare d) (drawn_of g)
same_generator d g = two_ways (generator_fits d g) (generator_fits (bare d) g) (generator_later d (bare d) (to_bare d) g) (generator_later (bare d) d (from_bare d) g)

pub plan_is_design : (d : Design) → is_well_formed d ≡ plan_is_well_formed (plan_of d)
plan_is_design d =
    ap₂ (λ n b. ((names_fit d && ((nat_le (outside_count d) 4096 && nat_le n 1024) && nat_le (element_count d) 65536)) && (ports_fit d && declarations_fit d)) && b)
    (sym (length-map d.generators drawn_of)) (all_equal (generator_fits d) (λ g. drawn_fits (bare d) (drawn_of g)) d.generators (same_generator d) ∙ sym (list_all-map (drawn_fits (bare d)) drawn_of d.generators))

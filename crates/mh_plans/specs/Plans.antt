-- The flat designs, one for each instance that a request names. The signals of a design are its ports,
-- and then every other signal that a generator of it reads, drives or waits for, in order of creation.
-- Its memories and tables are those that its generators index, in the order in which they were first
-- met. After the last statement the first design that is too large is refused, at line 0.
use Rattle.std.specs.Prelude.{ℕ, ℤ, zero, suc, ◌+◌, Bool, true, false, not, ◌&&◌, List, [], ◌∷◌, ◌++◌, filter, map, length, Option, Some, None, Result, Ok, Err, if◌then◌else◌, nat_eq, nat_le, position, slice_get}
use Rattle.std.specs.List.{list_any, flat_map}
use Rattle.std.specs.Option.{option_map_or}
use Rattle.mh_text.specs.declared.code.Code.TheVariants.{E9SizeLimit}
use Rattle.mh_consts.specs.declared.kinds.Const.{Const, out-Const}
use Rattle.mh_consts.specs.declared.kinds.Const.TheOpen.{Const-F}
use Rattle.mh_design.specs.declared.design.Design.{Design}
use Rattle.mh_design.specs.declared.design.SignalDecl.{SignalDecl}
use Rattle.mh_design.specs.declared.design.MemDecl.{MemDecl}
use Rattle.mh_design.specs.declared.design.TableDecl.{TableDecl}
use Rattle.mh_design.specs.declared.design.Local.{Local}
use Rattle.mh_design.specs.declared.design.Wait.{Wait}
use Rattle.mh_design.specs.declared.design.Wait.TheVariants as wait
use Rattle.mh_design.specs.declared.design.GenKind.{GenKind}
use Rattle.mh_design.specs.declared.design.GenKind.TheVariants as generator
use Rattle.mh_design.specs.Numbering.{block_expressions, block_statements}
use Rattle.mh_design.specs.Tree.{Expression, Operation, Operator, ElementOf, TableElementOf, LeftBase, LeftSignal, LeftElement, LeftLocal, LeftSide, Whole, LeftBit, LeftSlice, Bind, Statement, Set, Block}
use Rattle.mh_design.specs.Uses.{read_by, driven_by, waited_by}
use Rattle.mh_design.specs.WellFormed.{outside_count, element_count}
use Rattle.mh_world.specs.World.{World, Bindings, Made, Broken, after}
use Rattle.mh_world.specs.declared.kinds.Asked.{Asked}
use Rattle.mh_world.specs.declared.kinds.Instance.{Instance}
use Rattle.mh_plans.specs.declared.designs.Request.{Request}
use Rattle.mh_plans.specs.Order.{is_in, with_last, generators_of}
use Rattle.mh_plans.specs.Paths.{signal_path, list_path, table_path, generator_path, ports_in, signal_step}
use Rattle.mh_plans.specs.Renumbered.{Chosen, number_in, block_in, kind_in}

-- A generator with its body as plain data.
pub record Drawn : Type 0 where
  pub path : List ℕ
  pub line : ℕ
  pub kind : GenKind
  pub locals : List Local
  pub body : Block

-- A design, with its generators apart.
pub record Plan : Type 0 where
  pub design : Design
  pub generators : List Drawn

-- ---- what a generator uses

abbrev pub waited_signals : Wait → List ℕ
waited_signals (wait.Change n) = n ∷ []
waited_signals (wait.Edge n up) = n ∷ []
waited_signals (wait.Delay n) = []

abbrev pub reset_signals : Option ℕ → List ℕ
reset_signals None = []
reset_signals (Some n) = n ∷ []

abbrev pub start_signals : GenKind → List ℕ
start_signals generator.Comb = []
start_signals (generator.Always ws) = flat_map waited_signals ws
start_signals (generator.Seq w r) = waited_signals w ++ reset_signals r
start_signals generator.Instance = []

-- the signals that its body waits for
abbrev pub waited_in : Made → List ℕ
waited_in r = flat_map waited_signals (flat_map waited_by (block_statements r.body))

abbrev pub signals_used : Design → Made → List ℕ
signals_used d r = flat_map (read_by d) (block_expressions r.body)
    ++ (flat_map (driven_by d) (block_statements r.body) ++ (waited_in r ++ start_signals r.kind))

abbrev pub mem_read : Expression → List ℕ
mem_read (Operation (ElementOf m) xs) = m ∷ []
mem_read e = []

abbrev pub base_mem : LeftBase → List ℕ
base_mem (LeftElement m i) = m ∷ []
base_mem b = []

abbrev pub left_mem : LeftSide → List ℕ
left_mem (Whole b) = base_mem b
left_mem (LeftBit b i) = base_mem b
left_mem (LeftSlice b i j) = base_mem b
left_mem (Bind v n) = []

abbrev pub mem_driven : Statement → List ℕ
mem_driven (Set l t e) = left_mem t
mem_driven s = []

abbrev pub mems_used : Made → List ℕ
mems_used r = flat_map mem_read (block_expressions r.body) ++ flat_map mem_driven (block_statements r.body)

abbrev pub table_read : Expression → List ℕ
table_read (Operation (TableElementOf t) xs) = t ∷ []
table_read e = []

abbrev pub tables_used : Made → List ℕ
tables_used r = flat_map table_read (block_expressions r.body)

-- ---- what a design has

abbrev pub below : ℕ → List ℕ
below zero = []
below (suc n) = below n ++ n ∷ []

-- those of the first n numbers that are used, in order
abbrev pub used_below : ℕ → List ℕ → List ℕ
used_below n ns = filter (is_in ns) (below n)

abbrev pub each_once : List ℕ → List ℕ → List ℕ
each_once ns [] = ns
each_once ns (m ∷ ms) = each_once (with_last ns m) ms

-- the ports, and then the others
abbrev pub signals_from : List ℕ → List ℕ → List ℕ
signals_from ports others = each_once [] ports ++ filter (λ n. not (is_in ports n)) others

abbrev pub reads_at : World → List ℕ → List Made
reads_at w gs = flat_map (λ g. option_map_or (λ x. x ∷ []) (slice_get w.generators g) []) gs

abbrev pub all_signals_used : World → List Made → List ℕ
all_signals_used w gs = flat_map (λ g. signals_used w.design g) gs

abbrev pub all_mems_used : List Made → List ℕ
all_mems_used gs = flat_map mems_used gs

abbrev pub all_tables_used : List Made → List ℕ
all_tables_used gs = flat_map tables_used gs

abbrev pub chosen : World → List ℕ → List Made → Chosen
chosen w ports gs = record {
  signals = signals_from ports (used_below (length w.design.signals) (all_signals_used w gs));
  mems = used_below (length w.design.mems) (all_mems_used gs);
  tables = used_below (length w.design.tables) (all_tables_used gs);
}

abbrev pub signals_of : World → ℕ → Bindings → List ℕ → List SignalDecl
signals_of w top bs ns = flat_map (λ n. option_map_or (λ x. record x { path = signal_path w top bs n } ∷ []) (slice_get w.design.signals n) []) ns

abbrev pub list_line : World → ℕ → ℕ
list_line w n = option_map_or (λ x. x.line) (slice_get w.marks.lists n) 0

abbrev pub mem_of : World → ℕ → Chosen → MemDecl → MemDecl
mem_of w top k x = record x { path = list_path w top x.list; cells = map (number_in k.signals) x.cells; line = list_line w x.list }

abbrev pub mems_at : World → ℕ → Chosen → List ℕ → List MemDecl
mems_at w top k ms = flat_map (λ m. option_map_or (λ x. mem_of w top k x ∷ []) (slice_get w.design.mems m) []) ms

abbrev pub tables_at : World → ℕ → List ℕ → List TableDecl
tables_at w top ts = flat_map (λ t. option_map_or (λ x. record x { path = table_path w top x.values } ∷ []) (slice_get w.design.tables t) []) ts

abbrev pub drawn : World → ℕ → Chosen → Made → Drawn
drawn w top k g = record { path = generator_path w top g; line = g.line; kind = kind_in k g.kind; locals = g.locals; body = block_in k g.body }

-- ---- the parameters whose argument is a list that holds signals

abbrev pub is_signal : Option ℕ → Bool
is_signal None = false
is_signal (Some n) = true

abbrev pub holds_signals : List Const → Bool
holds_signals vs = list_any (λ v. is_signal (signal_step (out-Const v))) vs

abbrev pub is_listed_in : List (List Const) → Const-F Const → Bool
is_listed_in ls (Const-F.List n) = option_map_or holds_signals (slice_get ls n) false
is_listed_in ls v = false

abbrev pub listed_among : List (List Const) → Bindings → List (List ℕ)
listed_among ls [] = []
listed_among ls (b ∷ bs) = if is_listed_in ls (out-Const b.1) then b.0 ∷ listed_among ls bs else listed_among ls bs

abbrev pub listed_in : World → Bindings → List (List ℕ)
listed_in w bs = listed_among w.lists bs

-- ---- a design

abbrev pub design_as : World → ℕ → Instance → Chosen → Design
design_as w top x k = record {
  name = x.name;
  ports = map (number_in k.signals) (ports_in x.arguments);
  signals = signals_of w top x.arguments k.signals;
  mems = mems_at w top k k.mems;
  tables = tables_at w top k.tables;
  enums = w.design.enums;
  generators = [];
  listed = listed_in w x.arguments;
  line = x.line;
}

abbrev pub plan_as : World → ℕ → Instance → List Made → Chosen → Plan
plan_as w top x gs k = record { design = design_as w top x k; generators = map (drawn w top k) gs }

abbrev pub plan_with : World → ℕ → Instance → List Made → Plan
plan_with w top x gs = plan_as w top x gs (chosen w (ports_in x.arguments) gs)

-- the design of an instance
abbrev pub plan : World → ℕ → Instance → Plan
plan w top x = plan_with w top x (reads_at w (generators_of w top))

-- the limits of a design
abbrev pub plan_fits : Plan → Bool
plan_fits p = (nat_le (outside_count p.design) 4096 && nat_le (length p.generators) 1024) && nat_le (element_count p.design) 65536

-- ---- all designs, and the requests

abbrev pub instances_asked : List ℕ → List Asked → List ℕ
instances_asked ns [] = ns
instances_asked ns (a ∷ qs) = instances_asked (with_last ns a.instance) qs

-- the instances that requests name, in order of first request
abbrev pub tops : World → List ℕ
tops w = instances_asked [] w.requests

abbrev pub fitting : Plan → Result Plan Broken
fitting p = if plan_fits p then Ok p else Err (E9SizeLimit, 0)

abbrev pub plan_at : World → ℕ → Option Instance → Result (List Plan) Broken
plan_at w top None = Ok []
plan_at w top (Some x) = after (fitting (plan w top x)) (λ p. Ok (p ∷ []))

abbrev pub plans_of : World → List ℕ → Result (List Plan) Broken
plans_of w [] = Ok []
plans_of w (t ∷ ts) = after (plan_at w t (slice_get w.instances t)) (λ ps. after (plans_of w ts) (λ qs. Ok (ps ++ qs)))

abbrev pub request_of : List ℕ → Asked → Request
request_of ts a = record { verb = a.verb; top = number_in ts a.instance; n = a.n; line = a.line }

-- what is made of what a source has made
abbrev pub plans : World → Result (List Plan × List Request) Broken
plans w = after (plans_of w (tops w)) (λ ps. Ok (ps, map (request_of (tops w)) w.requests))

-- The designs that every later stage takes. What is asked of them is this project's own.
use Rattle.std.specs.Prelude.{if◌then◌else◌, ℕ, zero, suc, ℤ, pos, Bool, true, false, not, ◌+◌, ◌&&◌, ◌||◌, ◌==◌, nat_lt, nat_le, List, [], ◌∷◌, length, map, slice_get, sum_by, Option, None, Some, is_some}
use Rattle.std.specs.Option.{option_map_or, option_and_then}
use Rattle.std.specs.List.{list_all, list_any}
use Rattle.std.specs.Ordering.{int_eq}
use Rattle.std.specs.Char.{is_ascii_alphanumeric}
use Rattle.mh_codes.specs.Ranges.{is_inside}
use Rattle.mh_design.specs.declared.design.Kind.{Kind}
use Rattle.mh_design.specs.declared.design.Kind.TheVariants as kind
use Rattle.mh_design.specs.declared.design.SignalDecl.{SignalDecl}
use Rattle.mh_design.specs.declared.design.MemDecl.{MemDecl}
use Rattle.mh_design.specs.declared.design.TableDecl.{TableDecl}
use Rattle.mh_design.specs.declared.design.EnumDecl.{EnumDecl}
use Rattle.mh_design.specs.declared.design.Local.{Local}
use Rattle.mh_design.specs.declared.design.Wait.{Wait}
use Rattle.mh_design.specs.declared.design.Wait.TheVariants as wait
use Rattle.mh_design.specs.declared.design.GenKind.{GenKind}
use Rattle.mh_design.specs.declared.design.GenKind.TheVariants as generator
use Rattle.mh_design.specs.declared.design.Generator.{Generator}
use Rattle.mh_design.specs.declared.design.Design.{Design}
use Rattle.mh_design.specs.Enums.{is_narrow, is_item_code}
use Rattle.mh_design.specs.Kinds.{signal_kind, item_count}
use Rattle.mh_design.specs.Statements.{is_bool_kind, wait_fits, statement_fits, block_exits_fit}
use Rattle.mh_design.specs.Depth.{block_is_within}
use Rattle.mh_design.specs.Numbering.{body_of, generator_statements}
use Rattle.mh_design.specs.Assigned.{is_assigned_first, all_below}

-- Letters, digits and `_` alone.
abbrev pub is_name : List ℕ → Bool
is_name text = list_all (λ c. is_ascii_alphanumeric c || c == 95) text

-- An enum that a kind names is there.
abbrev pub kind_fits : Design → Kind → Bool
kind_fits d kind.Bool = true
kind_fits d kind.Int = true
kind_fits d (kind.Bits b) = true
kind_fits d (kind.Item e) = nat_lt e (length d.enums)

-- No encoding is wider than 127 bits.
abbrev pub enum_fits : EnumDecl → Bool
enum_fits x = is_narrow x.encoding (length x.names)

-- z is the code of an item.
abbrev pub is_item_value : EnumDecl → ℤ → Bool
is_item_value x z = enum_fits x && is_item_code x.encoding (length x.names) z

-- z is a value of the kind.
abbrev pub is_value : Design → Kind → ℤ → Bool
is_value d kind.Bool z = is_inside (pos 0) (pos 1) z
is_value d kind.Int z = true
is_value d (kind.Bits b) z = is_inside b.lo b.top z
is_value d (kind.Item e) z = option_map_or (λ x. is_item_value x z) (slice_get d.enums e) false

-- A reset is a signal of truth values.
abbrev pub reset_fits : SignalDecl → Bool
reset_fits s = not (is_some s.reset) || is_bool_kind s.kind

abbrev pub signal_fits : Design → SignalDecl → Bool
signal_fits d s = (is_name s.path && kind_fits d s.kind) && (is_value d s.kind s.init && reset_fits s)

-- The kind as which a list's elements are read, given that of those before: numbers of different kinds are read as integers.
abbrev pub met : Kind → Kind → Option Kind
met kind.Bool kind.Bool = Some kind.Bool
met kind.Bool kind.Int = Some kind.Int
met kind.Bool (kind.Bits c) = Some kind.Int
met kind.Bool (kind.Item f) = None
met kind.Int kind.Bool = Some kind.Int
met kind.Int kind.Int = Some kind.Int
met kind.Int (kind.Bits c) = Some kind.Int
met kind.Int (kind.Item f) = None
met (kind.Bits b) kind.Bool = Some kind.Int
met (kind.Bits b) kind.Int = Some kind.Int
met (kind.Bits b) (kind.Bits c) = Some (kind.Bits b)
met (kind.Bits b) (kind.Item f) = None
met (kind.Item e) kind.Bool = None
met (kind.Item e) kind.Int = None
met (kind.Item e) (kind.Bits c) = None
met (kind.Item e) (kind.Item f) = if e == f then Some (kind.Item e) else None

abbrev pub met_next : Design → Option Kind → ℕ → Option Kind
met_next d k c = option_and_then (λ x. option_and_then (met x) (signal_kind d c)) k

abbrev pub met_all : Design → Option Kind → List ℕ → Option Kind
met_all d k [] = k
met_all d k (c ∷ cs) = met_all d (met_next d k c) cs

-- Nothing for a list without elements, for one that names no signal, and for an enum among others.
abbrev pub cells_kind : Design → List ℕ → Option Kind
cells_kind d [] = None
cells_kind d (c ∷ cs) = met_all d (signal_kind d c) cs

abbrev pub same_bool : Bool → Bool → Bool
same_bool true b = b
same_bool false b = not b

abbrev pub same_kind : Kind → Kind → Bool
same_kind kind.Bool kind.Bool = true
same_kind kind.Int kind.Int = true
same_kind (kind.Bits b) (kind.Bits c) = (int_eq b.lo c.lo && int_eq b.top c.top) && same_bool b.wraps c.wraps
same_kind (kind.Item e) (kind.Item f) = e == f
same_kind k l = false

-- A memory has elements, which are there, and its kind is theirs.
abbrev pub mem_fits : Design → MemDecl → Bool
mem_fits d m = is_name m.path && option_map_or (same_kind m.kind) (cells_kind d m.cells) false

-- A table has elements.
abbrev pub table_fits : TableDecl → Bool
table_fits t = is_name t.path && nat_lt 0 (length t.values)

abbrev pub local_fits : Design → Local → Bool
local_fits d v = is_name v.name && kind_fits d v.kind

abbrev pub is_edge : Wait → Bool
is_edge (wait.Change s) = false
is_edge (wait.Edge s up) = true
is_edge (wait.Delay n) = false

-- A reset is declared as one.
abbrev pub is_reset : Design → Option ℕ → Bool
is_reset d None = true
is_reset d (Some r) = option_map_or (λ s. is_some s.reset) (slice_get d.signals r) false

-- What a generator waits for before it runs is there; an `@always_seq` waits for an edge.
abbrev pub starts_fit : Design → GenKind → Bool
starts_fit d generator.Comb = true
starts_fit d (generator.Always ws) = list_all (wait_fits d) ws
starts_fit d (generator.Seq w r) = (is_edge w && wait_fits d w) && is_reset d r
starts_fit d generator.Instance = true

abbrev pub is_instance : GenKind → Bool
is_instance generator.Comb = false
is_instance (generator.Always ws) = false
is_instance (generator.Seq w r) = false
is_instance generator.Instance = true

-- Each statement fits by itself.
abbrev pub statements_fit : Design → Generator → Bool
statements_fit d g = list_all (statement_fits d g.locals (is_instance g.kind)) (generator_statements g)

-- Each local is read only where each path has assigned it.
abbrev pub locals_are_assigned : Generator → Bool
locals_are_assigned g = all_below (length g.locals) (is_assigned_first (body_of g))

-- A body is at most 200 levels deep.
abbrev pub body_fits : Design → Generator → Bool
body_fits d g = (block_is_within (body_of g) 200 && statements_fit d g) && (block_exits_fit false (body_of g) && locals_are_assigned g)

abbrev pub generator_fits : Design → Generator → Bool
generator_fits d g = (is_name g.path && list_all (local_fits d) g.locals) && (starts_fit d g.kind && body_fits d g)

-- A signal is an element of one of these memories.
abbrev pub is_in : List MemDecl → ℕ → Bool
is_in ms s = list_any (λ m. list_any (λ c. c == s) m.cells) ms

-- How many of the numbers below n pass a test.
abbrev pub count_below : ℕ → (ℕ → Bool) → ℕ
count_below zero test = 0
count_below (suc n) test = count_below n test + (if test n then 1 else 0)

-- How many signals are elements of no memory.
abbrev pub outside_count : Design → ℕ
outside_count d = count_below (length d.signals) (λ s. not (is_in d.mems s))

-- How many elements the memories and tables have together.
abbrev pub element_count : Design → ℕ
element_count d = sum_by (λ m. length m.cells) d.mems + sum_by (λ t. length t.values) d.tables

-- The limits of a design.
abbrev pub sizes_fit : Design → Bool
sizes_fit d = (nat_le (outside_count d) 4096 && nat_le (length d.generators) 1024) && nat_le (element_count d) 65536

abbrev pub ports_fit : Design → Bool
ports_fit d = list_all (λ p. nat_lt p (length d.signals)) d.ports

-- The name of the design and the names of its parameters that are lists.
abbrev pub names_fit : Design → Bool
names_fit d = is_name d.name && list_all is_name d.listed

-- What is declared: enums, signals, memories and tables.
abbrev pub declarations_fit : Design → Bool
declarations_fit d = (list_all enum_fits d.enums && list_all (signal_fits d) d.signals) && (list_all (mem_fits d) d.mems && list_all table_fits d.tables)

-- A design that every later stage takes.
abbrev pub is_well_formed : Design → Bool
is_well_formed d = ((names_fit d && sizes_fit d) && (ports_fit d && declarations_fit d)) && list_all (generator_fits d) d.generators

-- What reading a generator is given, and keeps: every number in a design names something, kinds fit in it, and what a scope holds is of
-- this design. These are this project's own.
use Rattle.std.specs.Prelude.{◌≡◌, ℕ, Bool, true, false, ◌&&◌, nat_le, nat_eq, List, ◌++◌, length, slice_get}
use Rattle.std.specs.List.{list_all}
use Rattle.std.specs.Option.{option_map_or}
use Rattle.mh_codes.specs.Ranges.{is_inside}
use Rattle.mh_consts.specs.declared.kinds.SignalKind.{SignalKind}
use Rattle.mh_consts.specs.declared.kinds.SignalKind.TheVariants as held
use Rattle.mh_consts.specs.declared.kinds.Const.{Const}
use Rattle.mh_consts.specs.declared.kinds.Const.TheOpen.{Const-F}
use Rattle.mh_consts.specs.declared.kinds.Const.TheFolds.{fold-Const}
use Rattle.mh_consts.specs.declared.scope.Scope.{Scope}
use Rattle.mh_design.specs.declared.design.Design.{Design}
use Rattle.mh_design.specs.declared.design.Kind.{Kind}
use Rattle.mh_design.specs.declared.design.Kind.TheVariants as kind
use Rattle.mh_design.specs.declared.design.MemDecl.{MemDecl}
use Rattle.mh_design.specs.declared.design.TableDecl.{TableDecl}
use Rattle.mh_design.specs.Kinds.{signal_kind}
use Rattle.mh_design.specs.Statements.{is_bool_kind}
use Rattle.mh_design.specs.WellFormed.{kind_fits, same_kind, mem_fits, table_fits, generator_fits}

-- ---- what is of a design

-- what the values of a signal are, as a design declares it
abbrev pub declared_kind : SignalKind → Kind
declared_kind held.Truth = kind.Bool
declared_kind held.Integer = kind.Int
declared_kind (held.Bounded b) = kind.Bits b
declared_kind (held.Item e) = kind.Item e

-- a signal is one of the design, with its kind
abbrev pub is_signal : Design → ℕ → SignalKind → Bool
is_signal d n k = option_map_or (same_kind (declared_kind k)) (signal_kind d n) false

-- each signal that a value holds is one of the design, and an edge is that of a signal of truth values; a bounded number lies in its
-- bounds, and a delay is 1 to 2^31 - 1
abbrev pub value_step : Design → Const-F Bool → Bool
value_step d (Const-F.Signal n k) = is_signal d n k
value_step d (Const-F.Edge n rising) = option_map_or is_bool_kind (signal_kind d n) false
value_step d (Const-F.Bounded v b) = is_inside b.lo b.top v
value_step d (Const-F.Delay n) = nat_le 1 n && nat_le n 2147483647
value_step d (Const-F.Tuple items) = list_all (λ b. b) items
value_step d v = true

unfoldable pub is_of : Design → Const → Bool
is_of d = fold-Const Bool (value_step d)

-- ---- a scope and a design

-- a memory has as many elements as its list, which is there
abbrev pub has_its_cells : Scope → MemDecl → Bool
has_its_cells s m = option_map_or (λ vs. nat_eq (length m.cells) (length vs)) (slice_get s.lists m.list) false

pub record Holds (s : Scope) (d : Design) : Type 0 where
  -- what the scope holds is of the design
  pub names : list_all (λ entry. is_of d entry.1) s.names ≡ true
  pub lists : list_all (list_all (is_of d)) s.lists ≡ true
  -- kinds fit, and numbers name something
  pub signals : list_all (λ x. kind_fits d x.kind) d.signals ≡ true
  pub mems : list_all (mem_fits d) d.mems ≡ true
  pub tables : list_all table_fits d.tables ≡ true
  pub generators : list_all (generator_fits d) d.generators ≡ true
  -- the memories are those of the scope's lists
  pub cells : list_all (has_its_cells s) d.mems ≡ true

-- ---- what comes after

-- all that was there is there in its place, and memories and tables may have come after the others
pub record Extends (d e : Design) : Type 0 where
  pub mems : List MemDecl
  pub tables : List TableDecl
  pub same : e ≡ record d { mems = d.mems ++ mems; tables = d.tables ++ tables }

-- A world that fits: every number in it names something, kinds fit, values are of the design, what is
-- called by a name has a name, and each generator that was read is what a design asks of one. These are
-- this project's own.
use Rattle.std.specs.Prelude.{◌≡◌, ℕ, Bool, true, false, ◌&&◌, nat_eq, List, [], ◌++◌, length, Option, Some, None, slice_get}
use Rattle.std.specs.List.{list_all}
use Rattle.std.specs.Option.{option_map_or}
use Rattle.mh_consts.specs.declared.kinds.Const.{Const}
use Rattle.mh_design.specs.declared.design.Design.{Design}
use Rattle.mh_design.specs.declared.design.EnumDecl.{EnumDecl}
use Rattle.mh_design.specs.declared.design.MemDecl.{MemDecl}
use Rattle.mh_design.specs.declared.design.SignalDecl.{SignalDecl}
use Rattle.mh_design.specs.declared.design.TableDecl.{TableDecl}
use Rattle.mh_design.specs.Assigned.{is_assigned_first, all_below}
use Rattle.mh_design.specs.Depth.{block_is_within}
use Rattle.mh_design.specs.Numbering.{block_statements}
use Rattle.mh_design.specs.Statements.{statement_fits, block_exits_fit}
use Rattle.mh_design.specs.WellFormed.{is_name, is_instance, enum_fits, signal_fits, mem_fits, table_fits, local_fits, starts_fit}
use Rattle.mh_lower_laws.specs.Holds.{is_of}
use Rattle.mh_world.specs.declared.kinds.Frame.{Frame}
use Rattle.mh_world.specs.declared.kinds.Instance.{Instance}
use Rattle.mh_world.specs.declared.kinds.Label.{Label}
use Rattle.mh_world.specs.declared.kinds.ListNote.{ListNote}
use Rattle.mh_world.specs.World.{World, Function, Made, Bindings}
use Rattle.mh_world.specs.Lists.{is_fixed}
use Rattle.mh_world_laws.specs.Sources.{IsSource}

-- ---- values and names

abbrev pub are_of : Design → List Const → Bool
are_of d vs = list_all (is_of d) vs

abbrev pub is_of_if_any : Design → Option Const → Bool
is_of_if_any d None = true
is_of_if_any d (Some v) = is_of d v

-- the values of names
abbrev pub hold : Design → Bindings → Bool
hold d bs = list_all (λ b. is_of d b.1) bs

-- names, each with a value
abbrev pub arguments_fit : Design → Bindings → Bool
arguments_fit d bs = list_all (λ b. is_name b.0 && is_of d b.1) bs

abbrev pub has_name : Option (List ℕ) → Bool
has_name None = true
has_name (Some t) = is_name t

abbrev pub label_fits : Option Label → Bool
label_fits None = true
label_fits (Some p) = is_name p.words

abbrev pub frame_fits : Design → Frame → Bool
frame_fits d f = hold d f.names && hold d f.inner

abbrev pub instance_fits : Design → Instance → Bool
instance_fits d x = (is_name x.name && has_name x.called) && (arguments_fit d x.arguments && are_of d x.parts)

abbrev pub note_fits : ListNote → Bool
note_fits x = label_fits x.label

abbrev pub tuple_fits : Design → List Const × Label → Bool
tuple_fits d t = are_of d t.0 && is_name t.1.words

abbrev pub parameter_fits : Design → List ℕ × Option Const → Bool
parameter_fits d p = is_name p.0 && is_of_if_any d p.1

-- ---- what comes after: everything that the design had is there in its place

pub record Later (d e : Design) : Type 0 where
  pub signals : List SignalDecl
  pub enums : List EnumDecl
  pub mems : List MemDecl
  pub tables : List TableDecl
  pub same : e ≡ record d { signals = d.signals ++ signals; enums = d.enums ++ enums; mems = d.mems ++ mems; tables = d.tables ++ tables }

-- ---- functions, generators and memories

pub record FunctionFits (d : Design) (f : Function) : Type 0 where
  pub name : is_name f.name ≡ true
  pub params : list_all (parameter_fits d) f.params ≡ true
  pub body : IsSource f.body

-- all that a design asks of a generator
abbrev pub made_fits : Design → Made → Bool
made_fits d g = (is_name g.name && list_all (local_fits d) g.locals)
    && (starts_fit d g.kind && ((block_is_within g.body 200 && list_all (statement_fits d g.locals (is_instance g.kind)) (block_statements g.body))
    && (block_exits_fit false g.body && all_below (length g.locals) (is_assigned_first g.body))))

-- a generator is all that a design asks of one, of which this design has all in its place
pub record MadeFits (d : Design) (g : Made) : Type 0 where
  pub before : Design
  pub later : Later before d
  pub fits : made_fits before g ≡ true

-- a memory has as many elements as its list, which isn't changed any more
abbrev pub is_kept : World → MemDecl → Bool
is_kept w m = is_fixed w m.list && option_map_or (λ vs. nat_eq (length m.cells) (length vs)) (slice_get w.lists m.list) false

-- ---- a world

pub record Fits (w : World) : Type 0 where
  -- values
  pub frames : list_all (frame_fits w.design) w.frames ≡ true
  pub lists : list_all (are_of w.design) w.lists ≡ true
  pub tuples : list_all (tuple_fits w.design) w.tuples ≡ true
  pub instances : list_all (instance_fits w.design) w.instances ≡ true
  pub functions : (n : ℕ) (f : Function) → slice_get w.functions n ≡ Some f → FunctionFits w.design f
  -- names
  pub labels : list_all label_fits w.marks.signals ≡ true
  pub notes : list_all note_fits w.marks.lists ≡ true
  -- each signal and each list has a mark
  pub all_signals : length w.marks.signals ≡ length w.design.signals
  pub all_lists : length w.marks.lists ≡ length w.lists
  -- declarations
  pub enums : list_all enum_fits w.design.enums ≡ true
  pub signals : list_all (signal_fits w.design) w.design.signals ≡ true
  pub mems : list_all (mem_fits w.design) w.design.mems ≡ true
  pub tables : list_all table_fits w.design.tables ≡ true
  pub cells : list_all (is_kept w) w.design.mems ≡ true
  -- generators, which are no part of the growing design
  pub none : w.design.generators ≡ []
  pub generators : (n : ℕ) (g : Made) → slice_get w.generators n ≡ Some g → MadeFits w.design g

-- A plan as what is well formed, and what a design that numbers its own signals, memories and tables has
-- in common with that of the elaboration. These are this project's own.
use Rattle.std.specs.Prelude.{◌≡◌, ℕ, Bool, true, false, ◌&&◌, nat_lt, List, length, Some, slice_get}
use Rattle.std.specs.List.{list_all, flat_map}
use Rattle.mh_design.specs.declared.design.Design.{Design}
use Rattle.mh_design.specs.Assigned.{is_assigned_first, all_below}
use Rattle.mh_design.specs.Constants.{cell_count, table_length}
use Rattle.mh_design.specs.Depth.{block_is_within}
use Rattle.mh_design.specs.Kinds.{signal_kind, mem_kind}
use Rattle.mh_design.specs.Numbering.{block_expressions, block_statements}
use Rattle.mh_design.specs.Statements.{statement_fits, block_exits_fit}
use Rattle.mh_design.specs.Tree.{Block}
use Rattle.mh_design.specs.Uses.{read_by, driven_by}
use Rattle.mh_design.specs.WellFormed.{is_name, is_instance, is_reset, local_fits, starts_fit, names_fit, ports_fit, declarations_fit}
use Rattle.mh_world.specs.World.{Made}
use Rattle.mh_plans.specs.Order.{is_in}
use Rattle.mh_plans.specs.Plans.{Drawn, Plan, plan_fits, signals_used, mems_used, tables_used}
use Rattle.mh_plans.specs.Renumbered.{Chosen, number_in}

-- all that a design asks of a generator
abbrev pub drawn_fits : Design → Drawn → Bool
drawn_fits d g = (is_name g.path && list_all (local_fits d) g.locals)
    && (starts_fit d g.kind && ((block_is_within g.body 200 && list_all (statement_fits d g.locals (is_instance g.kind)) (block_statements g.body))
    && (block_exits_fit false g.body && all_below (length g.locals) (is_assigned_first g.body))))

-- a plan that every later stage takes as a design
abbrev pub plan_is_well_formed : Plan → Bool
plan_is_well_formed p = ((names_fit p.design && plan_fits p) && (ports_fit p.design && declarations_fit p.design)) && list_all (drawn_fits p.design) p.generators

-- the design e has what was chosen of d, under its own numbers
pub record Draws (d : Design) (k : Chosen) (e : Design) : Type 0 where
  pub signals : (n : ℕ) → is_in k.signals n ≡ true → signal_kind e (number_in k.signals n) ≡ signal_kind d n
  pub resets : (n : ℕ) → is_in k.signals n ≡ true → is_reset e (Some (number_in k.signals n)) ≡ is_reset d (Some n)
  pub mems : (m : ℕ) → is_in k.mems m ≡ true → mem_kind e (number_in k.mems m) ≡ mem_kind d m
  pub cells : (m : ℕ) → is_in k.mems m ≡ true → cell_count e (number_in k.mems m) ≡ cell_count d m
  pub tables : (t : ℕ) → is_in k.tables t ≡ true → table_length e (number_in k.tables t) ≡ table_length d t
  pub tables_there : (t : ℕ) → is_in k.tables t ≡ true → nat_lt (number_in k.tables t) (length e.tables) ≡ true
  pub enums : e.enums ≡ d.enums

-- what a generator uses was chosen
pub record Covers (d : Design) (k : Chosen) (g : Made) : Type 0 where
  pub signals : list_all (is_in k.signals) (signals_used d g) ≡ true
  pub mems : list_all (is_in k.mems) (mems_used g) ≡ true
  pub tables : list_all (is_in k.tables) (tables_used g) ≡ true

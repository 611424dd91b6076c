-- A world that fits still does where a part of it is changed to one that fits.
use Rattle.std.proofs.Common.{◌≡◌, ℕ, Bool, true, false, ◌&&◌, List, [], ◌∷◌, ◌++◌, length, Option, Some, None, refl, ap, sym, ◌∙◌, slice_get}
use Rattle.std.specs.Prelude.{nat_eq}
use Rattle.std.specs.List.{list_all}
use Rattle.std.specs.Option.{option_map_or}
use Rattle.mh_consts.specs.declared.kinds.Const.{Const}
use Rattle.mh_design.specs.declared.design.Design.{Design}
use Rattle.mh_design.specs.declared.design.MemDecl.{MemDecl}
use Rattle.mh_design.specs.WellFormed.{enum_fits, signal_fits, mem_fits, table_fits}
use Rattle.mh_lower_laws.proofs.Basics.{all_then}
use Rattle.mh_world.specs.declared.kinds.Asked.{Asked}
use Rattle.mh_world.specs.declared.kinds.Frame.{Frame}
use Rattle.mh_world.specs.declared.kinds.Instance.{Instance}
use Rattle.mh_world.specs.declared.kinds.Label.{Label}
use Rattle.mh_world.specs.declared.kinds.ListNote.{ListNote}
use Rattle.mh_world.specs.declared.kinds.Marks.{Marks}
use Rattle.mh_world.specs.World.{World, Function, Made}
use Rattle.mh_world.specs.Lists.{is_fixed}
use Rattle.mh_world_laws.specs.Fits.{Fits, Later, FunctionFits, MadeFits, are_of, frame_fits, tuple_fits, instance_fits, label_fits, note_fits, is_kept}
use Rattle.mh_world_laws.proofs.Lists.{both_then}
use Rattle.mh_world_laws.proofs.Designs.{are_stay, frame_stays, tuple_stays, instance_stays, function_stays, made_stays}
use Rattle.mh_world_laws.proofs.Marking.{Marked}

module _ (w : World) (h : Fits w) where
  pub with_frames : (fs : List Frame) (c : ℕ) → list_all (frame_fits w.design) fs ≡ true → Fits (record w { frames = fs; current = c })
  with_frames fs c q = record {
    frames = q;
    lists = h.lists;
    tuples = h.tuples;
    instances = h.instances;
    functions = h.functions;
    labels = h.labels;
    notes = h.notes;
    all_signals = h.all_signals;
    all_lists = h.all_lists;
    enums = h.enums;
    signals = h.signals;
    mems = h.mems;
    tables = h.tables;
    cells = h.cells;
    none = h.none;
    generators = h.generators;
  }

  pub with_tuples : (ts : List (List Const × Label)) → list_all (tuple_fits w.design) ts ≡ true → Fits (record w { tuples = ts })
  with_tuples ts q = record {
    frames = h.frames;
    lists = h.lists;
    tuples = q;
    instances = h.instances;
    functions = h.functions;
    labels = h.labels;
    notes = h.notes;
    all_signals = h.all_signals;
    all_lists = h.all_lists;
    enums = h.enums;
    signals = h.signals;
    mems = h.mems;
    tables = h.tables;
    cells = h.cells;
    none = h.none;
    generators = h.generators;
  }

  pub with_instances : (xs : List Instance) → list_all (instance_fits w.design) xs ≡ true → Fits (record w { instances = xs })
  with_instances xs q = record {
    frames = h.frames;
    lists = h.lists;
    tuples = h.tuples;
    instances = q;
    functions = h.functions;
    labels = h.labels;
    notes = h.notes;
    all_signals = h.all_signals;
    all_lists = h.all_lists;
    enums = h.enums;
    signals = h.signals;
    mems = h.mems;
    tables = h.tables;
    cells = h.cells;
    none = h.none;
    generators = h.generators;
  }

  pub with_functions : (fs : List Function) (ks : List Bool) → ((n : ℕ) (f : Function) → slice_get fs n ≡ Some f → FunctionFits w.design f) → Fits (record w { functions = fs; known = ks })
  with_functions fs ks q = record {
    frames = h.frames;
    lists = h.lists;
    tuples = h.tuples;
    instances = h.instances;
    functions = q;
    labels = h.labels;
    notes = h.notes;
    all_signals = h.all_signals;
    all_lists = h.all_lists;
    enums = h.enums;
    signals = h.signals;
    mems = h.mems;
    tables = h.tables;
    cells = h.cells;
    none = h.none;
    generators = h.generators;
  }

  -- what nothing is asked of
  pub with_plain : (ks : List Bool) (qs : List Asked) (n : ℕ) → Fits (record w { known = ks; requests = qs; left = n })
  with_plain ks qs n = record {
    frames = h.frames;
    lists = h.lists;
    tuples = h.tuples;
    instances = h.instances;
    functions = h.functions;
    labels = h.labels;
    notes = h.notes;
    all_signals = h.all_signals;
    all_lists = h.all_lists;
    enums = h.enums;
    signals = h.signals;
    mems = h.mems;
    tables = h.tables;
    cells = h.cells;
    none = h.none;
    generators = h.generators;
  }

  pub with_generators : (gs : List Made) → ((n : ℕ) (g : Made) → slice_get gs n ≡ Some g → MadeFits w.design g) → Fits (record w { generators = gs })
  with_generators gs q = record {
    frames = h.frames;
    lists = h.lists;
    tuples = h.tuples;
    instances = h.instances;
    functions = h.functions;
    labels = h.labels;
    notes = h.notes;
    all_signals = h.all_signals;
    all_lists = h.all_lists;
    enums = h.enums;
    signals = h.signals;
    mems = h.mems;
    tables = h.tables;
    cells = h.cells;
    none = h.none;
    generators = q;
  }

  pub with_marks : (k : Marks) → Marked w.marks k → Fits (record w { marks = k })
  with_marks k g = record {
    frames = h.frames;
    lists = h.lists;
    tuples = h.tuples;
    instances = h.instances;
    functions = h.functions;
    labels = g.signals h.labels;
    notes = g.lists h.notes;
    all_signals = g.count_signals ∙ h.all_signals;
    all_lists = g.count_lists ∙ h.all_lists;
    enums = h.enums;
    signals = h.signals;
    mems = h.mems;
    tables = h.tables;
    cells = all_then (is_kept w) (is_kept (record w { marks = k })) w.design.mems
        (λ m q. both_then (is_fixed w m.list) _ (is_fixed (record w { marks = k }) m.list) _ (g.fixed m.list) (λ r. r) q) h.cells;
    none = h.none;
    generators = h.generators;
  }

  -- other lists, of which those of memories are the same
  pub with_lists : (ls : List (List Const)) (k : List ListNote) → list_all (are_of w.design) ls ≡ true → list_all note_fits k ≡ true → length k ≡ length ls →
      ((m : MemDecl) → is_kept w m ≡ true → is_kept (record w { lists = ls; marks = record w.marks { lists = k } }) m ≡ true) → Fits (record w { lists = ls; marks = record w.marks { lists = k } })
  with_lists ls k p q r s = record {
    frames = h.frames;
    lists = p;
    tuples = h.tuples;
    instances = h.instances;
    functions = h.functions;
    labels = h.labels;
    notes = q;
    all_signals = h.all_signals;
    all_lists = r;
    enums = h.enums;
    signals = h.signals;
    mems = h.mems;
    tables = h.tables;
    cells = all_then (is_kept w) (is_kept (record w { lists = ls; marks = record w.marks { lists = k } })) w.design.mems s h.cells;
    none = h.none;
    generators = h.generators;
  }

-- what a design asks of its own declarations
pub record Declares (w : World) : Type 0 where
  pub all_signals : length w.marks.signals ≡ length w.design.signals
  pub enums : list_all enum_fits w.design.enums ≡ true
  pub signals : list_all (signal_fits w.design) w.design.signals ≡ true
  pub mems : list_all (mem_fits w.design) w.design.mems ≡ true
  pub tables : list_all table_fits w.design.tables ≡ true
  pub cells : list_all (is_kept w) w.design.mems ≡ true
  pub none : w.design.generators ≡ []

-- a later design
pub with_design : (w : World) (h : Fits w) (d : Design) (k : List (Option Label)) → Later w.design d → list_all label_fits k ≡ true → Declares (record w { design = d; marks = record w.marks { signals = k } }) →
    Fits (record w { design = d; marks = record w.marks { signals = k } })
with_design w h d k l q x = record {
  frames = all_then (frame_fits w.design) (frame_fits d) w.frames (frame_stays w.design d l) h.frames;
  lists = all_then (are_of w.design) (are_of d) w.lists (are_stay w.design d l) h.lists;
  tuples = all_then (tuple_fits w.design) (tuple_fits d) w.tuples (tuple_stays w.design d l) h.tuples;
  instances = all_then (instance_fits w.design) (instance_fits d) w.instances (instance_stays w.design d l) h.instances;
  functions = λ n f e. function_stays w.design d l f (h.functions n f e);
  labels = q;
  notes = h.notes;
  all_signals = x.all_signals;
  all_lists = h.all_lists;
  enums = x.enums;
  signals = x.signals;
  mems = x.mems;
  tables = x.tables;
  cells = x.cells;
  none = x.none;
  generators = λ n g e. made_stays w.design d l g (h.generators n g e);
}

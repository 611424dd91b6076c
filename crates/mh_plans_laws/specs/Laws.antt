-- The designs of a world that fits are well formed.
use Rattle.std.specs.Prelude.{◌≡◌, ℕ, Bool, true, List, Some, Ok, slice_get, map}
use Rattle.std.specs.List.{list_all}
use Rattle.mh_design.specs.declared.design.Design.{Design}
use Rattle.mh_design.specs.WellFormed.{is_name, is_well_formed}
use Rattle.mh_world.specs.declared.kinds.Instance.{Instance}
use Rattle.mh_world.specs.declared.kinds.Label.{Label}
use Rattle.mh_world.specs.World.{World, Made}
use Rattle.mh_plans.specs.declared.designs.Request.{Request}
use Rattle.mh_plans.specs.Order.{generators_of}
use Rattle.mh_plans.specs.Paths.{path, generator_path, ports_in}
use Rattle.mh_plans.specs.Planned.{plan_of}
use Rattle.mh_plans.specs.Plans.{Plan, plan, plan_with, plans, fitting, design_as, drawn, chosen, reads_at}
use Rattle.mh_plans.specs.Renumbered.{Chosen}
use Rattle.mh_world_laws.specs.Fits.{Fits, MadeFits}
use Rattle.mh_plans_laws.specs.Draws.{Draws, Covers, drawn_fits, plan_is_well_formed}

-- a path is a name
abbrev pub PathsAreNames : Type 0
PathsAreNames = (w : World) (top : ℕ) (p : Label) → Fits w → is_name p.words ≡ true → is_name (path w top p) ≡ true

abbrev pub GeneratorPathsAreNames : Type 0
GeneratorPathsAreNames = (w : World) (top : ℕ) (g : Made) → Fits w → is_name g.name ≡ true → is_name (generator_path w top g) ≡ true

-- what a design has of a world is what was chosen
abbrev pub DesignsDraw : Type 0
DesignsDraw = (w : World) (top : ℕ) (x : Instance) (gs : List ℕ) → Fits w → slice_get w.instances top ≡ Some x →
    let k = chosen w (ports_in x.arguments) (reads_at w gs) in Draws w.design k (design_as w top x k)

-- each generator of a design uses what was chosen alone
abbrev pub ChosenCovers : Type 0
ChosenCovers = (w : World) (top : ℕ) (x : Instance) (gs : List ℕ) (n : ℕ) (g : Made) → Fits w → slice_get w.instances top ≡ Some x → slice_get (reads_at w gs) n ≡ Some g →
    Covers w.design (chosen w (ports_in x.arguments) (reads_at w gs)) g

-- a generator fits under the numbers of the design
abbrev pub GeneratorsFit : Type 0
GeneratorsFit = (w : World) (top : ℕ) (k : Chosen) (e : Design) (g : Made) → Fits w → Draws w.design k e → Covers w.design k g → MadeFits w.design g → drawn_fits e (drawn w top k g) ≡ true

-- the design of an instance is well formed, unless it is too large
abbrev pub PlansFit : Type 0
PlansFit = (w : World) (top : ℕ) (x : Instance) (p : Plan) → Fits w → slice_get w.instances top ≡ Some x → fitting (plan w top x) ≡ Ok p → plan_is_well_formed p ≡ true

-- all of a source are
abbrev pub AllFit : Type 0
AllFit = (w : World) (ps : List Plan) (rs : List Request) → Fits w → plans w ≡ Ok (ps, rs) → list_all plan_is_well_formed ps ≡ true

-- a design is well formed exactly where its plan is
abbrev pub PlansAreDesigns : Type 0
PlansAreDesigns = (d : Design) → is_well_formed d ≡ plan_is_well_formed (plan_of d)

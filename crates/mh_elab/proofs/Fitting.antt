-- Where the machine stands in a world that fits: what waits holds values of the design and statements of
-- the source.
use Rattle.std.proofs.Common.{◌≡◌, ℕ, Bool, true, List, [], ◌∷◌, Some, Result, Ok, Err}
use Rattle.std.specs.List.{list_all}
use Rattle.mh_consts.specs.declared.kinds.Const.{Const}
use Rattle.mh_consts.specs.Expression.{Ex}
use Rattle.mh_consts.specs.Names.{lookup}
use Rattle.mh_design.specs.declared.design.Design.{Design}
use Rattle.mh_design.specs.WellFormed.{is_name}
use Rattle.mh_lower_laws.specs.Holds.{is_of}
use Rattle.mh_world.specs.Statements.{Fn, Func, Block, Parameter}
use Rattle.mh_world.specs.World.{World, Broken}
use Rattle.mh_world_laws.specs.Sources.{IsSource, IsDefinition, ChoicesParts, target_fits}
use Rattle.mh_world_laws.specs.Fits.{Fits, are_of, arguments_fit}
use Rattle.mh_world_laws.specs.Laws.{Keeps, Anything, FlowFits, BeginsFits, BindingsKeep, BlocksHaveParts, BuiltinsKeep, CalleesKeep, CountedKeeps, DefinitionsHaveParts, EntersKeep, FunctionsKeep, GetItemsKeep, ItemsKeep, ItemsOfKeep, LaterOn, LaterSelf, LeavesKeep, MarksKeep, NamesKeep, NewListsKeep, OperatedKeep, OperationsInKeep, OperationsKeep, PlainAreOf, PopsKeep, PushesKeep, ReturnsKeep, SetItemsKeep, ValuesStay}
use Rattle.mh_elab.specs.Definitions.{new_generator}
use Rattle.mh_elab.specs.Elaboration.{importable}
use Rattle.mh_elab.specs.Machine.{Job, Operates, Puts, Reads, Defines, Frame, Parts, AndRight, OrRight, AsTruth, Collecting, Collects, Drops, Assigns, Updates, Returning, Chooses, Begins, Tests, Turns, Goes_over, Rest, Back, Config, Eval, Give, Exec, Ends, Final, Stuck}

abbrev pub JobFits : Design → Job → Type 0
JobFits d (Operates e) = Unit {0}
JobFits d (Puts t v) = (target_fits t ≡ true) × (is_of d v ≡ true)
JobFits d (Reads op t e) = target_fits t ≡ true
JobFits d (Defines m f) = IsDefinition f

abbrev pub FrameFits : Design → Frame → Type 0
FrameFits d (Parts j parts done) = JobFits d j × (are_of d done ≡ true)
FrameFits d (AndRight b) = Unit {0}
FrameFits d (OrRight b) = Unit {0}
FrameFits d AsTruth = Unit {0}
FrameFits d (Collecting item t) = Unit {0}
FrameFits d (Collects n item t v at done) = (is_of d v ≡ true) × (are_of d done ≡ true)
FrameFits d Drops = Unit {0}
FrameFits d (Assigns t) = target_fits t ≡ true
FrameFits d (Updates op t us a) = (target_fits t ≡ true) × ((are_of d us ≡ true) × (is_of d a ≡ true))
FrameFits d Returning = Unit {0}
FrameFits d (Chooses loop b cs other) = IsSource b × (ChoicesParts cs × IsSource other)
FrameFits d (Begins t b) = (is_name t ≡ true) × IsSource b
FrameFits d (Tests n l e b) = IsSource b
FrameFits d (Turns n l e b) = IsSource b
FrameFits d (Goes_over n l t v at b) = (is_name t ≡ true) × ((is_of d v ≡ true) × IsSource b)
FrameFits d (Rest loop b) = IsSource b
FrameFits d (Back def caller l most) = Unit {0}

abbrev pub FramesFit : Design → List Frame → Type 0
FramesFit d [] = Unit {0}
FramesFit d (f ∷ k) = FrameFits d f × FramesFit d k

-- a world that fits, and what waits in it
pub record Stands (k : List Frame) (w : World) : Type 0 where
  pub fits : Fits w
  pub frames : FramesFit w.design k

abbrev pub ConfigFits : Config → Type 0
ConfigFits (Eval l n e k w) = Stands k w
ConfigFits (Give l n v k w) = Stands k w × (is_of w.design v ≡ true)
ConfigFits (Exec n loop b k w) = Stands k w × IsSource b
ConfigFits (Ends n f k w) = Stands k w × FlowFits w.design f
ConfigFits (Final (Ok w)) = Fits w
ConfigFits (Final (Err b)) = Unit {0}
ConfigFits Stuck = Unit {0}

-- reading a generator keeps a world that fits
abbrev pub GeneratorsKeep : Type 0
GeneratorsKeep = (l : ℕ) (t : List ℕ) (ms : List Ex) (ps : List Parameter) (b : Block) → IsDefinition (Func l t ms ps b) → Keeps Anything (new_generator l t ms ps b)

-- the names of MyHDL
pub record ImportsFit : Type 0 where
  pub all : (d : Design) → arguments_fit d importable ≡ true
  pub one : (d : Design) (t : List ℕ) (v : Const) → lookup importable t ≡ Some v → is_of d v ≡ true

-- all that is known of what is done in a world
pub record Laws : Type 0 where
  pub generators : GeneratorsKeep
  pub blocks : BlocksHaveParts
  pub definitions : DefinitionsHaveParts
  pub values : ValuesStay
  pub plain : PlainAreOf
  pub imports : ImportsFit
  pub same : LaterSelf
  pub on : LaterOn
  pub begins : BeginsFits
  pub counted : CountedKeeps
  pub names : NamesKeep
  pub bindings : BindingsKeep
  pub pushes : PushesKeep
  pub pops : PopsKeep
  pub new_lists : NewListsKeep
  pub set_items : SetItemsKeep
  pub get_items : GetItemsKeep
  pub items : ItemsKeep
  pub all_items : ItemsOfKeep
  pub operated : OperatedKeep
  pub operations : OperationsKeep
  pub operations_in : OperationsInKeep
  pub builtins : BuiltinsKeep
  pub marks : MarksKeep
  pub functions : FunctionsKeep
  pub callees : CalleesKeep
  pub enters : EntersKeep
  pub returns : ReturnsKeep
  pub leaves : LeavesKeep

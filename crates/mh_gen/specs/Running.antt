-- The stores in which the body of a generator runs: this project's own.
use Rattle.std.specs.Prelude.{◌≡◌, List, [], ◌∷◌, length}
use Rattle.mh_design.specs.declared.design.Design.{Design}
use Rattle.mh_design.specs.declared.design.Generator.{Generator}
use Rattle.mh_design.specs.Assignments.{IsEven, FitsExpression}
use Rattle.mh_design.specs.Tree.{Printed, Words, Number}
use Rattle.mh_design.specs.Values.{Store}

-- The store has the design, each signal of it with its limits and its pending value, and each local of the generator.
pub record RunsIn (d : Design) (g : Generator) (s : Store) : Type 0 where
  pub design : s.design ≡ d
  pub values : length s.signals.values ≡ length d.signals
  pub locals : length s.locals ≡ length g.locals
  pub even : IsEven s.signals

-- What is printed names what is there.
abbrev pub FitsPrinted : Printed → Store → Type 0
FitsPrinted (Words t) s = Unit {0}
FitsPrinted (Number e) s = FitsExpression e s

abbrev pub AllFit : List Printed → Store → Type 0
AllFit [] s = Unit {0}
AllFit (p ∷ ps) s = FitsPrinted p s × AllFit ps s

-- The paths through a generator's body, as far as its locals go. A `for` with constant ends is its turns in a row; any other loop
-- may have no turn. The conditions of an `if` have their values in order, up to the first that holds. This is this project's own.
use Rattle.std.specs.Prelude.{ℕ, zero, suc, ℤ, pos, Bool, true, false, ◌-◌, ◌/◌, ◌-ℤ◌, nat_abs, int_lt, ◌==◌, List, [], ◌∷◌, ◌++◌, map, Option, None, Some, if◌then◌else◌}
use Rattle.std.specs.List.{flat_map}
use Rattle.mh_paths.specs.Paths.{Does, Chooses, Counts, Loops, Breaks, Continues, Stops, Turns, MayReadFirst}
use Rattle.mh_paths.specs.Paths.{Statement as Way, Block as Ways, End as NoWay, Then as First}
use Rattle.mh_paths.specs.Walk.{alike}
use Rattle.mh_design.specs.declared.design.Generator.{Generator}
use Rattle.mh_design.specs.Assigned.{reads_local, rises}
use Rattle.mh_design.specs.Constants.{constant_of}
use Rattle.mh_design.specs.Numbering.{left_indices, printed_numbers, body_of}
use Rattle.mh_design.specs.Tree.{Expression, LeftBase, LeftSignal, LeftElement, LeftLocal, LeftSide, Whole, LeftBit, LeftSlice, Bind, Printed, Statement, Set, If, While, For, Break, Continue, Yield, Print, Assert, Stop, Block, End, Then, Arm, ArmOf, Arms, NoArm, MoreArms}

-- What happens on a path: an expression has its value, a local is changed that has to be there, or a local is made.
pub data Event : Type 0 where
  Values : Expression → Event
  Changes : ℕ → Event
  Makes : ℕ → Event

-- A local is read where an expression with it has its value, and where it is changed. It is assigned where it is made.
abbrev pub reads : ℕ → Event → Bool
reads v (Values e) = reads_local v e
reads v (Changes u) = u == v
reads v (Makes u) = false

abbrev pub makes : ℕ → Event → Bool
makes v (Values e) = false
makes v (Changes u) = false
makes v (Makes u) = u == v

-- What an assignment does to its target.
abbrev pub base_events : LeftBase → List Event
base_events (LeftSignal s) = []
base_events (LeftElement m i) = []
base_events (LeftLocal v) = Changes v ∷ []

abbrev pub left_events : LeftSide → List Event
left_events (Whole b) = base_events b
left_events (LeftBit b i) = base_events b
left_events (LeftSlice b i j) = base_events b
left_events (Bind v k) = Makes v ∷ []

-- Events in a row, and one block after another.
abbrev pub all_of : List Event → Ways Event
all_of [] = NoWay
all_of (event ∷ events) = First (Does event) (all_of events)

abbrev pub followed_by : Ways Event → Ways Event → Ways Event
followed_by NoWay rest = rest
followed_by (First way ways) rest = First way (followed_by ways rest)

-- How many turns a loop has between constant ends: as many numbers as stand before the end, in steps.
abbrev pub turn_count : Bool → ℤ → ℤ → ℤ → ℕ
turn_count down step from to =
    if (if rises down step then int_lt from to else int_lt to from) then suc ((nat_abs (to -ℤ from) - 1) / nat_abs step) else 0

abbrev pub turns_between : Bool → ℤ → Option ℤ → Option ℤ → Option ℕ
turns_between down step (Some from) (Some to) = Some (turn_count down step from to)
turns_between down step from to = None

-- A loop over numbers, each of which is given to a local. Its turns are alike, as far as locals go.
abbrev pub loop_of : Option ℕ → Ways Event → Way Event
loop_of (Some turns) body = Counts (alike turns body)
loop_of None body = Loops [] body

abbrev pub alone : Way Event → Ways Event
alone way = First way NoWay

abbrev mutual
  pub ways : Statement → Ways Event
  ways (Set l t e) = First (Does (Values e)) (all_of (map Values (left_indices t) ++ left_events t))
  ways (If l arms other) = arms_ways arms (block_ways other)
  ways (While l e b) = alone (Loops (Values e ∷ []) (block_ways b))
  ways (For l v down from to step b) =
      First (Does (Values from)) (First (Does (Values to))
      (alone (loop_of (turns_between down step (constant_of from) (constant_of to)) (First (Does (Makes v)) (block_ways b)))))
  ways (Break l) = alone Breaks
  ways (Continue l) = alone Continues
  ways (Yield l waits) = NoWay
  ways (Print l parts) = all_of (map Values (flat_map printed_numbers parts))
  ways (Assert l e) = alone (Does (Values e))
  ways (Stop l) = alone Stops

  pub block_ways : Block → Ways Event
  block_ways End = NoWay
  block_ways (Then s b) = followed_by (ways s) (block_ways b)

  -- the branches in order, and the other part
  pub arms_ways : Arms → Ways Event → Ways Event
  arms_ways NoArm other = other
  arms_ways (MoreArms (ArmOf e b) arms) other = First (Does (Values e)) (alone (Chooses (block_ways b) (arms_ways arms other)))

-- The paths through a body.
abbrev pub body_ways : Generator → Ways Event
body_ways g = block_ways (body_of g)

-- Some path reads a local that nothing on it has made before.
abbrev pub MayReadUnassigned : Generator → ℕ → Type 0
MayReadUnassigned g v = MayReadFirst (reads v) (makes v) (body_ways g)

-- Whether a local is read only where each path has assigned it. A `for` with constant ends is its turns in a row; any other loop may
-- have no turn. An assignment to `v[:]` or to a part of v is a reading of v. Turns after the first can add no reading that isn't
-- assigned, and change nothing of what is assigned on every path, so one turn is walked. This is this project's own.
use Rattle.std.specs.Prelude.{ℕ, zero, suc, ℤ, pos, Bool, true, false, not, ◌&&◌, ◌||◌, ◌==◌, int_lt, List, Option, None, Some, if◌then◌else◌}
use Rattle.std.specs.List.{list_any, flat_map}
use Rattle.mh_design.specs.declared.assigned.Flow.{Flow}
use Rattle.mh_design.specs.Constants.{constant_of}
use Rattle.mh_design.specs.Numbering.{expressions, left_indices, printed_numbers}
use Rattle.mh_design.specs.Tree.{Expression, Expressions, Operator, Integer, Truth, Item, Fixed, Signal, Local, Now, Operation, NoMore, More, ElementOf, TableElementOf, BitOf, SliceOf, Unary, Binary, And, Or, Concat, Signed, ToInt, ToBool, LeftBase, LeftSignal, LeftElement, LeftLocal, LeftSide, Whole, LeftBit, LeftSlice, Bind, Printed, Words, Number, Statement, Set, If, While, For, Break, Continue, Yield, Print, Assert, Stop, Block, End, Then, Arm, ArmOf, Arms, NoArm, MoreArms}

-- The paths that go two ways: what is assigned on all of them.
abbrev pub both : Option Bool → Option Bool → Option Bool
both None b = b
both (Some a) None = Some a
both (Some a) (Some b) = Some (a && b)

abbrev pub joined : Flow → Flow → Flow
joined p q = record {
  sound = p.sound && q.sound;
  falls = both p.falls q.falls;
  breaks = both p.breaks q.breaks;
  continues = both p.continues q.continues;
}

-- Goes on to what follows; a tells whether the local is assigned then.
abbrev pub passes : Bool → Bool → Flow
passes sound a = record { sound = sound; falls = Some a; breaks = None; continues = None }

-- What follows goes on where the first part falls through.
abbrev pub followed : Flow → Flow → Flow
followed p q = record {
  sound = p.sound && q.sound;
  falls = q.falls;
  breaks = both p.breaks q.breaks;
  continues = both p.continues q.continues;
}

-- What follows, where the first part falls through; else no path leads there.
abbrev pub next : Flow → Option Bool → (Bool → Flow) → Flow
next p None q = p
next p (Some a) q = followed p (q a)

-- A reading, if there is one, is sound where the local is assigned.
abbrev pub is_sound : Bool → Bool → Bool
is_sound a reads = a || not reads

-- Something is read before as well.
abbrev pub after_reading : Bool → Flow → Flow
after_reading sound p = record { sound = sound && p.sound; falls = p.falls; breaks = p.breaks; continues = p.continues }

abbrev pub is_local : ℕ → Expression → Bool
is_local v (Local u) = u == v
is_local v e = false

-- The local v is read in an expression.
abbrev pub reads_local : ℕ → Expression → Bool
reads_local v e = list_any (is_local v) (expressions e)

abbrev pub is_left_local : ℕ → LeftBase → Bool
is_left_local v (LeftSignal s) = false
is_left_local v (LeftElement m i) = false
is_left_local v (LeftLocal u) = u == v

-- The left side changes the local v, which has to be there.
abbrev pub changes : ℕ → LeftSide → Bool
changes v (Whole b) = is_left_local v b
changes v (LeftBit b i) = is_left_local v b
changes v (LeftSlice b i j) = is_left_local v b
changes v (Bind u k) = false

-- The left side makes the local v.
abbrev pub binds : ℕ → LeftSide → Bool
binds v (Bind u k) = u == v
binds v t = false

-- The numbers of a `range` or `downrange` with this step go up.
abbrev pub rises : Bool → ℤ → Bool
rises down step = if down then int_lt step (pos 0) else int_lt (pos 0) step

-- Whether a loop has a turn, where its ends are constants.
abbrev pub ends_give_turn : Bool → ℤ → Option ℤ → Option ℤ → Option Bool
ends_give_turn down step (Some a) (Some z) = Some (if rises down step then int_lt a z else int_lt z a)
ends_give_turn down step a z = None

unfoldable pub has_turn : Bool → ℤ → Expression → Expression → Option Bool
has_turn down step a z = ends_give_turn down step (constant_of a) (constant_of z)

abbrev pub ends_read : ℕ → Expression → Expression → Bool
ends_read v x z = reads_local v x || reads_local v z

-- A turn of a loop gives the variable u its value.
unfoldable pub turn_begins : ℕ → ℕ → Bool → Flow
turn_begins v u a = passes true (a || u == v)

-- A loop, by whether it has a turn, whether the local is assigned before it, and what its body does.
abbrev pub looped : Option Bool → Bool → Flow → Flow
looped None a p = passes p.sound a
looped (Some false) a p = passes true a
looped (Some true) a p = record { sound = p.sound; falls = both (both p.falls p.continues) p.breaks; breaks = None; continues = None }

-- A `while`, by what a turn does.
unfoldable pub while_flow : ℕ → Expression → Bool → Flow → Flow
while_flow v e a turn = after_reading (is_sound a (reads_local v e)) (looped None a turn)

-- A `for`, by whether it has a turn, its ends, and what a turn does.
unfoldable pub for_flow : ℕ → Option Bool → Expression → Expression → Bool → Flow → Flow
for_flow v has x z a turn = after_reading (is_sound a (ends_read v x z)) (looped has a turn)

-- An assignment.
abbrev pub walk_set : ℕ → LeftSide → Expression → Bool → Flow
walk_set v t e a = passes (is_sound a ((changes v t || list_any (reads_local v) (left_indices t)) || reads_local v e)) (a || binds v t)

-- What a statement does where the local v is assigned before it, or isn't.
abbrev mutual
  pub walk : ℕ → Statement → Bool → Flow
  walk v (If l rs other) a = walk_arms v rs a (walk_block v other (passes true a))
  walk v (While l e b) a = while_flow v e a (walk_block v b (passes true a))
  walk v (For l u down x z step b) a =
      for_flow v (has_turn down step x z) x z a (walk_block v b (turn_begins v u a))
  walk v (Break l) a = record { sound = true; falls = None; breaks = Some a; continues = None }
  walk v (Continue l) a = record { sound = true; falls = None; breaks = None; continues = Some a }
  walk v (Stop l) a = record { sound = true; falls = None; breaks = None; continues = None }
  walk v (Set l t e) a = walk_set v t e a
  walk v (Yield l ws) a = passes true a
  walk v (Print l ps) a = passes (is_sound a (list_any (reads_local v) (flat_map printed_numbers ps))) a
  walk v (Assert l e) a = passes (is_sound a (reads_local v e)) a

  -- after what this flow does
  pub walk_block : ℕ → Block → Flow → Flow
  walk_block v End p = p
  walk_block v (Then s b) p = walk_block v b (next p p.falls (λ a. walk v s a))

  pub walk_arm : ℕ → Arm → Bool → Flow
  walk_arm v (ArmOf e b) a = after_reading (is_sound a (reads_local v e)) (walk_block v b (passes true a))

  -- beside what this flow does
  pub walk_arms : ℕ → Arms → Bool → Flow → Flow
  walk_arms v NoArm a p = p
  walk_arms v (MoreArms r rs) a p = walk_arms v rs a (joined p (walk_arm v r a))

-- The local v is read only where each path has assigned it.
abbrev pub is_assigned_first : Block → ℕ → Bool
is_assigned_first b v = (walk_block v b (passes true false)).sound

-- A test holds of all numbers below n.
abbrev pub all_below : ℕ → (ℕ → Bool) → Bool
all_below zero test = true
all_below (suc n) test = all_below n test && test n

-- One walk through a body that finds what some path misses, with no path made and no loop unrolled. That it finds just that is
-- proved; so a program may do the walk where a rule speaks of paths. These are this project's own rules.
use Rattle.std.specs.Prelude.{ℕ, zero, suc, List, [], ◌∷◌, Bool, true, false, not, ◌&&◌, ◌||◌}
use Rattle.mh_paths.specs.Paths.{Statement, Does, Chooses, Counts, Loops, Breaks, Continues, Stops, Block, End, Then, Turns, NoTurn, Turn, Exit, Onward, Broken, Continued, Stopped}

-- What the walk finds: whether some path reads what nothing on it has assigned before, and for each exit, whether some path
-- leaves so on which nothing was assigned.
pub record Walk : Type 0 where
  pub reads : Bool
  pub missed : Exit → Bool

-- Nothing happens, and this is the exit.
abbrev pub only_exit : Exit → Exit → Bool
only_exit Onward Onward = true
only_exit Broken Broken = true
only_exit Continued Continued = true
only_exit Stopped Stopped = true
only_exit _ _ = false

abbrev pub nothing : Exit → Walk
nothing exit = record { reads = false; missed = only_exit exit }

-- One event.
abbrev pub event_exit : Bool → Exit → Bool
event_exit assigned Onward = not assigned
event_exit assigned _ = false

-- One statement after another: the second is reached with nothing assigned where the first goes on so.
abbrev pub row_exit : Walk → Walk → Exit → Bool
row_exit first rest Onward = first.missed Onward && rest.missed Onward
row_exit first rest exit = first.missed exit || (first.missed Onward && rest.missed exit)

abbrev pub in_row : Walk → Walk → Walk
in_row first rest = record { reads = first.reads || (first.missed Onward && rest.reads); missed = row_exit first rest }

-- Either of two.
abbrev pub either : Walk → Walk → Walk
either this that = record { reads = this.reads || that.reads; missed = λ exit. this.missed exit || that.missed exit }

-- Another turn may follow one that ends so.
abbrev pub goes_on : Walk → Bool
goes_on body = body.missed Onward || body.missed Continued

-- A turn of a loop, and then the rest of the loop.
abbrev pub turn_exit : Walk → Walk → Exit → Bool
turn_exit body rest Onward = body.missed Broken || (goes_on body && rest.missed Onward)
turn_exit body rest Stopped = body.missed Stopped || (goes_on body && rest.missed Stopped)
turn_exit body rest exit = goes_on body && rest.missed exit

abbrev pub in_turn : Walk → Walk → Walk
in_turn body rest = record { reads = body.reads || (goes_on body && rest.reads); missed = turn_exit body rest }

-- A loop of any number of turns: its body is looked at once.
abbrev pub loop_exit : Walk → Walk → Exit → Bool
loop_exit head body Onward = head.missed Onward
loop_exit head body Stopped = head.missed Onward && body.missed Stopped
loop_exit head body exit = false

abbrev pub in_loop : Walk → Walk → Walk
in_loop head body = record { reads = head.reads || (head.missed Onward && body.reads); missed = loop_exit head body }

module _ {E : Type 0} (reads assigns : E → Bool) where
  abbrev pub event_walk : E → Walk
  event_walk event = record { reads = reads event; missed = event_exit (assigns event) }

  abbrev pub events_walk : List E → Walk
  events_walk [] = nothing Onward
  events_walk (event ∷ events) = in_row (event_walk event) (events_walk events)

  -- The walk through a statement, a block and turns, where nothing was assigned before.
  abbrev mutual
    pub walk : Statement E → Walk
    walk (Does event) = event_walk event
    walk (Chooses this that) = either (block_walk this) (block_walk that)
    walk (Counts turns) = turns_walk turns
    walk (Loops head body) = in_loop (events_walk head) (block_walk body)
    walk Breaks = nothing Broken
    walk Continues = nothing Continued
    walk Stops = nothing Stopped

    pub block_walk : Block E → Walk
    block_walk End = nothing Onward
    block_walk (Then statement block) = in_row (walk statement) (block_walk block)

    pub turns_walk : Turns E → Walk
    turns_walk NoTurn = nothing Onward
    turns_walk (Turn body turns) = in_turn (block_walk body) (turns_walk turns)

-- A loop of so many turns that are alike, as its paths see it.
abbrev pub alike : {E : Type 0} → ℕ → Block E → Turns E
alike zero body = NoTurn
alike (suc turns) body = Turn body (alike turns body)

-- One turn stands for any number of turns that are alike.
abbrev pub once_exit : Walk → Exit → Bool
once_exit body Onward = body.missed Broken || goes_on body
once_exit body Stopped = body.missed Stopped
once_exit body exit = false

abbrev pub once : Walk → Walk
once body = record { reads = body.reads; missed = once_exit body }

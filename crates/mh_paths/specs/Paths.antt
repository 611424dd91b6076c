-- The paths through a body, apart from any language: what may happen on the way from its beginning to its end, whichever way the
-- conditions go. A generator of a source and a process of a text are both seen so. These are this project's own rules.
--
-- E are the events that a path is a list of: a reading, an assignment, a wait.
use Rattle.std.specs.Prelude.{◌≡◌, List, [], ◌∷◌, ◌++◌, Bool, true, false, if◌then◌else◌, ◌⊎◌}
use Rattle.std.specs.List.{list_any}

-- A statement as its paths see it, blocks of statements, and turns of a loop.
mutual
  pub data Statement (E : Type 0) : Type 0 where
    Does : (event : E) → Statement E  -- one event
    Chooses : (this that : Block E) → Statement E  -- one of two blocks, as an `if`: either may be the one
    Counts : (turns : Turns E) → Statement E  -- a loop of known turns: they follow one another
    Loops : (head : List E) (body : Block E) → Statement E  -- any other loop: what happens before each turn and once more as it ends, and its body, which may be done any number of times, and no time
    Breaks : Statement E  -- leaves the innermost loop
    Continues : Statement E  -- leaves the turn of the innermost loop
    Stops : Statement E  -- leaves the body

  pub data Block (E : Type 0) : Type 0 where
    End : Block E
    Then : Statement E → Block E → Block E

  pub data Turns (E : Type 0) : Type 0 where
    NoTurn : Turns E
    Turn : Block E → Turns E → Turns E

-- How a path leaves a statement: it goes on behind it, by `break`, by `continue`, or out of the body.
pub data Exit : Type 0 where
  Onward : Exit
  Broken : Exit
  Continued : Exit
  Stopped : Exit

-- A turn that ends so is followed by the next one.
abbrev pub IsTurnsEnd : Exit → Type 0
IsTurnsEnd Onward = Unit {0}
IsTurnsEnd Continued = Unit {0}
IsTurnsEnd _ = ⊥

-- Sets of paths, each with its exit.
abbrev pub Paths : Type 0 → Type 1
Paths E = List E → Exit → Type 0

-- Where nothing happens.
abbrev pub Nothing : {E : Type 0} → Exit → Paths E
Nothing exit path end = (path ≡ []) × (end ≡ exit)

-- First a path of these and then one of those; what doesn't go on behind the first ends there.
abbrev pub IsOut : Exit → Type 0
IsOut Onward = ⊥
IsOut _ = Unit {0}

pub data InRow {E : Type 0} (first rest : Paths E) (path : List E) (exit : Exit) : Type 0 where
  on : (one other : List E) → first one Onward → rest other exit → path ≡ one ++ other → InRow first rest path exit
  out : first path exit → IsOut exit → InRow first rest path exit

-- One turn of a loop, whose body has these paths, and then those: the rest of the loop.
pub data InTurn {E : Type 0} (body rest : Paths E) (path : List E) (exit : Exit) : Type 0 where
  next : (one other : List E) (end : Exit) → body one end → IsTurnsEnd end → rest other exit → path ≡ one ++ other → InTurn body rest path exit
  turn_breaks : body path Broken → exit ≡ Onward → InTurn body rest path exit
  turn_stops : body path Stopped → exit ≡ Stopped → InTurn body rest path exit

-- A loop whose number of turns isn't known.
pub data InLoop {E : Type 0} (head : List E) (body : Paths E) : List E → Exit → Type 0 where
  no_more : {path : List E} {exit : Exit} → path ≡ head → exit ≡ Onward → InLoop head body path exit
  turn : {path : List E} {exit : Exit} (one other : List E) (end : Exit) → body one end → IsTurnsEnd end → InLoop head body other exit → path ≡ head ++ (one ++ other) → InLoop head body path exit
  loop_breaks : {path : List E} {exit : Exit} (one : List E) → body one Broken → path ≡ head ++ one → exit ≡ Onward → InLoop head body path exit
  loop_stops : {path : List E} {exit : Exit} (one : List E) → body one Stopped → path ≡ head ++ one → exit ≡ Stopped → InLoop head body path exit

-- The paths of a statement, of a block and of turns. Nothing that follows a statement which leaves is on a path.
abbrev mutual
  pub StatementPath : {E : Type 0} → Statement E → Paths E
  StatementPath (Does event) path exit = (path ≡ event ∷ []) × (exit ≡ Onward)
  StatementPath (Chooses this that) path exit = BlockPath this path exit ⊎ BlockPath that path exit
  StatementPath (Counts turns) path exit = TurnsPath turns path exit
  StatementPath (Loops head body) path exit = InLoop head (BlockPath body) path exit
  StatementPath Breaks path exit = Nothing Broken path exit
  StatementPath Continues path exit = Nothing Continued path exit
  StatementPath Stops path exit = Nothing Stopped path exit

  pub BlockPath : {E : Type 0} → Block E → Paths E
  BlockPath End path exit = Nothing Onward path exit
  BlockPath (Then statement block) path exit = InRow (StatementPath statement) (BlockPath block) path exit

  pub TurnsPath : {E : Type 0} → Turns E → Paths E
  TurnsPath NoTurn path exit = Nothing Onward path exit
  TurnsPath (Turn body turns) path exit = InTurn (BlockPath body) (TurnsPath turns) path exit

-- ---- what is asked of paths

-- An event of this kind happens on each path to the end of a block: "assigned on every path".
abbrev pub HappensAlways : {E : Type 0} → (E → Bool) → Block E → Type 0
HappensAlways {E} happens block = (path : List E) → BlockPath block path Onward → list_any happens path ≡ true

-- On some path to the end of a block nothing of this kind happens.
abbrev pub MayMiss : {E : Type 0} → (E → Bool) → Block E → Type 0
MayMiss {E} happens block = (path : List E) × BlockPath block path Onward × (list_any happens path ≡ false)

-- Among these events one that reads comes before any that assigns.
abbrev pub reads_first : {E : Type 0} → (E → Bool) → (E → Bool) → List E → Bool
reads_first reads assigns [] = false
reads_first reads assigns (event ∷ events) = if reads event then true else if assigns event then false else reads_first reads assigns events

-- On some path something is read that nothing on that path has assigned before.
abbrev pub MayReadFirst : {E : Type 0} → (E → Bool) → (E → Bool) → Block E → Type 0
MayReadFirst {E} reads assigns block = (path : List E) × (exit : Exit) × BlockPath block path exit × (reads_first reads assigns path ≡ true)

-- The body of a generator by its kind, as a block of flow (MyHDL 0.11 manual, "Reference": decorators). `@always_comb` is for ever the
-- function and then a wait for a change of anything that it reads; `@always` is for ever the wait and then the function; `@always_seq` is
-- for ever the wait and then, with the reset active, the initial value for each signal and element that it drives, and else the
-- function; an `@instance` is its statements. "For ever" is a loop whose condition is always true. Statements are numbered in order of
-- text, one before those that it holds: a `print` or `yield` says or waits with its number, and the other kinds wait with 0.
use Rattle.std.specs.Prelude.{ℕ, ℤ, pos, ◌+◌, Bool, true, false, ◌==◌, List, [], ◌∷◌, ◌++◌, length, map, max, slice_get, Option, None, Some}
use Rattle.std.specs.List.{list_any, filter, range_with_len}
use Rattle.std.specs.Option.{option_map_or}
use Rattle.mh_flow.specs.Flow as flow
use Rattle.mh_design.specs.declared.design.Design.{Design}
use Rattle.mh_design.specs.declared.design.Generator.{Generator}
use Rattle.mh_design.specs.declared.design.GenKind.{GenKind}
use Rattle.mh_design.specs.declared.design.GenKind.TheVariants as generator
use Rattle.mh_design.specs.declared.design.Wait.{Wait}
use Rattle.mh_design.specs.declared.design.Wait.TheVariants as wait
use Rattle.mh_design.specs.declared.expression.UnaryOp.TheVariants as unary
use Rattle.mh_design.specs.declared.expression.BinaryOp.TheVariants as binary
use Rattle.mh_design.specs.declared.statement.Binding.TheVariants as binding
use Rattle.mh_design.specs.Numbering.{body_of, statements, block_statements, arms_statements, generator_statements}
use Rattle.mh_design.specs.Uses.{reads, drives, reset_waits, waited_by}
use Rattle.mh_design.specs.Tree.{Expression, Integer, Truth, Signal, Operation, Unary, Binary, one, two, LeftSignal, LeftSide, Whole, Bind, Printed, Statement, Set, If, While, For, Break, Continue, Yield, Print, Assert, Stop, Block, End, Then, ArmOf, Arms, NoArm, MoreArms}

-- Statements and blocks of flow over expressions and left sides.
abbrev pub Flowing : Type 0
Flowing = flow.Block Expression LeftSide

-- The statements of one block and then those of another.
abbrev pub followed_by : Flowing → Flowing → Flowing
followed_by flow.End c = c
followed_by (flow.Then x b) c = flow.Then x (followed_by b c)

-- A block of one statement.
abbrev pub only : flow.Statement Expression LeftSide → Flowing
only x = flow.Then x flow.End

-- The ends and the step of a loop. `downrange(a, z, s)` goes over `range(a - 1, z - 1, -s)`.
abbrev pub end_of : Bool → Expression → Expression
end_of false e = e
end_of true e = Operation (Binary binary.Subtract) (two e (Integer (pos 1)))

abbrev pub step_of : Bool → ℤ → Expression
step_of false z = Integer z
step_of true z = Operation (Unary unary.Minus) (one (Integer z))

-- How many statements there are, with those that they hold.
abbrev pub extent : Statement → ℕ
extent s = length (statements s)

abbrev pub block_extent : Block → ℕ
block_extent b = length (block_statements b)

abbrev pub arms_extent : Arms → ℕ
arms_extent rs = length (arms_statements rs)

abbrev mutual
  -- A statement with this number.
  pub flowing : ℕ → Statement → Flowing
  flowing k (Set l t e) = only (flow.SetStatement t e)
  flowing k (If l rs other) = arms_flowing (k + 1) rs (block_flowing (k + 1 + arms_extent rs) other)
  flowing k (While l e b) = only (flow.WhileStatement e (block_flowing (k + 1) b))
  flowing k (For l v down a z step b) =
      only (flow.CountStatement (Bind v binding.Plain) (end_of down a) (end_of down z) (step_of down step) (block_flowing (k + 1) b))
  flowing k (Break l) = only flow.BreakStatement
  flowing k (Continue l) = only flow.ContinueStatement
  flowing k (Yield l ws) = only (flow.WaitStatement k)
  flowing k (Print l ps) = only (flow.SayStatement k)
  flowing k (Assert l e) = only (flow.CheckStatement e)
  flowing k (Stop l) = only flow.StopStatement

  -- A block whose first statement has this number.
  pub block_flowing : ℕ → Block → Flowing
  block_flowing k End = flow.End
  block_flowing k (Then s b) = followed_by (flowing k s) (block_flowing (k + extent s) b)

  -- Arms, the first of which holds the statement with this number. Each is tested where those before it don't hold; where none holds,
  -- the other statements follow.
  pub arms_flowing : ℕ → Arms → Flowing → Flowing
  arms_flowing k NoArm other = other
  arms_flowing k (MoreArms (ArmOf e b) rs) other =
      only (flow.IfStatement e (block_flowing k b) (arms_flowing (k + block_extent b) rs other))

-- The lines of these statements of flow, in order of text, each before those that it holds. An arm has the line of its `if`.
abbrev mutual
  pub lines : Statement → List ℕ
  lines (Set l t e) = l ∷ []
  lines (If l rs other) = arms_lines l rs ++ block_lines other
  lines (While l e b) = l ∷ block_lines b
  lines (For l v down a z step b) = l ∷ block_lines b
  lines (Break l) = l ∷ []
  lines (Continue l) = l ∷ []
  lines (Yield l ws) = l ∷ []
  lines (Print l ps) = l ∷ []
  lines (Assert l e) = l ∷ []
  lines (Stop l) = l ∷ []

  pub block_lines : Block → List ℕ
  block_lines End = []
  block_lines (Then s b) = lines s ++ block_lines b

  pub arms_lines : ℕ → Arms → List ℕ
  arms_lines l NoArm = []
  arms_lines l (MoreArms (ArmOf e b) rs) = l ∷ (block_lines b ++ arms_lines l rs)

-- For ever these statements.
abbrev pub for_ever : Flowing → Flowing
for_ever b = only (flow.WhileStatement (Truth true) b)

-- The wait of a generator that has one of its own.
abbrev pub own_wait : Flowing
own_wait = only (flow.WaitStatement 0)

-- The function of a generator.
abbrev pub function_of : Generator → Flowing
function_of g = block_flowing 0 (body_of g)

-- The signals that a generator drives, each once, by their numbers.
abbrev pub is_driven : Design → Generator → ℕ → Bool
is_driven d g n = list_any (λ m. m == n) (drives d g)

abbrev pub driven : Design → Generator → List ℕ
driven d g = filter (is_driven d g) (range_with_len 0 (length d.signals))

-- Each of these signals is given its initial value.
abbrev pub initial_value : Design → ℕ → ℤ
initial_value d n = option_map_or (λ x. x.init) (slice_get d.signals n) (pos 0)

abbrev pub resets : Design → List ℕ → Flowing
resets d [] = flow.End
resets d (n ∷ ns) = flow.Then (flow.SetStatement (Whole (LeftSignal n)) (Integer (initial_value d n))) (resets d ns)

-- The value at which a reset is active.
abbrev pub active_value : Design → ℕ → Bool
active_value d r = option_map_or (λ x. option_map_or (λ y. y.active) x.reset false) (slice_get d.signals r) false

abbrev pub is_active : Design → ℕ → Expression
is_active d r = Operation (Binary binary.Equal) (two (Signal r) (Truth (active_value d r)))

-- What an `@always_seq` does after its wait.
abbrev pub reset_or : Design → Generator → Option ℕ → Flowing
reset_or d g None = function_of g
reset_or d g (Some r) = only (flow.IfStatement (is_active d r) (resets d (driven d g)) (function_of g))

abbrev pub flowing_by : Design → Generator → GenKind → Flowing
flowing_by d g generator.Comb = for_ever (followed_by (function_of g) own_wait)
flowing_by d g (generator.Always ws) = for_ever (followed_by own_wait (function_of g))
flowing_by d g (generator.Seq w r) = for_ever (followed_by own_wait (reset_or d g r))
flowing_by d g generator.Instance = function_of g

-- The body of a generator.
abbrev pub generator_flow : Design → Generator → Flowing
generator_flow d g = flowing_by d g g.kind

-- The lines of its statements. Those that don't stand in the text have the line of the `def`.
abbrev pub function_lines : Generator → List ℕ
function_lines g = block_lines (body_of g)

abbrev pub reset_lines : Design → Generator → Option ℕ → List ℕ
reset_lines d g None = []
reset_lines d g (Some r) = g.line ∷ map (λ n. g.line) (driven d g)

abbrev pub lines_by : Design → Generator → GenKind → List ℕ
lines_by d g generator.Comb = g.line ∷ (function_lines g ++ g.line ∷ [])
lines_by d g (generator.Always ws) = g.line ∷ g.line ∷ function_lines g
lines_by d g (generator.Seq w r) = g.line ∷ g.line ∷ (reset_lines d g r ++ function_lines g)
lines_by d g generator.Instance = function_lines g

abbrev pub generator_lines : Design → Generator → List ℕ
generator_lines d g = lines_by d g g.kind

-- What the statement with this number waits for or prints, and its line.
abbrev pub waits_at : Generator → ℕ → List Wait
waits_at g k = option_map_or waited_by (slice_get (generator_statements g) k) []

abbrev pub printed_by : Statement → List Printed
printed_by (Print l ps) = ps
printed_by s = []

abbrev pub prints_at : Generator → ℕ → List Printed
prints_at g k = option_map_or printed_by (slice_get (generator_statements g) k) []

abbrev pub line_of : Statement → ℕ
line_of (Set l t e) = l
line_of (If l rs other) = l
line_of (While l e b) = l
line_of (For l v down a z step b) = l
line_of (Break l) = l
line_of (Continue l) = l
line_of (Yield l ws) = l
line_of (Print l ps) = l
line_of (Assert l e) = l
line_of (Stop l) = l

abbrev pub line_at : Generator → ℕ → ℕ
line_at g k = option_map_or line_of (slice_get (generator_statements g) k) g.line

abbrev pub waited_in : Design → Generator → GenKind → ℕ → List Wait
waited_in d g generator.Comb k = map wait.Change (reads d g)
waited_in d g (generator.Always ws) k = ws
waited_in d g (generator.Seq w r) k = w ∷ reset_waits d r
waited_in d g generator.Instance k = waits_at g k

-- What a generator waits for where its body waits with this number.
abbrev pub waited : Design → Generator → ℕ → List Wait
waited d g k = waited_in d g g.kind k

-- The longest list of what a generator waits for at one time.
abbrev pub longest : List (List Wait) → ℕ
longest [] = 0
longest (ws ∷ rest) = max (length ws) (longest rest)

abbrev pub waits_room : Design → Generator → GenKind → ℕ
waits_room d g generator.Instance = longest (map waited_by (generator_statements g))
waits_room d g k = length (waited_in d g k 0)

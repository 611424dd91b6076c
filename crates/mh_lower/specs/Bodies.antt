-- How a body is read: its statements in order of text. A condition of an `if` or `elif` that breaks a
-- rule does so at the line of the `if`. This is this project's own rule.
use Rattle.std.specs.Prelude.{ℕ, Bool, true, false, List, [], ◌∷◌, ◌++◌, map, Option, Some, None, Result, Ok, Err, if◌then◌else◌}
use Rattle.mh_text.specs.declared.code.Code.{Code}
use Rattle.mh_text.specs.declared.code.Code.TheVariants.{E2NotElaborable, E10KindClash}
use Rattle.mh_consts.specs.declared.scope.Scope.{Scope}
use Rattle.mh_consts.specs.Expression.{Ex}
use Rattle.mh_consts.specs.Names.{lookup}
use Rattle.mh_design.specs.declared.design.Kind.{Kind}
use Rattle.mh_design.specs.declared.design.Kind.TheVariants as kind
use Rattle.mh_design.specs.Statements.{is_int_kind}
use Rattle.mh_design.specs.Assigned.{has_turn}
use Rattle.mh_design.specs.Tree as tree
use Rattle.mh_design.specs.declared.statement.Branch.{Branch}
use Rattle.mh_design.specs.Tree.{Statement, Arm, ArmOf, arms, arm_of, block, expression_of}
use Rattle.mh_exprs.specs.declared.locals.Locals.{Locals}
use Rattle.mh_lower.specs.declared.typed.Ends.{Ends}
use Rattle.mh_exprs.specs.declared.typed.Typed.{Typed}
use Rattle.mh_exprs.specs.declared.typed.Work.{Work}
use Rattle.mh_lower.specs.Body as line
use Rattle.mh_lower.specs.Body.{Line, Lines, Choice, Choices, End, Then, Where, NoChoice, OrElse}
use Rattle.mh_lower.specs.Bindings.{with_kind}
use Rattle.mh_exprs.specs.Leaves.{kind_at}
use Rattle.mh_lower.specs.Paths.{Paths, meet, breaks, continues, stops, goes_on, enters, leaves, turn, turned}
use Rattle.mh_design.specs.declared.design.Design.{Design}
use Rattle.mh_lower.specs.Run.{Broken, Run, gives, refused, look, change, at, does, ◌>>=◌, ◌>>◌}
use Rattle.mh_lower.specs.Statements.{assign, augment, by_itself, yields, is_stop_call, claim, condition, ends}
use Rattle.mh_exprs.specs.Step.{Step, pure, refuse, just}
use Rattle.mh_exprs.specs.Step as step

-- the statements so far, with one more, or with none
abbrev pub with_any : List Statement → Option Statement → List Statement
with_any out None = out
with_any out (Some s) = out ++ s ∷ []

abbrev pub some : Result (Statement × Work × Design) Broken → Result (Option Statement × Work × Design) Broken
some (Ok x) = Ok (Some x.0, x.1, x.2)
some (Err b) = Err b

abbrev pub one : Run Statement → Run (Option Statement)
one p w d = some (p w d)

-- ---- loops

-- the variable of a `for` is an integer
abbrev pub variable_as : Work → ℕ → Option Kind → Result Work Code
variable_as w v None = Ok (with_kind w v kind.Int)
variable_as w v (Some k) = if is_int_kind k then Ok w else Err E10KindClash

abbrev pub variable : Work → ℕ → Result Work Code
variable w v = variable_as w v (kind_at w v)

-- a `for` begins, with the variable of this number
abbrev pub begins_at : Scope → Locals → ℕ → Ex → Work → Step ((ℕ × Ends) × Work)
begins_at s ls v over w = step.chain (ends s ls w over) (λ x. step.chain (just (variable w v)) (λ u. pure ((v, x), u)))

unfoldable pub begins : Scope → Locals → Option ℕ → Ex → Work → Step ((ℕ × Ends) × Work)
begins s ls None over w = refuse E10KindClash
begins s ls (Some v) over w = begins_at s ls v over w

abbrev pub has_turns : Ends → Option Bool
has_turns x = has_turn x.down x.step (expression_of x.from) (expression_of x.to)

-- ---- statements that hold others, by what reads these

unfoldable pub while_line : Scope → Locals → ℕ → Ex → Run (List Statement) → Run Statement
while_line s ls l e body = do
  t ← at l (λ w. condition s ls w e)
  before ← look
  change (enters before.here)
  ss ← body
  change (leaves before before.here)
  gives (tree.While l (expression_of t.expr) (block ss))

unfoldable pub for_line : Scope → Locals → ℕ → Option ℕ → Ex → Run (List Statement) → Run Statement
for_line s ls l v over body = do
  x ← does l (begins s ls v over)
  before ← look
  change (enters (turn (has_turns x.1) x.0 before.here))
  ss ← body
  change (λ w. leaves before (turned (has_turns x.1) before.here w) w)
  gives (tree.For l x.0 x.1.down (expression_of x.1.from) (expression_of x.1.to) x.1.step (block ss))

-- a branch: its condition, and what it leads to
unfoldable pub branch_line : Scope → Locals → ℕ → Ex → Run (List Statement) → Run Arm
branch_line s ls l e body = do
  t ← at l (λ w. condition s ls w e)
  ss ← body
  gives (ArmOf (expression_of t.expr) (block ss))

-- what the branches so far give, and the paths that leave them
abbrev pub Branches : Type 0
Branches = List Arm × Paths

abbrev pub with_branch : Branches → Arm → Work → Branches
with_branch done r w = (done.0 ++ r ∷ [], meet done.1 w.here)

-- the branches, each from the paths that lead to the `if`, and then its `else`
unfoldable pub if_line : ℕ → (Paths → Run Branches) → Run (List Statement) → Run Statement
if_line l branches other = do
  before ← look
  done ← branches before.here
  change (goes_on before.here)
  ss ← other
  change (λ w. goes_on (meet done.1 w.here) w)
  gives (tree.If l (arms done.0) (block ss))

-- ---- statements

-- a statement after which no path goes on, where it is allowed
abbrev pub leave : Bool → ℕ → Statement → (Work → Work) → Run (Option Statement)
leave false l s f = refused E2NotElaborable l
leave true l s f = do
  change f
  gives (Some s)

module _ (s : Scope) (ls : Locals) (instance : Bool) where
  unfoldable mutual
    -- one statement, or none; the first argument tells whether a loop is around
    pub read_line : Bool → Line → Run (Option Statement)
    read_line loop (line.Value l e) = at l (λ w. by_itself s ls w l e)
    read_line loop (line.Assign l target e) = one (does l (λ w. assign s ls w l target e))
    read_line loop (line.Augment l op target e) = one (does l (λ w. augment s ls w l op target e))
    read_line loop line.Pass = gives None
    read_line loop (line.Break l) = leave loop l (tree.Break l) breaks
    read_line loop (line.Continue l) = leave loop l (tree.Continue l) continues
    read_line loop (line.Yield l e) = one (at l (λ w. just (yields s ls instance l e)))
    read_line loop (line.Raise l e) = leave (is_stop_call s ls e) l (tree.Stop l) stops
    read_line loop (line.Assert l e) = one (at l (λ w. claim s ls w l e))
    read_line loop (line.Forbidden l) = refused E2NotElaborable l
    read_line loop (line.If l cs other) = one (if_line l (λ p. read_choices loop l p ([], None) cs) (read_lines loop [] other))
    read_line loop (line.While l e b) = one (while_line s ls l e (read_lines true [] b))
    read_line loop (line.For l t over b) = one (for_line s ls l (lookup ls.numbers t) over (read_lines true [] b))

    -- the statements so far, and then these
    pub read_lines : Bool → List Statement → Lines → Run (List Statement)
    read_lines loop out End = gives out
    read_lines loop out (Then x xs) = do
      m ← read_line loop x
      read_lines loop (with_any out m) xs

    -- the branches so far, and then these, each from the paths p
    pub read_choices : Bool → ℕ → Paths → Branches → Choices → Run Branches
    read_choices loop l p done NoChoice = gives done
    read_choices loop l p done (OrElse c cs) = do
      change (goes_on p)
      r ← read_choice loop l c
      w ← look
      read_choices loop l p (with_branch done r w) cs

    pub read_choice : Bool → ℕ → Choice → Run Arm
    read_choice loop l (Where e b) = branch_line s ls l e (read_lines loop [] b)

-- branches and the paths that leave them, in plain form
abbrev pub branches_of : List Branch × Paths → Branches
branches_of x = (map arm_of x.0, x.1)

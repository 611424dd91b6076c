-- The machine as the program holds it.
use Rattle.std.specs.Prelude.{◌≡◌, List, [], Option, Some, None, Result, Ok, Err, map, reverse}
use Rattle.mh_text.specs.Faults.{Tells}
use Rattle.mh_consts.specs.Expression as x
use Rattle.mh_consts.specs.Expression.{ex_of}
use Rattle.mh_pytree.specs.declared.statement.PyStmt.{PyStmt}
use Rattle.mh_world.specs.Statements.{Block, block, choice_of, choices, fn_of, st_of, target_of}
use Rattle.mh_world.specs.View.{world}
use Rattle.mh_world.specs.World.{World, Broken}
use Rattle.mh_text.specs.declared.fault.Fault.{Fault}
use Rattle.mh_text.specs.declared.fault.Fault.TheVariants as fault
use Rattle.mh_world.specs.declared.state.State.{State}
use Rattle.mh_elab.specs.Machine as machine
use Rattle.mh_elab.specs.Machine.{Config, Eval, Give, Exec, Ends, Final}
use Rattle.mh_elab.specs.Views.{exs_of}
use Rattle.mh_elab.specs.declared.waiting.Around.{Around}
use Rattle.mh_elab.specs.declared.waiting.Around.TheVariants as around
use Rattle.mh_elab.specs.declared.waiting.Control.{Control}
use Rattle.mh_elab.specs.declared.waiting.Control.TheVariants as c
use Rattle.mh_elab.specs.declared.waiting.Job.{Job}
use Rattle.mh_elab.specs.declared.waiting.Job.TheVariants as job
use Rattle.mh_elab.specs.declared.waiting.Machine.{Machine}
use Rattle.mh_elab.specs.declared.waiting.Waiting.{Waiting}
use Rattle.mh_elab.specs.declared.waiting.Waiting.TheVariants as f

abbrev pub job_of : Job → machine.Job
job_of (job.Operates e) = machine.Operates (ex_of e.now)
job_of (job.Puts t v) = machine.Puts (target_of t.now) v
job_of (job.Reads op t e) = machine.Reads op (target_of t.now) (ex_of e.now)
job_of (job.Defines m def) = machine.Defines m (fn_of def.now)

abbrev pub statements : List PyStmt → Block
statements ss = block (map st_of ss)

abbrev pub around_of : Around → List PyStmt → machine.Frame
around_of (around.Chooses loop rest other) b = machine.Chooses loop (statements b) (choices (map choice_of rest.now)) (statements other.now)
around_of (around.Begins t) b = machine.Begins t.now (statements b)
around_of (around.Tests n l e) b = machine.Tests n l (ex_of e.now) (statements b)
around_of (around.Turns n l e) b = machine.Turns n l (ex_of e.now) (statements b)
around_of (around.GoesOver n l t v at) b = machine.Goes_over n l t.now v at (statements b)
around_of (around.Rest loop) b = machine.Rest loop (statements b)

abbrev pub frame_of : Waiting → machine.Frame
frame_of (f.Parts j kids done) = machine.Parts (job_of j) (exs_of kids) done
frame_of (f.AndRight e) = machine.AndRight (ex_of e.now)
frame_of (f.OrRight e) = machine.OrRight (ex_of e.now)
frame_of f.AsTruth = machine.AsTruth
frame_of (f.Collecting e t) = machine.Collecting (ex_of e.now) t.now
frame_of (f.Collects n e t v at done) = machine.Collects n (ex_of e.now) t.now v at done
frame_of f.Drops = machine.Drops
frame_of (f.Assigns t) = machine.Assigns (target_of t.now)
frame_of (f.Updates op t us v) = machine.Updates op (target_of t.now) us v
frame_of f.Returning = machine.Returning
frame_of (f.Statements a b) = around_of a b.now
frame_of (f.Back def caller l n) = machine.Back def caller l n

-- from the innermost out
abbrev pub frames_of : List Waiting → List machine.Frame
frames_of fs = map frame_of (reverse fs)

abbrev pub kept : Machine → List machine.Frame
kept m = frames_of m.frames.items

abbrev pub config : Control → Machine → Config
config (c.Eval e) m = Eval m.line m.calls (ex_of e.now) (kept m) (world m.state)
config c.Nothing m = Eval m.line m.calls x.Nothing (kept m) (world m.state)
config (c.Give v) m = Give m.line m.calls v (kept m) (world m.state)
config (c.Exec loop b) m = Exec m.calls loop (statements b.now) (kept m) (world m.state)
config (c.Ends flow) m = Ends m.calls flow (kept m) (world m.state)

-- where a step leads, unless memory ran out
abbrev pub Leads : Config → Result Control (Fault Broken) → Machine → Type 0
Leads x (Ok c) m = x ≡ config c m
Leads x (Err (fault.Broken rule)) m = x ≡ Final (Err rule)
Leads x (Err fault.Memory) m = Unit {0}

-- the same, where the machine may have come to its end
abbrev pub Steps : Config → Result (Option Control) (Fault Broken) → Machine → Type 0
Steps x (Ok (Some c)) m = x ≡ config c m
Steps x (Ok None) m = x ≡ Final (Ok (world m.state))
Steps x (Err (fault.Broken rule)) m = x ≡ Final (Err rule)
Steps x (Err fault.Memory) m = Unit {0}

-- what executing a source leaves, unless memory ran out
abbrev pub Executes : Result World Broken → Result State (Fault Broken) → Type 0
Executes r x = Tells world r x

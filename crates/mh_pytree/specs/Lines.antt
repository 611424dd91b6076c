-- The line at which a statement is refused, by this project's own rule.
use Rattle.std.specs.Prelude.{ℕ}
use Rattle.mh_pytree.specs.declared.statement.PyStmt.{PyStmt}
use Rattle.mh_pytree.specs.declared.statement.PyStmt.TheOpen.{PyStmt-F}
use Rattle.mh_pytree.specs.declared.statement.PyStmt.TheFolds.{fold-PyStmt}

abbrev pub line_step : PyStmt-F ℕ ℕ ℕ → ℕ
line_step (PyStmt-F.Value line a) = line
line_step (PyStmt-F.Assign line a b) = line
line_step (PyStmt-F.Augment line op a b) = line
line_step (PyStmt-F.Pass line) = line
line_step (PyStmt-F.Break line) = line
line_step (PyStmt-F.Continue line) = line
line_step (PyStmt-F.Return line a) = line
line_step (PyStmt-F.Yield line a) = line
line_step (PyStmt-F.Raise line a) = line
line_step (PyStmt-F.Assert line a message) = line
line_step (PyStmt-F.ImportAll line) = line
line_step (PyStmt-F.Import line names) = line
line_step (PyStmt-F.Def f) = f
line_step (PyStmt-F.If line branches other) = line
line_step (PyStmt-F.For line name a body) = line
line_step (PyStmt-F.While line a body) = line

-- the line of a statement's first token; of a definition that of the word `def`
unfoldable pub line_of : PyStmt → ℕ
line_of = fold-PyStmt ℕ ℕ ℕ line_step (λ b. 0) (λ f. f.line)

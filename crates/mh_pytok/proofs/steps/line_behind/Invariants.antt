use Rattle.std.proofs.Common.{◌≡◌, ◌+◌, ℕ, List}
use Rattle.mh_pytok.specs.State.{IsLine}
use Rattle.mh_pytok.proofs.steps.line_behind.Given as goal

-- the cursor lies so many bytes on, at its line
pub record Lies (src now : List ℕ) (at i place number : ℕ) : Type 0 where
  pub source : now ≡ src
  pub on : place ≡ at + i
  pub line : IsLine src place number

abbrev pub invariant-loop-i : goal.invariant-loop-i
invariant-loop-i l = Lies l.src l.cursor.src.now l.at l._i l.cursor.at l.cursor.line

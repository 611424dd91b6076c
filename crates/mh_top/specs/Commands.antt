-- What each command promises, by the command. A later command adds its case here and its rules in a file of its own.
use Rattle.std.specs.Prelude.{ℕ, List}
use Rattle.mh_top.specs.Convert.{ConvertEnds, ConvertCompletes}
use Rattle.mh_top.specs.Lines.{words_line}
use Rattle.mh_top.specs.Run.{Run, Complains, OnlyComplains, Speaks}
use Rattle.mh_top.specs.Simulate.{SimEnds, SimCompletes}
use Rattle.mh_top.specs.Words.{Command, Convert, Sim}

-- The names that the command fetches may be fetched, and those that it stores may be stored.
abbrev pub MayUseNames : (List ℕ → Type 0) → (List ℕ → Type 0) → Command → Type 0
MayUseNames may_fetch may_store (Convert file out) = may_fetch file × may_store out
MayUseNames may_fetch may_store (Sim file) = may_fetch file

-- The command ends as its rules say, prints the text of that end, and complains of its error line and nothing else. A conversion
-- prints nothing.
abbrev pub Ends : Command → Run → ℕ → Type 0
Ends (Convert file out) run status = (line : List ℕ) × ConvertEnds file out run status line × Complains line run
Ends (Sim file) run status = (text line : List ℕ) × SimEnds file run status text line × Speaks text line run

-- Where no call fails, the command ends as its input asks, unless memory is wanting.
abbrev pub Completes : Command → Run → ℕ → Type 0
Completes (Convert file out) run status = ConvertCompletes file run status
Completes (Sim file) run status = SimCompletes file run status

-- The words were refused: nothing was called but the complaint.
abbrev pub RefusesWords : Run → Type 0
RefusesWords run = OnlyComplains words_line run

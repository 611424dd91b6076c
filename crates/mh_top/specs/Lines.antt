-- The error lines. Their words are this project's own.
use Rattle.std.specs.Prelude.{ℕ, ℤ, pos, List, ◌++◌, codes, decimal}
use Rattle.mh_text.specs.Decimal.{decimal_text}
use Rattle.mh_text.specs.Code.{words_of}
use Rattle.mh_text.specs.declared.code.Code.{Code}
use Rattle.mh_text.specs.declared.code.Code.TheVariants as code
use Rattle.mh_top.specs.Pieces.{line}

-- The words of the command line give no command.
abbrev pub words_line : List ℕ
words_line = line (codes "error words")

-- A call of the shelf failed at this name.
abbrev pub shelf_line : List ℕ → List ℕ
shelf_line name = line (codes "error shelf " ++ name)

-- Memory was wanting.
abbrev pub memory_line : List ℕ
memory_line = line (codes "error memory")

-- What this name holds is longer than its limit.
abbrev pub too_long_line : List ℕ → List ℕ
too_long_line name = line (codes "error TooLong " ++ name)

-- A refusal with its line in the source, and 0 where it has none.
abbrev pub refusal_line : Code → ℕ → List ℕ
refusal_line code number = line (codes "error " ++ words_of code ++ codes " line " ++ decimal number)

-- The standard output failed.
abbrev pub printing_line : List ℕ
printing_line = line (codes "error shelf -")

-- A number after its word.
abbrev pub numbered : List ℕ → ℤ → List ℕ
numbered word z = word ++ decimal_text z

-- What is shown of a fault of a run besides its code and its time: its line in the source; of a value that breaks bounds the value
-- and the bounds, of a divisor and of a shift amount the value; of a limit how much was done.
abbrev pub fault_numbers : Code → ℕ → ℤ → ℤ → ℤ → List ℕ
fault_numbers code.X1Range l v low high = numbered (codes " line ") (pos l) ++ numbered (codes " value ") v ++ numbered (codes " low ") low ++ numbered (codes " high ") high
fault_numbers code.X2Index l v low high = numbered (codes " line ") (pos l) ++ numbered (codes " value ") v ++ numbered (codes " low ") low ++ numbered (codes " high ") high
fault_numbers code.X4Divide l v low high = numbered (codes " line ") (pos l) ++ numbered (codes " value ") v
fault_numbers code.X6Shift l v low high = numbered (codes " line ") (pos l) ++ numbered (codes " value ") v
fault_numbers code.X7DeltaLimit l v low high = codes " count 10000"
fault_numbers code.X8TurnLimit l v low high = codes " count 1000000"
fault_numbers c l v low high = numbered (codes " line ") (pos l)

-- A fault of a run.
abbrev pub fault_line : Code → ℕ → ℕ → ℤ → ℤ → ℤ → List ℕ
fault_line c time l v low high = line (codes "error " ++ words_of c ++ numbered (codes " time ") (pos time) ++ fault_numbers c l v low high)

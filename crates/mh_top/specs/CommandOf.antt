-- How the program tells the commands apart. This serves the proof alone: which words give which command is said by `Gives`.
use Rattle.std.specs.Prelude.{ℕ, List, [], ◌∷◌, ◌==◌, ◌&&◌, Bool, false, not, codes}
use Rattle.std.specs.Str.{bytes_eq, is_utf8}
use Rattle.mh_top.specs.Words.{GivesNone, IsConvert, IsSim}
use Rattle.mh_top.specs.declared.command.Command.{Command}
use Rattle.mh_top.specs.declared.command.Command.TheVariants as command

abbrev pub is_file_name : List ℕ → Bool
is_file_name [] = false
is_file_name (first ∷ rest) = not (first == 45) && is_utf8 (first ∷ rest)

abbrev pub are_convert : List ℕ → List ℕ → List ℕ → List ℕ → Bool
are_convert verb file option out =
    bytes_eq verb (codes "convert") && bytes_eq option (codes "--verilog") && is_file_name file && is_file_name out && not (bytes_eq file out)

abbrev pub are_sim : List ℕ → List ℕ → Bool
are_sim verb file = bytes_eq verb (codes "sim") && is_file_name file

-- The command is the one that the words give, if they give any.
abbrev pub IsCommandOf : List (List ℕ) → Command → Type 0
IsCommandOf words (command.Convert file out) = IsConvert words file.now out.now
IsCommandOf words (command.Sim file) = IsSim words file.now
IsCommandOf words command.Unknown = GivesNone words

-- The commands of `myhdl`, and the words that give them. These rules are this project's own.
use Rattle.std.specs.Prelude.{ℕ, List, [], ◌∷◌, ◌≡◌, ◌≢◌, codes}
use Rattle.std.specs.Str.{IsUtf8}

-- What the program is asked to do.
pub data Command : Type 0 where
  -- convert the source that `file` holds, and store its Verilog text under `out`
  Convert : (file out : List ℕ) → Command
  -- run what the source that `file` holds asks to run, and print its lines
  Sim : (file : List ℕ) → Command

-- The name of a file isn't empty, doesn't begin with a hyphen and is UTF-8. So a word that isn't UTF-8 gives no command.
abbrev pub IsFileName : List ℕ → Type 0
IsFileName [] = ⊥
IsFileName (first ∷ rest) = (first ≢ 45) × IsUtf8 (first ∷ rest)

-- `convert FILE --verilog OUT`, with two different names.
pub record IsConvert (words : List (List ℕ)) (file out : List ℕ) : Type 0 where
  pub spelled : words ≡ codes "convert" ∷ file ∷ codes "--verilog" ∷ out ∷ []
  pub source : IsFileName file
  pub text : IsFileName out
  pub differ : file ≢ out

-- `sim FILE`.
pub record IsSim (words : List (List ℕ)) (file : List ℕ) : Type 0 where
  pub spelled : words ≡ codes "sim" ∷ file ∷ []
  pub source : IsFileName file

-- The words (without the program's name) give a command.
abbrev pub Gives : List (List ℕ) → Command → Type 0
Gives words (Convert file out) = IsConvert words file out
Gives words (Sim file) = IsSim words file

-- The words give no command.
abbrev pub GivesNone : List (List ℕ) → Type 0
GivesNone words = (command : Command) → Gives words command → ⊥

-- How `convert FILE --verilog OUT` ends. These rules are this project's own.
use Rattle.std.specs.Prelude.{ℕ, List, [], ◌≡◌, ◌≢◌, ◌⊎◌, ◌^◌, ◌<◌, ◌≤◌, Some, IfSome, false, length}
use Rattle.mh_gate.specs.declared.design.Design.{Design}
use Rattle.mh_host.specs.Shelf.{Seen, Rose, Told, HeldAfter}
use Rattle.mh_text.specs.declared.code.Code.{Code}
use Rattle.mh_top.specs.Emission.{KeepsValues, module_of}
use Rattle.mh_top.specs.Lines.{memory_line, refusal_line, shelf_line, too_long_line}
use Rattle.mh_top.specs.Run.{Run, IsFaultFree, HasFailedFetch, HasFailedStore, SameNames, KeepsNames}
use Rattle.mh_top.specs.Source.{IsRefusedFor, Spells, SpellsNone}
use Rattle.mh_top.specs.VerilogText.{text}
use Rattle.mh_top.specs.declared.status.TheConstants.Status.{DONE, REFUSED, SHELF, MEMORY, TOO_LONG}

-- A source is within the limit.
abbrev pub IsWithinLimit : List ℕ → Type 0
IsWithinLimit source = length source ≤ 2 ^ 20

-- The file holds a source within the limit that spells this design and no other.
pub record HoldsDesign (file : List ℕ) (d : Design) (before : Seen) : Type 0 where
  pub source : List ℕ
  pub held : before.holds file ≡ Some source
  pub within : IsWithinLimit source
  pub spelled : Spells source d
  pub only : (other : Design) → Spells source other → other ≡ d

-- Every name but one holds what it held.
abbrev pub OthersSame : List ℕ → Seen → Seen → Type 0
OthersSame name before after = (other : List ℕ) → other ≢ name → after.holds other ≡ before.holds other

-- OUT holds the text of the design that the file spells, and its right sides keep the values of the source.
pub record HasConverted (file out : List ℕ) (before after : Seen) : Type 0 where
  pub design : Design
  pub source : HoldsDesign file design before
  pub stored : after.holds out ≡ Some (text (module_of design))
  pub values : KeepsValues design (module_of design)
  pub others : OthersSame out before after

-- The store failed: OUT holds what it held or a front of the text.
pub record HasStoredInPart (file out : List ℕ) (before after : Seen) : Type 0 where
  pub design : Design
  pub source : HoldsDesign file design before
  pub stored : HeldAfter false (text (module_of design)) (before.holds out) (after.holds out)
  pub others : OthersSame out before after

-- The file holds a source within the limit that is refused for this code and line and spells no design, and no name changed.
pub record HasRefused (file : List ℕ) (code : Code) (line : ℕ) (before after : Seen) : Type 0 where
  pub source : List ℕ
  pub held : before.holds file ≡ Some source
  pub within : IsWithinLimit source
  pub cause : IsRefusedFor source code line
  pub none : SpellsNone source
  pub names : SameNames before after

-- The file holds more bytes than the limit, and no name changed.
pub record HasFoundTooLong (file : List ℕ) (before after : Seen) : Type 0 where
  pub source : List ℕ
  pub held : before.holds file ≡ Some source
  pub beyond : 2 ^ 20 < length source
  pub names : SameNames before after

-- The ends of the command: the status and the error line of each, why it comes, and what the names then hold. What is said of
-- names is said where the shelf tells.
pub data ConvertEnds (file out : List ℕ) (run : Run) (status : ℕ) (line : List ℕ) : Type 0 where
  -- the text is stored, and no call failed
  done : status ≡ DONE → line ≡ [] → IsFaultFree run → Told (HasConverted file out) run.before run.after → ConvertEnds file out run status line
  -- the source has no tokens or no tree, or is of no form that is converted
  refused : (code : Code) (number : ℕ) → status ≡ REFUSED → line ≡ refusal_line code number → IsFaultFree run →
      Told (HasRefused file code number) run.before run.after → ConvertEnds file out run status line
  -- the source wasn't fetched
  unfetched : status ≡ SHELF → line ≡ shelf_line file → HasFailedFetch run → KeepsNames run → ConvertEnds file out run status line
  -- the text wasn't stored
  unstored : status ≡ SHELF → line ≡ shelf_line out → HasFailedStore run → Told (HasStoredInPart file out) run.before run.after → ConvertEnds file out run status line
  -- memory was wanting, maybe for the line of a fetch that failed
  no_memory : status ≡ MEMORY → line ≡ memory_line → IsFaultFree run ⊎ HasFailedFetch run → KeepsNames run → ConvertEnds file out run status line
  -- the source is longer than its limit
  too_long : status ≡ TOO_LONG → line ≡ too_long_line file → IsFaultFree run → Told (HasFoundTooLong file) run.before run.after → ConvertEnds file out run status line

-- The status is this one, or memory was wanting.
abbrev pub IsOrMemory : ℕ → ℕ → Type 0
IsOrMemory status wanted = (status ≡ wanted) ⊎ (status ≡ MEMORY)

-- Which status comes for what the file holds, where no fetch and no store fails.
pub record StatusFits (source : List ℕ) (status : ℕ) : Type 0 where
  pub converted : (d : Design) → IsWithinLimit source → Spells source d → IsOrMemory status DONE
  pub refused : IsWithinLimit source → SpellsNone source → IsOrMemory status REFUSED
  pub too_long : 2 ^ 20 < length source → IsOrMemory status TOO_LONG

-- Where the shelf tells what the file holds, and neither the count of fetches nor that of stores rose, that status comes.
abbrev pub ConvertCompletes : List ℕ → Run → ℕ → Type 0
ConvertCompletes file run status =
    (Rose run.faults_before.fetch run.faults_after.fetch → ⊥)
    → (Rose run.faults_before.store run.faults_after.store → ⊥)
    → IfSome run.before (λ before. (source : List ℕ) → before.holds file ≡ Some source → StatusFits source status)

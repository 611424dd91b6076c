-- What the steps of a conversion leave. This serves the proof alone: what the command promises is said by `ConvertEnds`.
use Rattle.std.specs.Prelude.{ℕ, List, [], ◌≡◌, Bool, true, false, map, Some, None, Result, Ok, Err}
use Rattle.mh_gate.specs.declared.design.Design.{Design}
use Rattle.mh_host.specs.Shelf.{Seen, Told, HeldAfter}
use Rattle.mh_plans.specs.Planned.{plan_of}
use Rattle.mh_plans.specs.Plans.{Plan}
use Rattle.mh_plans.specs.declared.designs.Elaborated.{Elaborated}
use Rattle.mh_plans.specs.declared.designs.Request.{Request}
use Rattle.mh_text.specs.declared.code.Code.{Code}
use Rattle.mh_text.specs.declared.code.Code.TheVariants.{C1NoTop, N1NotYet}
use Rattle.mh_text.specs.declared.refusal.Refusal.{Refusal}
use Rattle.mh_text.specs.declared.refusal.Refusal.TheVariants.{At, Memory}
use Rattle.mh_top.specs.Convert.{OthersSame}
use Rattle.mh_top.specs.Emission.{KeepsValues, module_of}
use Rattle.mh_top.specs.Lines.{memory_line, refusal_line, shelf_line}
use Rattle.mh_top.specs.Run.{Run, IsFaultFree, HasFailedStore, Complains, KeepsNames}
use Rattle.mh_top.specs.Source.{Elaborates, IsNotMadeFor, IsRefusedFor, Spells, SpellsNone, first_conversion, gate_at}
use Rattle.mh_top.specs.VerilogText.{text}
use Rattle.mh_top.specs.declared.convert.Step.{Step}
use Rattle.mh_top.specs.declared.convert.Step.TheVariants.{Store, Refuse}
use Rattle.mh_top.specs.declared.status.TheConstants.Status.{DONE, REFUSED, SHELF, MEMORY}

-- A source spells this design and no other.
abbrev pub SpellsOnly : List ℕ → Design → Type 0
SpellsOnly source d = Spells source d × ((other : Design) → Spells source other → other ≡ d)

-- The designs and requests of a source.
abbrev pub IsElaborated : List ℕ → Elaborated → Type 0
IsElaborated source x = Elaborates source (Ok (map plan_of x.tops, x.requests))

-- Want of memory, or the cause of having none.
abbrev pub IsNotElaborated : List ℕ → Refusal → Type 0
IsNotElaborated source Memory = Unit {0}
IsNotElaborated source (At code line names) = IsNotMadeFor source code line

-- Want of memory, or a refusal with its cause.
abbrev pub IsRefusalOf : List ℕ → Refusal → Type 0
IsRefusalOf source Memory = Unit {0}
IsRefusalOf source (At code line names) = IsRefusedFor source code line × SpellsNone source

-- Why designs and requests have no gate.
pub data HasNoGate (plans : List Plan) (requests : List Request) (code : Code) (line : ℕ) : Type 0 where
  no_request : code ≡ C1NoTop → line ≡ 0 → first_conversion requests ≡ None → HasNoGate plans requests code line
  no_gate : (top : ℕ) → code ≡ N1NotYet → line ≡ 0 → first_conversion requests ≡ Some top → gate_at plans top ≡ None → HasNoGate plans requests code line

-- What the designs and requests of a source come to.
abbrev pub IsFoundIn : List Plan → List Request → Result Design Refusal → Type 0
IsFoundIn plans requests (Ok d) = (top : ℕ) × (first_conversion requests ≡ Some top) × (gate_at plans top ≡ Some d)
IsFoundIn plans requests (Err Memory) = Unit {0}
IsFoundIn plans requests (Err (At code line names)) = HasNoGate plans requests code line

-- A text and the design whose text it is, with the values of its source.
pub record IsTextOf (source bytes : List ℕ) : Type 0 where
  pub design : Design
  pub spelled : SpellsOnly source design
  pub is_text : bytes ≡ text (module_of design)
  pub values : KeepsValues design (module_of design)

-- What was prepared for a source.
abbrev pub IsPrepared : List ℕ → List ℕ → Step → Type 0
IsPrepared source out (Store text fault) = IsTextOf source text.items × (fault.items ≡ shelf_line out)
IsPrepared source out (Refuse line) = (code : Code) × (number : ℕ) × IsRefusedFor source code number × SpellsNone source × (line.items ≡ refusal_line code number)

-- The text was to be stored, and no other name changed.
pub record StoresText (done : Bool) (source out : List ℕ) (before after : Seen) : Type 0 where
  pub design : Design
  pub spelled : SpellsOnly source design
  pub values : KeepsValues design (module_of design)
  pub stored : HeldAfter done (text (module_of design)) (before.holds out) (after.holds out)
  pub others : OthersSame out before after

-- The ends of a conversion whose source is fetched.
pub data SourceEnds (source out : List ℕ) (run : Run) (status : ℕ) (line : List ℕ) : Type 0 where
  done : status ≡ DONE → line ≡ [] → IsFaultFree run → (d : Design) → SpellsOnly source d → Told (StoresText true source out) run.before run.after → SourceEnds source out run status line
  refused : (code : Code) (number : ℕ) → status ≡ REFUSED → line ≡ refusal_line code number → IsFaultFree run → IsRefusedFor source code number →
      SpellsNone source → KeepsNames run → SourceEnds source out run status line
  unstored : status ≡ SHELF → line ≡ shelf_line out → HasFailedStore run → Told (StoresText false source out) run.before run.after → SourceEnds source out run status line
  no_memory : status ≡ MEMORY → line ≡ memory_line → IsFaultFree run → KeepsNames run → SourceEnds source out run status line

abbrev pub EndsSource : List ℕ → List ℕ → Run → ℕ → Type 0
EndsSource source out run status = (line : List ℕ) × SourceEnds source out run status line × Complains line run

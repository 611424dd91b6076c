-- The sources that are converted today, and why others are refused. These rules are this project's own.
use Rattle.std.specs.Prelude.{ℕ, List, [], ◌∷◌, ◌≡◌, ◌≤◌, Bool, true, false, Option, Some, None, Result, Ok, Err, if◌then◌else◌, slice_get}
use Rattle.std.specs.Option.{option_and_then}
use Rattle.mh_elab.specs.Answer.{elaborated}
use Rattle.mh_gate.specs.Gate.{design_with, driven_alone, driven_of}
use Rattle.mh_gate.specs.declared.design.Design.{Design}
use Rattle.mh_plans.specs.Plans.{Plan}
use Rattle.mh_plans.specs.declared.designs.Request.{Request}
use Rattle.mh_pyparse.specs.Claims.{Refuses}
use Rattle.mh_pyparse.specs.Statements.{IsText}
use Rattle.mh_pytok.specs.Lexeme.{lexemes}
use Rattle.mh_pytok.specs.Tokens.{HasTokens, IsRefused}
use Rattle.mh_pytok.specs.declared.token.Token.{Token}
use Rattle.mh_pytree.specs.Depth.{text_depth}
use Rattle.mh_pytree.specs.declared.statement.PyStmt.{PyStmt}
use Rattle.mh_text.specs.declared.code.Code.{Code}
use Rattle.mh_text.specs.declared.code.Code.TheVariants.{S1Syntax, C1NoTop, N1NotYet}
use Rattle.mh_world.specs.World.{Broken}
use Rattle.mh_world.specs.declared.kinds.Verb.{Verb}
use Rattle.mh_world.specs.declared.kinds.Verb.TheVariants.{Convert, RunSim}

-- These statements are the tree of a source: of its tokens, of depth at most 200.
pub record HasTree (source : List ℕ) (tree : List PyStmt) : Type 0 where
  pub tokens : List Token
  pub read : HasTokens source tokens
  pub is : IsText tree (lexemes source tokens)
  pub depth : text_depth tree ≤ 200

-- What executing a source's statements gives: its designs and its requests, or the code and the line of the first rule that is
-- broken.
pub record Elaborates (source : List ℕ) (answer : Result (List Plan × List Request) Broken) : Type 0 where
  pub tree : List PyStmt
  pub has : HasTree source tree
  pub is : elaborated tree ≡ answer

-- A request asks for a conversion.
abbrev pub is_conversion : Verb → Bool
is_conversion Convert = true
is_conversion RunSim = false

-- The design of the first request for a conversion, by its place.
abbrev pub first_conversion : List Request → Option ℕ
first_conversion [] = None
first_conversion (r ∷ rs) = if is_conversion r.verb then Some r.top else first_conversion rs

-- The gate that a design is, if it is one.
abbrev pub gate_in : Plan → Option Design
gate_in p = design_with p.design (driven_alone (λ g. driven_of g.path g.kind g.body) p.generators)

abbrev pub gate_at : List Plan → ℕ → Option Design
gate_at plans top = option_and_then gate_in (slice_get plans top)

-- A source spells the gate that the design of its first request for a conversion is.
pub record Spells (source : List ℕ) (d : Design) : Type 0 where
  pub plans : List Plan
  pub requests : List Request
  pub top : ℕ
  pub elaborates : Elaborates source (Ok (plans, requests))
  pub asked : first_conversion requests ≡ Some top
  pub design : gate_at plans top ≡ Some d

-- Why a source has no designs and requests, by a code and a line: it has no tokens; its tokens have no tree, and no sentence begins
-- with those up to one on the line; or a statement on the line breaks a rule.
pub data IsNotMadeFor (source : List ℕ) (code : Code) (line : ℕ) : Type 0 where
  for_tokens : IsRefused source code line → IsNotMadeFor source code line
  for_grammar : (tokens : List Token) → code ≡ S1Syntax → HasTokens source tokens → Refuses 200 (lexemes source tokens) line → IsNotMadeFor source code line
  for_elaboration : Elaborates source (Err (code, line)) → IsNotMadeFor source code line

-- Why a source isn't converted: it has no designs and requests; no request asks for a conversion; or the design of the first that
-- does is no gate. The last two have no line.
pub data IsRefusedFor (source : List ℕ) (code : Code) (line : ℕ) : Type 0 where
  for_source : IsNotMadeFor source code line → IsRefusedFor source code line
  for_request : (plans : List Plan) (requests : List Request) → code ≡ C1NoTop → line ≡ 0 → Elaborates source (Ok (plans, requests)) → first_conversion requests ≡ None → IsRefusedFor source code line
  for_form : (plans : List Plan) (requests : List Request) (top : ℕ) → code ≡ N1NotYet → line ≡ 0 → Elaborates source (Ok (plans, requests)) →
      first_conversion requests ≡ Some top → gate_at plans top ≡ None → IsRefusedFor source code line

-- A source spells no design that is converted.
abbrev pub SpellsNone : List ℕ → Type 0
SpellsNone source = (d : Design) → Spells source d → ⊥

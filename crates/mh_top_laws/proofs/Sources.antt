-- A source comes to one answer.
use Rattle.std.proofs.Common.{◌≡◌, ℕ, List, ◌∷◌, ◌++◌, Option, None, Some, Result, Ok, Err, ap, refl, sym, ◌∙◌, subst}
use Rattle.mh_design.specs.declared.design.Design.{Design}
use Rattle.mh_gate.specs.declared.design.Design as gate
use Rattle.mh_plans.specs.Planned.{plan_of}
use Rattle.mh_plans.specs.Plans.{Plan}
use Rattle.mh_plans.specs.declared.designs.Request.{Request}
use Rattle.mh_pyparse.specs.Claims.{Refuses}
use Rattle.mh_pyparse.specs.Statements.{IsText}
use Rattle.mh_pytok.specs.Lexeme.{Lexeme, lexemes}
use Rattle.mh_pytok.specs.Tokens.{HasTokens, IsRefused}
use Rattle.mh_pytok.specs.declared.token.Token.{Token}
use Rattle.mh_pytree.specs.declared.statement.PyStmt.{PyStmt}
use Rattle.mh_text.specs.declared.code.Code.{Code}
use Rattle.mh_world.specs.World.{Broken}
use Rattle.mh_elab.specs.Answer.{elaborated}
use Rattle.mh_top.specs.Source.{HasTree, Elaborates, IsNotMadeFor, Spells, first_conversion, gate_at}
use Rattle.mh_top.specs.Simulated.{Asks, first_run, run_at}
use Rattle.mh_top_laws.proofs.Designs.{plans_differ}

some_same : {A : Type 0} (x y : A) → Some x ≡ Some y → x ≡ y
some_same x y h = cc

ok_same : {A B : Type 0} (x y : A) (a : Result A B) → a ≡ Ok x → a ≡ Ok y → x ≡ y
ok_same x y a h k = cc

err_ok : {A B : Type 0} (e : B) (x : A) (a : Result A B) → a ≡ Err e → a ≡ Ok x → ⊥
err_ok e x a h k = cc

module _ (token_lists : (source : List ℕ) (ts us : List Token) → HasTokens source ts → HasTokens source us → ts ≡ us) (trees : (a b : List PyStmt) (ts : List Lexeme) → IsText a ts → IsText b ts → a ≡ b) (source : List ℕ) where
  one_tree : (a b : List PyStmt) → HasTree source a → HasTree source b → a ≡ b
  one_tree a b h k = trees a b (lexemes source h.tokens) h.is (subst (λ ts. IsText b (lexemes source ts)) (token_lists source k.tokens h.tokens k.read h.read) k.is)

  pub one_answer : (a b : Result (List Plan × List Request) Broken) → Elaborates source a → Elaborates source b → a ≡ b
  one_answer a b h k = sym h.is ∙ ap elaborated (one_tree h.tree k.tree h.has k.has) ∙ k.is

  pub made_once : (x y : List Plan × List Request) → Elaborates source (Ok x) → Elaborates source (Ok y) → x ≡ y
  made_once x y h k = ok_same x y (Ok y) (sym (one_answer (Ok x) (Ok y) h k)) refl

  asked_once : (d e : Design) (m n : ℕ) → Asks source d m → Asks source e n → ◌≡◌ {A = Plan × ℕ} (plan_of d, m) (plan_of e, n)
  asked_once d e m n h k =
      some_same (plan_of d, m) (plan_of e, n) (sym h.asked ∙ ap (λ (x : List Plan × List Request). run_at x.0 (first_run x.1)) (made_once (h.plans, h.requests) (k.plans, k.requests) h.elaborates k.elaborates) ∙ k.asked)

  pub one_run : (d e : Design) (m n : ℕ) → Asks source d m → Asks source e n → (d ≡ e) × (m ≡ n)
  one_run d e m n h k = (plans_differ d e (ap (λ (x : Plan × ℕ). x.0) (asked_once d e m n h k)), ap (λ (x : Plan × ℕ). x.1) (asked_once d e m n h k))

  abbrev gates_at : Option ℕ → List Plan → Option gate.Design
  gates_at None plans = None
  gates_at (Some top) plans = gate_at plans top

  pub one_gate : (d e : gate.Design) → Spells source d → Spells source e → d ≡ e
  one_gate d e h k = some_same d e (sym (found d h) ∙ ap (λ (x : List Plan × List Request). gates_at (first_conversion x.1) x.0) (made_once (h.plans, h.requests) (k.plans, k.requests) h.elaborates k.elaborates) ∙ found e k)
    where
      found : (d : gate.Design) (h : Spells source d) → gates_at (first_conversion h.requests) h.plans ≡ Some d
      found d h = ap (λ o. gates_at o h.plans) h.asked ∙ h.design

  -- ---- what is refused

  begun : (a : List PyStmt) (ts us : List Token) (all : List Lexeme) → IsText a (lexemes source ts) → ts ≡ us → lexemes source us ≡ all → IsText a all
  begun a ts us all h p q = subst (λ z. IsText a z) q (subst (λ z. IsText a (lexemes source z)) p h)

  no_tree : (a : List PyStmt) (ts : List Token) (line : ℕ) → Refuses 200 (lexemes source ts) line → HasTokens source ts → HasTree source a → ⊥
  no_tree a ts line r read h =
      r.5 a r.2 (begun a h.tokens ts (r.0 ++ r.1 ∷ r.2) h.is (token_lists source h.tokens ts h.read read) r.3) h.depth

  module _ (not_both : (source : List ℕ) (ts : List Token) (code : Code) (line : ℕ) → HasTokens source ts → IsRefused source code line → ⊥) where
    pub not_made : (x : List Plan × List Request) (code : Code) (line : ℕ) → IsNotMadeFor source code line → Elaborates source (Ok x) → ⊥
    not_made x code line (IsNotMadeFor.for_tokens r) h = not_both source h.has.tokens code line h.has.read r
    not_made x code line (IsNotMadeFor.for_grammar ts is read r) h = no_tree h.tree ts line r read h.has
    not_made x code line (IsNotMadeFor.for_elaboration e) h = err_ok (code, line) x (Ok x) (sym (one_answer (Err (code, line)) (Ok x) e h)) refl

-- The run of a source ends in one way.
use Rattle.std.proofs.Common.{◌≡◌, ℕ, List, Option, Some, None, Result, ap, sym, ◌∙◌, subst}
use Rattle.mh_design.specs.declared.design.Design.{Design}
use Rattle.mh_design.specs.Inout.{first_inout}
use Rattle.mh_plans.specs.Planned.{plan_of}
use Rattle.mh_plans.specs.Plans.{Plan}
use Rattle.mh_plans.specs.declared.designs.Request.{Request}
use Rattle.mh_pyparse.specs.Statements.{IsText}
use Rattle.mh_pytok.specs.Lexeme.{Lexeme}
use Rattle.mh_pytok.specs.Tokens.{HasTokens, IsRefused}
use Rattle.mh_pytok.specs.declared.token.Token.{Token}
use Rattle.mh_pytree.specs.declared.statement.PyStmt.{PyStmt}
use Rattle.mh_sched.specs.declared.answer.End.{End}
use Rattle.mh_sched.specs.declared.fault.SimFault.{SimFault}
use Rattle.mh_sched.specs.Lines.{Line, text_of}
use Rattle.mh_sched.specs.Runs.{Moment, Row, Runs, first_moment}
use Rattle.mh_text.specs.declared.code.Code.{Code}
use Rattle.mh_top.specs.Simulated.{Asks, IsUnrunFor, Ran, RunEnds, first_run, run_at}
use Rattle.mh_top_laws.proofs.Sources.{made_once, not_made, one_run}

module _ (asked : (source : List ℕ) (d e : Design) (m n : ℕ) → Asks source d m → Asks source e n → (d ≡ e) × (m ≡ n)) (runs : (d : Design) (limit : ℕ) (m : Moment) (r r' : Result End SimFault) (ls ls' : List Line) (rows rows' : List Row) (n n' : Moment) → Runs d limit m r ls rows n → Runs d limit m r' ls' rows' n' → (r ≡ r') × (ls ≡ ls') × (rows ≡ rows') × (n ≡ n')) where
  ran_once : (d : Design) (n : ℕ) (a b : Result End SimFault) (s t : List ℕ) → Ran d n a s → Ran d n b t → (a ≡ b) × (s ≡ t)
  ran_once d n a b s t h k =
      let one = runs d n (first_moment d) a b h.lines k.lines h.rows k.rows h.after k.after h.runs k.runs in
      (one.0, h.is ∙ ap text_of one.1 ∙ sym k.is)

  same_run : (d e : Design) (m n : ℕ) (b : Result End SimFault) (t : List ℕ) → d ≡ e → m ≡ n → Ran e n b t → Ran d m b t
  same_run d e m n b t p q r = subst (λ x. Ran x m b t) (sym p) (subst (λ x. Ran e x b t) (sym q) r)

  pub ends_once : (source : List ℕ) (a b : Result End SimFault) (s t : List ℕ) → RunEnds source a s → RunEnds source b t → (a ≡ b) × (s ≡ t)
  ends_once source a b s t h k =
      let same = asked source h.design k.design h.time k.time h.asks k.asks in
      ran_once h.design h.time a b s t h.ran (same_run h.design k.design h.time k.time b t same.0 same.1 k.ran)

some_none : {A : Type 0} (x : A) (o : Option A) → o ≡ Some x → o ≡ None → ⊥
some_none x o h k = cc

module _ (token_lists : (source : List ℕ) (ts us : List Token) → HasTokens source ts → HasTokens source us → ts ≡ us) (trees : (a b : List PyStmt) (ts : List Lexeme) → IsText a ts → IsText b ts → a ≡ b) (not_both : (source : List ℕ) (ts : List Token) (code : Code) (line : ℕ) → HasTokens source ts → IsRefused source code line → ⊥) (source : List ℕ) where
  pub refused_apart : (code : Code) (line : ℕ) (a : Result End SimFault) (t : List ℕ) → IsUnrunFor source code line → RunEnds source a t → ⊥
  refused_apart code line a t (IsUnrunFor.for_source r) k = not_made token_lists trees source not_both (k.asks.plans, k.asks.requests) code line r k.asks.elaborates
  refused_apart code line a t (IsUnrunFor.for_request plans requests is at e none) k =
      some_none (plan_of k.design, k.time) (run_at plans (first_run requests))
      (ap (λ (x : List Plan × List Request). run_at x.0 (first_run x.1)) (made_once token_lists trees source (plans, requests) (k.asks.plans, k.asks.requests) e k.asks.elaborates) ∙ k.asks.asked) none
  refused_apart code line a t (IsUnrunFor.for_inout d n is asks fits found) k =
      some_none line (first_inout d d.generators) found (ap (λ (x : Design). first_inout x x.generators) (one_run token_lists trees source d k.design n k.time asks k.asks).0 ∙ k.apart)

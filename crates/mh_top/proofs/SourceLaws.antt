-- A source has one tree and spells one design, and what is refused spells none.
use Rattle.std.proofs.Common.{◌≡◌, ℕ, List, [], ◌∷◌, Option, Some, None, Result, Ok, Err, map, refl, sym, ap, subst, slice_get, ◌∙◌}
use Rattle.mh_elab.specs.Answer.{elaborated}
use Rattle.mh_design.specs.declared.design.Design.{Design as Flat}
use Rattle.mh_design.specs.declared.design.Generator.{Generator as FlatGenerator}
use Rattle.mh_gate.specs.Gate.{design_with, driven_alone, driven_by_generator, driven_of, gate_of}
use Rattle.mh_gate.specs.declared.design.Design.{Design}
use Rattle.mh_plans.specs.Planned.{drawn_of, plan_of}
use Rattle.mh_plans.specs.declared.designs.Elaborated.{Elaborated}
use Rattle.std.specs.Result.{IfErr, IfOk}
use Rattle.std.proofs.lemmas.Option.{slice_get-map}
use Rattle.std.specs.Option.{option_and_then, option_map}
use Rattle.mh_plans.specs.Plans.{Plan}
use Rattle.mh_plans.specs.declared.designs.Request.{Request}
use Rattle.mh_pyparse.proofs.Refuse.{one_tree}
use Rattle.mh_pyparse.specs.Claims.{Refuses}
use Rattle.mh_pyparse.specs.Statements.{IsText}
use Rattle.mh_pytok.proofs.Unique.{reads_once, not_both}
use Rattle.mh_pytok.specs.Lexeme.{lexemes}
use Rattle.mh_pytok.specs.Tokens.{HasTokens, IsRefused, start}
use Rattle.mh_pytok.specs.declared.token.Token.{Token}
use Rattle.mh_pytree.specs.declared.statement.PyStmt.{PyStmt}
use Rattle.mh_pytree.specs.declared.statement.Module.{Module}
use Rattle.mh_text.specs.declared.code.Code.{Code}
use Rattle.mh_text.specs.declared.code.Code.TheVariants.{S1Syntax}
use Rattle.mh_text.specs.declared.refusal.Refusal.{Refusal}
use Rattle.mh_text.specs.declared.refusal.Refusal.TheVariants as refusal
use Rattle.mh_top.specs.Source.{HasTree, Elaborates, IsNotMadeFor, Spells, SpellsNone, for_tokens, for_grammar, for_elaboration, for_source, for_request, for_form, first_conversion, gate_at, gate_in}
use Rattle.mh_top.specs.Steps.{IsElaborated, IsFoundIn, IsNotElaborated, IsRefusalOf, SpellsOnly, no_request, no_gate}
use Rattle.mh_world.specs.World.{Broken}

-- the tree of a source, over any list of its tokens
tree_over : (source : List ℕ) (tree : List PyStmt) (ts : List Token) → HasTree source tree → HasTokens source ts → IsText tree (lexemes source ts)
tree_over source tree ts h read =
    subst (λ (us : List Token). IsText tree (lexemes source us)) (reads_once source start h.tokens ts h.read read) h.is

same_tree : (source : List ℕ) (a b : List PyStmt) → HasTree source a → HasTree source b → a ≡ b
same_tree source a b h k = one_tree a b (lexemes source k.tokens) (tree_over source a k.tokens h k.read) k.is

-- a source has one answer of elaboration
pub one_answer : (source : List ℕ) (r s : Result (List Plan × List Request) Broken) → Elaborates source r → Elaborates source s → r ≡ s
one_answer source r s x y = sym x.is ∙ ap elaborated (same_tree source x.tree y.tree x.has y.has) ∙ y.is

-- the parts of an answer
abbrev plans_in : Result (List Plan × List Request) Broken → List Plan
plans_in (Ok x) = x.0
plans_in (Err b) = []

abbrev requests_in : Result (List Plan × List Request) Broken → List Request
requests_in (Ok x) = x.1
requests_in (Err b) = []

pub same_plans : (source : List ℕ) (ps qs : List Plan) (rs ts : List Request) → Elaborates source (Ok (ps, rs)) → Elaborates source (Ok (qs, ts)) → ps ≡ qs
same_plans source ps qs rs ts x y = ap plans_in (one_answer source (Ok (ps, rs)) (Ok (qs, ts)) x y)

pub same_requests : (source : List ℕ) (ps qs : List Plan) (rs ts : List Request) → Elaborates source (Ok (ps, rs)) → Elaborates source (Ok (qs, ts)) → rs ≡ ts
same_requests source ps qs rs ts x y = ap requests_in (one_answer source (Ok (ps, rs)) (Ok (qs, ts)) x y)

pub some_same : {A : Type 0} (a b : A) → Some a ≡ Some b → a ≡ b
some_same a b is = cc

pub none_some : {A : Type 0} (a : A) → None ≡ Some a → ⊥
none_some a is = cc

pub err_ok : (b : Broken) (x : List Plan × List Request) → Err b ≡ Ok x → ⊥
err_ok b x is = cc

same_design : (source : List ℕ) (a b : Design) → Spells source a → Spells source b → b ≡ a
same_design source a b s t =
    let plans = same_plans source s.plans t.plans s.requests t.requests s.elaborates t.elaborates in
    let requests = same_requests source s.plans t.plans s.requests t.requests s.elaborates t.elaborates in
    let top : s.top ≡ t.top = some_same s.top t.top (sym s.asked ∙ ap first_conversion requests ∙ t.asked) in
    some_same b a (sym t.design ∙ sym (ap (λ ps. gate_at ps t.top) plans) ∙ sym (ap (gate_at s.plans) top) ∙ s.design)

-- designs and requests that have a gate give it and no other
pub spells_only : (source : List ℕ) (plans : List Plan) (requests : List Request) (d : Design) → Elaborates source (Ok (plans, requests)) →
    IsFoundIn plans requests (Ok d) → SpellsOnly source d
spells_only source plans requests d x found =
    let s : Spells source d = record { plans = plans; requests = requests; top = found.0; elaborates = x; asked = found.1; design = found.2 } in
    (s, λ other t. same_design source d other s t)

-- a source that isn't made has no designs and requests
pub not_made_once : (source : List ℕ) (code : Code) (line : ℕ) (plans : List Plan) (requests : List Request) → IsNotMadeFor source code line → Elaborates source (Ok (plans, requests)) → ⊥
not_made_once source code line plans requests (for_tokens refused) x = not_both source start x.has.tokens code line x.has.read refused
not_made_once source code line plans requests (for_grammar ts is read refuses) x =
    refuses.5 x.tree refuses.2 (subst (IsText x.tree) refuses.3 (tree_over source x.tree ts x.has read)) x.has.depth
not_made_once source code line plans requests (for_elaboration y) x =
    err_ok (code, line) (plans, requests) (one_answer source (Err (code, line)) (Ok (plans, requests)) y x)

none_for_source : (source : List ℕ) (code : Code) (line : ℕ) → IsNotMadeFor source code line → SpellsNone source
none_for_source source code line cause d s = not_made_once source code line s.plans s.requests cause s.elaborates

none_for_request : (source : List ℕ) (plans : List Plan) (requests : List Request) → Elaborates source (Ok (plans, requests)) →
    first_conversion requests ≡ None → SpellsNone source
none_for_request source plans requests x none d s =
    let same = same_requests source plans s.plans requests s.requests x s.elaborates in
    none_some s.top (sym none ∙ ap first_conversion same ∙ s.asked)

none_for_form : (source : List ℕ) (plans : List Plan) (requests : List Request) (top : ℕ) → Elaborates source (Ok (plans, requests)) →
    first_conversion requests ≡ Some top → gate_at plans top ≡ None → SpellsNone source
none_for_form source plans requests top x asked none d s =
    let same = same_plans source plans s.plans requests s.requests x s.elaborates in
    let also = same_requests source plans s.plans requests s.requests x s.elaborates in
    let is : top ≡ s.top = some_same top s.top (sym asked ∙ ap first_conversion also ∙ s.asked) in
    none_some d (sym none ∙ ap (λ ps. gate_at ps top) same ∙ ap (gate_at s.plans) is ∙ s.design)

-- what the parser refuses
pub parse_refused : (source : List ℕ) (ts : List Token) (r : Result Module Refusal) → HasTokens source ts →
    ((code : Code) (line : ℕ) (names : List (List ℕ)) → r ≡ Err (refusal.At code line names) → (code ≡ S1Syntax) × (names ≡ []) × Refuses 200 (lexemes source ts) line) →
    (e : Refusal) → r ≡ Err e → IsNotElaborated source e
parse_refused source ts r read refused refusal.Memory is = tt
parse_refused source ts r read refused (refusal.At code line names) is =
    let h = refused code line names is in
    for_grammar ts h.0 read h.2

-- what the tokens refuse
pub tokens_refused : (source : List ℕ) (r : Result (List Token) Refusal) →
    ((code : Code) (line : ℕ) (names : List (List ℕ)) → r ≡ Err (refusal.At code line names) → IsRefused source code line × (names ≡ [])) →
    (e : Refusal) → r ≡ Err e → IsNotElaborated source e
tokens_refused source r refused refusal.Memory is = tt
tokens_refused source r refused (refusal.At code line names) is = for_tokens (refused code line names is).0

-- what isn't elaborated spells nothing
pub unmade_refused : (source : List ℕ) (e : Refusal) → IsNotElaborated source e → IsRefusalOf source e
unmade_refused source refusal.Memory h = tt
unmade_refused source (refusal.At code line names) h = (for_source h, none_for_source source code line h)

-- designs and requests without a gate
pub found_refused : (source : List ℕ) (plans : List Plan) (requests : List Request) (e : Refusal) → Elaborates source (Ok (plans, requests)) →
    IsFoundIn plans requests (Err e) → IsRefusalOf source e
found_refused source plans requests refusal.Memory x found = tt
found_refused source plans requests (refusal.At code line names) x (no_request c l none) =
    (for_request plans requests c l x none, none_for_request source plans requests x none)
found_refused source plans requests (refusal.At code line names) x (no_gate top c l asked none) =
    (for_form plans requests top c l x asked none, none_for_form source plans requests top x asked none)

-- what `read` answers of a source that was elaborated, and of one that wasn't
pub found_ok : (source : List ℕ) (x : Elaborated) (r : Result Design Refusal) → IsElaborated source x → IsFoundIn (map plan_of x.tops) x.requests r → IfOk r (SpellsOnly source)
found_ok source x (Ok d) made found = spells_only source (map plan_of x.tops) x.requests d made found
found_ok source x (Err e) made found = tt

pub found_err : (source : List ℕ) (x : Elaborated) (r : Result Design Refusal) → IsElaborated source x → IsFoundIn (map plan_of x.tops) x.requests r → IfErr r (IsRefusalOf source)
found_err source x (Ok d) made found = tt
found_err source x (Err e) made found = found_refused source (map plan_of x.tops) x.requests e made found

pub unmade_step : (source : List ℕ) (r : Result Elaborated Refusal) (e : Refusal) → r ≡ Err e → IfErr r (IsNotElaborated source) → IsRefusalOf source e
unmade_step source r e is h = unmade_refused source e (subst (λ (x : Result Elaborated Refusal). IfErr x (IsNotElaborated source)) is h)

-- ---- the gate that a design is

drawn_alone : (gs : List FlatGenerator) → driven_alone driven_by_generator gs ≡ driven_alone (λ g. driven_of g.path g.kind g.body) (map drawn_of gs)
drawn_alone [] = refl
drawn_alone (g ∷ []) = refl
drawn_alone (g ∷ h ∷ gs) = refl

with_plan : (d : Flat) (o : Option _) → design_with d o ≡ design_with (plan_of d).design o
with_plan d None = refl
with_plan d (Some g) = refl

pub gate_of_plan : (d : Flat) → gate_of d ≡ gate_in (plan_of d)
gate_of_plan d = ap (design_with d) (drawn_alone d.generators) ∙ with_plan d (driven_alone (λ g. driven_of g.path g.kind g.body) (map drawn_of d.generators))

pub gate_at_place : (ds : List Flat) (top : ℕ) (d : Flat) → slice_get ds top ≡ Some d → gate_of d ≡ gate_at (map plan_of ds) top
gate_at_place ds top d is = gate_of_plan d ∙ sym (ap (option_and_then gate_in) (slice_get-map plan_of ds top ∙ ap (option_map plan_of) is))

-- The design whose plain form this is.
use Rattle.std.proofs.Common.{◌≡◌, List, [], ◌∷◌, map, refl, ap, ap₂, sym, ◌∙◌}
use Rattle.mh_design.specs.declared.design.Design.{Design}
use Rattle.mh_design.specs.declared.design.Generator.{Generator}
use Rattle.mh_design.specs.declared.statement.GStmt.{GStmt}
use Rattle.mh_plans.specs.Planned.{drawn_of, plan_of}
use Rattle.mh_plans.specs.Plans.{Drawn, Plan}
use Rattle.mh_top_laws.proofs.Trees.{block_from, block_back}

abbrev generator_from : Drawn → Generator
generator_from g = record { path = g.path; line = g.line; kind = g.kind; locals = g.locals; body = block_from g.body }

abbrev design_from : Plan → Design
design_from p = record p.design { generators = map generator_from p.generators }

generator_back : (g : Generator) → generator_from (drawn_of g) ≡ g
generator_back g = ap (λ (b : List GStmt). record g { body = b }) (block_back g.body)

generators_back : (gs : List Generator) → map generator_from (map drawn_of gs) ≡ gs
generators_back [] = refl
generators_back (g ∷ gs) = ap₂ (λ x xs. x ∷ xs) (generator_back g) (generators_back gs)

design_back : (d : Design) → design_from (plan_of d) ≡ d
design_back d = ap (λ (gs : List Generator). record d { generators = gs }) (generators_back d.generators)

pub plans_differ : (d e : Design) → plan_of d ≡ plan_of e → d ≡ e
plans_differ d e h = sym (design_back d) ∙ ap design_from h ∙ design_back e

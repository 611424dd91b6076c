-- Designs of worked examples are computed with the bodies of their generators in plain form.
use Rattle.std.proofs.Common.{◌≡◌, ℕ, List, [], ◌∷◌, map, Option, Some, None, Result, Ok, Err, refl, ap, sym, ◌∙◌}
use Rattle.mh_design.specs.Tree as t
use Rattle.mh_design.specs.Tree.{Block}
use Rattle.mh_world.specs.World.{Broken}
use Rattle.mh_world.specs.World.{World, Made, after}
use Rattle.mh_plans.specs.declared.designs.Request.{Request}
use Rattle.mh_plans.specs.Plans.{Plan, plans}

abbrev with_body : Block → Made → Made
with_body b g = record g { body = b }

abbrev with_each : List Block → List Made → List Made
with_each (b ∷ bs) (g ∷ gs) = with_body b g ∷ with_each bs gs
with_each bs gs = gs

abbrev body_in : Made → Block
body_in g = g.body

same_each : (gs : List Made) → with_each (map body_in gs) gs ≡ gs
same_each [] = refl
same_each (g ∷ gs) = ap (λ hs. g ∷ hs) (same_each gs)

-- the bodies that were read
abbrev pub bodies : Result World Broken → List Block
bodies (Ok w) = map body_in w.generators
bodies (Err b) = []

abbrev with_bodies : List Block → Result World Broken → Result World Broken
with_bodies bs (Ok w) = Ok (record w { generators = with_each bs w.generators })
with_bodies bs (Err b) = Err b

same_bodies : (r : Result World Broken) → with_bodies (bodies r) r ≡ r
same_bodies (Ok w) = ap (λ gs. Ok (record w { generators = gs })) (same_each w.generators)
same_bodies (Err b) = refl

-- the designs where the bodies are these
abbrev pub drawn_with : List Block → Result World Broken → Result (List Plan × List Request) Broken
drawn_with bs r = after (with_bodies bs r) plans

pub drawn : (r : Result World Broken) (bs : List Block) → bodies r ≡ bs → after r plans ≡ drawn_with bs r
drawn r bs h = ap (λ q. after q plans) (sym (same_bodies r)) ∙ ap (λ cs. drawn_with cs r) h

-- an assignment to a whole signal
abbrev pub set_at : ℕ → ℕ → t.Expression → Block
set_at l k r = t.block (t.Set l (t.Whole (t.LeftSignal k)) r ∷ [])

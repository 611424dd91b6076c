-- Whether a design keeps the limits, and designs one after another.
use Rattle.std.proofs.Common.{◌≡◌, ◌∙◌, ℕ, zero, suc, ◌+◌, ◌<◌, ◌≤◌, Bool, true, false, ◌&&◌, List, [], ◌∷◌, ◌++◌, map, length, drop, get_or, Option, Some, None, Result, Ok, Err, refl, sym, ap, subst, arith}
use Rattle.std.specs.Prelude.{nat_le, nat_lt, slice_get, if◌then◌else◌}
use Rattle.std.specs.Option.{option_map, option_map_or}
use Rattle.std.proofs.lemmas.Bool.Decides.{nat_tests}
use Rattle.std.proofs.lemmas.List.{append_assoc, append-nil, drop_more, length-map, map-append}
use Rattle.std.proofs.lemmas.Option.{slice_get-map}
use Rattle.mh_text.specs.declared.code.Code.{Code}
use Rattle.mh_text.specs.declared.code.Code.TheVariants.{E9SizeLimit}
use Rattle.mh_design.specs.declared.design.Design.{Design}
use Rattle.mh_design.specs.WellFormed.{outside_count, element_count}
use Rattle.mh_design.specs.declared.design.Generator.{Generator}
use Rattle.mh_world.specs.World.{World, Made, Broken, after}
use Rattle.mh_text.specs.declared.fault.Fault.{Fault}
use Rattle.mh_text.specs.declared.fault.Fault.TheVariants as fault
use Rattle.mh_world.specs.declared.kinds.Instance.{Instance}
use Rattle.mh_plans.specs.Paths.{ports_in}
use Rattle.mh_plans.specs.Renumbered.{Chosen}
use Rattle.mh_plans.specs.Plans.{Drawn, Plan, plan, plan_with, plan_as, design_as, drawn, chosen, plan_fits, fitting, plan_at, plans_of, plans, tops, request_of}
use Rattle.mh_plans.specs.Planned.{drawn_of, plan_of, Planned, PlansAll, Plans}
use Rattle.mh_plans.specs.declared.designs.Request.{Request}

-- the three limits
three : (a b c r : Bool) → b ≡ true → (a && c) ≡ r → ((a && b) && c) ≡ r
three true b c r h e = ap (λ x. x && c) h ∙ e
three false b c r h e = e

within : (n : ℕ) → n ≤ 1024 → nat_le n 1024 ≡ true
within n h = grind (arith, nat_tests)

beyond : (n : ℕ) → 1024 < n → nat_le n 1024 ≡ false
beyond n h = grind (arith, nat_tests)

fits_as : (p : Plan) (b : Bool) → length p.generators ≤ 1024 → b ≡ (nat_le (outside_count p.design) 4096 && nat_le (element_count p.design) 65536) → plan_fits p ≡ b
fits_as p b few e = three (nat_le (outside_count p.design) 4096) (nat_le (length p.generators) 1024) (nat_le (element_count p.design) 65536) b (within (length p.generators) few) (sym e)

pub is_fitting : (p : Plan) (b : Bool) → length p.generators ≤ 1024 → b ≡ (nat_le (outside_count p.design) 4096 && nat_le (element_count p.design) 65536) → b ≡ true → fitting p ≡ Ok p
is_fitting p b few e t = ap (λ x. if x then Ok p else Err (E9SizeLimit, 0)) (fits_as p b few e ∙ t)

pub is_too_large : (p : Plan) (b : Bool) → length p.generators ≤ 1024 → b ≡ (nat_le (outside_count p.design) 4096 && nat_le (element_count p.design) 65536) → b ≡ false → fitting p ≡ Err (E9SizeLimit, 0)
is_too_large p b few e t = ap (λ x. if x then Ok p else Err (E9SizeLimit, 0)) (fits_as p b few e ∙ t)

none_of : (a b c : Bool) → b ≡ false → ((a && b) && c) ≡ false
none_of true b c h = ap (λ x. x && c) h
none_of false b c h = refl

pub is_too_many : (p : Plan) → 1024 < length p.generators → fitting p ≡ Err (E9SizeLimit, 0)
is_too_many p many = ap (λ x. if x then Ok p else Err (E9SizeLimit, 0)) (none_of (nat_le (outside_count p.design) 4096) (nat_le (length p.generators) 1024) (nat_le (element_count p.design) 65536) (beyond (length p.generators) many))

-- ---- one design

abbrev plan_from : Design → List Drawn → Plan
plan_from d gs = record { design = d; generators = gs }

alike : (w : World) (top : ℕ) (x : Instance) (rs : List Made) (ports : List ℕ) (k : Chosen) → ports ≡ ports_in x.arguments → k ≡ chosen w ports rs → plan_as w top x rs k ≡ plan_with w top x rs
alike w top x rs ports k p e = ap (plan_as w top x rs) (e ∙ ap (λ ns. chosen w ns rs) p)

few_drawn : (w : World) (top : ℕ) (x : Instance) (rs : List Made) (k : Chosen) → length rs ≤ 1024 → length (map (drawn w top k) rs) ≤ 1024
few_drawn w top x rs k h = let e = length-map rs (drawn w top k) in omega (arith, e, h)

fits_then : (w : World) (top : ℕ) (x : Instance) (rs : List Made) (k : Chosen) (d : Design) (b : Bool) → d ≡ design_as w top x k → b ≡ (nat_le (outside_count d) 4096 && nat_le (element_count d) 65536) → b ≡ (nat_le (outside_count (plan_as w top x rs k).design) 4096 && nat_le (element_count (plan_as w top x rs k).design) 65536)
fits_then w top x rs k d b e f = f ∙ ap (λ y. nat_le (outside_count y) 4096 && nat_le (element_count y) 65536) e

pub made_plan : (w : World) (top : ℕ) (x : Instance) (rs : List Made) (ports : List ℕ) (k : Chosen) (d : Design) (gens : List Generator) (b : Bool) → length rs ≤ 1024 → ports ≡ ports_in x.arguments → k ≡ chosen w ports rs → d ≡ design_as w top x k → b ≡ (nat_le (outside_count d) 4096 && nat_le (element_count d) 65536) → b ≡ true → map drawn_of gens ≡ map (drawn w top k) rs → fitting (plan_with w top x rs) ≡ Ok (plan_of (record d { generators = gens }))
made_plan w top x rs ports k d gens b few p e is f t g =
    ap fitting (sym (alike w top x rs ports k p e))
    ∙ is_fitting (plan_as w top x rs k) b (few_drawn w top x rs k few) (fits_then w top x rs k d b is f) t
    ∙ ap Ok (sym (ap (λ (y : Design). plan_from (record y { generators = [] }) (map drawn_of gens)) is ∙ ap (plan_from (design_as w top x k)) g))

pub large_plan : (w : World) (top : ℕ) (x : Instance) (rs : List Made) (ports : List ℕ) (k : Chosen) (d : Design) (b : Bool) → length rs ≤ 1024 → ports ≡ ports_in x.arguments → k ≡ chosen w ports rs → d ≡ design_as w top x k → b ≡ (nat_le (outside_count d) 4096 && nat_le (element_count d) 65536) → b ≡ false → fitting (plan_with w top x rs) ≡ Err (E9SizeLimit, 0)
large_plan w top x rs ports k d b few p e is f t =
    ap fitting (sym (alike w top x rs ports k p e))
    ∙ is_too_large (plan_as w top x rs k) b (few_drawn w top x rs k few) (fits_then w top x rs k d b is f) t

pub many_plan : (w : World) (top : ℕ) (x : Instance) (rs : List Made) → 1024 < length rs → fitting (plan_with w top x rs) ≡ Err (E9SizeLimit, 0)
many_plan w top x rs h =
    let e = length-map rs (drawn w top (chosen w (ports_in x.arguments) rs)) in
    is_too_many (plan_with w top x rs) (omega (arith, e, h))

-- ---- designs one after another

added : (ps qs : List Plan) (r : Result (List Plan) Broken) → after (after r (λ us. Ok (qs ++ us))) (λ us. Ok (ps ++ us)) ≡ after r (λ us. Ok ((ps ++ qs) ++ us))
added ps qs (Ok us) = ap Ok (sym (append_assoc ps qs us))
added ps qs (Err e) = refl

-- more designs
pub one_more : (w : World) (ps more : List Plan) (t : ℕ) (ts : List ℕ) → plan_at w t (slice_get w.instances t) ≡ Ok more → after (plans_of w (t ∷ ts)) (λ qs. Ok (ps ++ qs)) ≡ after (plans_of w ts) (λ qs. Ok ((ps ++ more) ++ qs))
one_more w ps more t ts e =
    ap (λ r. after (after r (λ us. after (plans_of w ts) (λ qs. Ok (us ++ qs)))) (λ qs. Ok (ps ++ qs))) e
    ∙ added ps more (plans_of w ts)

-- a design that is refused
pub refused : (w : World) (all : Result (List Plan) Broken) (ps : List Plan) (t : ℕ) (ts : List ℕ) (e : Fault Broken) → all ≡ after (plans_of w (t ∷ ts)) (λ qs. Ok (ps ++ qs)) → PlansAll (plan_at w t (slice_get w.instances t)) (Err e) → PlansAll all (Err e)
refused w all ps t ts (fault.Broken rule) h f =
    h ∙ ap (λ r. after (after r (λ us. after (plans_of w ts) (λ qs. Ok (us ++ qs)))) (λ qs. Ok (ps ++ qs))) f
refused w all ps t ts fault.Memory h f = tt

-- the design of an instance, alone
pub one_made : (w : World) (t : ℕ) (x : Instance) (d : Design) (all : List Design) → fitting (plan w t x) ≡ Ok (plan_of d) → all ≡ d ∷ [] → plan_at w t (Some x) ≡ Ok (map plan_of all)
one_made w t x d all f e = ap (λ r. after r (λ q. Ok (q ∷ []))) f ∙ ap (λ (ds : List Design). Ok (map plan_of ds)) (sym e)

pub one_refused : (w : World) (t : ℕ) (x : Instance) (e : Fault Broken) → Planned (fitting (plan w t x)) (Err e) → PlansAll (plan_at w t (Some x)) (Err e)
one_refused w t x (fault.Broken rule) f = ap (λ r. after r (λ q. Ok (q ∷ []))) f
one_refused w t x fault.Memory f = tt

pub nowhere : (w : World) (t : ℕ) (all : List Design) → slice_get w.instances t ≡ None → all ≡ [] → plan_at w t (slice_get w.instances t) ≡ Ok (map plan_of all)
nowhere w t all e f = ap (plan_at w t) e ∙ ap (λ (ds : List Design). Ok (map plan_of ds)) (sym f)

-- the designs of one more number
pub next_designs : (w : World) (all : Result (List Plan) Broken) (ts : List ℕ) (i : ℕ) (ds more new : List Design) → i < length ts → all ≡ after (plans_of w (drop i ts)) (λ qs. Ok (map plan_of ds ++ qs)) → plan_at w (get_or ts i 0) (slice_get w.instances (get_or ts i 0)) ≡ Ok (map plan_of more) → new ≡ ds ++ more → all ≡ after (plans_of w (drop (i + 1) ts)) (λ qs. Ok (map plan_of new ++ qs))
next_designs w all ts i ds more new h e f g =
    e
    ∙ ap (λ us. after (plans_of w us) (λ qs. Ok (map plan_of ds ++ qs))) (drop_more ts i 0 h)
    ∙ one_more w (map plan_of ds) (map plan_of more) (get_or ts i 0) (drop (i + 1) ts) f
    ∙ ap (λ ps. after (plans_of w (drop (i + 1) ts)) (λ qs. Ok (ps ++ qs))) (sym (ap (map plan_of) g ∙ map-append plan_of ds more))

pub next_refused : (w : World) (all : Result (List Plan) Broken) (ts : List ℕ) (i : ℕ) (ds : List Design) (e : Fault Broken) → i < length ts → all ≡ after (plans_of w (drop i ts)) (λ qs. Ok (map plan_of ds ++ qs)) → PlansAll (plan_at w (get_or ts i 0) (slice_get w.instances (get_or ts i 0))) (Err e) → PlansAll all (Err e)
next_refused w all ts i ds e h f g =
    refused w all (map plan_of ds) (get_or ts i 0) (drop (i + 1) ts) e (f ∙ ap (λ us. after (plans_of w us) (λ qs. Ok (map plan_of ds ++ qs))) (drop_more ts i 0 h)) g

-- ---- all of it

pub all_made : (w : World) (ts : List ℕ) (ps : List Plan) (rs : List Request) → ts ≡ tops w → plans_of w ts ≡ Ok ps → rs ≡ map (request_of ts) w.requests → plans w ≡ Ok (ps, rs)
all_made w ts ps rs e f g =
    ap (λ us. after (plans_of w us) (λ qs. Ok (qs, map (request_of us) w.requests))) (sym e)
    ∙ ap (λ r. after r (λ qs. Ok (qs, map (request_of ts) w.requests))) f
    ∙ ap (λ (us : List Request). Ok (ps, us)) (sym g)

pub all_refused : (w : World) (ts : List ℕ) (e : Fault Broken) → ts ≡ tops w → PlansAll (plans_of w ts) (Err e) → Plans (plans w) (Err e)
all_refused w ts (fault.Broken rule) e f =
    ap (λ us. after (plans_of w us) (λ qs. Ok (qs, map (request_of us) w.requests))) (sym e)
    ∙ ap (λ r. after r (λ qs. Ok (qs, map (request_of ts) w.requests))) f
all_refused w ts fault.Memory e f = tt

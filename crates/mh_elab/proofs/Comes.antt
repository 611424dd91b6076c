-- The machine comes from one configuration to another by its steps.
use Rattle.std.proofs.Common.{◌≡◌, ℕ, suc, Result, Ok, Err, sym, subst}
use Rattle.mh_world.specs.World.{Broken}
use Rattle.mh_world.specs.World.{World, after}
use Rattle.mh_elab.specs.Machine.{Config, to, step}

pub data Comes (goal : Config) : Config → Type 0 where
  there : {c : Config} → c ≡ goal → Comes goal c
  go : {c : Config} → Comes goal (step c) → Comes goal c

abbrev pub count : {goal c : Config} → Comes goal c → ℕ
count (there e) = 0
count (go p) = suc (count p)

pub join : {a b c : Config} → Comes a b → Comes b c → Comes a c
join {a} p (there e) = subst (Comes a) (sym e) p
join p (go q) = go (join p q)

-- what comes first and then what comes of it
pub and_then : {A B : Type 0} {c : Config} (r : Result (A × World) Broken) (q : A → World → Result (B × World) Broken)
    (f : B → World → Config) (g : A → World → Config) →
    Comes (to r g) c → ((x : A) (w : World) → Comes (to (q x w) f) (g x w)) → Comes (to (after r (λ x. q x.0 x.1)) f) c
and_then (Ok x) q f g p h = join (h x.0 x.1) p
and_then (Err r) q f g p h = p

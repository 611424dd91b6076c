-- The machine comes to its end, and there to the meaning.
use Rattle.std.proofs.Common.{◌≡◌, ◌≢◌, ℕ, ◌<◌, ◌≤◌, suc, zero, Bool, true, false, [], Result, Ok, Err, refl, ap, sym, ◌∙◌, subst, arith, true≢false, if◌then◌else◌}
use Rattle.mh_world.specs.World.{Broken}
use Rattle.mh_world.specs.declared.kinds.Flow.{Flow}
use Rattle.mh_world.specs.Statements.{Block}
use Rattle.mh_world.specs.World.{World, after, begins}
use Rattle.mh_elab.specs.Elaboration.{block, call, executed}
use Rattle.mh_elab.specs.Machine.{Config, Final, Exec, Ends, Stuck, to, step}
use Rattle.mh_elab.proofs.Comes.{Comes, there, go, join, count}
use Rattle.mh_elab.proofs.Follows.{module_follows}

abbrev pub is_final : Config → Bool
is_final (Final r) = true
is_final x = false

-- how many steps are left, if no more than so many are
abbrev pub togo : ℕ → Config → ℕ
togo zero x = 0
togo (suc n) x = if is_final x then 0 else suc (togo n (step x))

-- at most so many steps are left to an answer
pub record Left (n : ℕ) (r : Result World Broken) (x : Config) : Type 0 where
  pub comes : Comes (Final r) x
  pub small : count comes ≤ n

both : (b : Bool) (i j : ℕ) → i ≡ j → (if b then 0 else suc i) ≡ (if b then 0 else suc j)
both true i j e = refl
both false i j e = ap suc e

final_togo : (n : ℕ) (x : Config) → is_final x ≡ true → togo n x ≡ 0
final_togo zero x e = refl
final_togo (suc n) x e = rw e refl

stable : (r : Result World Broken) (n : ℕ) (x : Config) (p : Comes (Final r) x) → count p ≤ n → togo (suc n) x ≡ togo n x
stable r n x (there e) h = final_togo (suc n) x (ap is_final e) ∙ sym (final_togo n x (ap is_final e))
stable r zero x (go p) h = absurd (omega arith)
stable r (suc n) x (go p) h = both (is_final x) (togo (suc n) (step x)) (togo n (step x)) (stable r n (step x) p (omega arith))

less : (n : ℕ) (r : Result World Broken) (x : Config) (p : Comes (Final r) (step x)) → count p ≤ n → is_final x ≡ false → togo (suc n) (step x) < togo (suc n) x
less n r x p h e = rw (stable r n (step x) p h, e) (omega arith)

further : (n : ℕ) (r : Result World Broken) (x : Config) (p : Comes (Final r) x) → count p ≤ n → is_final x ≡ false → Left n r (step x) × (togo n (step x) < togo n x)
further n r x (there e) h f = absurd (true≢false (sym (ap is_final e) ∙ f))
further zero r x (go p) h f = absurd (omega arith)
further (suc n) r x (go p) h f = (record { comes = p; small = omega arith }, less n r x p (omega arith) f)

-- a step leaves fewer of them
pub goes_on : (n : ℕ) (r : Result World Broken) (x y : Config) → is_final x ≡ false → step x ≡ y → Left n r x → Left n r y × (togo n y < togo n x)
goes_on n r x y f e h = subst (λ (y : Config). Left n r y × (togo n y < togo n x)) e (further n r x h.comes h.small f)

is_it : (r : Result World Broken) (y : Config) → Comes (Final r) y → (s : Result World Broken) → y ≡ Final s → r ≡ s
is_it r y (there e) s f = cc
is_it r y (go p) s f = is_it r (step y) p s (ap step f)

not_stuck : (r : Result World Broken) (y : Config) → Comes (Final r) y → y ≡ Stuck → ⊥
not_stuck r y (there e) f = cc
not_stuck r y (go p) f = not_stuck r (step y) p (ap step f)

-- the machine is nowhere where it has no step
pub never_stuck : (n : ℕ) (r : Result World Broken) (x : Config) → is_final x ≡ false → Left n r x → step x ≢ Stuck
never_stuck n r x e h f = not_stuck r (step x) (goes_on n r x (step x) e refl h).0.comes f

-- where it ends, it has the answer
pub answers : (n : ℕ) (r : Result World Broken) (x : Config) (s : Result World Broken) → is_final x ≡ false → step x ≡ Final s → Left n r x → r ≡ s
answers n r x s f e h = is_it r (Final s) (goes_on n r x (Final s) f e h).0.comes s refl

last : (most : ℕ) (r : Result (Flow × World) Broken) → Comes (Final (after r (λ x. Ok x.1))) (to r (λ f w. Ends most f [] w))
last most (Ok x) = go (there refl)
last most (Err e) = there refl

pub starts : (limit most : ℕ) (b : Block) → Comes (Final (executed limit most b)) (Exec most false b [] (begins limit))
starts limit most b = join (last most (block (call most) false b (begins limit))) (module_follows most b (begins limit))

-- how many steps a source takes
pub steps_of : ℕ → ℕ → Block → ℕ
steps_of limit most b = count (starts limit most b)

pub begins_well : (limit most : ℕ) (b : Block) → Left (steps_of limit most b) (executed limit most b) (Exec most false b [] (begins limit))
unfolding steps_of
begins_well limit most b = record { comes = starts limit most b; small = omega arith }

-- What is done keeps a world that fits, one thing after another.
use Rattle.std.proofs.Common.{◌≡◌, ℕ, Bool, true, false, Option, Some, None, Result, Ok, Err, refl, ap, sym, ◌∙◌, if◌then◌else◌}
use Rattle.std.specs.Prelude.{IfOk}
use Rattle.mh_text.specs.declared.code.Code.{Code}
use Rattle.mh_design.specs.declared.design.Design.{Design}
use Rattle.mh_world.specs.World.{World, Broken, Run, after, at_line, given, refuse}
use Rattle.mh_world_laws.specs.Fits.{Fits}
use Rattle.mh_world_laws.specs.Laws.{Kept, Anything}
use Rattle.mh_world_laws.proofs.Designs.{later_self, later_on}

-- it gives this, and a world that fits
abbrev pub Gives : {A : Type 0} → (Design → A → Type 0) → World → Result (A × World) Broken → Type 0
Gives holds w r = IfOk r (λ x. Kept holds w x.0 x.1)

pub still : {A : Type 0} (holds : Design → A → Type 0) (w : World) (x : A) → Fits w → holds w.design x → Kept holds w x w
still holds w x h k = record { fits = h; later = later_self w.design; value = k }

pub kept_on : {A B : Type 0} (holds : Design → A → Type 0) (keeps : Design → B → Type 0) (w u v : World) (x : A) (y : B) → Kept holds w x u → Kept keeps u y v → Kept keeps w y v
kept_on holds keeps w u v x y h k = record { fits = k.fits; later = later_on w.design u.design v.design h.later k.later; value = k.value }

pub moved : {A B : Type 0} (holds : Design → A → Type 0) (keeps : Design → B → Type 0) (w u : World) (x : A) (r : Result (B × World) Broken) → Kept holds w x u → Gives keeps u r → Gives keeps w r
moved holds keeps w u x (Ok y) h k = kept_on holds keeps w u y.1 x y.0 h k
moved holds keeps w u x (Err b) h k = tt

pub chained : {A B : Type 0} (holds : Design → A → Type 0) (keeps : Design → B → Type 0) (w : World) (r : Result (A × World) Broken) (f : A → Run B) → Gives holds w r →
    ((x : A) (u : World) → Kept holds w x u → Gives keeps u (f x u)) → Gives keeps w (after r (λ x. f x.0 x.1))
chained holds keeps w (Ok x) f h k = moved holds keeps w x.1 x.0 (f x.0 x.1) h (k x.0 x.1 h)
chained holds keeps w (Err b) f h k = tt

pub if_given : {A B : Type 0} (keeps : Design → B → Type 0) (w : World) (o : Option A) (code : Code) (l : ℕ) (f : A → Run B) → ((x : A) → o ≡ Some x → Gives keeps w (f x w)) → Gives keeps w (given o code l f w)
if_given keeps w None code l f k = tt
if_given keeps w (Some x) code l f k = k x refl

pub if_tested : {B : Type 0} (keeps : Design → B → Type 0) (w : World) (b : Bool) (f g : Run B) → (b ≡ true → Gives keeps w (f w)) → (b ≡ false → Gives keeps w (g w)) → Gives keeps w ((if b then f else g) w)
if_tested keeps w true f g h k = h refl
if_tested keeps w false f g h k = k refl

-- what is computed without changing the world
pub seen : {A : Type 0} (holds : Design → A → Type 0) (l : ℕ) (w : World) (r : Result A Code) → Fits w → IfOk r (λ x. holds w.design x) → Gives holds w (at_line l w r)
seen holds l w (Ok x) h k = still holds w x h k
seen holds l w (Err code) h k = tt

-- The machine that the program holds isn't at its end before it says so.
use Rattle.std.proofs.Common.{◌≡◌, ℕ, Result, Err, false, refl}
use Rattle.mh_world.specs.World.{World, Broken}
use Rattle.mh_text.specs.declared.fault.Fault.{Fault}
use Rattle.mh_text.specs.declared.fault.Fault.TheVariants as fault
use Rattle.mh_elab.specs.Frames.{config, Executes, Steps}
use Rattle.mh_elab.specs.Machine.{Config, step}
use Rattle.mh_elab.specs.declared.waiting.Control.{Control}
use Rattle.mh_elab.specs.declared.waiting.Control.TheVariants as c
use Rattle.mh_elab.specs.declared.waiting.Machine.{Machine}
use Rattle.mh_elab.proofs.Ends.{Left, answers, is_final}

pub not_final : (x : Control) (m : Machine) → is_final (config x m) ≡ false
not_final (c.Eval e) m = refl
not_final c.Nothing m = refl
not_final (c.Give v) m = refl
not_final (c.Exec loop b) m = refl
not_final (c.Ends f) m = refl

-- where a step fails, the source does
pub fails : (n : ℕ) (r : Result World Broken) (x : Config) (e : Fault Broken) (m : Machine) → is_final x ≡ false → Steps (step x) (Err e) m → Left n r x → Executes r (Err e)
fails n r x (fault.Broken rule) m f h l = answers n r x (Err rule) f h l
fails n r x fault.Memory m f h l = tt

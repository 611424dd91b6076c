-- A rule that is broken on the way is the answer.
use Rattle.std.proofs.Common.{◌≡◌, Result, Ok, Err, refl}
use Rattle.mh_world.specs.World.{World, Broken, after}
use Rattle.mh_world.specs.View.{Does, same}
use Rattle.mh_text.specs.declared.fault.Fault.{Fault}
use Rattle.mh_text.specs.declared.fault.Fault.TheVariants as fault
use Rattle.mh_elab.specs.Frames.{Leads}
use Rattle.mh_elab.specs.Machine.{Config, to}
use Rattle.mh_elab.specs.declared.waiting.Machine.{Machine}

pub does-after : {A B C D : Type 0} (view : B → A) (other : D → C) (r : Result (A × World) Broken) (f : A × World → Result (C × World) Broken) (e : Fault Broken) (w u : World) →
    Does view r (Err e) w → Does other (after r f) (Err e) u
does-after view other r f (fault.Broken rule) w u h = rw h refl
does-after view other r f fault.Memory w u h = tt

pub leads-to : {A B : Type 0} (view : B → A) (r : Result (A × World) Broken) (f : A → World → Config) (e : Fault Broken) (w : World) (m : Machine) →
    Does view r (Err e) w → Leads (to r f) (Err e) m
leads-to view r f (fault.Broken rule) w m h = rw h refl
leads-to view r f fault.Memory w m h = tt

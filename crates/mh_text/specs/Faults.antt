-- What a call of the program answers beside what a definition says: the same, unless memory ran out.
use Rattle.std.specs.Prelude.{◌≡◌, Result, Ok, Err}
use Rattle.mh_text.specs.declared.fault.Fault.{Fault}
use Rattle.mh_text.specs.declared.fault.Fault.TheVariants as fault

-- `view` is what a value of the program is in the definition
abbrev pub Tells : {A B R : Type 0} → (B → A) → Result A R → Result B (Fault R) → Type 0
Tells view r (Ok x) = r ≡ Ok (view x)
Tells view r (Err (fault.Broken rule)) = r ≡ Err rule
Tells view r (Err fault.Memory) = Unit {0}

-- the same where the program has the definition's own values
abbrev pub Gives : {A R : Type 0} → Result A R → Result A (Fault R) → Type 0
Gives r x = Tells (λ v. v) r x

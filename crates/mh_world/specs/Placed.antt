-- A rule that is broken without a place, and at a line.
use Rattle.std.specs.Prelude.{◌≡◌, ℕ, Result, Ok, Err}
use Rattle.mh_text.specs.declared.code.Code.{Code}
use Rattle.mh_text.specs.declared.fault.Fault.{Fault}
use Rattle.mh_text.specs.declared.fault.Fault.TheVariants as fault

abbrev pub SaysAt : {A : Type 0} → ℕ → Result A Code → Result A (Fault (Code × ℕ)) → Type 0
SaysAt l (Ok x) r = r ≡ Ok x
SaysAt l (Err code) r = r ≡ Err (fault.Broken (code, l))

use Rattle.std.proofs.Common.{◌∙◌, sym, refl}
use Rattle.mh_top.specs.Steps.{no_gate}
use Rattle.mh_top.proofs.source.gate_in.Goals as goal

pub returns-in-None-2 : goal.returns-in-None-2
returns-in-None-2 c = rw c.refusal-in-None-2.ensures (no_gate c.in-Some.top refl refl (sym (rw c.as_slice.ensures at c.first_conversion.ensures) ∙ c.in-Some.is) (sym c.in_ok-design-in-Some.ensures ∙ c.in-None-2.is))

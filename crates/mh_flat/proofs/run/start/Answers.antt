use Rattle.std.proofs.Common.{refl, sym, ◌∙◌}
use Rattle.mh_flat.proofs.Begin.{starts}
use Rattle.mh_flat.proofs.run.start.Goals as goal

pub returns : goal.returns
returns g c = starts c.args.code.now _ refl (sym c.in_ok-vec.field-0.ok.0 ∙ c.in_ok-vec.ensures.len) refl

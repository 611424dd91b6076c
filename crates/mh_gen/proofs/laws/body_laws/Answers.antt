use Rattle.mh_flat.specs.Fits.{kept}
use Rattle.mh_design.specs.Assignments.{meaning}
use Rattle.mh_gen.specs.Laws.{keeps}
use Rattle.mh_gen.proofs.Fitting as fitting
use Rattle.mh_gen.proofs.laws.body_laws.Goals as goal

pub returns : goal.returns
returns c = record {
  first = fitting.first;
  starts = fitting.starts;
  prints = fitting.prints;
  alike = λ xs s t a h. kept meaning xs s t (keeps s t a) h;
  room = λ d g k. fitting.room d g k g.kind;
}

use Rattle.std.proofs.Common.{sym}
use Rattle.mh_bits.specs.View.{vector_of}
use Rattle.mh_bits.proofs.SomeBelow.{truth_of-val}
use Rattle.mh_bits.proofs.tables.truth.Goals as goal

pub returns : goal.returns
returns c = sym (truth_of-val (vector_of c.args.a) c.args.a.valid)

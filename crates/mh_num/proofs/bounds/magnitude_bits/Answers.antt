use Rattle.mh_num.proofs.Ends.{length_positive, length_negative}
use Rattle.mh_num.proofs.bounds.magnitude_bits.Goals as goal
use Rattle.mh_num.proofs.bounds.magnitude_bits.Goals.{then-v-lt0, else-v-lt0}

pub returns : goal.returns
returns c =
    elim c.if-v-lt0.branch [
      | then-v-lt0 w ↦ length_negative c.args.v _ c.leading_zeros.result c.ranges.v w.if-v-lt0.true w.magnitude-is c.leading_zeros.ensures
      | else-v-lt0 w ↦ length_positive c.args.v _ c.leading_zeros.result c.ranges.v w.if-v-lt0.false w.magnitude-is c.leading_zeros.ensures
    ]

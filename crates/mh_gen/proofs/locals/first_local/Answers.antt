use Rattle.mh_gen.proofs.FirstLocals.{has_codes}
use Rattle.mh_gen.proofs.locals.first_local.Goals as goal

pub limits_of-requires : goal.limits_of-requires
limits_of-requires c = has_codes c.args.d.now c.args.kind c.requires

use Rattle.mh_flat.specs.Body.{statement_if}
use Rattle.mh_gen.proofs.steps.if_step.Goals as goal

pub returns : goal.returns
returns c = statement_if c.args.test c.args.yes c.args.no

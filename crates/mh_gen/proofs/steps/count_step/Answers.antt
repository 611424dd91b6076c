use Rattle.mh_flat.specs.Body.{statement_count}
use Rattle.mh_gen.proofs.steps.count_step.Goals as goal

pub returns : goal.returns
returns c = statement_count c.args.variable c.args.from c.args.to c.args.by c.args.body

use Rattle.std.proofs.Common.{sym, subst}
use Rattle.mh_world.specs.Statements.{Target}
use Rattle.mh_world.specs.View.{Does, same, world}
use Rattle.mh_elab.specs.Elaboration as spec
use Rattle.mh_elab.proofs.TargetLaws.{tuple_target}
use Rattle.mh_elab.proofs.targets.put.Goals as goal

pub returns-in-Tuple : goal.returns-in-Tuple
returns-in-Tuple c =
    subst (λ (t : Target). Does (same {A = Unit {0}}) (spec.put c.args.line t c.args.v c.args.parts.now (world c.args.state.now)) c.unpack.result (world c.unpack.new.state))
    (sym (tuple_target c.args.target.now c.in-Tuple.xs c.as_slice.result.now c.in-Tuple.is c.as_slice.ensures)) (c.unpack.ensures c.args.parts.now)

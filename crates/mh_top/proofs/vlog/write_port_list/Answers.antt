use Rattle.std.proofs.Common.{arith}
use Rattle.std.proofs.lemmas.Grind.{common_steps}
use Rattle.mh_top.specs.Emission.{variable_names}
use Rattle.mh_top.proofs.Written.{names_of_ports}
use Rattle.mh_top.proofs.vlog.write_port_list.Goals as goal

pub returns : goal.returns
returns c = rw (names_of_ports c.args.d.now (variable_names c.args.d.now.signals) c.args.d.now.ports) (grind (arith, common_steps))

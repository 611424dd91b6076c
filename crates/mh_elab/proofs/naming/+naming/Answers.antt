use Rattle.mh_elab.proofs.NameLaws.{name_last}
use Rattle.mh_elab.proofs.naming.+naming.Goals as goal

pub name_expression-returns-in_ok-push-in-Name : goal.name_expression-returns-in_ok-push-in-Name
name_expression-returns-in_ok-push-in-Name t c = name_last c.args.found.now.items c.push.new.self.items _ c.args.e.now c.in_ok-push-in-Name.ensures.items c.in-Name.is

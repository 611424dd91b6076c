use Rattle.std.proofs.Common.{sym, ap, ◌∙◌}
use Rattle.std.specs.Prelude.{Ok}
use Rattle.mh_sched.proofs.Printing.{whole_line}
use Rattle.mh_sched.proofs.line.put_whole.Goals as goal

pub returns-clause-ok : goal.returns-clause-ok
returns-clause-ok c = whole_line _ _ _ c.in_ok-put_parts.ensures.ok ∙ ap Ok (sym c.in_ok-put_bytes.ensures.ok)

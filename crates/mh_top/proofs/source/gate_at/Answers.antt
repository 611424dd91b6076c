use Rattle.std.proofs.Common.{◌∙◌, ap, sym}
use Rattle.std.proofs.lemmas.Result.{IfOk-weaker}
use Rattle.mh_top.proofs.SourceLaws.{gate_at_place}
use Rattle.std.specs.Option.{option_copied}
use Rattle.mh_top.proofs.source.gate_at.Goals as goal

pub returns-in-Some : goal.returns-in-Some
returns-in-Some c = IfOk-weaker c.gate_of.result _ _ (λ x is. is ∙ gate_at_place c.args.found.now.tops c.args.top c.in-Some.d.now (sym c.get.ensures.value ∙ ap option_copied c.in-Some.is)) c.gate_of.ensures

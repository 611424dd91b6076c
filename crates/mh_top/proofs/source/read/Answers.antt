use Rattle.std.proofs.Common.{Err, sym, ap, subst, ◌∙◌}
use Rattle.std.proofs.lemmas.Result.{err_from_is_err_and}
use Rattle.std.specs.Result.{IfErr}
use Rattle.mh_top.proofs.SourceLaws.{found_ok, found_err, unmade_step}
use Rattle.mh_top.specs.Steps.{IsRefusalOf}
use Rattle.mh_top.proofs.source.read.Goals as goal

pub returns-in_err-found-clause-refused : goal.returns-in_err-found-clause-refused
returns-in_err-found-clause-refused c =
    let source = c.args.source.now in
    let p = err_from_is_err_and c.from_residual.result c.from_residual.ensures.1 in
    subst (λ r. IfErr r (IsRefusalOf source)) (sym p.1) (unmade_step source c.elaborated.result p.0 (c.in_err-found.was ∙ ap Err (sym p.2)) c.elaborated.ensures.refused)

pub returns-clause-found : goal.returns-clause-found
returns-clause-found c = found_ok c.args.source.now c.in_ok-found.found c.gate_in.result c.in_ok-found.ensures.found c.gate_in.ensures

pub returns-clause-refused : goal.returns-clause-refused
returns-clause-refused c = found_err c.args.source.now c.in_ok-found.found c.gate_in.result c.in_ok-found.ensures.found c.gate_in.ensures

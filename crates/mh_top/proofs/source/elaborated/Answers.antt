use Rattle.std.proofs.Common.{List, Err, sym, ap, subst, ◌∙◌}
use Rattle.std.specs.Result.{IfErr}
use Rattle.std.proofs.lemmas.Result.{err_from_is_err_and}
use Rattle.mh_pytok.specs.Tokens.{HasTokens}
use Rattle.mh_pytok.specs.declared.token.Token.{Token}
use Rattle.mh_top.proofs.SourceLaws.{parse_refused}
use Rattle.mh_top.specs.Steps.{IsNotElaborated}
use Rattle.mh_top.proofs.source.elaborated.Goals as goal

pub returns-in_err-module-clause-refused : goal.returns-in_err-module-clause-refused
returns-in_err-module-clause-refused c =
    let source = c.args.source.now in
    let read = subst (λ (ts : List Token). HasTokens source ts) (sym c.as_slice.ensures) c.in_ok-tokens.ensures.found in
    let p = err_from_is_err_and c.from_residual-in_err-module.result c.from_residual-in_err-module.ensures.1 in
    subst (λ r. IfErr r (IsNotElaborated source)) (sym p.1)
    (parse_refused source c.as_slice.result.now c.parse.result read c.parse.ensures.refused p.0 (c.in_err-module.was ∙ ap Err (sym p.2)))

pub returns-clause-formed : goal.returns-clause-formed
returns-clause-formed c = c.elaborate.ensures.well_formed c.in_ok-module.ensures.found.1 c.in_ok-module.ensures.names

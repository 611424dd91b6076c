use Rattle.std.proofs.Common.{subst}
use Rattle.std.proofs.lemmas.Result.{err_from_is_err_and}
use Rattle.mh_pytok.proofs.Reading.{Reading, Keeps, begin_reading, keep_reading, step_less, refused_by}
use Rattle.mh_pytok.proofs.lex.read.Goals as goal

pub loop-more-init : goal.loop-more-init
loop-more-init c = begin_reading c.args.src.now c.new.result c.new-out.result c.new.ensures c.new-out.ensures

pub returns-in_err-more : goal.returns-in_err-more
returns-in_err-more c =
    let r : Reading c.args.src.now c.loop-more.state c.loop-more.out = subst (λ m. Keeps m c.args.src.now c.loop-more.state c.loop-more.out) c.loop-more-test.true c.loop-more.invariant in
    let p = err_from_is_err_and c.from_residual.result c.from_residual.ensures.1 in rw (p.1, p.2) (refused_by c.args.src.now c.loop-more.state c.loop-more.out c.step.new.out _ _ r c.in_err-more.ensures.gives)

pub loop-more-smaller : goal.loop-more-smaller
loop-more-smaller c =
    let r : Reading c.args.src.now c.loop-more.state c.loop-more.out = subst (λ m. Keeps m c.args.src.now c.loop-more.state c.loop-more.out) c.loop-more-test.true c.loop-more.invariant in
    step_less c.args.src.now c.loop-more.state c.step.new.state c.loop-more.out c.step.new.out c.loop-more.more c.in_ok-more.more c.loop-more-test.true r c.in_ok-more.ensures.gives

pub loop-more-preserved : goal.loop-more-preserved
loop-more-preserved c =
    let r : Reading c.args.src.now c.loop-more.state c.loop-more.out = subst (λ m. Keeps m c.args.src.now c.loop-more.state c.loop-more.out) c.loop-more-test.true c.loop-more.invariant in
    keep_reading c.args.src.now c.loop-more.state c.step.new.state c.loop-more.out c.step.new.out c.in_ok-more.more r c.in_ok-more.ensures.gives c.in_ok-more.ensures.line

use Rattle.std.proofs.Common.{arith, ◌∙◌}
use Rattle.mh_gen.proofs.Resetting.{resetting-start, resetting-step, resetting-ends}
use Rattle.mh_gen.proofs.generators.put_resets.Goals as goal

pub loop-n-init : goal.loop-n-init
loop-n-init c = resetting-start _ _ _ _

pub loop-n-preserved : goal.loop-n-preserved
loop-n-preserved c =
    let same = c.contains-is_driven.ensures ∙ c.requires _ in
    resetting-step _ _ _ _ _ _ _ _ _ (omega (arith, c.in_ok-count.ensures)) (λ e. c.in_ok-at.ensures.driven (same ∙ e)) (λ e. c.in_ok-at.ensures.other (same ∙ e)) c.loop-n.invariant

pub returns : goal.returns
returns c = resetting-ends _ _ _ _ _ _ _ (omega (arith, c.in_ok-count.ensures)) c.loop-n.invariant

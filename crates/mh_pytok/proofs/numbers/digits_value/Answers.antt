use Rattle.std.proofs.Common.{◌≡◌, ◌≤◌, ◌+◌, ◌*◌, ◌^◌, sym, ◌∙◌, ap, subst, arith, drop, true, false}
use Rattle.mh_pytok.specs.Limited.{limited}
use Rattle.mh_pytok.specs.Numbers as spec
use Rattle.mh_pytok.proofs.NumberLaws.{digits-gap, digits-none, digits-one, digits-big, value_within, value_beyond, value_of_none}
use Rattle.mh_pytok.proofs.numbers.digits_value.Goals as goal
use Rattle.mh_pytok.proofs.numbers.digits_value.Goals.{else-last-via-then-last+else-n-lt-LIMIT, else-last-via-else-last}

pub loop-b-preserved-then-is_gap : goal.loop-b-preserved-then-is_gap
loop-b-preserved-then-is_gap c = sym (digits-gap _ _ _ _ _ 0 c.loop-b-test.true c.if-is_gap.ensures) ∙ c.loop-b.invariant

pub returns-then-base-digit : goal.returns-then-base-digit
returns-then-base-digit c =
    ap limited (sym (digits-none _ _ _ _ _ _ c.loop-b-test.true c.if-is_gap.ensures c.digit_value-digit.ensures c.if-base-digit.true) ∙ c.loop-b.invariant)

pub returns-in_err-n : goal.returns-in_err-n
returns-in_err-n c =
    let large : 2 ^ 127 ≤ c.args.base * c.loop-b.n + c.digit_value-digit.result = omega (arith, c.in_err-n.ensures) in
    c.from_residual.ensures ∙ sym (digits-big _ _ _ _ c.requires large)
    ∙ ap limited (sym (digits-one _ _ _ _ _ _ c.loop-b-test.true c.if-is_gap.ensures c.digit_value-digit.ensures c.if-base-digit.false) ∙ c.loop-b.invariant)

pub loop-b-preserved : goal.loop-b-preserved
loop-b-preserved c =
    subst (λ v. spec.digits_value c.args.base v true (drop (c.loop-b.b-index + 1) c.args.text.now) ≡ spec.digits_value c.args.base 0 false c.args.text.now) (sym c.in_ok-n.ensures.1)
    (sym (digits-one _ _ _ _ _ _ c.loop-b-test.true c.if-is_gap.ensures c.digit_value-digit.ensures c.if-base-digit.false) ∙ c.loop-b.invariant)

pub returns-then-n-lt-LIMIT : goal.returns-then-n-lt-LIMIT
returns-then-n-lt-LIMIT c =
    value_within c.args.base c.loop-b.n c.loop-b.last c.args.text.now c.loop-b.b-index c.loop-b-test.false c.if-last.true c.if-n-lt-LIMIT.true ∙ ap limited c.loop-b.invariant

pub returns-else-last : goal.returns-else-last
returns-else-last c = elim c.else-last.branch [
  | else-last-via-then-last+else-n-lt-LIMIT w ↦
      value_beyond c.args.base c.loop-b.n c.loop-b.last c.args.text.now c.loop-b.b-index c.loop-b-test.false w.if-last.true w.if-n-lt-LIMIT.false ∙ ap limited c.loop-b.invariant
  | else-last-via-else-last w ↦
      value_of_none c.args.base c.loop-b.n c.loop-b.last c.args.text.now c.loop-b.b-index c.loop-b-test.false w.if-last.false ∙ ap limited c.loop-b.invariant
]

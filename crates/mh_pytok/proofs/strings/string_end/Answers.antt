use Rattle.std.proofs.Common.{◌∙◌, sym, arith}
use Rattle.mh_pytok.proofs.StringLaws.{end_at_line, end_closed, end_escaped, end_quote, end_other, end-past}
use Rattle.mh_pytok.proofs.strings.string_end.Goals as goal
use Rattle.mh_pytok.proofs.strings.string_end.Goals.{then-escaped, else-escaped+then-b-quote+else-left-eq1, else-escaped+else-b-quote}

pub returns-then-quotes-eq1 : goal.returns-then-quotes-eq1
returns-then-quotes-eq1 c = sym (end_at_line _ _ _ _ _ _ _ c.loop-b-test.true c.if-b-eq10.true c.if-quotes-eq1.true) ∙ c.loop-b.invariant.is

pub returns-then-left-eq1 : goal.returns-then-left-eq1
returns-then-left-eq1 c =
    sym (end_closed _ _ _ _ _ _ _ c.loop-b-test.true c.else-b-eq10.either c.if-escaped.false c.if-b-quote.true c.if-left-eq1.true) ∙ c.loop-b.invariant.is

pub loop-b-preserved : goal.loop-b-preserved
loop-b-preserved c = elim c.if-escaped.branch [
  | then-escaped w ↦ record {
    is = rw (w.left-is, w.escaped-is) (sym (end_escaped _ _ _ _ _ _ _ c.loop-b-test.true c.else-b-eq10.either w.if-escaped.true) ∙ c.loop-b.invariant.is);
    count = omega arith;
    wanted = omega (arith, w.left-is);
    at_most = omega (arith, w.left-is);
  }
  | else-escaped+then-b-quote+else-left-eq1 w ↦ record {
    is = rw (w.left-is, w.escaped-is, w.if-escaped.false) (sym (end_quote _ _ _ _ _ _ _ c.loop-b-test.true c.else-b-eq10.either w.if-escaped.false w.if-b-quote.true w.if-left-eq1.false) ∙ c.loop-b.invariant.is);
    count = omega arith;
    wanted = omega (arith, w.left-is);
    at_most = omega (arith, w.left-is);
  }
  | else-escaped+else-b-quote w ↦ record {
    is = rw (w.left-is, w.escaped-is) (sym (end_other _ _ _ _ _ _ _ c.loop-b-test.true c.else-b-eq10.either w.if-escaped.false w.if-b-quote.false) ∙ c.loop-b.invariant.is);
    count = omega arith;
    wanted = omega (arith, w.left-is);
    at_most = omega (arith, w.left-is);
  }
]

pub returns : goal.returns
returns c = sym (end-past _ _ _ _ _ _ _ c.loop-b-test.false) ∙ c.loop-b.invariant.is

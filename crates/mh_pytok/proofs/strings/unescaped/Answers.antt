use Rattle.std.proofs.Common.{sym, ◌∙◌, true, false}
use Rattle.std.proofs.lemmas.List.{append-nil}
use Rattle.mh_pytok.specs.Strings as spec
use Rattle.mh_pytok.proofs.StringLaws.{escape_pending, escape_begins, escape_none, escape_ends}
use Rattle.mh_pytok.proofs.strings.unescaped.Goals as goal
use Rattle.mh_pytok.proofs.strings.unescaped.Goals.{then-pending+in_ok-put_escaped, else-pending+then-b-eq92, else-pending+else-b-eq92+in_ok-push_one, then-pending-2+in_ok-push_one-2, else-pending-2}

pub loop-b-preserved : goal.loop-b-preserved
loop-b-preserved c = elim c.if-pending.branch [
  | then-pending+in_ok-put_escaped w ↦
      rw w.pending-is (escape_pending c.loop-b.out c.if-pending.out c.args.text.now (spec.unescaped false c.args.text.now) c.loop-b.pending c.loop-b.b-index c.loop-b-test.true c.loop-b.invariant
      w.if-pending.true (w.out-is ∙ w.in_ok-put_escaped.ensures))
  | else-pending+then-b-eq92 w ↦
      rw (w.out-is, w.pending-is) (escape_begins c.loop-b.out c.loop-b.out c.args.text.now (spec.unescaped false c.args.text.now) c.loop-b.pending c.loop-b.b-index c.loop-b-test.true c.loop-b.invariant
      w.if-pending.false w.if-b-eq92.true)
  | else-pending+else-b-eq92+in_ok-push_one w ↦
      rw (w.pending-is, w.if-pending.false) (escape_none c.loop-b.out c.if-pending.out c.args.text.now (spec.unescaped false c.args.text.now) c.loop-b.pending c.loop-b.b-index c.loop-b-test.true c.loop-b.invariant
      w.if-pending.false w.if-b-eq92.false (w.out-is ∙ w.in_ok-push_one.ensures))
]

pub returns : goal.returns
returns c = elim c.if-pending-2.branch [
  | then-pending-2+in_ok-push_one-2 w ↦
      w.out-is ∙ w.in_ok-push_one-2.ensures
      ∙ escape_ends c.loop-b.out c.args.text.now (spec.unescaped false c.args.text.now) c.loop-b.pending true c.loop-b.b-index c.loop-b-test.false w.if-pending-2.true c.loop-b.invariant
  | else-pending-2 w ↦
      w.out-is ∙ sym (append-nil c.loop-b.out)
      ∙ escape_ends c.loop-b.out c.args.text.now (spec.unescaped false c.args.text.now) c.loop-b.pending false c.loop-b.b-index c.loop-b-test.false w.if-pending-2.false c.loop-b.invariant
]

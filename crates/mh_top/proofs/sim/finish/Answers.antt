use Rattle.mh_top.proofs.SimLaws.{ends_done, ends_failed, ends_refused, ends_unprinted}
use Rattle.mh_top.proofs.sim.finish.Goals as goal

pub returns-then-print : goal.returns-then-print
returns-then-print g c = λ source h.
    let p = rw c.in-Print.is at h in
    ends_done source c.in-Print.text.items p.0 (g.S.Shelf.seen c.args.shelf.now) (g.S.Shelf.seen c.print.new.shelf) (g.S.Shelf.counts c.args.shelf.now) (g.S.Shelf.counts c.print.new.shelf) p.1
    (rw (c.as_slice.ensures.value, c.if-print.true) at c.print.ensures)

pub returns-else-print : goal.returns-else-print
returns-else-print g c = λ source h.
    let p = rw c.in-Print.is at h in
    ends_unprinted source c.in-Print.text.items c.in-Print.fault.items p.0 (g.S.Shelf.seen c.args.shelf.now) (g.S.Shelf.seen c.print.new.shelf) (g.S.Shelf.seen c.complain.new.shelf) (g.S.Shelf.counts c.args.shelf.now) (g.S.Shelf.counts c.print.new.shelf) (g.S.Shelf.counts c.complain.new.shelf) c.complain.result.code p.1 p.2
    (rw (c.as_slice.ensures.value, c.if-print.false) at c.print.ensures) c.complain.ensures.code (rw c.as_slice-else-print.ensures.value at c.complain.ensures.complained)

pub returns-in-Fail : goal.returns-in-Fail
returns-in-Fail g c = λ source h.
    let p = rw c.in-Fail.is at h in
    ends_failed source c.in-Fail.text.items c.in-Fail.line.items p.0 p.1 p.2 p.3 p.4 p.5 c.print-in-Fail.result (g.S.Shelf.seen c.args.shelf.now) (g.S.Shelf.seen c.print-in-Fail.new.shelf) (g.S.Shelf.seen c.complain-in-Fail.new.shelf) (g.S.Shelf.counts c.args.shelf.now) (g.S.Shelf.counts c.print-in-Fail.new.shelf) (g.S.Shelf.counts c.complain-in-Fail.new.shelf) c.in-Fail.code c.complain-in-Fail.result.code p.6 p.7 p.8
    (rw c.as_slice-in-Fail.ensures.value at c.print-in-Fail.ensures) c.complain-in-Fail.ensures.code (rw c.as_slice-in-Fail-2.ensures.value at c.complain-in-Fail.ensures.complained)

pub returns-in-Refuse : goal.returns-in-Refuse
returns-in-Refuse g c = λ source h.
    let p = rw c.in-Refuse.is at h in
    ends_refused source c.in-Refuse.line.items p.0 p.1 (g.S.Shelf.seen c.args.shelf.now) (g.S.Shelf.seen c.complain-in-Refuse.new.shelf) (g.S.Shelf.counts c.args.shelf.now) (g.S.Shelf.counts c.complain-in-Refuse.new.shelf) c.complain-in-Refuse.result.code p.2 p.3 c.complain-in-Refuse.ensures.code
    (rw c.as_slice-in-Refuse.ensures.value at c.complain-in-Refuse.ensures.complained)

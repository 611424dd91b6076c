use Rattle.std.proofs.Common.{◌<◌, ◌≤◌, length, ◌∙◌, sym, arith}
use Rattle.mh_text.proofs.RowLaws.{found-here, found-later, found-past}
use Rattle.mh_text.proofs.table.row_of.Goals as goal

pub returns-then-eq : goal.returns-then-eq
returns-then-eq c = let h : c.loop-row.row-index < length c.args.rows.now = omega arith in
    sym (found-here _ _ _ _ h (sym c.eq.ensures ∙ c.if-eq.true)) ∙ c.loop-row.invariant

pub loop-row-preserved : goal.loop-row-preserved
loop-row-preserved c = let h : c.loop-row.row-index < length c.args.rows.now = omega arith in
    sym (found-later _ _ _ _ h (sym c.eq.ensures ∙ c.if-eq.false)) ∙ c.loop-row.invariant

pub returns : goal.returns
returns c = let h : length c.args.rows.now ≤ c.loop-row.row-index = omega arith in
    sym (found-past _ _ _ h) ∙ c.loop-row.invariant

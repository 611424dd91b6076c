use Rattle.std.proofs.Common.{◌<◌, ◌≤◌, length, ◌∙◌, sym, arith}
use Rattle.mh_pytok.proofs.LevelLaws.{level-here, level-later, level-past}
use Rattle.mh_pytok.proofs.words.level_with.Goals as goal

pub returns-then-row-tag : goal.returns-then-row-tag
returns-then-row-tag c = let h : c.loop-row.row-index < length c.args.rows.now = omega arith in
    sym (level-here _ _ _ _ h c.if-row-tag.true) ∙ c.loop-row.invariant

pub loop-row-preserved : goal.loop-row-preserved
loop-row-preserved c = let h : c.loop-row.row-index < length c.args.rows.now = omega arith in
    sym (level-later _ _ _ _ h c.if-row-tag.false) ∙ c.loop-row.invariant

pub returns : goal.returns
returns c = let h : length c.args.rows.now ≤ c.loop-row.row-index = omega arith in
    sym (level-past _ _ _ h) ∙ c.loop-row.invariant

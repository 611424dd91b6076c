use Rattle.std.proofs.Common.{◌≡◌, true, rules}
use Rattle.mh_design.specs.Tree as tree
use Rattle.mh_design.proofs.Shapes.{statement-break}
use Rattle.mh_lower.specs.Paths as ways
use Rattle.mh_lower.proofs.Lines.{left}
use Rattle.mh_lower.proofs.bodies.break_line.Goals as goal

pub returns : goal.returns
returns c = λ d.
    let allowed : c.args.in_loop ≡ true = search rules in
    let is : c.breaks.new.w ≡ ways.breaks c.args.w.now = search rules in
    left c.args.in_loop c.args.line (tree.Break c.args.line) _ ways.breaks c.args.w.now c.breaks.new.w d allowed (statement-break c.args.line) is

use Rattle.std.proofs.Common.{◌≡◌, true, rules}
use Rattle.mh_design.specs.Tree as tree
use Rattle.mh_design.proofs.Shapes.{statement-continue}
use Rattle.mh_lower.specs.Paths as ways
use Rattle.mh_lower.proofs.Lines.{left}
use Rattle.mh_lower.proofs.bodies.continue_line.Goals as goal

pub returns : goal.returns
returns c = λ d.
    let allowed : c.args.in_loop ≡ true = search rules in
    let is : c.continues.new.w ≡ ways.continues c.args.w.now = search rules in
    left c.args.in_loop c.args.line (tree.Continue c.args.line) _ ways.continues c.args.w.now c.continues.new.w d allowed (statement-continue c.args.line) is

use Rattle.std.proofs.Common.{◌≡◌, true, refl, rules}
use Rattle.mh_consts.specs.Expression.{ex_of}
use Rattle.mh_design.specs.Tree as tree
use Rattle.mh_design.proofs.Shapes.{statement-stop}
use Rattle.mh_lower.specs.Paths as ways
use Rattle.mh_lower.specs.Statements.{is_stop_call}
use Rattle.mh_lower.proofs.Lines.{left}
use Rattle.mh_lower.proofs.bodies.raise_line.Goals as goal

pub returns : goal.returns
returns c = λ d.
    let allowed : is_stop_call c.args.s.now c.args.locals.now (ex_of c.args.e.now) ≡ true = search rules in
    left _ c.args.line (tree.Stop c.args.line) _ ways.stops c.args.w.now _ d allowed (statement-stop c.args.line) refl

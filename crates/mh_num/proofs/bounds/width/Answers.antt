use Rattle.std.proofs.Common.{◌≡◌, subst, sym, rules, ◌+◌}
use Rattle.mh_codes.specs.Widths.{width_of, IsWidth}
use Rattle.mh_codes.proofs.WidthLaws.{width_of_is}
use Rattle.mh_num.proofs.bounds.width.Goals as goal

pub returns-then-b-ge0-clause-least : goal.returns-then-b-ge0-clause-least
returns-then-b-ge0-clause-least c =
    let e : c.max.result ≡ width_of c.args.b.now.lo c.args.b.now.top = search rules in
    subst (IsWidth c.args.b.now.lo c.args.b.now.top) (sym e) (width_of_is c.args.b.now.lo c.args.b.now.top c.args.b.now.ordered)

pub returns-else-b-ge0-clause-least : goal.returns-else-b-ge0-clause-least
returns-else-b-ge0-clause-least c =
    let e : 1 + c.max-else-b-ge0.result ≡ width_of c.args.b.now.lo c.args.b.now.top = search rules in
    subst (IsWidth c.args.b.now.lo c.args.b.now.top) (sym e) (width_of_is c.args.b.now.lo c.args.b.now.top c.args.b.now.ordered)

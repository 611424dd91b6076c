use Rattle.std.proofs.Common.{◌∙◌}
use Rattle.std.specs.Ordering.{nat_cmp}
use Rattle.std.specs.BTreeSet.{contains}
use Rattle.mh_design.specs.Inout.{is_among}
use Rattle.mh_design.proofs.SetLaws.{same_any}
use Rattle.mh_design.proofs.combs.have_common.Goals as goal

pub returns : goal.returns
returns c =
    c.some_are_in.ensures ∙ same_any (contains nat_cmp c.in_ok-found.found) (is_among c.args.driven.now) (c.in_ok-found.ensures) c.args.read.now

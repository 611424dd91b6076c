use Rattle.std.proofs.Common.{◌≡◌, map, drop}
use Rattle.mh_design.specs.Tree.{expression_of, row}
use Rattle.mh_design.specs.Depth as spec
use Rattle.mh_design.proofs.depth.+expression_depth.Given as goal

abbrev pub invariant-are_within-loop-part : goal.invariant-are_within-loop-part
invariant-are_within-loop-part l =
    spec.are_within (row (map expression_of l.parts)) l.levels ≡ spec.are_within (row (map expression_of (drop l.part-index l.parts))) l.levels

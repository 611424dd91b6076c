use Rattle.std.proofs.Common.{◌≡◌, map, drop, false}
use Rattle.std.specs.Option.{option_map_or}
use Rattle.std.specs.List.{list_all}
use Rattle.mh_design.specs.Tree.{expression_of, row}
use Rattle.mh_design.specs.Kinds as spec
use Rattle.mh_design.proofs.kinds.+kinds.Given as goal

abbrev pub invariant-parts_fit-loop-part : goal.invariant-parts_fit-loop-part
invariant-parts_fit-loop-part l =
    option_map_or (list_all spec.is_part) (spec.kinds_of l.d l.locals (row (map expression_of l.parts))) false
    ≡ option_map_or (list_all spec.is_part) (spec.kinds_of l.d l.locals (row (map expression_of (drop l.part-index l.parts)))) false

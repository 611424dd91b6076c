use Rattle.std.proofs.Common.{◌≡◌, drop, map}
use Rattle.mh_lower.specs.Body.{line_of, choice_of, lines, choices}
use Rattle.mh_lower.specs.Generators.{locals_in_lines, locals_in_choices}
use Rattle.mh_lower.proofs.names.+collecting.Given as goal

abbrev pub invariant-collect_all-loop-x : goal.invariant-collect_all-loop-x
invariant-collect_all-loop-x l =
    locals_in_lines l.locals (lines (map line_of (drop l.x-index l.xs))) ≡ locals_in_lines l.initial.locals (lines (map line_of l.xs))

abbrev pub invariant-collect_branches-loop-x : goal.invariant-collect_branches-loop-x
invariant-collect_branches-loop-x l =
    locals_in_choices l.locals (choices (map choice_of (drop l.x-index l.xs))) ≡ locals_in_choices l.initial.locals (choices (map choice_of l.xs))

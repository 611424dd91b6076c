use Rattle.std.proofs.Common.{◌≡◌, ◌++◌, map, drop}
use Rattle.mh_lower.specs.Body as line
use Rattle.mh_elab.specs.Reads.{in_choices, in_lines}
use Rattle.mh_elab.specs.Views.{texts}
use Rattle.mh_elab.proofs.naming.+body_naming.Given as goal

abbrev pub invariant-name_statements-loop-s : goal.invariant-name_statements-loop-s
invariant-name_statements-loop-s l = texts l.fn.found.items ++ in_lines (line.lines (map line.line_of l.body)) ≡ texts l.found.items ++ in_lines (line.lines (map line.line_of (drop l.s-index l.body)))

abbrev pub invariant-name_branches-loop-branch : goal.invariant-name_branches-loop-branch
invariant-name_branches-loop-branch l = texts l.fn.found.items ++ in_choices (line.choices (map line.choice_of l.branches)) ≡ texts l.found.items ++ in_choices (line.choices (map line.choice_of (drop l.branch-index l.branches)))

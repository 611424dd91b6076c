use Rattle.std.proofs.Common.{◌≡◌, ◌++◌, map, drop}
use Rattle.mh_consts.specs.Expression.{ex_of, exs, given_of, parts_of}
use Rattle.mh_elab.specs.Reads.{in_exs}
use Rattle.mh_elab.specs.Views.{texts}
use Rattle.mh_elab.proofs.naming.+naming.Given as goal

abbrev pub invariant-name_expressions-loop-e : goal.invariant-name_expressions-loop-e
invariant-name_expressions-loop-e l = texts l.fn.found.items ++ in_exs (exs (map ex_of l.xs)) ≡ texts l.found.items ++ in_exs (exs (map ex_of (drop l.e-index l.xs)))

abbrev pub invariant-name_arguments-loop-argument : goal.invariant-name_arguments-loop-argument
invariant-name_arguments-loop-argument l = texts l.fn.found.items ++ in_exs (parts_of (map given_of l.arguments)) ≡ texts l.found.items ++ in_exs (parts_of (map given_of (drop l.argument-index l.arguments)))

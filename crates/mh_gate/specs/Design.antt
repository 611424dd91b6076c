-- Words on a flat design. These are this project's own.
use Rattle.std.specs.Prelude.{ℕ, List, [], Bool, ◌==◌, slice_get}
use Rattle.std.specs.List.{flat_map, list_any}
use Rattle.std.specs.Option.{option_map_or}
use Rattle.mh_gate.specs.declared.design.Design.{Design}
use Rattle.mh_gate.specs.declared.design.GStmt.{GStmt}
use Rattle.mh_gate.specs.declared.design.GStmt.TheVariants.{Assign}

-- The path of a signal, by its number; no number past the signals is used.
abbrev pub path_of : Design → ℕ → List ℕ
path_of d signal = option_map_or (λ s. s.path) (slice_get d.signals signal) []

-- The statements of all generators, in order.
abbrev pub statements : Design → List GStmt
statements d = flat_map (λ g. g.body) d.generators

-- A statement assigns this signal.
abbrev pub assigns : ℕ → GStmt → Bool
assigns signal (Assign target value) = target == signal

-- Some generator drives this signal.
abbrev pub is_driven : Design → ℕ → Bool
is_driven d signal = list_any (λ g. list_any (assigns signal) g.body) d.generators

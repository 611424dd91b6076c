-- Which signals are inputs: this project's own rule.
use Rattle.std.specs.Prelude.{ℕ, Bool, not, ◌&&◌, ◌==◌}
use Rattle.std.specs.List.{list_any}
use Rattle.mh_design.specs.declared.design.Design.{Design}
use Rattle.mh_design.specs.Uses.{drives}

-- An input is a port that no generator drives.
abbrev pub is_input : Design → ℕ → Bool
is_input d n = list_any (λ p. p == n) d.ports && not (list_any (λ g. list_any (λ m. m == n) (drives d g)) d.generators)

-- Which names a converted source may not use. These tables are this project's own.
use Rattle.std.specs.Prelude.{ℕ, List, Bool, ◌||◌}
use Rattle.std.specs.List.{list_any}
use Rattle.std.specs.Str.{bytes_eq}
use Rattle.mh_gate.specs.declared.names.TheConstants.{TEXT_WORDS, PYTHON_WORDS, BOUND_NAMES}

-- A name is a word of one of the tables.
unfoldable pub is_taken : List ℕ → Bool
is_taken name =
    list_any (λ w. bytes_eq w.now name) TEXT_WORDS
    || list_any (λ w. bytes_eq w.now name) PYTHON_WORDS
    || list_any (λ w. bytes_eq w.now name) BOUND_NAMES

-- Tables of spellings: what a row says, which row a spelling has, and that spellings differ.
use Rattle.std.specs.Prelude.{ℕ, Bool, true, not, List, [], ◌∷◌, ◌&&◌, map, Option, Some, None, if◌then◌else◌, bytes_eq}
use Rattle.std.specs.List.{list_all}
use Rattle.mh_text.specs.declared.row.Row.{Row}

-- a row without where its spelling lies in memory
pub record Entry : Type 0 where
  pub spelling : List ℕ
  pub tag : ℕ
  pub level : ℕ

abbrev pub entry_of : Row → Entry
entry_of r = record { spelling = r.spelling.now; tag = r.tag; level = r.level }

abbrev pub entries_of : List Row → List Entry
entries_of rows = map entry_of rows

-- the first entry with this spelling
unfoldable pub found : List Entry → List ℕ → Option Entry
found [] text = None
found (x ∷ xs) text = if bytes_eq x.spelling text then Some x else found xs text

-- each entry has another spelling than all that follow it
abbrev pub are_distinct : List Entry → Bool
are_distinct [] = true
are_distinct (x ∷ xs) = list_all (λ y. not (bytes_eq x.spelling y.spelling)) xs && are_distinct xs

-- Looking a spelling up, row by row.
use Rattle.std.proofs.Common.{◌≡◌, ℕ, ◌+◌, ◌<◌, ◌≤◌, List, ◌∷◌, drop, length, get_or, cond, true, false, Bool, Some, None, add-one, bytes_eq, drop-cons, ap, ◌∙◌}
use Rattle.std.proofs.lemmas.List.{drop_all}
use Rattle.mh_text.specs.Rows.{Entry, entry_of, entries_of, found}
use Rattle.mh_text.specs.declared.row.Row.{Row}

-- the first entry is looked at
pub found-cons : (x : Entry) (xs : List Entry) (text : List ℕ) (b : Bool) → bytes_eq x.spelling text ≡ b → found (x ∷ xs) text ≡ cond b (Some x) (found xs text)
unfolding found
found-cons x xs text b h = ap (λ t. cond t (Some x) (found xs text)) h

-- the row at i has the spelling, or not
pub found-here : (rows : List Row) (text : List ℕ) (i : ℕ) (d : Row) → i < length rows → bytes_eq (get_or rows i d).spelling.now text ≡ true →
    found (entries_of (drop i rows)) text ≡ Some (entry_of (get_or rows i d))
found-here rows text i d h same = ap (λ rs. found (entries_of rs) text) (drop-cons rows i d h) ∙ found-cons _ _ text true same

pub found-later : (rows : List Row) (text : List ℕ) (i : ℕ) (d : Row) → i < length rows → bytes_eq (get_or rows i d).spelling.now text ≡ false →
    found (entries_of (drop i rows)) text ≡ found (entries_of (drop (i + 1) rows)) text
found-later rows text i d h other =
    rw add-one (ap (λ rs. found (entries_of rs) text) (drop-cons rows i d h) ∙ found-cons _ _ text false other)

pub found-past : (rows : List Row) (text : List ℕ) (i : ℕ) → length rows ≤ i → found (entries_of (drop i rows)) text ≡ None
unfolding found
found-past rows text i h = ap (λ rs. found (entries_of rs) text) (drop_all i rows h)

-- The level of a tag, row by row.
use Rattle.std.proofs.Common.{◌≡◌, ℕ, ◌+◌, ◌<◌, ◌≤◌, ◌==◌, List, ◌∷◌, drop, length, get_or, cond, true, false, Bool, add-one, drop-cons, ap, ◌∙◌}
use Rattle.std.proofs.lemmas.Bool.{eq-eqb, ne_eqb}
use Rattle.std.proofs.lemmas.List.{drop_all}
use Rattle.mh_text.specs.Rows.{Entry, entries_of}
use Rattle.mh_text.specs.declared.row.Row.{Row}
use Rattle.mh_pytok.specs.Words.{level_with}

level-cons : (x : Entry) (xs : List Entry) (tag : ℕ) (b : Bool) → (x.tag == tag) ≡ b → level_with (x ∷ xs) tag ≡ cond b x.level (level_with xs tag)
unfolding level_with
level-cons x xs tag b h = ap (λ t. cond t x.level (level_with xs tag)) h

-- the row at i has the tag, or not
pub level-here : (rows : List Row) (tag i : ℕ) (d : Row) → i < length rows → (get_or rows i d).tag ≡ tag →
    level_with (entries_of (drop i rows)) tag ≡ (get_or rows i d).level
level-here rows tag i d h same = ap (λ rs. level_with (entries_of rs) tag) (drop-cons rows i d h) ∙ level-cons _ _ tag true (eq-eqb _ tag same)

pub level-later : (rows : List Row) (tag i : ℕ) (d : Row) → i < length rows → ((get_or rows i d).tag ≡ tag → ⊥) →
    level_with (entries_of (drop i rows)) tag ≡ level_with (entries_of (drop (i + 1) rows)) tag
level-later rows tag i d h other =
    rw add-one (ap (λ rs. level_with (entries_of rs) tag) (drop-cons rows i d h) ∙ level-cons _ _ tag false (ne_eqb _ tag other))

pub level-past : (rows : List Row) (tag i : ℕ) → length rows ≤ i → level_with (entries_of (drop i rows)) tag ≡ 0
unfolding level_with
level-past rows tag i h = ap (λ rs. level_with (entries_of rs) tag) (drop_all i rows h)

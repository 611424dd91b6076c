-- Which row a spelling has.
use Rattle.std.proofs.Common.{◌≡◌, ◌≢◌, ℕ, zero, suc, ◌<◌, List, [], ◌∷◌, length, get_or, refl, true, false, Bool, not, ◌&&◌, Some, None, IsTrue, IsNone, IfSome, Option, option_map, ◌↔◌, ap, ◌∙◌, sym, subst, arith, Contains, bytes_eq}
use Rattle.std.specs.List.{list_all}
use Rattle.std.proofs.lemmas.Slice.Eq.{bytes_eq-Decides}
use Rattle.std.proofs.lemmas.Option.{same_Some, none-some}
use Rattle.mh_text.specs.Rows.{Entry, entry_of, found, are_distinct}
use Rattle.mh_text.specs.declared.row.Row.{Row}
use Rattle.mh_text.proofs.RowLaws.{found-cons}

-- an element of xs is one of x ∷ xs
later : (x row : Entry) (xs : List Entry) → Contains xs row → Contains (x ∷ xs) row
later x row xs (k, below, is) = (suc k, omega arith, is)

contains_at : (x row : Entry) (xs : List Entry) (text : List ℕ) (b : Bool) → bytes_eq x.spelling text ≡ b → found (x ∷ xs) text ≡ Some row →
    (found xs text ≡ Some row → Contains xs row × (row.spelling ≡ text)) → Contains (x ∷ xs) row × (row.spelling ≡ text)
contains_at x row xs text true same h rest =
    let e : x ≡ row = same_Some x row (sym (found-cons x xs text true same) ∙ h) in
    ((0, omega arith, e), subst (λ r. r.spelling ≡ text) e ((bytes_eq-Decides x.spelling text).0 same))
contains_at x row xs text false other h rest =
    let in_rest : Contains xs row × (row.spelling ≡ text) = rest (sym (found-cons x xs text false other) ∙ h) in
    (later x row xs in_rest.0, in_rest.1)

-- what is found is a row with the spelling
pub found-contains : (rows : List Entry) (text : List ℕ) (row : Entry) → found rows text ≡ Some row → Contains rows row × (row.spelling ≡ text)
unfolding found
found-contains [] text row h = absurd (none-some row h)
found-contains (x ∷ xs) text row h = contains_at x row xs text (bytes_eq x.spelling text) refl h (found-contains xs text row)

-- which of two, from which is true
first_true : (a b : Bool) → (a && b) ≡ true → a ≡ true
first_true true b h = refl
first_true false b h = absurd cc

second_true : (a b : Bool) → (a && b) ≡ true → b ≡ true
second_true true b h = h
second_true false b h = absurd cc

-- a test that all pass, one passes
passes : (p : Entry → Bool) (xs : List Entry) (row : Entry) (k : ℕ) → list_all p xs ≡ true → k < length xs → get_or xs k row ≡ row → p row ≡ true
passes p [] row k all below is = absurd (omega arith)
passes p (x ∷ xs) row zero all below is = subst (λ r. p r ≡ true) is (first_true (p x) (list_all p xs) all)
passes p (x ∷ xs) row (suc k) all below is = passes p xs row k (second_true (p x) (list_all p xs) all) (omega arith) is

differs : (b : Bool) → not b ≡ true → b ≡ false
differs true h = absurd cc
differs false h = refl

found-at : (rows : List Entry) (row : Entry) (k : ℕ) → are_distinct rows ≡ true → k < length rows → get_or rows k row ≡ row → found rows row.spelling ≡ Some row
unfolding found
found-at [] row k all below is = absurd (omega arith)
found-at (x ∷ xs) row zero all below is =
    subst (λ r. found (x ∷ xs) r.spelling ≡ Some r) is (found-cons x xs x.spelling true ((bytes_eq-Decides x.spelling x.spelling).1 refl))
found-at (x ∷ xs) row (suc k) all below is =
    let apart : bytes_eq x.spelling row.spelling ≡ false =
    differs _ (passes (λ y. not (bytes_eq x.spelling y.spelling)) xs row k (first_true (list_all (λ y. not (bytes_eq x.spelling y.spelling)) xs) (are_distinct xs) all) (omega arith) is) in
    found-cons x xs row.spelling false apart ∙ found-at xs row k (second_true (list_all (λ y. not (bytes_eq x.spelling y.spelling)) xs) (are_distinct xs) all) (omega arith) is

-- the test that spellings differ, turned into the rule at each row
pub found-spelling : (rows : List Entry) (row : Entry) → IsTrue (are_distinct rows) → Contains rows row → found rows row.spelling ≡ Some row
found-spelling rows row all (k, below, is) = found-at rows row k all below is

nowhere_at : (x row : Entry) (xs : List Entry) (text : List ℕ) (k : ℕ) (b : Bool) → bytes_eq x.spelling text ≡ b → found (x ∷ xs) text ≡ None →
    k < length (x ∷ xs) → get_or (x ∷ xs) k row ≡ row → row.spelling ≡ text →
    ((j : ℕ) → found xs text ≡ None → j < length xs → get_or xs j row ≡ row → ⊥) → ⊥
nowhere_at x row xs text k true hit none below is same rest = none-some x (sym none ∙ found-cons x xs text true hit)
nowhere_at x row xs text zero false miss none below is same rest =
    let hit : bytes_eq x.spelling text ≡ true = (bytes_eq-Decides x.spelling text).1 (ap (λ r. r.spelling) is ∙ same) in cc
nowhere_at x row xs text (suc k) false miss none below is same rest = rest k (sym (found-cons x xs text false miss) ∙ none) (omega arith) is

nowhere : (rows : List Entry) (text : List ℕ) (row : Entry) (k : ℕ) → found rows text ≡ None → k < length rows → get_or rows k row ≡ row → row.spelling ≢ text
unfolding found
nowhere [] text row k none below is same = absurd (omega arith)
nowhere (x ∷ xs) text row k none below is same =
    nowhere_at x row xs text k (bytes_eq x.spelling text) refl none below is same (λ j n b i. nowhere xs text row j n b i same)

-- where nothing is found, no row has the spelling
pub found-none : (rows : List Entry) (text : List ℕ) (row : Entry) → found rows text ≡ None → Contains rows row → row.spelling ≢ text
found-none rows text row none (k, below, is) same = nowhere rows text row k none below is same

-- what a look-up that gives what is found says: of a row, and of none
pub found_row : (rows : List Entry) (text : List ℕ) (o : Option Row) → option_map entry_of o ≡ found rows text →
    IfSome o (λ row. Contains rows (entry_of row) × (row.spelling.now ≡ text))
found_row rows text None h = tt
found_row rows text (Some row) h = found-contains rows text (entry_of row) (sym h)

pub found_nothing : (rows : List Entry) (text : List ℕ) (o : Option Row) → option_map entry_of o ≡ found rows text →
    IsNone o ↔ ((entry : Entry) → Contains rows entry → entry.spelling ≢ text)
found_nothing rows text None h = ((λ _ entry. found-none rows text entry (sym h)), (λ _. refl))
found_nothing rows text (Some row) h = (
  (λ is. absurd cc),
  (λ none. let at : Contains rows (entry_of row) × (row.spelling.now ≡ text) = found-contains rows text (entry_of row) (sym h) in
      absurd (none (entry_of row) at.0 at.1)),
)

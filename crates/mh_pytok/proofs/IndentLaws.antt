-- The columns of open blocks, kept with the innermost last.
use Rattle.std.proofs.Common.{◌≡◌, ℕ, zero, suc, ◌+◌, ◌<◌, ◌≤◌, List, [], ◌∷◌, ◌++◌, length, drop, reverse, refl, sym, ◌∙◌, ap, subst, Some, None, Option, MatchOption, arith, add-one}
use Rattle.std.proofs.lemmas.List.{reverse-append, length-reverse}
use Rattle.std.proofs.lemmas.Bool.{lt-ltb, le-ltb}
use Rattle.mh_pytok.specs.Layout.{left_by, innermost}

-- the innermost block comes first
pub reverse_push : (xs : List ℕ) (x : ℕ) → reverse (xs ++ x ∷ []) ≡ x ∷ reverse xs
reverse_push xs x = reverse-append xs (x ∷ [])

-- of a stack, count blocks are left and the columns are those of the others
pub record Left (column count : ℕ) (stack columns : List ℕ) : Type 0 where
  pub is : left_by column stack ≡ count + left_by column (reverse columns)
  pub rest : drop count stack ≡ reverse columns
  pub total : count + length columns ≡ length stack

drop_one : (n : ℕ) (x : ℕ) (xs ys : List ℕ) → drop n xs ≡ x ∷ ys → drop (n + 1) xs ≡ ys
drop_one n x xs ys h = rw add-one (drop_suc n x xs ys h)
  where
    drop_suc : (n : ℕ) (x : ℕ) (xs ys : List ℕ) → drop n xs ≡ x ∷ ys → drop (suc n) xs ≡ ys
    drop_suc zero x [] ys h = cc
    drop_suc zero x (z ∷ zs) ys h = cc
    drop_suc (suc n) x [] ys h = cc
    drop_suc (suc n) x (z ∷ zs) ys h = drop_suc n x zs ys h

left_one : (column c : ℕ) (cs : List ℕ) → column < c → left_by column (c ∷ cs) ≡ suc (left_by column cs)
left_one column c cs h = rw (lt-ltb column c h) refl

-- one block more is left
pub left_more : (column count : ℕ) (stack columns columns' : List ℕ) (o : Option ℕ) →
    MatchOption o ((columns ≡ []) × (columns' ≡ [])) (λ last. columns ≡ columns' ++ last ∷ []) →
    column < innermost (reverse columns) → Left column count stack columns → Left column (count + 1) stack columns'
left_more column count stack columns columns' None (empty, rest) further left =
    absurd (none (reverse columns) (ap reverse empty) further)
  where
    none : (cs : List ℕ) → cs ≡ reverse [] → column < innermost cs → ⊥
    none cs is h = let i : innermost cs ≡ 0 = ap innermost is in omega arith
left_more column count stack columns columns' (Some c) is further left =
    let back : reverse columns ≡ c ∷ reverse columns' = ap reverse is ∙ reverse_push columns' c in
    let beyond : column < c = subst (λ cs. column < innermost cs) back further in
    let one : left_by column (reverse columns) ≡ suc (left_by column (reverse columns')) = ap (left_by column) back ∙ left_one column c (reverse columns') beyond in
    let long : length columns ≡ suc (length columns') = sym (length-reverse columns) ∙ ap length back ∙ ap suc (length-reverse columns') in
    record { is = omega (arith, left.is, one); rest = drop_one count c stack (reverse columns') (left.rest ∙ back); total = omega (arith, left.total, long) }

-- where the innermost block begins no further right, no more are left
left_none : (column : ℕ) (cs : List ℕ) → innermost cs ≤ column → left_by column cs ≡ 0
left_none column [] h = refl
left_none column (c ∷ cs) h = rw (le-ltb column c h) refl

pub left_all : (column count : ℕ) (stack columns : List ℕ) → innermost (reverse columns) ≤ column → Left column count stack columns →
    (count ≡ left_by column stack) × (reverse columns ≡ drop count stack)
left_all column count stack columns h left =
    let none : left_by column (reverse columns) ≡ 0 = left_none column (reverse columns) h in
    (omega (arith, left.is, none), sym left.rest)

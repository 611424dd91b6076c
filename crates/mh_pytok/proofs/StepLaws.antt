-- What one step gives, case by case.
use Rattle.std.proofs.Common.{◌≡◌, ℕ, ◌+◌, List, [], ◌∷◌, drop, replicate, refl, sym, ◌∙◌, ap, true, false, eqb, eq-eqb}
use Rattle.std.proofs.lemmas.Bool.{ne_eqb}
use Rattle.mh_text.specs.declared.code.Code.TheVariants.{L3BadDedent}
use Rattle.mh_pytok.specs.Layout.{Place, Goes, Stops, indented, innermost, left_by, token, line_at}
use Rattle.mh_pytok.specs.declared.token.Tok.TheVariants.{Indent, Dedent}
use Rattle.mh_pytok.specs.declared.shape.Line.TheVariants.{Full}

-- a line at the column of an open block
pub indented_same : (src : List ℕ) (p : Place) (column leaves line : ℕ) (cs : List ℕ) → leaves ≡ left_by column p.indents → cs ≡ drop leaves p.indents →
    line ≡ line_at src p.at → innermost cs ≡ column →
    indented src p column ≡ Goes (replicate leaves (token Dedent (p.at + column) (p.at + column) line)) (record { at = p.at + column; indents = cs; brackets = p.brackets; line = Full })
unfolding indented
indented_same src p column leaves line cs count rest is same =
    let test : eqb (innermost (drop (left_by column p.indents) p.indents)) column ≡ true =
    eq-eqb _ column (ap innermost (ap (λ n. drop n p.indents) (sym count) ∙ sym rest) ∙ same) in
    rw test (rw (rest, is, count) refl)

-- a line further right than the innermost block
pub indented_open : (src : List ℕ) (p : Place) (column leaves line : ℕ) (cs : List ℕ) → leaves ≡ left_by column p.indents → cs ≡ drop leaves p.indents →
    line ≡ line_at src p.at → (innermost cs ≡ column → ⊥) → leaves ≡ 0 →
    (indented src p column ≡ Goes (token Indent (p.at + column) (p.at + column) line ∷ []) (record { at = p.at + column; indents = column ∷ p.indents; brackets = p.brackets; line = Full }))
    × (cs ≡ p.indents)
unfolding indented
indented_open src p column leaves line cs count rest is other none =
    let test : eqb (innermost (drop (left_by column p.indents) p.indents)) column ≡ false =
    ne_eqb _ column (λ e. other (ap innermost (rest ∙ ap (λ n. drop n p.indents) count) ∙ e)) in
    let all : eqb (left_by column p.indents) 0 ≡ true = eq-eqb _ 0 (sym count ∙ none) in
    (rw (test, all, is) refl, rest ∙ ap (λ n. drop n p.indents) none)

-- a line at no column
pub indented_bad : (src : List ℕ) (p : Place) (column leaves line : ℕ) (cs : List ℕ) → leaves ≡ left_by column p.indents → cs ≡ drop leaves p.indents →
    line ≡ line_at src p.at → (innermost cs ≡ column → ⊥) → (leaves ≡ 0 → ⊥) → indented src p column ≡ Stops L3BadDedent line
unfolding indented
indented_bad src p column leaves line cs count rest is other some =
    let test : eqb (innermost (drop (left_by column p.indents) p.indents)) column ≡ false =
    ne_eqb _ column (λ e. other (ap innermost (rest ∙ ap (λ n. drop n p.indents) count) ∙ e)) in
    let all : eqb (left_by column p.indents) 0 ≡ false = ne_eqb _ 0 (λ e. some (count ∙ e)) in
    rw (test, all, is) refl

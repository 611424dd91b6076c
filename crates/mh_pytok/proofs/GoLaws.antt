-- What the steps give, as the code does them.
use Rattle.std.proofs.Common.{◌≡◌, ℕ, ◌+◌, List, [], ◌∷◌, ◌++◌, length, drop, replicate, reverse, refl, sym, ◌∙◌, ap, subst, true, false, Bool, eqb, eq-eqb, Err}
use Rattle.std.proofs.lemmas.Bool.{ne_eqb}
use Rattle.std.proofs.lemmas.List.{length-reverse}
use Rattle.std.specs.List.{prefix_len}
use Rattle.mh_text.specs.declared.code.Code.{Code}
use Rattle.mh_text.specs.declared.code.Code.TheVariants.{L2TabIndent}
use Rattle.mh_text.specs.declared.refusal.Refusal.{Refusal}
use Rattle.mh_text.specs.declared.refusal.Refusal.TheVariants as refusal
use Rattle.mh_pytok.specs.Layout.{Place, Next, Goes, Ends, Stops, indented, begun, went_on, token, newline, line_behind, brackets_behind, line_at, is_space, is_space_or_tab, holds_nothing}
use Rattle.mh_pytok.specs.State.{place_of, Gives}
use Rattle.mh_pytok.proofs.IndentLaws.{reverse_push}
use Rattle.mh_pytok.specs.declared.state.State.{State}
use Rattle.mh_pytok.specs.declared.token.Tok.{Tok}
use Rattle.mh_pytok.specs.declared.token.Token.{Token}
use Rattle.mh_pytok.specs.declared.token.Tok.TheVariants.{Dedent, Newline, End}
use Rattle.mh_pytok.specs.declared.shape.Line.{Line}
use Rattle.mh_pytok.specs.declared.shape.Line.TheVariants.{Bare}
use Rattle.mh_pytok.specs.declared.shape.Piece.{Piece}
use Rattle.mh_pytok.specs.declared.shape.Piece.TheVariants.{Nothing, LineEnd, Gap, Word, Bad}

-- a refusal is that of the step
pub stopped : (next : Next) (before after : List Token) (place : Place) (r : Refusal) (code : Code) (line : ℕ) →
    r ≡ refusal.At code line [] → next ≡ Stops code line → Gives next before (Err r) after place
stopped next before after place r code line is stops =
    subst (λ (x : Refusal). Gives next before (Err x) after place) (sym is) (stops, refl)

-- a step from the state that it leaves
pub gone : (next : Next) (front : List Token) (s t : State) → t ≡ s → next ≡ Goes front (place_of s) → next ≡ Goes front (place_of t)
gone next front s t same is = is ∙ ap (λ (x : State). Goes front (place_of x)) (sym same)

-- a state with one block more
pub opened : (next : Next) (front : List Token) (at brackets column : ℕ) (columns is_now : List ℕ) (line : Line) → reverse columns ≡ is_now →
    next ≡ Goes front (record { at = at; indents = column ∷ is_now; brackets = brackets; line = line }) →
    next ≡ Goes front (record { at = at; indents = reverse (columns ++ column ∷ []); brackets = brackets; line = line })
opened next front at brackets column columns is_now line same is =
    is ∙ ap (λ (cs : List ℕ). Goes front (record { at = at; indents = cs; brackets = brackets; line = line })) (ap (λ (cs : List ℕ). column ∷ cs) (sym same) ∙ sym (reverse_push columns column))

module _ (src : List ℕ) (p : Place) (rest after : List ℕ) (column : ℕ) (at : rest ≡ drop p.at src) (behind : after ≡ drop column rest)
    (count : column ≡ prefix_len is_space_or_tab rest) where
  test : (b : Bool) → b ≡ holds_nothing after → holds_nothing (drop (prefix_len is_space_or_tab (drop p.at src)) (drop p.at src)) ≡ b
  test b is = ap (λ (r : List ℕ). holds_nothing (drop (prefix_len is_space_or_tab r) r)) (sym at) ∙ ap (λ (n : ℕ). holds_nothing (drop n rest)) (sym count)
      ∙ ap holds_nothing (sym behind) ∙ sym is

  here : prefix_len is_space_or_tab (drop p.at src) ≡ column
  here = ap (prefix_len is_space_or_tab) (sym at) ∙ sym count

  pub begun_bare : true ≡ holds_nothing after → begun src p ≡ Goes [] (record { at = p.at + column; indents = p.indents; brackets = p.brackets; line = Bare })
  unfolding begun
  begun_bare is = rw (test true is, here) refl

  pub begun_indented : (n : ℕ) → n ≡ prefix_len is_space rest → false ≡ holds_nothing after → n ≡ column → begun src p ≡ indented src p column
  unfolding begun
  begun_indented n spaces is same =
      let all : eqb (prefix_len is_space (drop p.at src)) (prefix_len is_space_or_tab (drop p.at src)) ≡ true =
      eq-eqb _ _ (ap (prefix_len is_space) (sym at) ∙ sym spaces ∙ same ∙ sym here) in
      rw (test false is, all, here) refl

  pub begun_tab : (n line : ℕ) → n ≡ prefix_len is_space rest → false ≡ holds_nothing after → (n ≡ column → ⊥) → line ≡ line_at src p.at →
      begun src p ≡ Stops L2TabIndent line
  unfolding begun
  begun_tab n line spaces is other number =
      let all : eqb (prefix_len is_space (drop p.at src)) (prefix_len is_space_or_tab (drop p.at src)) ≡ false =
      ne_eqb _ _ (λ e. other (spaces ∙ ap (prefix_len is_space) at ∙ e ∙ here)) in
      rw (test false is, all, number) refl

module _ (src : List ℕ) (s : State) (rest : List ℕ) (piece : List ℕ → Piece) (at : rest ≡ drop s.at src) (line : s.number ≡ line_at src s.at) where
  seen : (x : Piece) → x ≡ piece rest → went_on src (place_of s) (piece (drop s.at src)) ≡ went_on src (place_of s) x
  seen x is = ap (λ (r : List ℕ). went_on src (place_of s) (piece r)) (sym at) ∙ ap (went_on src (place_of s)) (sym is)

  pub gone_end : Nothing ≡ piece rest →
      went_on src (place_of s) (piece (drop s.at src)) ≡
      Ends (newline s.line s.brackets (token Newline s.at s.at s.number) ++ replicate (length s.indents) (token Dedent s.at s.at s.number) ++ token End s.at s.at s.number ∷ [])
  unfolding went_on
  gone_end is = seen Nothing is ∙ rw (← line, length-reverse s.indents) refl

  pub gone_line : LineEnd ≡ piece rest →
      went_on src (place_of s) (piece (drop s.at src)) ≡
      Goes (newline s.line s.brackets (token Newline s.at (s.at + 1) s.number)) (record { at = s.at + 1; indents = reverse s.indents; brackets = s.brackets; line = line_behind s.brackets })
  unfolding went_on
  gone_line is = seen LineEnd is ∙ rw (← line) refl

  pub gone_gap : (n : ℕ) → Gap n ≡ piece rest →
      went_on src (place_of s) (piece (drop s.at src)) ≡ Goes [] (record { at = s.at + n; indents = reverse s.indents; brackets = s.brackets; line = s.line })
  unfolding went_on
  gone_gap n is = seen (Gap n) is

  pub gone_word : (kind : Tok) (n : ℕ) → Word kind n ≡ piece rest →
      went_on src (place_of s) (piece (drop s.at src)) ≡
      Goes (token kind s.at (s.at + n) s.number ∷ []) (record { at = s.at + n; indents = reverse s.indents; brackets = brackets_behind kind s.brackets; line = s.line })
  unfolding went_on
  gone_word kind n is = seen (Word kind n) is ∙ rw (← line) refl

  pub gone_bad : (code : Code) → Bad code ≡ piece rest → went_on src (place_of s) (piece (drop s.at src)) ≡ Stops code s.number
  unfolding went_on
  gone_bad code is = seen (Bad code) is ∙ rw (← line) refl

-- What holds of each step: it goes on inside the source, takes something, and its tokens are well.
use Rattle.std.proofs.Common.{◌≡◌, ℕ, suc, ◌+◌, ◌-◌, ◌*◌, ◌<◌, ◌≤◌, List, [], ◌∷◌, ◌++◌, length, take, drop, replicate, refl, sym, ◌∙◌, ap, subst, true, false, Bool, cond, ◌||◌, eqb, ltb, arith, append_assoc}
use Rattle.std.proofs.lemmas.Bool.{eqb-true, eqb-false, ltb-false}
use Rattle.std.proofs.lemmas.List.{length-drop, length-take}
use Rattle.std.proofs.lemmas.List.Sums.{prefix_len-le-length, count_by-le-length}
use Rattle.std.specs.List.{prefix_len}
use Rattle.mh_pytok.specs.Lexeme.{text_of}
use Rattle.mh_pytok.specs.Layout.{Place, Next, Goes, Ends, Stops, next, next_at, begun, indented, went_on, innermost, left_by, token, newline, line_behind, brackets_behind, line_at, is_space, is_space_or_tab, holds_nothing}
use Rattle.mh_pytok.specs.Pieces.{piece}
use Rattle.mh_pytok.specs.Readable.{depth_behind}
use Rattle.mh_pytok.specs.State.{Inside, left_of}
use Rattle.mh_pytok.proofs.PieceLaws.{Shaped, Spelled, piece-shaped}
use Rattle.mh_pytok.proofs.Suffixes.{Suffix, IsWell, before, mark_well, last, raise, dedents, line_ends}
use Rattle.mh_pytok.specs.declared.token.Tok.{Tok}
use Rattle.mh_pytok.specs.declared.token.Tok.TheVariants.{Name, Number, Str, Keyword, Sign, Newline, Indent, Dedent, End}
use Rattle.mh_pytok.specs.declared.token.Token.{Token}
use Rattle.mh_pytok.specs.declared.shape.Piece.{Piece}
use Rattle.mh_pytok.specs.declared.shape.Piece.TheVariants.{Nothing, LineEnd, Gap, Word, Bad}
use Rattle.mh_pytok.specs.declared.shape.Line.{Line}
use Rattle.mh_pytok.specs.declared.shape.Line.TheVariants.{Fresh, Bare, Full}

-- a step from p to q with these tokens
pub record GoesWell (src : List ℕ) (p q : Place) (front : List Token) : Type 0 where
  pub inside : Inside src q
  pub less : left_of q.line (length src - q.at) < left_of p.line (length src - p.at)
  pub wraps : (ts : List Token) → Suffix src q.at (length q.indents) ts → Suffix src p.at (length p.indents) (front ++ ts)

abbrev pub Good : List ℕ → Place → Next → Type 0
Good src p (Goes front q) = GoesWell src p q front
Good src p (Ends ts) = Suffix src p.at (length p.indents) ts
Good src p (Stops code line) = Unit {0}

pick : (src : List ℕ) (p : Place) (b : Bool) (x y : Next) → (b ≡ true → Good src p x) → (b ≡ false → Good src p y) → Good src p (cond b x y)
pick src p true x y f g = f refl
pick src p false x y f g = g refl

pub line_at_most : (src : List ℕ) (at : ℕ) → line_at src at ≤ 1 + length src
line_at_most src at = omega (arith, count_by-le-length (λ b. eqb b 10) (take at src), length-take at src)

left_by_at_most : (column : ℕ) (cs : List ℕ) → left_by column cs ≤ length cs
left_by_at_most column [] = omega arith
left_by_at_most column (c ∷ cs) = at (ltb column c) (left_by_at_most column cs)
  where
    at : (b : Bool) → left_by column cs ≤ length cs → cond b (suc (left_by column cs)) 0 ≤ suc (length cs)
    at true h = omega arith
    at false h = omega arith

-- a line that leaves no block and begins elsewhere begins further right
further : (column : ℕ) (cs : List ℕ) → left_by column cs ≡ 0 → (innermost cs ≡ column → ⊥) → 0 < column
further column [] h other = let f : 0 ≡ column → ⊥ = other in omega arith
further column (c ∷ cs) h other = at (ltb column c) refl h
  where
    at : (b : Bool) → ltb column c ≡ b → cond b (suc (left_by column cs)) 0 ≡ 0 → 0 < column
    at true is z = absurd (omega arith)
    at false is z = let f : c ≡ column → ⊥ = other in let g : c ≤ column = ltb-false column c is in omega arith

indented_well : (src : List ℕ) (p : Place) (column : ℕ) → Inside src p → p.at + column ≤ length src → left_of p.line (length src - p.at) ≡ 2 * (length src - p.at) + 1 →
    Good src p (indented src p column)
unfolding indented
indented_well src p column inside within left =
    pick src p (eqb (innermost (drop (left_by column p.indents) p.indents)) column) _ _
    (λ _. record {
      inside = record { at = within; brackets = omega (arith, inside.brackets); indents = omega (arith, length-drop (left_by column p.indents) p.indents, inside.indents) };
      less = omega (arith, left);
      wraps = λ ts rest. raise src (p.at + column) p.at (length p.indents) _ (omega arith)
          (subst (λ d. Suffix src (p.at + column) d (replicate (left_by column p.indents) (token Dedent (p.at + column) (p.at + column) (line_at src p.at)) ++ ts))
          (omega (arith, length-drop (left_by column p.indents) p.indents, left_by_at_most column p.indents))
          (dedents src (p.at + column) (line_at src p.at) (length (drop (left_by column p.indents) p.indents)) (left_by column p.indents) ts within (line_at_most src p.at) rest));
    })
    (λ other. pick src p (eqb (left_by column p.indents) 0) _ _
    (λ none. let z : left_by column p.indents ≡ 0 = eqb-true _ 0 none in
    let right : 0 < column = further column p.indents z (λ e. eqb-false _ column other (ap (λ n. innermost (drop n p.indents)) z ∙ e)) in
    record {
      inside = record { at = within; brackets = omega (arith, inside.brackets); indents = omega (arith, inside.indents) };
      less = omega (arith, left);
      wraps = λ ts rest. before src p.at (length p.indents) (token Indent (p.at + column) (p.at + column) (line_at src p.at)) ts
          (mark_well src Indent (p.at + column) (p.at + column) (line_at src p.at) (λ e. cc) (λ e. cc) (λ e. cc) (omega arith) within (line_at_most src p.at))
          (λ e. cc) (omega arith) (λ e. absurd (let f : Indent ≡ Dedent = e in cc)) rest;
    })
    (λ _. tt))

begun_well : (src : List ℕ) (p : Place) → Inside src p → left_of p.line (length src - p.at) ≡ 2 * (length src - p.at) + 1 → Good src p (begun src p)
unfolding begun
begun_well src p inside left =
    let within : p.at + prefix_len is_space_or_tab (drop p.at src) ≤ length src =
    omega (arith, prefix_len-le-length is_space_or_tab (drop p.at src), length-drop p.at src, inside.at) in
    pick src p (holds_nothing (drop (prefix_len is_space_or_tab (drop p.at src)) (drop p.at src))) _ _
    (λ _. record {
      inside = record { at = within; brackets = omega (arith, inside.brackets); indents = omega (arith, inside.indents) };
      less = omega (arith, left);
      wraps = λ ts rest. raise src _ p.at (length p.indents) ts (omega arith) rest;
    })
    (λ _. pick src p (eqb (prefix_len is_space (drop p.at src)) (prefix_len is_space_or_tab (drop p.at src))) _ _
    (λ _. indented_well src p (prefix_len is_space_or_tab (drop p.at src)) inside within left)
    (λ _. tt))

-- a token of a source is well where its text is that of its kind
word_well : (src : List ℕ) (kind : Tok) (at n line : ℕ) → at + n ≤ length src → line ≤ 1 + length src → Spelled kind (take n (drop at src)) →
    IsWell src (token kind at (at + n) line)
word_well src kind at n line within lines spelled =
    let e : n ≡ at + n - at = omega arith in
    let s : Spelled kind (text_of src (token kind at (at + n) line)) = subst (λ m. Spelled kind (take m (drop at src))) e spelled in
    record {
      inside = record { start = omega arith; end = within; line = lines };
      name = λ k. subst (λ (x : Tok). Spelled x (text_of src (token kind at (at + n) line))) k s;
      number = λ k. subst (λ (x : Tok). Spelled x (text_of src (token kind at (at + n) line))) k s;
      quoted = λ k. subst (λ (x : Tok). Spelled x (text_of src (token kind at (at + n) line))) k s;
    }

word_depth : (kind : Tok) (text : List ℕ) (d : ℕ) → Spelled kind text → depth_behind kind d ≡ d
word_depth Name text d s = refl
word_depth Number text d s = refl
word_depth Str text d s = refl
word_depth (Keyword tag) text d s = refl
word_depth (Sign tag) text d s = refl
word_depth Newline text d s = absurd s
word_depth Indent text d s = absurd s
word_depth Dedent text d s = absurd s
word_depth End text d s = absurd s

brackets_more : (kind : Tok) (b : ℕ) → brackets_behind kind b ≤ b + 1
brackets_more Name b = omega arith
brackets_more Number b = omega arith
brackets_more Str b = omega arith
brackets_more (Keyword tag) b = omega arith
brackets_more (Sign tag) b = at (eqb tag 29 || eqb tag 31) (eqb tag 30 || eqb tag 32)
  where
    at : (s t : Bool) → cond s (suc b) (cond t (b - 1) b) ≤ b + 1
    at true t = omega arith
    at false true = omega arith
    at false false = omega arith
brackets_more Newline b = omega arith
brackets_more Indent b = omega arith
brackets_more Dedent b = omega arith
brackets_more End b = omega arith

line_behind_left : (b n : ℕ) → left_of (line_behind b) n ≤ 2 * n + 1
line_behind_left b n = at (eqb b 0)
  where
    at : (t : Bool) → left_of (cond t Fresh Full) n ≤ 2 * n + 1
    at true = omega arith
    at false = omega arith

went_on_well : (src : List ℕ) (p : Place) (x : Piece) → Inside src p → ((n : ℕ) → left_of p.line n ≡ 2 * n) → Shaped x (drop p.at src) → Good src p (went_on src p x)
unfolding went_on
went_on_well src p Nothing inside left shaped =
    let lines : line_at src p.at ≤ 1 + length src = line_at_most src p.at in
    let end : Suffix src p.at 0 (token End p.at p.at (line_at src p.at) ∷ []) = last src p.at (line_at src p.at) inside.at lines in
    let closed : Suffix src p.at (length p.indents) (replicate (length p.indents) (token Dedent p.at p.at (line_at src p.at)) ++ token End p.at p.at (line_at src p.at) ∷ []) =
    subst (λ d. Suffix src p.at d (replicate (length p.indents) (token Dedent p.at p.at (line_at src p.at)) ++ token End p.at p.at (line_at src p.at) ∷ [])) (omega arith)
    (dedents src p.at (line_at src p.at) 0 (length p.indents) _ inside.at lines end) in
    subst (λ ts. Suffix src p.at (length p.indents) ts) (sym (append_assoc (newline p.line p.brackets (token Newline p.at p.at (line_at src p.at))) _ _))
    (line_ends src p.line p.brackets p.at p.at (line_at src p.at) (length p.indents) _ (omega arith) inside.at lines closed)
went_on_well src p LineEnd inside left shaped =
    let within : p.at + 1 ≤ length src = omega (arith, length-drop p.at src, shaped, inside.at) in
    record {
      inside = record { at = within; brackets = omega (arith, inside.brackets); indents = omega (arith, inside.indents) };
      less = omega (arith, left (length src - p.at), line_behind_left p.brackets (length src - (p.at + 1)));
      wraps = λ ts rest. line_ends src p.line p.brackets p.at (p.at + 1) (line_at src p.at) (length p.indents) ts (omega arith) within (line_at_most src p.at) rest;
    }
went_on_well src p (Gap n) inside left shaped =
    let within : p.at + n ≤ length src = omega (arith, length-drop p.at src, shaped.1, inside.at) in
    record {
      inside = record { at = within; brackets = omega (arith, inside.brackets); indents = omega (arith, inside.indents) };
      less = omega (arith, left (length src - p.at), left (length src - (p.at + n)), shaped.0);
      wraps = λ ts rest. raise src (p.at + n) p.at (length p.indents) ts (omega arith) rest;
    }
went_on_well src p (Word kind n) inside left shaped =
    let within : p.at + n ≤ length src = omega (arith, length-drop p.at src, shaped.within, inside.at) in
    record {
      inside = record { at = within; brackets = omega (arith, inside.brackets, brackets_more kind p.brackets, shaped.some); indents = omega (arith, inside.indents) };
      less = omega (arith, left (length src - p.at), left (length src - (p.at + n)), shaped.some);
      wraps = λ ts rest. before src p.at (length p.indents) (token kind p.at (p.at + n) (line_at src p.at)) ts
          (word_well src kind p.at n (line_at src p.at) within (line_at_most src p.at) shaped.spelled)
          (λ e. subst (λ (k : Tok). Spelled k (take n (drop p.at src))) e shaped.spelled)
          (omega arith)
          (λ e. absurd (subst (λ (k : Tok). Spelled k (take n (drop p.at src))) e shaped.spelled))
          (subst (λ d. Suffix src (p.at + n) d ts) (sym (word_depth kind (take n (drop p.at src)) (length p.indents) shaped.spelled)) rest);
    }
went_on_well src p (Bad code) inside left shaped = tt

next_well_at : (src : List ℕ) (p : Place) (line : Line) → line ≡ p.line → Inside src p → Good src p (next_at line src p)
next_well_at src p Fresh is inside = begun_well src p inside (ap (λ (l : Line). left_of l (length src - p.at)) (sym is))
next_well_at src p Bare is inside = went_on_well src p (piece (drop p.at src)) inside (λ n. ap (λ (l : Line). left_of l n) (sym is)) (piece-shaped (drop p.at src))
next_well_at src p Full is inside = went_on_well src p (piece (drop p.at src)) inside (λ n. ap (λ (l : Line). left_of l n) (sym is)) (piece-shaped (drop p.at src))

-- each step is well
pub next-well : (src : List ℕ) (p : Place) → Inside src p → Good src p (next src p)
unfolding next
next-well src p inside = next_well_at src p p.line refl inside

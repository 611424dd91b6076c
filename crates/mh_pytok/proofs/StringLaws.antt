-- Strings, byte by byte.
use Rattle.std.proofs.Common.{◌≡◌, ℕ, ◌+◌, ◌-◌, ◌<◌, ◌≤◌, List, [], ◌∷◌, drop, length, get_or, refl, sym, ◌∙◌, ap, cond, true, false, Bool, ◌&&◌, ◌⊎◌, inl, inr, ◌++◌, append_assoc, Some, None, eqb, eq-eqb}
use Rattle.std.proofs.lemmas.Bool.{ne_eqb}
use Rattle.std.proofs.lemmas.List.{drop_all, drop_more}
use Rattle.mh_pytok.specs.Strings.{string_end, unescaped, escaped, escape_of}

-- where a string ends, by the byte at i
pub end-drop : (quote quotes left : ℕ) (escaped : Bool) (n : ℕ) (bytes : List ℕ) (i : ℕ) → i < length bytes →
    string_end quote quotes left escaped n (drop i bytes) ≡
    cond (eqb (get_or bytes i 0) 10 && eqb quotes 1) None
    (cond escaped (string_end quote quotes quotes false (n + 1) (drop (i + 1) bytes))
    (cond (eqb (get_or bytes i 0) quote) (cond (eqb left 1) (Some (n + 1)) (string_end quote quotes (left - 1) false (n + 1) (drop (i + 1) bytes)))
    (string_end quote quotes quotes (eqb (get_or bytes i 0) 92) (n + 1) (drop (i + 1) bytes))))
unfolding string_end
end-drop quote quotes left escaped n bytes i h = ap (string_end quote quotes left escaped n) (drop_more bytes i 0 h)

pub end-past : (quote quotes left : ℕ) (escaped : Bool) (n : ℕ) (bytes : List ℕ) (i : ℕ) → length bytes ≤ i → string_end quote quotes left escaped n (drop i bytes) ≡ None
unfolding string_end
end-past quote quotes left escaped n bytes i h = ap (string_end quote quotes left escaped n) (drop_all i bytes h)

no : (b : Bool) → (b && false) ≡ false
no true = refl
no false = refl

-- no end of a line, of a string on one line
goes_on : (b quotes : ℕ) → ((b ≡ 10) × (quotes ≡ 1 → ⊥)) ⊎ (b ≡ 10 → ⊥) → (eqb b 10 && eqb quotes 1) ≡ false
goes_on b quotes h = elim h [ inl (is, other) ↦ rw (ne_eqb quotes 1 other) (no (eqb b 10)) | inr other ↦ rw (ne_eqb b 10 other) refl ]

-- the byte at i ends the line of a string that may not go over lines
pub end_at_line : (quote quotes left : ℕ) (escaped : Bool) (n : ℕ) (bytes : List ℕ) (i : ℕ) → i < length bytes →
    get_or bytes i 0 ≡ 10 → quotes ≡ 1 → string_end quote quotes left escaped n (drop i bytes) ≡ None
end_at_line quote quotes left escaped n bytes i h is one =
    end-drop quote quotes left escaped n bytes i h ∙ rw (eq-eqb (get_or bytes i 0) 10 is, eq-eqb quotes 1 one) refl

module _ (quote quotes left : ℕ) (escaped : Bool) (n : ℕ) (bytes : List ℕ) (i : ℕ) (h : i < length bytes)
    (line : ((get_or bytes i 0 ≡ 10) × (quotes ≡ 1 → ⊥)) ⊎ (get_or bytes i 0 ≡ 10 → ⊥)) where
  -- the byte at i stands behind a backslash
  pub end_escaped : escaped ≡ true → string_end quote quotes left escaped n (drop i bytes) ≡ string_end quote quotes quotes false (n + 1) (drop (i + 1) bytes)
  end_escaped is = end-drop quote quotes left escaped n bytes i h ∙ rw (goes_on (get_or bytes i 0) quotes line, is) refl

  -- the byte at i is the last quote that is wanted
  pub end_closed : escaped ≡ false → get_or bytes i 0 ≡ quote → left ≡ 1 → string_end quote quotes left escaped n (drop i bytes) ≡ Some (n + 1)
  end_closed is same one = end-drop quote quotes left escaped n bytes i h ∙ rw (goes_on (get_or bytes i 0) quotes line, is, eq-eqb (get_or bytes i 0) quote same, eq-eqb left 1 one) refl

  -- or one before the last
  pub end_quote : escaped ≡ false → get_or bytes i 0 ≡ quote → (left ≡ 1 → ⊥) →
      string_end quote quotes left escaped n (drop i bytes) ≡ string_end quote quotes (left - 1) false (n + 1) (drop (i + 1) bytes)
  end_quote is same more = end-drop quote quotes left escaped n bytes i h ∙ rw (goes_on (get_or bytes i 0) quotes line, is, eq-eqb (get_or bytes i 0) quote same, ne_eqb left 1 more) refl

  -- or another byte
  pub end_other : escaped ≡ false → (get_or bytes i 0 ≡ quote → ⊥) →
      string_end quote quotes left escaped n (drop i bytes) ≡ string_end quote quotes quotes (eqb (get_or bytes i 0) 92) (n + 1) (drop (i + 1) bytes)
  end_other is other = end-drop quote quotes left escaped n bytes i h ∙ rw (goes_on (get_or bytes i 0) quotes line, is, ne_eqb (get_or bytes i 0) quote other) refl

-- what the bytes from i on stand for, by the first of them
escape-drop : (pending : Bool) (text : List ℕ) (i : ℕ) → i < length text →
    unescaped pending (drop i text) ≡
    cond pending (escaped (escape_of (get_or text i 0)) (get_or text i 0) ++ unescaped false (drop (i + 1) text))
    (cond (eqb (get_or text i 0) 92) (unescaped true (drop (i + 1) text)) (get_or text i 0 ∷ unescaped false (drop (i + 1) text)))
unfolding unescaped
escape-drop pending text i h = ap (unescaped pending) (drop_more text i 0 h)

module _ (out out' text all : List ℕ) (pending : Bool) (i : ℕ) (h : i < length text) (kept : out ++ unescaped pending (drop i text) ≡ all) where
  -- behind a backslash
  pub escape_pending : pending ≡ true → out' ≡ out ++ escaped (escape_of (get_or text i 0)) (get_or text i 0) → out' ++ unescaped false (drop (i + 1) text) ≡ all
  escape_pending is added =
      let e : unescaped pending (drop i text) ≡ escaped (escape_of (get_or text i 0)) (get_or text i 0) ++ unescaped false (drop (i + 1) text) = escape-drop pending text i h ∙ rw is refl in
      ap (λ (xs : List ℕ). xs ++ unescaped false (drop (i + 1) text)) added ∙ append_assoc out (escaped (escape_of (get_or text i 0)) (get_or text i 0)) (unescaped false (drop (i + 1) text))
      ∙ ap (λ (xs : List ℕ). out ++ xs) (sym e) ∙ kept

  -- at a backslash
  pub escape_begins : pending ≡ false → get_or text i 0 ≡ 92 → out ++ unescaped true (drop (i + 1) text) ≡ all
  escape_begins is slash =
      let e : unescaped pending (drop i text) ≡ unescaped true (drop (i + 1) text) = escape-drop pending text i h ∙ rw (is, eq-eqb (get_or text i 0) 92 slash) refl in
      ap (λ (xs : List ℕ). out ++ xs) (sym e) ∙ kept

  -- at another byte
  pub escape_none : pending ≡ false → (get_or text i 0 ≡ 92 → ⊥) → out' ≡ out ++ get_or text i 0 ∷ [] → out' ++ unescaped false (drop (i + 1) text) ≡ all
  escape_none is other added =
      let e : unescaped pending (drop i text) ≡ get_or text i 0 ∷ unescaped false (drop (i + 1) text) = escape-drop pending text i h ∙ rw (is, ne_eqb (get_or text i 0) 92 other) refl in
      ap (λ (xs : List ℕ). xs ++ unescaped false (drop (i + 1) text)) added ∙ append_assoc out (get_or text i 0 ∷ []) (unescaped false (drop (i + 1) text))
      ∙ ap (λ (xs : List ℕ). out ++ xs) (sym e) ∙ kept

-- at the end
pub escape-past : (pending : Bool) (text : List ℕ) (i : ℕ) → length text ≤ i → unescaped pending (drop i text) ≡ cond pending (92 ∷ []) []
unfolding unescaped
escape-past pending text i h = ap (unescaped pending) (drop_all i text h)

-- and what is added there is all
pub escape_ends : (out text all : List ℕ) (pending t : Bool) (i : ℕ) → length text ≤ i → pending ≡ t → out ++ unescaped pending (drop i text) ≡ all → out ++ cond t (92 ∷ []) [] ≡ all
escape_ends out text all pending t i h is kept =
    ap (λ (xs : List ℕ). out ++ xs) (sym (escape-past pending text i h ∙ ap (λ (b : Bool). cond b (92 ∷ []) []) is)) ∙ kept

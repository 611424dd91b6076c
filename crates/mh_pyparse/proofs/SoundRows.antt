-- Rows of elements with commas between, as the reading finds them: what is common to items, arguments and parameters. And the
-- rules for a token whose text is wanted, and for one that may be there.
use Rattle.std.proofs.Common.{◌≡◌, ℕ, ◌≤◌, max, Bool, true, false, List, [], ◌∷◌, ◌++◌, append_assoc, map, Some, None, Ok, refl, sym, ap, ◌∙◌, arith, subst, cond}
use Rattle.std.proofs.lemmas.List.{append-nil}
use Rattle.mh_reader.specs.Reader.{◌>>=◌, eat, want}
use Rattle.mh_reader.proofs.Yields.{Yields, yields_pure, yields_bind, yields_want, yields_expect_made, yields_eat_made}
use Rattle.mh_reader.proofs.Invert.{chain_ok, eat_true, eat_false}
use Rattle.mh_pytok.specs.Lexeme.{Lexeme}
use Rattle.mh_pytok.specs.declared.token.Tok.{Tok}
use Rattle.mh_pytree.specs.Depth.{deepest}
use Rattle.mh_pyparse.specs.Signs.{comma}
use Rattle.mh_pyparse.specs.Grammar.{Spot, tok}
use Rattle.mh_pyparse.specs.Reading.{Read, is, text_if, closing}
use Rattle.mh_pyparse.proofs.Tables.{is_true}

-- ---- depths

pub deepest-append : {X : Type 0} (f : X → ℕ) (xs ys : List X) → deepest (map f (xs ++ ys)) ≡ max (deepest (map f xs)) (deepest (map f ys))
deepest-append f [] ys = omega arith
deepest-append f (x ∷ xs) ys = omega (arith, deepest-append f xs ys)

-- one more at the end
pub deepest-more : {X : Type 0} (f : X → ℕ) (xs : List X) (x : X) → deepest (map f (xs ++ x ∷ [])) ≡ max (deepest (map f xs)) (f x)
deepest-more f xs x = omega (arith, deepest-append f xs (x ∷ []))

-- ---- tokens

text_given : (kind : Tok) (t : Lexeme) (x : List ℕ) → text_if kind t ≡ Some x → (at : Spot) × (t ≡ tok kind at) × (at.text ≡ x)
unfolding text_if
text_given kind t x e = go (is kind t) refl e
  where
    go : (b : Bool) → is kind t ≡ b → cond b (Some t.text) None ≡ Some x → (at : Spot) × (t ≡ tok kind at) × (at.text ≡ x)
    go true h e = let m = is_true kind t h in (m.0, m.1, ap (λ t. t.text) (sym m.1) ∙ (let q : t.text ≡ x = cc in q))
    go false h e = absurd (cc)

-- a token of this kind, of which the text is wanted
pub yields_text : {A : Type 0} (kind : Tok) (f : List ℕ → Read A) (Q : A → List Lexeme → Type 0) → ((at : Spot) → Yields (f at.text) (λ y v. Q y (tok kind at ∷ v))) → Yields (want (text_if kind) >>= f) Q
yields_text {A} kind f Q next = yields_bind (want (text_if kind)) f (λ x u. (at : Spot) × (u ≡ tok kind at ∷ []) × (at.text ≡ x)) Q
    (yields_want _ _ (λ t x e. let m = text_given kind t x e in (m.0, ap (λ t. t ∷ []) m.1, m.2)))
    (λ x u m. subst (λ x. Yields (f x) (λ y v. Q y (u ++ v))) m.2 (subst (λ u. Yields (f m.0.text) (λ y v. Q y (u ++ v))) (sym m.1) (next m.0)))

-- a token that may be there, where both ways go on
pub yields_taken : {A : Type 0} (kind : Tok) (f : Bool → Read A) (Q : A → List Lexeme → Type 0) → ((at : Spot) → Yields (f true) (λ y v. Q y (tok kind at ∷ v))) → Yields (f false) Q → Yields (eat (is kind) >>= f) Q
yields_taken {A} kind f Q with_it without_it = record { yields = λ ts r y e. let a = chain_ok (eat (is kind)) f ts r y e in go ts r y a.0 a.1 a.2 a.3 }
  where
    go : (ts r : List Lexeme) (y : A) (b : Bool) (m : List Lexeme) → eat (is kind) ts ≡ Ok (b, m) → f b m ≡ Ok (y, r) → (u : List Lexeme) × (ts ≡ u ++ r) × Q y u
    go ts r y true m e h =
        let t = eat_true (is kind) ts m e in
        let k = is_true kind t.0 t.1 in
        let c = (with_it k.0).yields m r y h in
        (tok kind k.0 ∷ c.0, t.2 ∙ ap (λ t. t ∷ m) k.1 ∙ ap (λ m. tok kind k.0 ∷ m) c.1, c.2)
    go ts r y false m e h =
        let t = eat_false (is kind) ts m e in
        let c = without_it.yields m r y h in
        (c.0, t.0 ∙ c.1, c.2)

-- after an element: a comma and more, or the closing sign
pub yields_closing : {A : Type 0} (close : Tok) (found : A) (Q : A × Bool → List Lexeme → Type 0) → ((at : Spot) → Q (found, true) (tok comma at ∷ [])) → ((to : Spot) → Q (found, false) (tok close to ∷ [])) → Yields (closing close found) Q
unfolding closing
yields_closing close found Q more last = yields_eat_made (is comma) (tok comma) (is_true comma) _ _ _ (λ at. yields_pure _ _ (more at))
    (yields_expect_made (is close) (tok close) (is_true close) _ _ (λ to. yields_pure _ _ (last to)))

-- ---- rows

-- what makes up a row with commas: `Is` of its elements, `Are` of the row
pub record WithCommas {X : Type 0} (Is : X → List Lexeme → Type 0) (Are : List X → List Lexeme → Type 0) : Type 0 where
  pub none : Are [] []
  pub last : (x : X) (v : List Lexeme) → Is x v → Are (x ∷ []) v
  pub more : (at : Spot) (x : X) (others : List X) (v w : List Lexeme) → Is x v → Are others w → Are (x ∷ others) (v ++ tok comma at ∷ w)

-- After those before, elements were found of the tokens u, and a row that follows makes one row with them.
pub record Partly {X : Type 0} (depth : X → ℕ) (Are : List X → List Lexeme → Type 0) (d : ℕ) (before : List X) (s : List X × ℕ) (u : List Lexeme) : Type 0 where
  pub front : List X
  pub form : s.0 ≡ before ++ front
  pub goes : (others : List X) (w : List Lexeme) → Are others w → Are (front ++ others) (u ++ w)
  pub deep : s.1 ≡ deepest (map depth s.0)
  pub small : s.1 ≤ d

-- After those before, the tokens u are the row of all others.
pub record Listed {X : Type 0} (depth : X → ℕ) (Are : List X → List Lexeme → Type 0) (d : ℕ) (before : List X) (s : List X × ℕ) (u : List Lexeme) : Type 0 where
  pub all : List X
  pub form : s.0 ≡ before ++ all
  pub are : Are all u
  pub deep : s.1 ≡ deepest (map depth s.0)
  pub small : s.1 ≤ d

-- the same with the closing sign
pub record Closed {X : Type 0} (depth : X → ℕ) (Are : List X → List Lexeme → Type 0) (d : ℕ) (before : List X) (close : Tok) (s : List X × ℕ) (u : List Lexeme) : Type 0 where
  pub taken : List Lexeme
  pub to : Spot
  pub listed : Listed depth Are d before s taken
  pub split : u ≡ taken ++ tok close to ∷ []

module _ {X : Type 0} (depth : X → ℕ) (Is : X → List Lexeme → Type 0) (Are : List X → List Lexeme → Type 0) (rules : WithCommas Is Are) (d : ℕ) (before : List X) where
  pub row_begun : (n : ℕ) → n ≡ deepest (map depth before) → n ≤ d → Partly depth Are d before (before, n) []
  row_begun n e h = record { front = []; form = sym (append-nil before); goes = λ others w i. i; deep = e; small = h }

  pub row_more : (s : List X × ℕ) (u : List Lexeme) → Partly depth Are d before s u → (x : X) (n : ℕ) (v : List Lexeme) → Is x v → n ≡ depth x → n ≤ d → (at : Spot) →
      Partly depth Are d before (s.0 ++ x ∷ [], max s.1 n) (u ++ (v ++ tok comma at ∷ []))
  row_more s u i x n v is e h at = record {
    front = i.front ++ x ∷ [];
    form = ap (λ xs. xs ++ x ∷ []) i.form ∙ append_assoc before i.front (x ∷ []);
    goes = λ others w j. rw (append_assoc i.front (x ∷ []) others, append_assoc u (v ++ tok comma at ∷ []) w, append_assoc v (tok comma at ∷ []) w) (i.goes (x ∷ others) (v ++ tok comma at ∷ w) (rules.more at x others v w is j));
    deep = omega (arith, deepest-more depth s.0 x, i.deep, e);
    small = omega (arith, i.small, h);
  }

  pub row_ends : (s : List X × ℕ) (u : List Lexeme) → Partly depth Are d before s u → Listed depth Are d before s u
  row_ends s u i = record {
    all = i.front;
    form = i.form;
    are = subst (λ xs. Are xs u) (append-nil i.front) (subst (λ m. Are (i.front ++ []) m) (append-nil u) (i.goes [] [] rules.none));
    deep = i.deep;
    small = i.small;
  }

  pub row_ends_after : (s : List X × ℕ) (u : List Lexeme) → Partly depth Are d before s u → (x : X) (n : ℕ) (v : List Lexeme) → Is x v → n ≡ depth x → n ≤ d →
      Listed depth Are d before (s.0 ++ x ∷ [], max s.1 n) (u ++ v)
  row_ends_after s u i x n v is e h = record {
    all = i.front ++ x ∷ [];
    form = ap (λ xs. xs ++ x ∷ []) i.form ∙ append_assoc before i.front (x ∷ []);
    are = i.goes (x ∷ []) v (rules.last x v is);
    deep = omega (arith, deepest-more depth s.0 x, i.deep, e);
    small = omega (arith, i.small, h);
  }

  pub row_closed : (close : Tok) (s : List X × ℕ) (u : List Lexeme) → Partly depth Are d before s u → (to : Spot) → Closed depth Are d before close s (u ++ tok close to ∷ [])
  row_closed close s u i to = record { taken = u; to = to; listed = row_ends s u i; split = refl }

  pub row_closed_after : (close : Tok) (s : List X × ℕ) (u : List Lexeme) → Partly depth Are d before s u → (x : X) (n : ℕ) (v : List Lexeme) → Is x v → n ≡ depth x → n ≤ d → (to : Spot) →
      Closed depth Are d before close (s.0 ++ x ∷ [], max s.1 n) (u ++ (v ++ tok close to ∷ []))
  row_closed_after close s u i x n v is e h to = record { taken = u ++ v; to = to; listed = row_ends_after s u i x n v is e h; split = sym (append_assoc u v (tok close to ∷ [])) }

-- ---- sequences: what follows the elements xs, of the tokens u, makes one sequence with them

abbrev pub Goes : {X : Type 0} → (List X → List Lexeme → Type 0) → List X → List Lexeme → Type 0
Goes {X} Are xs u = (others : List X) (w : List Lexeme) → Are others w → Are (xs ++ others) (u ++ w)

pub goes_then : {X : Type 0} (Are : List X → List Lexeme → Type 0) (xs ys : List X) (u v : List Lexeme) → Goes Are xs u → Goes Are ys v → Goes Are (xs ++ ys) (u ++ v)
goes_then Are xs ys u v first second others w i = rw (append_assoc xs ys others, append_assoc u v w) (first (ys ++ others) (v ++ w) (second others w i))

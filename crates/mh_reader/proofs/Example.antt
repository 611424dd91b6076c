-- A small grammar, to show each rule at its use: rows of names and brackets, `a + (b + c)`, grouped to the left.
-- A grammar's author writes the relation and the readers (in specs/), and then the four laws below them, one after
-- another. What it takes for each rule of the grammar is one case of each law.
use Rattle.std.proofs.Common.{◌≡◌, ℕ, zero, suc, ◌≤◌, max, nat_eq, Bool, true, false, if◌then◌else◌, List, [], ◌∷◌, ◌++◌, append_assoc, length-append, Option, Some, None, Ok, Err, refl, sym, ap, ◌∙◌, arith, subst}
use Rattle.std.proofs.lemmas.Bool.{eqb-true}
use Rattle.mh_reader.specs.Lexeme.{Lexeme, is_of}
use Rattle.mh_reader.specs.Reader.{Reader, ◌>>=◌, ◌>>◌, pure, refuse, sees, eat, expect, want, many, whole}
use Rattle.mh_reader.specs.Locality.{Local, PassesNoEnd, GivesNoEnd}
use Rattle.mh_reader.specs.Refusals.{HasEnd, BeginsNone}
use Rattle.mh_reader.proofs.Turns.{many_done, many_again}
use Rattle.mh_reader.proofs.Steps.{chain_at, eat_yes, eat_no, expect_yes, want_yes}
use Rattle.mh_reader.proofs.Local.{locally, local_many}
use Rattle.mh_reader.proofs.Advances.{Advances, advancing}
use Rattle.mh_reader.proofs.Yields.{Yields, Turned, yields_pure, yields_refuse, yields_bind, yields_expect_made, yields_eat_made, yields_want, yields_many_after, yields_made, yields_stop}
use Rattle.mh_reader.proofs.Refuse.{begins_none, whole_at}

-- ---- the signs: a kind is a number

abbrev Tok : Type 0
Tok = Lexeme ℕ

unfoldable is : ℕ → Tok → Bool
is k t = is_of nat_eq k t

abbrev end_kind : ℕ
end_kind = 0

abbrev name_kind : ℕ
name_kind = 1

abbrev opening : ℕ
opening = 2

abbrev closing : ℕ
closing = 3

abbrev plus : ℕ
plus = 4

-- what of a token its kind doesn't settle
abbrev Rest : Type 0
Rest = List ℕ × ℕ

abbrev tok : ℕ → Rest → Tok
tok k e = record { kind = k; text = e.0; line = e.1 }

-- ---- the trees, and the relation: one case a production

data Tree : Type 0 where
  name : List ℕ → Tree
  group : Tree → Tree
  add : Tree → Tree → Tree

abbrev depth : Tree → ℕ
depth (name x) = 1
depth (group a) = suc (depth a)
depth (add a b) = max (depth a) (depth b)

mutual
  data IsRow : Tree → List Tok → Type 0 where
    one : {t : Tree} {u : List Tok} → IsPrimary t u → IsRow t u
    more : {t : Tree} {u : List Tok} (a b : Tree) (e : Rest) (v w : List Tok) → IsRow a v → IsPrimary b w → t ≡ add a b → u ≡ v ++ tok plus e ∷ w → IsRow t u

  data IsPrimary : Tree → List Tok → Type 0 where
    named : {t : Tree} {u : List Tok} (e : Rest) → t ≡ name e.0 → u ≡ tok name_kind e ∷ [] → IsPrimary t u
    grouped : {t : Tree} {u : List Tok} (a : Tree) (e f : Rest) (v : List Tok) → IsRow a v → t ≡ group a → u ≡ tok opening e ∷ (v ++ tok closing f ∷ []) → IsPrimary t u

-- ---- the readers; `sub` reads one level down

abbrev leaf_by : Bool → Tok → Option Tree
leaf_by true t = Some (name t.text)
leaf_by false t = None

unfoldable leaf_of : Tok → Option Tree
leaf_of t = leaf_by (is name_kind t) t

module _ (sub : Reader Tok Tree) where
  unfoldable bracket : Reader Tok Tree
  bracket = do
    a ← sub
    expect (is closing)
    pure (group a)

  unfoldable primary : Reader Tok Tree
  primary = do
    is_group ← eat (is opening)
    if is_group then bracket else want leaf_of

  unfoldable turn : Tree → Reader Tok (Tree × Bool)
  turn left = do
    goes_on ← eat (is plus)
    if goes_on then (do b ← primary; pure (add left b, true)) else pure (left, false)

  unfoldable row : Reader Tok Tree
  row = primary >>= many turn

unfoldable expr : ℕ → Reader Tok Tree
expr zero = refuse
expr (suc d) = row (expr d)

-- ---- 1. locality: that no end passes the tests, and then one search a rule

is_kind : (k : ℕ) (t : Tok) → is k t ≡ true → t ≡ tok k (t.text, t.line)
unfolding is
is_kind k t e = ap (λ k. tok k (t.text, t.line)) (eqb-true t.kind k e)

is_true : (k : ℕ) (t : Tok) → is k t ≡ true → (e : Rest) × (t ≡ tok k e)
is_true k t e = ((t.text, t.line), is_kind k t e)

is_same : (k : ℕ) (e : Rest) → is k (tok k e) ≡ nat_eq k k
unfolding is
is_same k e = refl

is_not : (k m : ℕ) (e : Rest) → nat_eq m k ≡ false → is k (tok m e) ≡ false
unfolding is
is_not k m e h = h

no_end : (k : ℕ) → nat_eq end_kind k ≡ false → PassesNoEnd (is end_kind) (is k)
unfolding is
no_end k h = record { not_passed = λ t e. let m = is_true end_kind t e in subst (λ t. is k t ≡ false) (sym m.1) (other m.0) }
  where
    other : (e : Rest) → is k (tok end_kind e) ≡ false
    other e = h

no_end_opening : PassesNoEnd (is end_kind) (is opening)
no_end_opening = no_end opening refl

no_end_closing : PassesNoEnd (is end_kind) (is closing)
no_end_closing = no_end closing refl

no_end_plus : PassesNoEnd (is end_kind) (is plus)
no_end_plus = no_end plus refl

no_end_leaf : GivesNoEnd (is end_kind) leaf_of
unfolding leaf_of
no_end_leaf = record { nothing_given = λ t e. ap (λ b. leaf_by b t) ((no_end name_kind refl).not_passed t e) }

ruleset no_ends = (no_end_opening, no_end_closing, no_end_plus, no_end_leaf)

module _ (sub : Reader Tok Tree) (below : Local (is end_kind) sub) where
  local_bracket : Local (is end_kind) (bracket sub)
  unfolding bracket
  local_bracket ts = search (locally, no_ends) depth 12

  local_primary : Local (is end_kind) (primary sub)
  unfolding primary
  local_primary ts = search (locally, no_ends, local_bracket) depth 12

  local_turn : (left : Tree) → Local (is end_kind) (turn sub left)
  unfolding turn
  local_turn left ts = search (locally, no_ends, local_primary) depth 12

  local_row : Local (is end_kind) (row sub)
  unfolding row
  local_row ts = search (locally, local_primary, local_many, local_turn) depth 12

  advances_turn : (left : Tree) → Advances (is end_kind) (turn sub left)
  unfolding turn
  advances_turn left = search (advancing, locally, local_primary) depth 12

local_expr : (d : ℕ) → Local (is end_kind) (expr d)
unfolding expr
local_expr zero ts = search locally
local_expr (suc d) ts = local_row (expr d) (local_expr d) ts

-- ---- 2. soundness: each rule of the grammar is its constructor

abbrev Row : ℕ → Tree → List Tok → Type 0
Row d x u = IsRow x u × (depth x ≤ d)

abbrev Primary : ℕ → Tree → List Tok → Type 0
Primary d x u = IsPrimary x u × (depth x ≤ d)

module _ (sub : Reader Tok Tree) (d : ℕ) (below : Yields sub (Row d)) where
  bracket_yields : (e : Rest) → Yields (bracket sub) (λ x v. Primary (suc d) x (tok opening e ∷ v))
  unfolding bracket
  bracket_yields e = yields_bind _ _ _ _ below (λ a v f. yields_expect_made (is closing) (tok closing) (is_true closing) _ _ (λ g.
      yields_pure _ _ (grouped a e g v f.0 refl refl, omega (arith, f.1))))

  leaf_yields : (b : Bool) (t : Tok) (x : Tree) → is name_kind t ≡ b → leaf_by b t ≡ Some x → Primary (suc d) x (t ∷ [])
  leaf_yields true t x h e =
      let q : name t.text ≡ x = cc in
      subst (λ x. Primary (suc d) x (t ∷ [])) q (named (t.text, t.line) refl (ap (λ t. t ∷ []) (is_kind name_kind t h)), omega arith)
  leaf_yields false t x h e = absurd (cc)

  primary_yields : Yields (primary sub) (Primary (suc d))
  unfolding primary leaf_of
  primary_yields = yields_eat_made (is opening) (tok opening) (is_true opening) _ _ _ bracket_yields
      (yields_want _ _ (λ t x e. leaf_yields (is name_kind t) t x refl e))

  turn_yields : (left : Tree) (u : List Tok) → Row (suc d) left u → Yields (turn sub left) (λ y v. Turned (Row (suc d)) (Row (suc d)) y (u ++ v))
  unfolding turn
  turn_yields left u i = yields_eat_made (is plus) (tok plus) (is_true plus) _ _ _
      (λ e. yields_made _ _ _ _ primary_yields (λ b w g. (more left b e u w i.0 g.0 refl refl, omega (arith, i.1, g.1))))
      (yields_stop (left, false) (Turned (Row (suc d)) (Row (suc d))) u i)

  row_yields : Yields (row sub) (Row (suc d))
  unfolding row
  row_yields = yields_bind _ _ _ _ primary_yields (λ a u f.
      yields_many_after (turn sub) (Row (suc d)) (Row (suc d)) turn_yields a u (one f.0, f.1))

expr_yields : (d : ℕ) → Yields (expr d) (Row d)
unfolding expr
expr_yields zero = yields_refuse _
expr_yields (suc d) = row_yields (expr d) d (expr_yields d)

-- ---- 3. completeness: by the derivation; what was read of a row leads to the loop with its tree in hand

abbrev Leads : Tree → List Tok → Type 0
Leads t u = (d : ℕ) → depth t ≤ suc d → (r : List Tok) → row (expr d) (u ++ r) ≡ many (turn (expr d)) t r

abbrev Reads_primary : Tree → List Tok → Type 0
Reads_primary t u = (d : ℕ) → depth t ≤ suc d → (r : List Tok) → primary (expr d) (u ++ r) ≡ Ok (t, r)

settle : (sub : Reader Tok Tree) (t : Tree) (r : List Tok) → sees (is plus) r ≡ false → many (turn sub) t r ≡ Ok (t, r)
unfolding turn
settle sub t r e = many_done (turn sub) t r t r (chain_at (eat (is plus)) _ r r false (eat_no (is plus) r e))

some : (t : Tree) → 1 ≤ depth t
some (name x) = omega arith
some (group a) = omega arith
some (add a b) = omega (arith, some a)

inside : (t : Tree) (u : List Tok) → Leads t u → (d : ℕ) → depth t ≤ d → (r : List Tok) → sees (is plus) r ≡ false → expr d (u ++ r) ≡ Ok (t, r)
unfolding expr
inside t u h zero l r e = absurd (omega (arith, some t))
inside t u h (suc d) l r e = h d l r ∙ settle (expr d) t r e

reads_more : (a b : Tree) (e : Rest) (v w : List Tok) → Leads a v → Reads_primary b w → Leads (add a b) (v ++ tok plus e ∷ w)
unfolding turn
reads_more a b e v w ha hb d l r =
    let next : turn (expr d) a (tok plus e ∷ (w ++ r)) ≡ Ok ((add a b, true), r) =
    chain_at (eat (is plus)) _ (tok plus e ∷ (w ++ r)) (w ++ r) true (eat_yes (is plus) (tok plus e) (w ++ r) (is_same plus e))
    ∙ chain_at (primary (expr d)) _ (w ++ r) r b (hb d (omega (arith, l)) r)
    in
    ap (row (expr d)) (append_assoc v (tok plus e ∷ w) r)
    ∙ ha d (omega (arith, l)) (tok plus e ∷ (w ++ r))
    ∙ many_again (turn (expr d)) a (tok plus e ∷ (w ++ r)) (add a b) r next (omega (arith, length-append w r))

reads_name : (e : Rest) → Reads_primary (name e.0) (tok name_kind e ∷ [])
unfolding primary leaf_of is
reads_name e d l r =
    chain_at (eat (is opening)) _ (tok name_kind e ∷ r) (tok name_kind e ∷ r) false (eat_no (is opening) (tok name_kind e ∷ r) refl)
    ∙ want_yes leaf_of (tok name_kind e) r (name e.0) refl

reads_group : (a : Tree) (e f : Rest) (v : List Tok) → Leads a v → Reads_primary (group a) (tok opening e ∷ (v ++ tok closing f ∷ []))
unfolding primary bracket
reads_group a e f v ha d l r =
    let rest : List Tok = (v ++ tok closing f ∷ []) ++ r in
    chain_at (eat (is opening)) _ (tok opening e ∷ rest) rest true (eat_yes (is opening) (tok opening e) rest (is_same opening e))
    ∙ ap (bracket (expr d)) (append_assoc v (tok closing f ∷ []) r)
    ∙ chain_at (expr d) _ (v ++ tok closing f ∷ r) (tok closing f ∷ r) a (inside a v ha d (omega (arith, l)) (tok closing f ∷ r) (is_other f))
    ∙ chain_at (expect (is closing)) _ (tok closing f ∷ r) r tt (expect_yes (is closing) (tok closing f) r (is_same closing f))
  where
    is_other : (f : Rest) → is plus (tok closing f) ≡ false
    is_other f = is_not plus closing f refl

row_begun : (t : Tree) (u : List Tok) → Reads_primary t u → Leads t u
unfolding row
row_begun t u h d l r = chain_at (primary (expr d)) (many (turn (expr d))) (u ++ r) r t (h d l r)

moved : (P : Tree → List Tok → Type 0) {t t' : Tree} {u u' : List Tok} → t ≡ t' → u ≡ u' → P t' u' → P t u
moved P {t} {t'} {u} {u'} e f h = subst (λ t. P t u) (sym e) (subst (λ u. P t' u) (sym f) h)

mutual
  complete_row : {t : Tree} {u : List Tok} → IsRow t u → Leads t u
  complete_row (one p) = row_begun _ _ (complete_primary p)
  complete_row (more a b e v w i p j k) = moved Leads j k (reads_more a b e v w (complete_row i) (complete_primary p))

  complete_primary : {t : Tree} {u : List Tok} → IsPrimary t u → Reads_primary t u
  complete_primary (named e j k) = moved Reads_primary j k (reads_name e)
  complete_primary (grouped a e f v i j k) = moved Reads_primary j k (reads_group a e f v (complete_row i))

-- ---- 4. refusal: with no grammar in it

IsText : ℕ → Tree → List Tok → Type 0
IsText d t s = (u : List Tok) × (e : Rest) × (s ≡ u ++ tok end_kind e ∷ []) × IsRow t u × (depth t ≤ d)

complete : (d : ℕ) (t : Tree) (s : List Tok) → IsText d t s → (a : Tree) × (m : List Tok) × (whole (is end_kind) (expr d) s ≡ Ok (a, m))
unfolding IsText
complete d t s i = (
  t,
  [],
  ap (whole (is end_kind) (expr d)) i.2 ∙
      whole_at (is end_kind) (expr d) i.0 (tok end_kind i.1) t (is_same end_kind i.1) (inside t i.0 (complete_row i.3) d i.4 (tok end_kind i.1 ∷ []) (is_not plus end_kind i.1 refl)),
)

refused : (d : ℕ) (ts r : List Tok) → HasEnd (is end_kind) ts → whole (is end_kind) (expr d) ts ≡ Err r → BeginsNone (IsText d) ts r
refused d ts r h e = begins_none (is end_kind) (expr d) (local_expr d) ts h (IsText d) (complete d) r e

-- What holds of the tokens from a place on, token by token from the last.
use Rattle.std.proofs.Common.{◌≡◌, ℕ, zero, suc, ◌+◌, ◌<◌, ◌≤◌, List, [], ◌∷◌, ◌++◌, length, replicate, refl, ap, subst, true, false, Bool, cond, eqb, arith}
use Rattle.std.specs.List.{AllByRecursion}
use Rattle.mh_pytok.specs.Layout.{token, newline}
use Rattle.mh_pytok.specs.Readable.{IsNoEnd, EndsOnce, LiesInside, AreInOrder, IsBalanced, depth_behind, HasName, HasNumber, HasString}
use Rattle.mh_pytok.specs.declared.token.Tok.{Tok}
use Rattle.mh_pytok.specs.declared.token.Tok.TheVariants.{Name, Number, Str, Newline, Dedent, End}
use Rattle.mh_pytok.specs.declared.token.Token.{Token}
use Rattle.mh_pytok.specs.declared.shape.Line.{Line}
use Rattle.mh_pytok.specs.declared.shape.Line.TheVariants.{Fresh, Bare, Full}

-- the tokens from a place on, with so many blocks open
pub record Suffix (src : List ℕ) (from depth : ℕ) (ts : List Token) : Type 0 where
  pub ends : EndsOnce ts
  pub inside : AllByRecursion (LiesInside src) ts
  pub ordered : AreInOrder from ts
  pub balanced : IsBalanced depth ts
  pub names : AllByRecursion (HasName src) ts
  pub numbers : AllByRecursion (HasNumber src) ts
  pub strings : AllByRecursion (HasString src) ts

-- what holds of each token
pub record IsWell (src : List ℕ) (t : Token) : Type 0 where
  pub inside : LiesInside src t
  pub name : HasName src t
  pub number : HasNumber src t
  pub quoted : HasString src t

-- one token more, in front
pub before : (src : List ℕ) (from depth : ℕ) (t : Token) (ts : List Token) → IsWell src t → IsNoEnd t → from ≤ t.span.start →
    (t.kind ≡ Dedent → 0 < depth) → Suffix src t.span.end (depth_behind t.kind depth) ts → Suffix src from depth (t ∷ ts)
before src from depth t ts well other order down rest = record {
  ends = record { front = t ∷ rest.ends.front; last = rest.ends.last; is = ap (λ (xs : List Token). t ∷ xs) rest.ends.is; ended = rest.ends.ended; others = (other, rest.ends.others) };
  inside = (well.inside, rest.inside);
  ordered = (order, well.inside.start, rest.ordered);
  balanced = (down, rest.balanced);
  names = (well.name, rest.names);
  numbers = (well.number, rest.numbers);
  strings = (well.quoted, rest.strings);
}

-- a token of the layout
pub mark_well : (src : List ℕ) (kind : Tok) (start end line : ℕ) → (kind ≡ Name → ⊥) → (kind ≡ Number → ⊥) → (kind ≡ Str → ⊥) →
    start ≤ end → end ≤ length src → line ≤ 1 + length src → IsWell src (token kind start end line)
mark_well src kind start end line a b c order within lines = record {
  inside = record { start = order; end = within; line = lines };
  name = λ e. absurd (a e);
  number = λ e. absurd (b e);
  quoted = λ e. absurd (c e);
}

-- the last token
pub last : (src : List ℕ) (at line : ℕ) → at ≤ length src → line ≤ 1 + length src → Suffix src at 0 (token End at at line ∷ [])
last src at line within lines =
    let well : IsWell src (token End at at line) = mark_well src End at at line (λ e. cc) (λ e. cc) (λ e. cc) (omega arith) within lines in
    record {
      ends = record { front = []; last = token End at at line; is = refl; ended = refl; others = tt };
      inside = (well.inside, tt);
      ordered = (omega arith, omega arith, tt);
      balanced = ((λ e. absurd (let f : End ≡ Dedent = e in cc)), refl);
      names = (well.name, tt);
      numbers = (well.number, tt);
      strings = (well.quoted, tt);
    }

-- a place further left
lower : (from low : ℕ) (ts : List Token) → low ≤ from → AreInOrder from ts → AreInOrder low ts
lower from low [] h order = tt
lower from low (t ∷ ts) h (first, own, rest) = (omega arith, own, rest)

pub raise : (src : List ℕ) (from low depth : ℕ) (ts : List Token) → low ≤ from → Suffix src from depth ts → Suffix src low depth ts
raise src from low depth ts h s = record { ends = s.ends; inside = s.inside; ordered = lower from low ts h s.ordered; balanced = s.balanced; names = s.names; numbers = s.numbers; strings = s.strings }

-- some blocks that end at one place
pub dedents : (src : List ℕ) (at line depth n : ℕ) (ts : List Token) → at ≤ length src → line ≤ 1 + length src → Suffix src at depth ts →
    Suffix src at (n + depth) (replicate n (token Dedent at at line) ++ ts)
dedents src at line depth zero ts within lines rest = subst (λ d. Suffix src at d ts) (omega arith) rest
dedents src at line depth (suc n) ts within lines rest =
    let inner : Suffix src at (n + depth) (replicate n (token Dedent at at line) ++ ts) = dedents src at line depth n ts within lines rest in
    let well : IsWell src (token Dedent at at line) = mark_well src Dedent at at line (λ e. cc) (λ e. cc) (λ e. cc) (omega arith) within lines in
    before src at (suc n + depth) (token Dedent at at line) (replicate n (token Dedent at at line) ++ ts) well (λ e. cc) (omega arith) (λ e. omega arith)
    (subst (λ d. Suffix src at d (replicate n (token Dedent at at line) ++ ts)) (omega arith) inner)

-- the end of a line
pub line_ends : (src : List ℕ) (line : Line) (brackets start end number depth : ℕ) (ts : List Token) → start ≤ end → end ≤ length src → number ≤ 1 + length src →
    Suffix src end depth ts → Suffix src start depth (newline line brackets (token Newline start end number) ++ ts)
line_ends src Fresh brackets start end number depth ts order within lines rest = raise src end start depth ts order rest
line_ends src Bare brackets start end number depth ts order within lines rest = raise src end start depth ts order rest
line_ends src Full brackets start end number depth ts order within lines rest = at (eqb brackets 0)
  where
    at : (b : Bool) → Suffix src start depth (cond b (token Newline start end number ∷ []) [] ++ ts)
    at true = before src start depth (token Newline start end number) ts
        (mark_well src Newline start end number (λ e. cc) (λ e. cc) (λ e. cc) order within lines) (λ e. cc) (omega arith) (λ e. absurd (let f : Newline ≡ Dedent = e in cc)) rest
    at false = raise src end start depth ts order rest

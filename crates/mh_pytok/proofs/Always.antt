-- Each source has a token list or a refusal.
use Rattle.std.proofs.Common.{◌≡◌, ℕ, zero, suc, ◌-◌, ◌<◌, ◌⊎◌, inl, inr, List, ◌++◌, length, refl, sym, subst, arith}
use Rattle.mh_text.specs.declared.code.Code.{Code}
use Rattle.mh_pytok.specs.Layout.{Place, Next, Goes, Ends, Stops, next}
use Rattle.mh_pytok.specs.Tokens.{Reads, ends, goes, Refuses, here, later, start}
use Rattle.mh_pytok.specs.State.{Inside, left_of}
use Rattle.mh_pytok.specs.Readable.{Readable}
use Rattle.mh_pytok.specs.declared.token.Token.{Token}
use Rattle.mh_pytok.proofs.NextLaws.{Good, GoesWell, next-well}
use Rattle.mh_pytok.proofs.Suffixes.{Suffix}

-- from a place on
abbrev Has : List ℕ → Place → Type 0
Has src p = ((ts : List Token) × Reads src p ts) ⊎ ((code : Code) × (line : ℕ) × Refuses src p code line)

by_step : (src : List ℕ) (p : Place) (n : Next) → next src p ≡ n → Good src p n →
    ((q : Place) → Inside src q → left_of q.line (length src - q.at) < left_of p.line (length src - p.at) → Has src q) → Has src p
by_step src p (Goes front q) is good rest = elim (rest q good.inside good.less) [
  | inl (back, r) ↦ inl (front ++ back, goes front q back is r refl)
  | inr (code, line, r) ↦ inr (code, line, later front q is r)
]
by_step src p (Ends ts) is good rest = inl (ts, ends is)
by_step src p (Stops code line) is good rest = inr (code, line, here is)

within : (fuel : ℕ) (src : List ℕ) (p : Place) → Inside src p → left_of p.line (length src - p.at) < fuel → Has src p
within zero src p inside h = absurd (omega arith)
within (suc fuel) src p inside h = by_step src p (next src p) refl (next-well src p inside) (λ q i less. within fuel src q i (omega arith))

start_inside : (src : List ℕ) → Inside src start
unfolding start
start_inside src = record { at = omega arith; brackets = omega arith; indents = omega arith }

pub always : (src : List ℕ) → Has src start
always src = within (suc (left_of start.line (length src - start.at))) src start (start_inside src) (omega arith)

-- what is read from a place on holds together
reads_suffix : (src : List ℕ) (p : Place) (ts : List Token) → Inside src p → Reads src p ts → Suffix src p.at (length p.indents) ts
reads_suffix src p ts inside (ends is) = subst (λ (n : Next). Good src p n) is (next-well src p inside)
reads_suffix src p ts inside (goes front q back is rest same) =
    let well : GoesWell src p q front = subst (λ (n : Next). Good src p n) is (next-well src p inside) in
    subst (λ (us : List Token). Suffix src p.at (length p.indents) us) (sym same) (well.wraps back (reads_suffix src q back well.inside rest))

pub readable : (src : List ℕ) (ts : List Token) → Reads src start ts → Readable src ts
unfolding start
readable src ts r =
    let s : Suffix src 0 0 ts = reads_suffix src start ts (start_inside src) r in
    record { ends = s.ends; inside = s.inside; ordered = s.ordered; balanced = s.balanced; names = s.names; numbers = s.numbers; strings = s.strings }

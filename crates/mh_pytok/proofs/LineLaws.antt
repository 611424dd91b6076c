-- Lines, byte by byte.
use Rattle.std.proofs.Common.{◌≡◌, ℕ, ◌+◌, ◌<◌, List, length, get_or, refl, ◌∙◌, ap, Some, Option, arith, cond, eqb, slice_get, is_some, unwrap_or, Bool, true, false}
use Rattle.std.proofs.lemmas.List.Sums.{count_by_more_yes, count_by_more_no}
use Rattle.std.proofs.lemmas.Option.{slice_get-get_or}
use Rattle.mh_pytok.specs.State.{IsLine}

-- one byte more
line_more : (src : List ℕ) (at line : ℕ) (b : Bool) → at < length src → eqb (get_or src at 0) 10 ≡ b → IsLine src at line → IsLine src (at + 1) (cond b (line + 1) line)
line_more src at line true h is old = record {
  is = omega (arith, count_by_more_yes (λ y. eqb y 10) src at 0 h is, old.is);
  at_most = omega (arith, old.at_most);
}
line_more src at line false h is old = record {
  is = omega (arith, count_by_more_no (λ y. eqb y 10) src at 0 h is, old.is);
  at_most = omega (arith, old.at_most);
}

-- the same, as a cursor goes
pub place_next : (src : List ℕ) (at at' : ℕ) (o : Option ℕ) → at < length src → o ≡ slice_get src at → at' ≡ cond (is_some o) (at + 1) at → at' ≡ at + 1
place_next src at at' o h is place = place ∙ ap (λ p. cond (is_some p) (at + 1) at) (is ∙ slice_get-get_or src at 0 h)

pub line_next : (src : List ℕ) (at line line' : ℕ) (o : Option ℕ) → at < length src → o ≡ slice_get src at →
    line' ≡ cond (eqb (unwrap_or o 0) 10) (line + 1) line → IsLine src at line → IsLine src (at + 1) line'
line_next src at line line' o h is next old =
    let byte : o ≡ Some (get_or src at 0) = is ∙ slice_get-get_or src at 0 h in
    let e : line' ≡ cond (eqb (get_or src at 0) 10) (line + 1) line = next ∙ ap (λ p. cond (eqb (unwrap_or p 0) 10) (line + 1) line) byte in
    rw e (line_more src at line (eqb (get_or src at 0) 10) h refl old)

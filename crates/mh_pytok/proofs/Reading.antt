-- What the loop over the steps keeps.
use Rattle.std.proofs.Common.{◌≡◌, ℕ, ◌+◌, ◌-◌, ◌<◌, List, [], ◌++◌, length, refl, sym, ◌∙◌, ap, subst, true, false, Bool, Ok, Err, arith, append_assoc}
use Rattle.mh_text.specs.declared.code.Code.{Code}
use Rattle.mh_text.specs.declared.refusal.Refusal.{Refusal}
use Rattle.mh_text.specs.declared.refusal.Refusal.TheVariants as refusal
use Rattle.mh_pytok.specs.Layout.{Place, Next, next}
use Rattle.mh_pytok.specs.Tokens.{Reads, ends, goes, Refuses, here, later, start, HasTokens, IsRefused, Answers}
use Rattle.mh_pytok.specs.State.{place_of, IsLine, IsState, Gives, left_of}
use Rattle.mh_pytok.specs.declared.state.State.{State}
use Rattle.mh_pytok.specs.declared.shape.Line.TheVariants.{Fresh}
use Rattle.mh_pytok.specs.declared.token.Token.{Token}
use Rattle.mh_pytok.proofs.NextLaws.{Good, GoesWell, next-well}

-- while the reading goes on, what is given from the state on completes what is given already
pub record Reading (src : List ℕ) (s : State) (out : List Token) : Type 0 where
  pub state : IsState src s
  pub reads : (back : List Token) → Reads src (place_of s) back → HasTokens src (out ++ back)
  pub refuses : (code : Code) (line : ℕ) → Refuses src (place_of s) code line → IsRefused src code line

-- and when it has ended, all is given
abbrev pub Keeps : Bool → List ℕ → State → List Token → Type 0
Keeps true src s out = Reading src s out
Keeps false src s out = HasTokens src out

-- how many steps are left at most
abbrev pub measure : Bool → ℕ → ℕ
measure true n = n + 1
measure false n = 0

first : List ℕ → State
first columns = record { at = 0; number = 1; indents = columns; brackets = 0; line = Fresh }

-- before the first step
pub begin_reading : (src columns : List ℕ) (out : List Token) → columns ≡ [] → out ≡ [] →
    Reading src (record { at = 0; number = 1; indents = columns; brackets = 0; line = Fresh }) out
unfolding start
begin_reading src columns out none nothing =
    let P : List ℕ → Type 0 = λ cs. (os : List Token) → os ≡ [] → Reading src (record { at = 0; number = 1; indents = cs; brackets = 0; line = Fresh }) os in
    let base : P [] = λ os n. record {
      state = record { place = record { at = omega arith; brackets = omega arith; indents = omega arith }; line = record { is = refl; at_most = omega arith } };
      reads = λ back r. subst (λ (xs : List Token). Reads src start (xs ++ back)) (sym n) r;
      refuses = λ code line r. r;
    } in
    subst P (sym none) base out nothing

-- one step
pub keep_reading : (src : List ℕ) (s t : State) (out out' : List Token) (more : Bool) → Reading src s out →
    Gives (next src (place_of s)) out (Ok more) out' (place_of t) → IsLine src t.at t.number → Keeps more src t out'
keep_reading src s t out out' true r (front, is, added) line =
    let well : GoesWell src (place_of s) (place_of t) front = subst (λ (n : Next). Good src (place_of s) n) is (next-well src (place_of s) r.state.place) in
    record {
      state = record { place = well.inside; line = line };
      reads = λ back rest. subst (λ (ts : List Token). HasTokens src ts) (sym (append_assoc out front back) ∙ ap (λ (xs : List Token). xs ++ back) (sym added))
          (r.reads (front ++ back) (goes front (place_of t) back is rest refl));
      refuses = λ code number rest. r.refuses code number (later front (place_of t) is rest);
    }
keep_reading src s t out out' false r (front, is, added) line =
    subst (λ (ts : List Token). HasTokens src ts) (sym added) (r.reads front (ends is))

-- takes something
pub step_less : (src : List ℕ) (s t : State) (out out' : List Token) (was more : Bool) → was ≡ true → Reading src s out →
    Gives (next src (place_of s)) out (Ok more) out' (place_of t) →
    measure more (left_of t.line (length src - t.at)) < measure was (left_of s.line (length src - s.at))
step_less src s t out out' true true on r (front, is, added) =
    let well : GoesWell src (place_of s) (place_of t) front = subst (λ (n : Next). Good src (place_of s) n) is (next-well src (place_of s) r.state.place) in
    omega (arith, well.less)
step_less src s t out out' true false on r (front, is, added) = omega arith
step_less src s t out out' false more on r given = absurd cc

-- or refuses the source
pub refused_by : (src : List ℕ) (s : State) (out out' : List Token) (place : Place) (e : Refusal) → Reading src s out →
    Gives (next src (place_of s)) out (Err e) out' place → Answers src (Err e)
refused_by src s out out' place (refusal.At code line names) r (is, none) = (r.refuses code line (here is), none)
refused_by src s out out' place refusal.Memory r h = tt

-- A source has one token list or one refusal.
use Rattle.std.proofs.Common.{◌≡◌, ℕ, List, sym, subst}
use Rattle.mh_text.specs.declared.code.Code.{Code}
use Rattle.mh_pytok.specs.declared.token.Token.{Token}
use Rattle.mh_pytok.specs.Layout.{Place, Next, Goes, Ends, Stops, next}
use Rattle.mh_pytok.specs.Tokens.{Reads, ends, goes, Refuses, here, later}

-- what a step is, of two names for it
same_ends : (n : Next) (ts us : List Token) → n ≡ Ends ts → n ≡ Ends us → ts ≡ us
same_ends n ts us h k = cc

same_goes : (n : Next) (ts us : List Token) (p q : Place) → n ≡ Goes ts p → n ≡ Goes us q → (ts ≡ us) × (p ≡ q)
same_goes n ts us p q h k = (cc, cc)

same_stops : (n : Next) (c d : Code) (k l : ℕ) → n ≡ Stops c k → n ≡ Stops d l → (c ≡ d) × (k ≡ l)
same_stops n c d k l h i = (cc, cc)

not_ends_goes : (n : Next) (ts us : List Token) (q : Place) → n ≡ Ends ts → n ≡ Goes us q → ⊥
not_ends_goes n ts us q h k = cc

not_stops_goes : (n : Next) (c : Code) (l : ℕ) (us : List Token) (q : Place) → n ≡ Stops c l → n ≡ Goes us q → ⊥
not_stops_goes n c l us q h k = cc

not_ends_stops : (n : Next) (ts : List Token) (c : Code) (l : ℕ) → n ≡ Ends ts → n ≡ Stops c l → ⊥
not_ends_stops n ts c l h k = cc

-- equal places give equal lists
pub reads_once : (src : List ℕ) (p : Place) (ts us : List Token) → Reads src p ts → Reads src p us → ts ≡ us
reads_once src p ts us (ends h) (ends k) = same_ends (next src p) ts us h k
reads_once src p ts us (ends h) (goes front q back k more is) = absurd (not_ends_goes (next src p) ts front q h k)
reads_once src p ts us (goes front q back h more is) (ends k) = absurd (not_ends_goes (next src p) us front q k h)
reads_once src p ts us (goes front q back h more is) (goes front' q' back' h' more' is') =
    let same : (front ≡ front') × (q ≡ q') = same_goes (next src p) front front' q q' h h' in
    let P : Place → Type 0 = λ r. Reads src r back' in
    let backs : back ≡ back' = reads_once src q back back' more (subst P (sym same.1) more') in
    let fronts : front ≡ front' = same.0 in cc

pub refused_once : (src : List ℕ) (p : Place) (c d : Code) (k l : ℕ) → Refuses src p c k → Refuses src p d l → (c ≡ d) × (k ≡ l)
refused_once src p c d k l (here h) (here i) = same_stops (next src p) c d k l h i
refused_once src p c d k l (here h) (later front q i more) = absurd (not_stops_goes (next src p) c k front q h i)
refused_once src p c d k l (later front q h more) (here i) = absurd (not_stops_goes (next src p) d l front q i h)
refused_once src p c d k l (later front q h more) (later front' q' h' more') =
    let same : (front ≡ front') × (q ≡ q') = same_goes (next src p) front front' q q' h h' in
    let P : Place → Type 0 = λ r. Refuses src r d l in
    refused_once src q c d k l more (subst P (sym same.1) more')

pub not_both : (src : List ℕ) (p : Place) (ts : List Token) (c : Code) (l : ℕ) → Reads src p ts → Refuses src p c l → ⊥
not_both src p ts c l (ends h) (here i) = not_ends_stops (next src p) ts c l h i
not_both src p ts c l (ends h) (later front q i more) = not_ends_goes (next src p) ts front q h i
not_both src p ts c l (goes front q back h more is) (here i) = not_stops_goes (next src p) c l front q i h
not_both src p ts c l (goes front q back h more is) (later front' q' h' more') =
    let same : (front ≡ front') × (q ≡ q') = same_goes (next src p) front front' q q' h h' in
    let P : Place → Type 0 = λ r. Refuses src r c l in
    not_both src q back c l more (subst P (sym same.1) more')

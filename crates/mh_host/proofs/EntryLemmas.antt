-- Facts on lists of entries.
use Rattle.std.proofs.Common.{ℕ, List, [], ◌∷◌, ◌++◌, ◌≡◌, ◌≢◌, ◌<◌, ◌≤◌, Bool, true, false, cond, length, take, drop, get_or, set, suc, refl, sym, ap, subst, ◌∙◌, arith, Some, None}
use Rattle.std.proofs.lemmas.Bool.{cond-true, cond-false, false_from_ne_true}
use Rattle.std.proofs.lemmas.Slice.Eq.{bytes_eq-Decides}
use Rattle.std.proofs.lemmas.List.{set_split}
use Rattle.std.proofs.Math.Seq.{drop-cons}
use Rattle.std.proofs.lemmas.Grind.{common_steps}
use Rattle.std.specs.Str.{bytes_eq}
use Rattle.mh_host.specs.declared.entries.Entry.{Entry}
use Rattle.mh_host.specs.Entries.{held_under, placed, Puts}

-- the entry takes the place of the first of its name
pub placed_here : (es : List Entry) (i : ℕ) (e d : Entry) → i < length es → bytes_eq (get_or es i d).name e.name ≡ true → take i es ++ placed (drop i es) e ≡ placed es e → set es i e ≡ placed es e
placed_here es i e d h same so =
    set_split es i e h
    ∙ ap (λ (x : List Entry). take i es ++ x) (sym (ap (λ (x : List Entry). placed x e) (drop-cons es i d h) ∙ cond-true (bytes_eq (get_or es i d).name e.name) (e ∷ drop (suc i) es) (get_or es i d ∷ placed (drop (suc i) es) e) same))
    ∙ so

-- where no entry has its name, it goes to the end
pub placed_last : (es : List Entry) (i : ℕ) (e : Entry) → length es ≤ i → take i es ++ placed (drop i es) e ≡ placed es e → es ++ e ∷ [] ≡ placed es e
placed_last es i e h so = grind (arith, common_steps)

-- a text equals itself
pub equal_itself : (text : List ℕ) → bytes_eq text text ≡ true
equal_itself text = (bytes_eq-Decides text text).1 refl

-- texts that differ
pub unequal : (a b : List ℕ) → b ≢ a → bytes_eq a b ≡ false
unequal a b ne = false_from_ne_true (bytes_eq a b) (λ same. ne (sym ((bytes_eq-Decides a b).0 same)))

-- under its own name stands what was placed
pub held_placed : (es : List Entry) (e : Entry) → held_under (placed es e) e.name ≡ Some e.bytes
held_placed [] e = cond-true (bytes_eq e.name e.name) (Some e.bytes) None (equal_itself e.name)
held_placed (x ∷ xs) e = by (held_placed xs e) (bytes_eq x.name e.name) refl
  where
    by : held_under (placed xs e) e.name ≡ Some e.bytes → (b : Bool) → bytes_eq x.name e.name ≡ b → held_under (cond b (e ∷ xs) (x ∷ placed xs e)) e.name ≡ Some e.bytes
    by later true same = cond-true (bytes_eq e.name e.name) (Some e.bytes) (held_under xs e.name) (equal_itself e.name)
    by later false other = cond-false (bytes_eq x.name e.name) (Some x.bytes) (held_under (placed xs e) e.name) other ∙ later

-- under another name stands what stood there
pub held_other : (es : List Entry) (e : Entry) (other : List ℕ) → other ≢ e.name → held_under (placed es e) other ≡ held_under es other
held_other [] e other ne = cond-false (bytes_eq e.name other) (Some e.bytes) None (unequal e.name other ne)
held_other (x ∷ xs) e other ne = by (held_other xs e other ne) (bytes_eq x.name e.name) refl
  where
    by : held_under (placed xs e) other ≡ held_under xs other → (b : Bool) → bytes_eq x.name e.name ≡ b → held_under (cond b (e ∷ xs) (x ∷ placed xs e)) other ≡ held_under (x ∷ xs) other
    by later true same =
        let differs : other ≢ x.name = λ is. ne (is ∙ (bytes_eq-Decides x.name e.name).0 same) in
        cond-false (bytes_eq e.name other) (Some e.bytes) (held_under xs other) (unequal e.name other ne)
        ∙ sym (cond-false (bytes_eq x.name other) (Some x.bytes) (held_under xs other) (unequal x.name other differs))
    by later false not_here = ap (cond (bytes_eq x.name other) (Some x.bytes)) later

-- what was placed is held, and nothing else changed
pub puts_placed : (es : List Entry) (e : Entry) → Puts es e.name e.bytes (placed es e)
puts_placed es e = record { held = held_placed es e; others = held_other es e }

-- the loop found the first entry of that name
pub puts_here : (first es : List Entry) (i : ℕ) (e d : Entry) → es ≡ first → i < length es → bytes_eq (get_or es i d).name e.name ≡ true → take i es ++ placed (drop i es) e ≡ placed es e → Puts first e.name e.bytes (set es i e)
puts_here first es i e d same h named so =
    subst (λ (new : List Entry). Puts first e.name e.bytes new) (sym (placed_here es i e d h named so ∙ ap (λ (x : List Entry). placed x e) same)) (puts_placed first e)

-- the loop found no entry of that name
pub puts_last : (first es new : List Entry) (i : ℕ) (e : Entry) → es ≡ first → length es ≤ i → take i es ++ placed (drop i es) e ≡ placed es e → new ≡ es ++ e ∷ [] → Puts first e.name e.bytes new
puts_last first es new i e same h so pushed =
    subst (λ (x : List Entry). Puts first e.name e.bytes x) (sym (pushed ∙ placed_last es i e h so ∙ ap (λ (x : List Entry). placed x e) same)) (puts_placed first e)

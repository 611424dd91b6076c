-- Where a text is refused, no text begins with the tokens up to there.
--
-- With no grammar in it: from the locality of the reader, and that each sentence is read,
--   refused d ts r h e = begins_none is_end (expr d) (local_expr d) ts h IsText complete r e
-- where h says that the last token is an end, e that `whole is_end (expr d) ts ≡ Err r`, and `IsText` may hold a limit
-- of depth. The first token of r is the one that is named.
use Rattle.std.proofs.Common.{◌≡◌, Bool, true, false, List, [], ◌∷◌, ◌++◌, append_assoc, Ok, Err, refl, sym, ap, ◌∙◌, subst}
use Rattle.std.proofs.lemmas.List.{append-nil}
use Rattle.mh_reader.specs.Reader.{Outcome, Reader, ◌>>=◌, and_then, chain, pure, expect, nothing, whole}
use Rattle.mh_reader.specs.Locality.{NoEnd, Takes, Local}
use Rattle.mh_reader.specs.Refusals.{HasEnd, StopsAt, BeginsNone}
use Rattle.mh_reader.proofs.Steps.{chain_at, chain_err, expect_yes, expect_no, nothing_yes, nothing_no}

-- tokens with an end behind them hold an end
end_is_there : {T : Type 0} (is_end : T → Bool) (front : List T) (at : T) → is_end at ≡ true → NoEnd is_end (front ++ at ∷ []) → ⊥
end_is_there is_end [] at e n = let no = n.0 in absurd (cc)
end_is_there is_end (t ∷ front) at e n = end_is_there is_end front at e n.1

ended : {T : Type 0} (is_end : T → Bool) (u ts : List T) → NoEnd is_end u → ts ≡ u ++ [] → HasEnd is_end ts → ⊥
ended is_end u ts n e h = end_is_there is_end h.0 h.1 h.2 (subst (NoEnd is_end) (sym (append-nil u) ∙ sym e ∙ h.3) n)

module _ {T A : Type 0} (is_end : T → Bool) (p : Reader T A) where
  -- what comes after p
  abbrev closed : A → Reader T A
  closed x = expect is_end >>= (λ _. nothing >>= (λ _. pure x))

  closed_no : (x : A) (t : T) (q : List T) → is_end t ≡ false → closed x (t ∷ q) ≡ Err (t ∷ q)
  closed_no x t q e = chain_err (expect is_end) (λ _. nothing >>= (λ _. pure x)) (t ∷ q) (t ∷ q) (expect_no is_end (t ∷ q) e)

  closed_at : (x : A) (t : T) (q : List T) → is_end t ≡ true → closed x (t ∷ q) ≡ (nothing >>= (λ _. pure x)) q
  closed_at x t q e = chain_at (expect is_end) (λ _. nothing >>= (λ _. pure x)) (t ∷ q) q tt (expect_yes is_end t q e)

  closed_more : (x : A) (t b : T) (q : List T) → is_end t ≡ true → closed x (t ∷ b ∷ q) ≡ Err (b ∷ q)
  closed_more x t b q e = closed_at x t (b ∷ q) e ∙ chain_err nothing (λ _. pure x) (b ∷ q) (b ∷ q) (nothing_no b q)

  closed_yes : (x : A) (t : T) → is_end t ≡ true → closed x (t ∷ []) ≡ Ok (x, [])
  closed_yes x t e = closed_at x t [] e ∙ chain_at nothing (λ _. pure x) [] [] tt nothing_yes

  -- a text is read whole where p reads all but its end
  pub whole_at : (u : List T) (at : T) (x : A) → is_end at ≡ true → p (u ++ at ∷ []) ≡ Ok (x, at ∷ []) → whole is_end p (u ++ at ∷ []) ≡ Ok (x, [])
  unfolding whole
  whole_at u at x h e = chain_at p closed (u ++ at ∷ []) (at ∷ []) x e ∙ closed_yes x at h

  module _ (local : Local is_end p) (ts : List T) (h : HasEnd is_end ts) where
    failed : (u m : List T) → Takes is_end p (Err m) ts u → StopsAt (whole is_end p) ts m
    unfolding whole
    failed u [] t = absurd (ended is_end u ts t.plain t.split h)
    failed u (a ∷ q) t = (u, a, q, refl, t.split, λ more. chain_err p closed (u ++ a ∷ more) (a ∷ more) (t.same (a ∷ more) refl))

    beyond : (x : A) (a : T) (q r u : List T) → is_end a ≡ true → Takes is_end p (Ok (x, a ∷ q)) ts u → closed x (a ∷ q) ≡ Err r → StopsAt (whole is_end p) ts r
    unfolding whole
    beyond x a [] r u s t f = let yes = closed_yes x a s in absurd (cc)
    beyond x a (b ∷ q) r u s t f =
        let k : b ∷ q ≡ r = (let no = closed_more x a b q s in cc) in
        let P : List T → Type 0 = λ m. StopsAt (whole is_end p) ts m in
        subst P k (
          u ++ a ∷ [],
          b,
          q,
          refl,
          t.split ∙ sym (append_assoc u (a ∷ []) (b ∷ q)),
          λ more.
              ap (p >>= closed) (append_assoc u (a ∷ []) (b ∷ more))
              ∙ chain_at p closed (u ++ a ∷ b ∷ more) (a ∷ b ∷ more) x (t.same (a ∷ b ∷ more) refl)
              ∙ closed_more x a b more s,
        )

    short : (x : A) (a : T) (q r u : List T) → is_end a ≡ false → Takes is_end p (Ok (x, a ∷ q)) ts u → closed x (a ∷ q) ≡ Err r → StopsAt (whole is_end p) ts r
    unfolding whole
    short x a q r u s t f =
        let k : a ∷ q ≡ r = (let no = closed_no x a q s in cc) in
        let P : List T → Type 0 = λ m. StopsAt (whole is_end p) ts m in
        subst P k (
          u,
          a,
          q,
          refl,
          t.split,
          λ more.
              chain_at p closed (u ++ a ∷ more) (a ∷ more) x (t.same (a ∷ more) refl) ∙ closed_no x a more s,
        )

    found : (x : A) (m r u : List T) → Takes is_end p (Ok (x, m)) ts u → closed x m ≡ Err r → StopsAt (whole is_end p) ts r
    found x [] r u t f = absurd (ended is_end u ts t.plain t.split h)
    found x (a ∷ q) r u t f = go (is_end a) refl
      where
        go : (b : Bool) → is_end a ≡ b → StopsAt (whole is_end p) ts r
        go true s = beyond x a q r u s t f
        go false s = short x a q r u s t f

    pub stops : (r : List T) → whole is_end p ts ≡ Err r → StopsAt (whole is_end p) ts r
    unfolding whole chain
    stops r e = go (p ts) (local ts).0 (local ts).1 e
      where
        go : (o : Outcome T A) (u : List T) → Takes is_end p o ts u → and_then o closed ≡ Err r → StopsAt (whole is_end p) ts r
        go (Err m) u t f = let k : m ≡ r = cc in let P : List T → Type 0 = λ m. StopsAt (whole is_end p) ts m in subst P k (failed u m t)
        go (Ok (x, m)) u t f = found x m r u t f

    -- no text that is read begins so
    pub none_is_read : (r : List T) → whole is_end p ts ≡ Err r →
        (u : List T) × (t : T) × (q : List T) × (r ≡ t ∷ q) × (ts ≡ u ++ t ∷ q) × ((more m : List T) (a : A) → whole is_end p (u ++ t ∷ more) ≡ Ok (a, m) → ⊥)
    none_is_read r e = let s = stops r e in (s.0, s.1, s.2, s.3, s.4, λ more m a yes. let no = s.5 more in absurd (cc))

    -- where each sentence is read
    pub begins_none : {X : Type 0} (IsSentence : X → List T → Type 0) → ((x : X) (s : List T) → IsSentence x s → (a : A) × (m : List T) × (whole is_end p s ≡ Ok (a, m))) →
        (r : List T) → whole is_end p ts ≡ Err r → BeginsNone IsSentence ts r
    begins_none IsSentence complete r e =
        let s = none_is_read r e in (
          s.0,
          s.1,
          s.2,
          s.3,
          s.4,
          λ x more i.
              let yes = complete x _ i in
              s.5 more yes.1 yes.0 yes.2,
        )

-- What is answered is all that may be answered.
use Rattle.std.proofs.Common.{◌≡◌, ℕ, ◌⊎◌, inl, inr, List, [], refl, ap, subst, Result, Ok, Err, IfOk}
use Rattle.mh_text.specs.declared.code.Code.{Code}
use Rattle.mh_text.specs.declared.refusal.Refusal.{Refusal}
use Rattle.mh_text.specs.declared.refusal.Refusal.TheVariants as refusal
use Rattle.mh_pytok.specs.Tokens.{start, HasTokens, IsRefused, Answers}
use Rattle.mh_pytok.specs.Readable.{Readable}
use Rattle.mh_pytok.specs.declared.token.Token.{Token}
use Rattle.mh_pytok.proofs.Unique.{reads_once, refused_once, not_both}
use Rattle.mh_pytok.proofs.Always.{readable}

pub found : (src : List ℕ) (r : Result (List Token) Refusal) → Answers src r → IfOk r (λ ts. HasTokens src ts)
found src (Ok ts) h = h
found src (Err e) h = tt

pub only : (src : List ℕ) (r : Result (List Token) Refusal) → Answers src r → (ts : List Token) → HasTokens src ts → (r ≡ Ok ts) ⊎ (r ≡ Err refusal.Memory)
only src (Ok us) h ts has = inl (ap Ok (reads_once src start us ts h has))
only src (Err (refusal.At code line names)) h ts has = absurd (not_both src start ts code line has h.0)
only src (Err refusal.Memory) h ts has = inr refl

pub refused : (src : List ℕ) (r : Result (List Token) Refusal) → Answers src r → (code : Code) (line : ℕ) (names : List (List ℕ)) → r ≡ Err (refusal.At code line names) →
    IsRefused src code line × (names ≡ [])
refused src r h code line names is = subst (Answers src) is h

pub refuses : (src : List ℕ) (r : Result (List Token) Refusal) → Answers src r → (code : Code) (line : ℕ) → IsRefused src code line →
    (r ≡ Err (refusal.At code line [])) ⊎ (r ≡ Err refusal.Memory)
refuses src (Ok us) h code line has = absurd (not_both src start us code line h has)
refuses src (Err (refusal.At c l names)) h code line has =
    let same : (c ≡ code) × (l ≡ line) = refused_once src start c code l line h.0 has in
    let none : names ≡ [] = h.1 in inl cc
refuses src (Err refusal.Memory) h code line has = inr refl

pub all_readable : (src : List ℕ) (r : Result (List Token) Refusal) → Answers src r → IfOk r (λ ts. Readable src ts)
all_readable src (Ok ts) h = readable src ts h
all_readable src (Err e) h = tt

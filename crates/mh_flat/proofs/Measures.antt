-- The extents of a body's statements.
use Rattle.std.proofs.Common.{◌≡◌, ℕ, suc, ◌+◌, ◌-◌, ◌<◌, ◌≤◌, List, [], ◌∷◌, ◌++◌, length, Some, refl, sym, ap, ◌∙◌, subst, arith, append_assoc, length-append, get_or, drop, drop-cons}
use Rattle.std.specs.Prelude.{slice_get, slice_set}
use Rattle.std.proofs.lemmas.List.{append-nil}
use Rattle.mh_flat.specs.declared.code.Extent.{Extent}
use Rattle.mh_flat.specs.declared.step.Step.{Step}
use Rattle.mh_flat.specs.Body.{statement_of, block_of}
use Rattle.mh_flow.specs.Flow.{Statement, Block, SetStatement, IfStatement, WhileStatement, CountStatement, WaitStatement, SayStatement, CheckStatement, StopStatement, BreakStatement, ContinueStatement, End, Then, size, block_size}
use Rattle.mh_flat.specs.Extents.{HasAt, extent, front, inner_extents, block_extents, else_extents, extents_of}

-- what stands behind a list, and a write there
pub get_seam : {A : Type 0} (xs ys : List A) (x : A) → slice_get (xs ++ x ∷ ys) (length xs) ≡ Some x
get_seam [] ys x = refl
get_seam (z ∷ xs) ys x = get_seam xs ys x

pub set_seam : {A : Type 0} (xs ys : List A) (x y : A) → slice_set (xs ++ x ∷ ys) (length xs) y ≡ xs ++ y ∷ ys
set_seam [] ys x y = refl
set_seam (z ∷ xs) ys x y = ap (λ l. z ∷ l) (set_seam xs ys x y)

pub after_one : {A : Type 0} (one two : List A) (x : A) → two ≡ one ++ x ∷ [] → length two ≡ length one + 1
after_one one two x e = ap length e ∙ length-append one (x ∷ [])

-- a list that stands in another from a place on
pub has_front : {A : Type 0} (xs : List A) (k : ℕ) (a b : List A) → HasAt xs k (a ++ b) → HasAt xs k a
has_front xs k [] b h = tt
has_front xs k (x ∷ a) b h = (h.0, has_front xs (k + 1) a b h.1)

pub has_back : {A : Type 0} (xs : List A) (k : ℕ) (a b : List A) → HasAt xs k (a ++ b) → HasAt xs (k + length a) b
has_back xs k [] b h = let e : k ≡ k + 0 = omega arith in subst (λ n. HasAt xs n b) e h
has_back xs k (x ∷ a) b h =
    let e : k + 1 + length a ≡ k + length (x ∷ a) = omega arith in
    subst (λ n. HasAt xs n b) e (has_back xs (k + 1) a b h.1)

has_later : {A : Type 0} (xs : List A) (x : A) (k : ℕ) (a : List A) → HasAt xs k a → HasAt (x ∷ xs) (suc k) a
has_later xs x k [] h = tt
has_later xs x k (y ∷ a) h =
    let e : suc (k + 1) ≡ suc k + 1 = omega arith in
    (h.0, subst (λ n. HasAt (x ∷ xs) n a) e (has_later xs x (k + 1) a h.1))

pub has_all : {A : Type 0} (a : List A) → HasAt a 0 a
has_all [] = tt
has_all (x ∷ a) = (refl, has_later a x 0 a (has_all a))

-- there is an extent for each statement
mutual
  pub length_inner : {E P : Type 0} (t : Statement E P) → suc (length (inner_extents t)) ≡ size t
  length_inner (SetStatement p e) = refl
  length_inner (IfStatement e a b) =
      omega (arith, length-append (block_extents a) (else_extents b), length_extents a, length_else b)
  length_inner (WhileStatement e b) = omega (arith, length_extents b)
  length_inner (CountStatement p x y z b) = omega (arith, length_extents b)
  length_inner (WaitStatement w) = refl
  length_inner (SayStatement w) = refl
  length_inner (CheckStatement e) = refl
  length_inner StopStatement = refl
  length_inner BreakStatement = refl
  length_inner ContinueStatement = refl

  pub length_extents : {E P : Type 0} (b : Block E P) → length (block_extents b) ≡ block_size b
  length_extents End = refl
  length_extents (Then t b) =
      omega (arith, length-append (inner_extents t) (block_extents b), length_inner t, length_extents b)

  pub length_else : {E P : Type 0} (b : Block E P) → length (else_extents b) ≡ block_size b
  length_else End = refl
  length_else (Then t b) =
      omega (arith, length-append (inner_extents t) (block_extents b), length_inner t, length_extents b)

-- an else part of several statements is like any block
pub else_block : {L E P V S F : Type 0} (xs : List (Step L E P V S F)) → (length xs ≡ 1 → ⊥) → else_extents (block_of xs) ≡ block_extents (block_of xs)
else_block [] h = refl
else_block (x ∷ []) h = absurd (h refl)
else_block (x ∷ y ∷ xs) h = refl

-- what is measured so far, and what is left of a block or of a chain
pub record BlockLeft {E P : Type 0} (old : List Extent) (all : Block E P) (new : List Extent) (rest : Block E P) : Type 0 where
  pub items : new ++ block_extents rest ≡ old ++ block_extents all
  pub long : length new + block_size rest ≡ length old + block_size all
  pub more : length old ≤ length new

pub record ChainLeft {E P : Type 0} (old : List Extent) (all : Statement E P) (new : List Extent) (rest : Statement E P) : Type 0 where
  pub items : new ++ extents_of rest 0 ≡ old ++ extents_of all 0
  pub long : length new + size rest ≡ length old + size all
  pub smaller : size rest ≤ size all

pub block_end : {E P : Type 0} (old new : List Extent) (all rest : Block E P) → rest ≡ End → BlockLeft old all new rest → new ≡ old ++ block_extents all
block_end old new all rest e h = sym (append-nil new) ∙ ap (λ b. new ++ block_extents b) (sym e) ∙ h.items

-- a statement was measured, and then its size was set
pub with_size : {E P : Type 0} (one two three : List Extent) (t : Statement E P) → two ≡ one ++ extents_of t 0 → ((e : Extent) → slice_get two (length one) ≡ Some e → three ≡ slice_set two (length one) (extent e.front (length two - length one))) → three ≡ one ++ extents_of t (size t)
with_size one two three t e h =
    let get : slice_get two (length one) ≡ Some (extent (front t) 0) = ap (λ l. slice_get l (length one)) e ∙ get_seam one (inner_extents t) (extent (front t) 0) in
    let long : length two - length one ≡ size t = omega (arith, ap length e, length-append one (extents_of t 0), length_inner t) in
    h _ get ∙ ap (λ l. slice_set l (length one) (extent (front t) (length two - length one))) e ∙ set_seam one (inner_extents t) (extent (front t) 0) _ ∙ ap (λ n. one ++ extents_of t n) long

pub block_next : {E P : Type 0} (old one two three : List Extent) (all before rest : Block E P) (t : Statement E P) → before ≡ Then t rest → BlockLeft old all one before → two ≡ one ++ extents_of t 0 → ((e : Extent) → slice_get two (length one) ≡ Some e → three ≡ slice_set two (length one) (extent e.front (length two - length one))) → BlockLeft old all three rest
block_next old one two three all before rest t eb h e set =
    let all_set = with_size one two three t e set in
    record {
      items = ap (λ l. l ++ block_extents rest) all_set ∙ append_assoc one (extents_of t (size t)) (block_extents rest) ∙ ap (λ b. one ++ block_extents b) (sym eb) ∙ h.items;
      long = omega (arith, ap length all_set, length-append one (extents_of t (size t)), length_inner t, ap block_size eb, h.long);
      more = omega (arith, ap length all_set, length-append one (extents_of t (size t)), h.more);
    }

-- a statement's first part was measured, and then its front was set
pub with_front : {E P : Type 0} (one two three four : List Extent) (b : Block E P) → two ≡ one ++ extent 1 0 ∷ [] → three ≡ two ++ block_extents b → four ≡ slice_set three (length one) (extent (length three - length one) 0) → four ≡ one ++ extent (1 + block_size b) 0 ∷ block_extents b
with_front one two three four b e f g =
    let all : three ≡ one ++ extent 1 0 ∷ block_extents b = f ∙ ap (λ l. l ++ block_extents b) e ∙ append_assoc one (extent 1 0 ∷ []) (block_extents b) in
    let long : length three - length one ≡ 1 + block_size b = omega (arith, ap length all, length-append one (extent 1 0 ∷ block_extents b), length_extents b) in
    g ∙ ap (λ l. slice_set l (length one) (extent (length three - length one) 0)) all ∙ set_seam one (block_extents b) (extent 1 0) _ ∙ ap (λ n. one ++ extent n 0 ∷ block_extents b) long

pub chain_end : {E P : Type 0} (old one two : List Extent) (all t : Statement E P) → ChainLeft old all one t → two ≡ one ++ extents_of t 0 → two ≡ old ++ extents_of all 0
chain_end old one two all t h e = e ∙ h.items

-- the else part is one statement
pub chain_next : {E P : Type 0} (old one two : List Extent) (all t u : Statement E P) (test : E) (a b : Block E P) → ChainLeft old all one t → t ≡ IfStatement test a b → b ≡ Then u End → two ≡ one ++ extent (1 + block_size a) 0 ∷ block_extents a → ChainLeft old all two u
chain_next old one two all t u test a b h et eb e =
    let whole : t ≡ IfStatement test a (Then u End) = et ∙ ap (IfStatement test a) eb in
    record {
      items = ap (λ l. l ++ extents_of u 0) e ∙ append_assoc one (extent (1 + block_size a) 0 ∷ block_extents a) (extents_of u 0) ∙ ap (λ l. one ++ extent (1 + block_size a) 0 ∷ (block_extents a ++ extent (front u) 0 ∷ l)) (sym (append-nil (inner_extents u))) ∙ ap (λ s. one ++ extents_of s 0) (sym whole) ∙ h.items;
      long = omega (arith, ap length e, length-append one (extent (1 + block_size a) 0 ∷ block_extents a), length_extents a, ap size whole, h.long);
      smaller = omega (arith, ap size whole, h.smaller);
    }

-- the else part was measured as a block
pub chain_else : {E P : Type 0} (one two three : List Extent) (t : Statement E P) (test : E) (a b : Block E P) → t ≡ IfStatement test a b → two ≡ one ++ extent (1 + block_size a) 0 ∷ block_extents a → else_extents b ≡ block_extents b → three ≡ two ++ block_extents b → three ≡ one ++ extents_of t 0
chain_else one two three t test a b et e eb f =
    f ∙ ap (λ l. l ++ block_extents b) e ∙ append_assoc one (extent (1 + block_size a) 0 ∷ block_extents a) (block_extents b) ∙ ap (λ l. one ++ extent (1 + block_size a) 0 ∷ (block_extents a ++ l)) (sym eb) ∙ ap (λ s. one ++ extents_of s 0) (sym et)

-- the statement at a place of a block's list
pub drop_item : {L E P V S F : Type 0} (xs : List (Step L E P V S F)) (i : ℕ) (x : Step L E P V S F) → i < length xs → x ≡ get_or xs i x → block_of (drop i xs) ≡ Then (statement_of x) (block_of (drop (i + 1) xs))
drop_item xs i x lt e =
    let s : suc i ≡ i + 1 = omega arith in
    ap block_of (drop-cons xs i x lt) ∙ ap (λ y. Then (statement_of y) (block_of (drop (suc i) xs))) (sym e) ∙ ap (λ n. Then (statement_of x) (block_of (drop n xs))) s

-- the only statement of a block
pub only_item : {L E P V S F : Type 0} (xs : List (Step L E P V S F)) (x : Step L E P V S F) → length xs ≡ 1 → x ≡ get_or xs 0 x → block_of xs ≡ Then (statement_of x) End
only_item [] x h e = absurd (omega arith)
only_item (y ∷ []) x h e = ap (λ z. Then (statement_of z) End) (sym e)
only_item (y ∷ z ∷ xs) x h e = absurd (omega arith)

-- the first part of a statement was measured, and there was room for it
pub front_long : {E P : Type 0} (one two : List Extent) (b : Block E P) → two ≡ one ++ extent (1 + block_size b) 0 ∷ block_extents b → length two ≡ length one + 1 + block_size b
front_long one two b e =
    omega (arith, ap length e, length-append one (extent (1 + block_size b) 0 ∷ block_extents b), length_extents b)

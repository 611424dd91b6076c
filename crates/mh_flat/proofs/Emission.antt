-- The code of a block, a statement at a time.
use Rattle.std.proofs.Common.{◌^◌, ◌≡◌, ℕ, suc, ◌+◌, ◌<◌, ◌≤◌, max, List, [], ◌∷◌, ◌++◌, length, refl, sym, ap, ◌∙◌, subst, arith, append_assoc, length-append, Bool, true, false, cond, get_or}
use Rattle.std.specs.Prelude.{reverse, ◌==◌}
use Rattle.std.proofs.lemmas.Bool.{eqb-true, eqb-false}
use Rattle.std.proofs.lemmas.Option.{slice_get_within, get_or_from_slice_get}
use Rattle.std.proofs.lemmas.List.{append-nil, reverse-append, length-reverse}
use Rattle.mh_flat.specs.declared.step.Step.{Step}
use Rattle.mh_flat.specs.Body.{statement_of, block_of}
use Rattle.mh_flat.specs.declared.code.Extent.{Extent}
use Rattle.mh_flat.specs.Extents.{HasAt, extents_of, block_extents, else_extents}
use Rattle.mh_flat.proofs.Measures.{after_one, has_front, has_back, has_all, length_inner, length_extents}
use Rattle.mh_flat.proofs.Bodies.{first_empty, first_full}
use Rattle.mh_flat.specs.declared.code.Position.{Position}
use Rattle.mh_flat.specs.declared.code.Operation.TheVariants.{Branch, Repeat, Iterate}
use Rattle.mh_flat.specs.declared.code.Instruction.{Instruction}
use Rattle.mh_flow.specs.Flow.{Statement, Block, SetStatement, IfStatement, WhileStatement, CountStatement, WaitStatement, SayStatement, CheckStatement, StopStatement, BreakStatement, ContinueStatement, End, Then, size, block_size}
use Rattle.mh_flat.specs.Stands.{fresh, begun, first, HasStatement, HasBlock}
use Rattle.mh_flat.specs.Flat.{nesting, block_nesting, instruction, instructions_of, block_instructions, IsCodeOf}
use Rattle.mh_flat.specs.declared.code.Code.{Code}

module _ (L E P V S F : Type 0) where
  mutual
    pub length_instructions : (t : Statement E P) (k : ℕ) (after leave again : Position) (d : ℕ) → length (instructions_of {L = L} {V = V} {S = S} {F = F} t k after leave again d) ≡ size t
    length_instructions (SetStatement p e) k after leave again d = refl
    length_instructions (IfStatement e a b) k after leave again d =
        omega (arith, length-append (block_instructions {L = L} {V = V} {S = S} {F = F} a (k + 1) after leave again d) (block_instructions b (k + 1 + block_size a) after leave again d), length_block_instructions a (k + 1) after leave again d, length_block_instructions b (k + 1 + block_size a) after leave again d)
    length_instructions (WhileStatement e b) k after leave again d =
        omega (arith, length_block_instructions b (k + 1) (begun k) after (begun k) d)
    length_instructions (CountStatement p x y z b) k after leave again d =
        omega (arith, length_block_instructions b (k + 1) (begun k) after (begun k) (suc d))
    length_instructions (WaitStatement w) k after leave again d = refl
    length_instructions (SayStatement w) k after leave again d = refl
    length_instructions (CheckStatement e) k after leave again d = refl
    length_instructions StopStatement k after leave again d = refl
    length_instructions BreakStatement k after leave again d = refl
    length_instructions ContinueStatement k after leave again d = refl

    pub length_block_instructions : (b : Block E P) (k : ℕ) (after leave again : Position) (d : ℕ) → length (block_instructions {L = L} {V = V} {S = S} {F = F} b k after leave again d) ≡ block_size b
    length_block_instructions End k after leave again d = refl
    length_block_instructions (Then t b) k after leave again d =
        omega (arith, length-append (instructions_of {L = L} {V = V} {S = S} {F = F} t k (first (k + size t) b after) leave again d) (block_instructions b (k + size t) after leave again d), length_instructions t k (first (k + size t) b after) leave again d, length_block_instructions b (k + size t) after leave again d)

  -- the code of a block has the block
  module _ (instructions : List (Instruction L E P V S F)) (room : ℕ) where
    mutual
      has_statement : (t : Statement E P) (k : ℕ) (after leave again : Position) (d : ℕ) → d + nesting t ≤ room → HasAt instructions k (instructions_of t k after leave again d) → HasStatement instructions room t k after leave again d
      has_statement (SetStatement p e) k after leave again d le h = h.0
      has_statement (IfStatement e a b) k after leave again d le h =
          let back = has_back instructions (k + 1) (block_instructions a (k + 1) after leave again d) (block_instructions b (k + 1 + block_size a) after leave again d) h.1 in
          (h.0, has_block a (k + 1) after leave again d (omega arith) (has_front instructions (k + 1) (block_instructions a (k + 1) after leave again d) (block_instructions b (k + 1 + block_size a) after leave again d) h.1), has_block b (k + 1 + block_size a) after leave again d (omega arith) (subst (λ n. HasAt instructions (k + 1 + n) (block_instructions b (k + 1 + block_size a) after leave again d)) (length_block_instructions a (k + 1) after leave again d) back))
      has_statement (WhileStatement e b) k after leave again d le h =
          (h.0, has_block b (k + 1) (begun k) after (begun k) d le h.1)
      has_statement (CountStatement p x y z b) k after leave again d le h =
          (omega arith, h.0, has_block b (k + 1) (begun k) after (begun k) (suc d) (omega arith) h.1)
      has_statement (WaitStatement w) k after leave again d le h = h.0
      has_statement (SayStatement w) k after leave again d le h = h.0
      has_statement (CheckStatement e) k after leave again d le h = h.0
      has_statement StopStatement k after leave again d le h = h.0
      has_statement BreakStatement k after leave again d le h = h.0
      has_statement ContinueStatement k after leave again d le h = h.0

      has_block : (b : Block E P) (k : ℕ) (after leave again : Position) (d : ℕ) → d + block_nesting b ≤ room → HasAt instructions k (block_instructions b k after leave again d) → HasBlock instructions room b k after leave again d
      has_block End k after leave again d le h = tt
      has_block (Then t b) k after leave again d le h =
          let front = instructions_of {L = L} {V = V} {S = S} {F = F} t k (first (k + size t) b after) leave again d in
          let back = block_instructions {L = L} {V = V} {S = S} {F = F} b (k + size t) after leave again d in
          (has_statement t k (first (k + size t) b after) leave again d (omega arith) (has_front instructions k front back h), has_block b (k + size t) after leave again d (omega arith) (subst (λ n. HasAt instructions (k + n) back) (length_instructions t k (first (k + size t) b after) leave again d) (has_back instructions k front back h)))

  pub block_instructions_has : (b : Block E P) (instructions : List (Instruction L E P V S F)) (room : ℕ) (g : Position) → instructions ≡ block_instructions b 0 g g g 0 → block_nesting b ≤ room → HasBlock instructions room b 0 g g g 0
  block_instructions_has b instructions room g e le =
      has_block instructions room b 0 g g g 0 (omega arith) (subst (λ x. HasAt instructions 0 x) e (has_all instructions))

module _ {L E P V S F : Type 0} (extents : List Extent) (nodes0 : List (Instruction L E P V S F)) (body : List (Step L E P V S F)) (after leave again : Position) (d : ℕ) where
  -- some statements' instructions are there, and the rest is still to come
  pub record BlockEmitted (instructions : List (Instruction L E P V S F)) (rest : List (Step L E P V S F)) (most : ℕ) : Type 0 where
    pub items : instructions ++ block_instructions (block_of rest) (length instructions) after leave again d ≡ nodes0 ++ block_instructions (block_of body) (length nodes0) after leave again d
    pub long : length instructions + block_size (block_of rest) ≡ length nodes0 + block_size (block_of body)
    pub more : length nodes0 ≤ length instructions
    pub deep : max most (block_nesting (block_of rest)) ≡ block_nesting (block_of body)
    pub has : HasAt extents (length instructions) (block_extents (block_of rest))

  pub block_emitted_start : (rest : List (Step L E P V S F)) → rest ≡ body → HasAt extents (length nodes0) (block_extents (block_of body)) → BlockEmitted nodes0 rest 0
  block_emitted_start rest e has =
      record { items = ap (λ x. nodes0 ++ block_instructions (block_of x) (length nodes0) after leave again d) e; long = ap (λ x. length nodes0 + block_size (block_of x)) e; more = omega arith; deep = omega (arith, ap (λ x. block_nesting (block_of x)) e); has = subst (λ x. HasAt extents (length nodes0) (block_extents (block_of x))) (sym e) has }

  pub block_emitted_step : (instructions nodes' : List (Instruction L E P V S F)) (x : Step L E P V S F) (all rest : List (Step L E P V S F)) (most m : ℕ) (next : Position) → all ≡ x ∷ rest → BlockEmitted instructions all most → next ≡ first (length instructions + size (statement_of x)) (block_of rest) after → nodes' ≡ instructions ++ instructions_of (statement_of x) (length instructions) next leave again d → m ≡ nesting (statement_of x) → BlockEmitted nodes' rest (max most m)
  block_emitted_step instructions nodes' x all rest most m next ea h en e em =
      let one = instructions_of {L = L} {V = V} {S = S} {F = F} (statement_of x) (length instructions) (first (length instructions + size (statement_of x)) (block_of rest) after) leave again d in
      let two = block_instructions {L = L} {V = V} {S = S} {F = F} (block_of rest) (length instructions + size (statement_of x)) after leave again d in
      let e' : nodes' ≡ instructions ++ one = e ∙ ap (λ g. instructions ++ instructions_of (statement_of x) (length instructions) g leave again d) en in
      let len : length nodes' ≡ length instructions + size (statement_of x) = ap length e' ∙ length-append instructions one ∙ ap (λ n. length instructions + n) (length_instructions L E P V S F (statement_of x) (length instructions) (first (length instructions + size (statement_of x)) (block_of rest) after) leave again d) in
      let was : instructions ++ (one ++ two) ≡ nodes0 ++ block_instructions (block_of body) (length nodes0) after leave again d = ap (λ y. instructions ++ block_instructions (block_of y) (length instructions) after leave again d) (sym ea) ∙ h.items in
      let long' = ap (λ y. length instructions + block_size (block_of y)) (sym ea) ∙ h.long in
      let deep' : max most (max (nesting (statement_of x)) (block_nesting (block_of rest))) ≡ block_nesting (block_of body) = ap (λ y. max most (block_nesting (block_of y))) (sym ea) ∙ h.deep in
      record {
        items = ap (λ y. y ++ block_instructions (block_of rest) (length y) after leave again d) e' ∙ ap (λ n. (instructions ++ one) ++ block_instructions (block_of rest) n after leave again d) (ap length (sym e') ∙ len) ∙ append_assoc instructions one two ∙ was;
        long = omega (arith, len, long');
        more = omega (arith, len, h.more);
        deep = omega (arith, em, deep');
        has = subst (λ n. HasAt extents n (block_extents (block_of rest))) (omega (arith, len, length_inner (statement_of x))) (has_back extents (length instructions) (extents_of (statement_of x) (size (statement_of x))) (block_extents (block_of rest)) (subst (λ y. HasAt extents (length instructions) (block_extents (block_of y))) ea h.has));
      }

  pub block_emitted_head : (instructions : List (Instruction L E P V S F)) (x : Step L E P V S F) (all rest : List (Step L E P V S F)) (most : ℕ) → all ≡ x ∷ rest → BlockEmitted instructions all most → HasAt extents (length instructions) (extents_of (statement_of x) (size (statement_of x)) ++ block_extents (block_of rest))
  block_emitted_head instructions x all rest most e h = subst (λ y. HasAt extents (length instructions) (block_extents (block_of y))) e h.has

  pub block_emitted_items : (instructions : List (Instruction L E P V S F)) (rest : List (Step L E P V S F)) (most : ℕ) → rest ≡ [] → BlockEmitted instructions rest most → instructions ≡ nodes0 ++ block_instructions (block_of body) (length nodes0) after leave again d
  block_emitted_items instructions rest most e h =
      sym (append-nil instructions) ∙ ap (λ y. instructions ++ block_instructions (block_of y) (length instructions) after leave again d) (sym e) ∙ h.items

  pub block_emitted_deep : (instructions : List (Instruction L E P V S F)) (rest : List (Step L E P V S F)) (most : ℕ) → rest ≡ [] → BlockEmitted instructions rest most → most ≡ block_nesting (block_of body)
  block_emitted_deep instructions rest most e h = omega (arith, ap (λ y. max most (block_nesting (block_of y))) (sym e) ∙ h.deep)

-- the last of a reversed list comes first
pub reverse_last : {A : Type 0} (xs ys : List A) (x : A) → xs ≡ ys ++ x ∷ [] → reverse xs ≡ x ∷ reverse ys
reverse_last xs ys x e = ap reverse e ∙ reverse-append ys (x ∷ [])

next_by : {L E P V S F : Type 0} (ys : List (Step L E P V S F)) (k : ℕ) (after g : Position) (b : Bool) → (length ys == 0) ≡ b → g ≡ cond b after (fresh k) → g ≡ first k (block_of (reverse ys)) after
next_by ys k after g true eb e =
    let n : length (reverse ys) ≡ 0 = length-reverse ys ∙ eqb-true (length ys) 0 eb in
    e ∙ sym (first_empty (reverse ys) k after n)
next_by ys k after g false eb e =
    let n : 0 < length (reverse ys) = omega (arith, length-reverse ys, eqb-false (length ys) 0 eb) in
    e ∙ sym (first_full (reverse ys) k after n)

pub next_is : {L E P V S F : Type 0} (ys : List (Step L E P V S F)) (k : ℕ) (after g : Position) (b : Bool) → b ≡ (length ys == 0) → g ≡ cond b after (fresh k) → g ≡ first k (block_of (reverse ys)) after
next_is ys k after g b eb e = next_by ys k after g (length ys == 0) refl (e ∙ ap (λ x. cond x after (fresh k)) eb)

pub seam : {A : Type 0} (n0 n1 n2 fa : List A) (x : A) → n1 ≡ n0 ++ x ∷ [] → n2 ≡ n1 ++ fa → n2 ≡ n0 ++ (x ∷ fa)
seam n0 n1 n2 fa x e1 e2 = e2 ∙ ap (λ y. y ++ fa) e1 ∙ append_assoc n0 (x ∷ []) fa

pub seam_two : {A : Type 0} (n0 n1 n2 n3 fa fb : List A) (x : A) → n1 ≡ n0 ++ x ∷ [] → n2 ≡ n1 ++ fa → n3 ≡ n2 ++ fb → n3 ≡ n0 ++ (x ∷ (fa ++ fb))
seam_two n0 n1 n2 n3 fa fb x e1 e2 e3 =
    e3 ∙ ap (λ y. y ++ fb) (seam n0 n1 n2 fa x e1 e2) ∙ append_assoc n0 (x ∷ fa) fb

module _ {L E P V S F : Type 0} (n0 n1 : List (Instruction L E P V S F)) (k d : ℕ) (ek : k ≡ length n0) (after leave again : Position) where
  pub emit_while : (n2 : List (Instruction L E P V S F)) (t : Statement E P) (e : E) (b : Block E P) (g : Position) → t ≡ WhileStatement e b → g ≡ first (k + 1) b (begun k) → n1 ≡ n0 ++ instruction (Repeat e g) after ∷ [] → n2 ≡ n1 ++ block_instructions b (length n1) (begun k) after (begun k) d → n2 ≡ n0 ++ instructions_of t (length n0) after leave again d
  emit_while n2 t e b g es eg e1 e2 =
      let f1 : n1 ≡ n0 ++ instruction (Repeat e (first (k + 1) b (begun k))) after ∷ [] = e1 ∙ ap (λ x. n0 ++ instruction (Repeat e x) after ∷ []) eg in
      let f2 : n2 ≡ n1 ++ block_instructions b (k + 1) (begun k) after (begun k) d = e2 ∙ ap (λ x. n1 ++ block_instructions b x (begun k) after (begun k) d) (after_one n0 n1 _ e1 ∙ ap (λ x. x + 1) (sym ek)) in
      seam n0 n1 n2 _ _ f1 f2 ∙ ap (λ u. n0 ++ instructions_of u k after leave again d) (sym es) ∙ ap (λ x. n0 ++ instructions_of t x after leave again d) ek

  pub emit_count : (n2 : List (Instruction L E P V S F)) (t : Statement E P) (p : P) (x y z : E) (b : Block E P) (g : Position) → t ≡ CountStatement p x y z b → g ≡ first (k + 1) b (begun k) → n1 ≡ n0 ++ instruction (Iterate p x y z d g) after ∷ [] → n2 ≡ n1 ++ block_instructions b (length n1) (begun k) after (begun k) (d + 1) → n2 ≡ n0 ++ instructions_of t (length n0) after leave again d
  emit_count n2 t p x y z b g es eg e1 e2 =
      let f1 : n1 ≡ n0 ++ instruction (Iterate p x y z d (first (k + 1) b (begun k))) after ∷ [] = e1 ∙ ap (λ h. n0 ++ instruction (Iterate p x y z d h) after ∷ []) eg in
      let more : d + 1 ≡ suc d = omega arith in
      let f2 : n2 ≡ n1 ++ block_instructions b (k + 1) (begun k) after (begun k) (suc d) = e2 ∙ ap (λ h. n1 ++ block_instructions b h (begun k) after (begun k) (d + 1)) (after_one n0 n1 _ e1 ∙ ap (λ h. h + 1) (sym ek)) ∙ ap (λ h. n1 ++ block_instructions b (k + 1) (begun k) after (begun k) h) more in
      seam n0 n1 n2 _ _ f1 f2 ∙ ap (λ u. n0 ++ instructions_of u k after leave again d) (sym es) ∙ ap (λ h. n0 ++ instructions_of t h after leave again d) ek

  pub emit_if : (n2 n3 : List (Instruction L E P V S F)) (t : Statement E P) (e : E) (a b : Block E P) (g h : Position) → t ≡ IfStatement e a b → g ≡ first (k + 1) a after → h ≡ first (k + 1 + block_size a) b after → n1 ≡ n0 ++ instruction (Branch e g h) after ∷ [] → n2 ≡ n1 ++ block_instructions a (length n1) after leave again d → n3 ≡ n2 ++ block_instructions b (length n2) after leave again d → n3 ≡ n0 ++ instructions_of t (length n0) after leave again d
  emit_if n2 n3 t e a b g h es eg eh e1 e2 e3 =
      let f1 : n1 ≡ n0 ++ instruction (Branch e (first (k + 1) a after) (first (k + 1 + block_size a) b after)) after ∷ [] = e1 ∙ ap (λ x. n0 ++ instruction (Branch e x h) after ∷ []) eg ∙ ap (λ x. n0 ++ instruction (Branch e (first (k + 1) a after) x) after ∷ []) eh in
      let l1 : length n1 ≡ k + 1 = after_one n0 n1 _ e1 ∙ ap (λ x. x + 1) (sym ek) in
      let l2 : length n2 ≡ k + 1 + block_size a = ap length e2 ∙ length-append n1 _ ∙ ap (λ x. length n1 + x) (length_block_instructions L E P V S F a (length n1) after leave again d) ∙ ap (λ x. x + block_size a) l1 in
      let f2 : n2 ≡ n1 ++ block_instructions a (k + 1) after leave again d = e2 ∙ ap (λ x. n1 ++ block_instructions a x after leave again d) l1 in
      let f3 : n3 ≡ n2 ++ block_instructions b (k + 1 + block_size a) after leave again d = e3 ∙ ap (λ x. n2 ++ block_instructions b x after leave again d) l2 in
      seam_two n0 n1 n2 n3 _ _ _ f1 f2 f3 ∙ ap (λ u. n0 ++ instructions_of u k after leave again d) (sym es) ∙ ap (λ x. n0 ++ instructions_of t x after leave again d) ek

-- an entry of the table
pub entry_within : {A : Type 0} (xs : List A) (k : ℕ) (x : A) (ys : List A) → HasAt xs k (x ∷ ys) → k < length xs
entry_within xs k x ys h = slice_get_within xs k x h.0

pub entry_is : {A : Type 0} (xs : List A) (k : ℕ) (x d : A) (ys : List A) → HasAt xs k (x ∷ ys) → get_or xs k d ≡ x
entry_is xs k x d ys h = get_or_from_slice_get xs k x d h.0

-- the instructions of a chain of statements up to one of them
module _ {L E P V S F : Type 0} (extents : List Extent) (nodes0 : List (Instruction L E P V S F)) (all : Statement E P) (after leave again : Position) (d : ℕ) where
  pub record ChainEmitted (instructions : List (Instruction L E P V S F)) (t : Statement E P) (most : ℕ) : Type 0 where
    pub items : instructions ++ instructions_of t (length instructions) after leave again d ≡ nodes0 ++ instructions_of all (length nodes0) after leave again d
    pub long : length instructions + size t ≡ length nodes0 + size all
    pub more : length nodes0 ≤ length instructions
    pub deep : max most (nesting t) ≡ nesting all
    pub whole : ℕ
    pub has : HasAt extents (length instructions) (extents_of t whole)

  pub has_yes : (instructions n1 : List (Instruction L E P V S F)) (t : Statement E P) (e : E) (a b : Block E P) (most : ℕ) → ChainEmitted instructions t most → t ≡ IfStatement e a b → length n1 ≡ length instructions + 1 → HasAt extents (length n1) (block_extents a)
  has_yes instructions n1 t e a b most h et len =
      subst (λ n. HasAt extents n (block_extents a)) (sym len) (has_front extents (length instructions + 1) (block_extents a) (else_extents b) (subst (λ x. HasAt extents (length instructions) (extents_of x h.whole)) et h.has).1)

  pub has_no : (instructions n2 : List (Instruction L E P V S F)) (t : Statement E P) (e : E) (a b : Block E P) (most : ℕ) → ChainEmitted instructions t most → t ≡ IfStatement e a b → length n2 ≡ length instructions + 1 + block_size a → HasAt extents (length n2) (else_extents b)
  has_no instructions n2 t e a b most h et len =
      subst (λ n. HasAt extents n (else_extents b)) (omega (arith, len, length_extents a)) (has_back extents (length instructions + 1) (block_extents a) (else_extents b) (subst (λ x. HasAt extents (length instructions) (extents_of x h.whole)) et h.has).1)

  pub long_yes : (instructions n1 n2 : List (Instruction L E P V S F)) (a : Block E P) → length n1 ≡ length instructions + 1 → n2 ≡ n1 ++ block_instructions a (length n1) after leave again d → length n2 ≡ length instructions + 1 + block_size a
  long_yes instructions n1 n2 a len e =
      ap length e ∙ length-append n1 _ ∙ ap (λ x. length n1 + x) (length_block_instructions L E P V S F a (length n1) after leave again d) ∙ ap (λ x. x + block_size a) len

  -- the then part is done, and the else part is one statement
  pub chain_on : (instructions n1 n2 : List (Instruction L E P V S F)) (t u : Statement E P) (e : E) (a : Block E P) (one two : Position) (most left : ℕ) → ChainEmitted instructions t most → t ≡ IfStatement e a (Then u End) → one ≡ first (length instructions + 1) a after → two ≡ fresh (length instructions + 1 + block_size a) → n1 ≡ instructions ++ instruction (Branch e one two) after ∷ [] → n2 ≡ n1 ++ block_instructions a (length n1) after leave again d → left ≡ block_nesting a → ChainEmitted n2 u (max most left)
  chain_on instructions n1 n2 t u e a one two most left h et e1 e2 en1 en2 el =
      let l1 : length n1 ≡ length instructions + 1 = after_one instructions n1 _ en1 in
      let l2 : length n2 ≡ length instructions + 1 + block_size a = long_yes instructions n1 n2 a l1 en2 in
      let last : n2 ++ instructions_of u (length n2) after leave again d ≡ n2 ++ block_instructions (Then u End) (length n2) after leave again d = ap (λ x. n2 ++ x) (sym (append-nil (instructions_of u (length n2) after leave again d))) in
      record {
        items = last ∙ emit_if instructions n1 (length instructions) d refl after leave again n2 (n2 ++ block_instructions (Then u End) (length n2) after leave again d) t e a (Then u End) one two et e1 e2 en1 en2 refl ∙ h.items;
        long = omega (arith, l2, ap size et, h.long);
        more = omega (arith, l2, h.more);
        deep = omega (arith, el, ap nesting et, h.deep);
        whole = 0;
        has = subst (λ x. HasAt extents (length n2) x) (append-nil (extents_of u 0)) (has_no instructions n2 t e a (Then u End) most h et l2);
      }

  -- both parts are done
  pub chain_done : (instructions n1 n2 n3 : List (Instruction L E P V S F)) (t : Statement E P) (e : E) (a b : Block E P) (one two : Position) (most : ℕ) → ChainEmitted instructions t most → t ≡ IfStatement e a b → one ≡ first (length instructions + 1) a after → two ≡ first (length instructions + 1 + block_size a) b after → n1 ≡ instructions ++ instruction (Branch e one two) after ∷ [] → n2 ≡ n1 ++ block_instructions a (length n1) after leave again d → n3 ≡ n2 ++ block_instructions b (length n2) after leave again d → n3 ≡ nodes0 ++ instructions_of all (length nodes0) after leave again d
  chain_done instructions n1 n2 n3 t e a b one two most h et e1 e2 en1 en2 en3 =
      emit_if instructions n1 (length instructions) d refl after leave again n2 n3 t e a b one two et e1 e2 en1 en2 en3 ∙ h.items

pub is_code : {L E P V S F : Type 0} (b : Block E P) (c : Code L E P V S F) (n0 : List (Instruction L E P V S F)) (n : ℕ) → n0 ≡ [] → c.instructions.items ≡ n0 ++ block_instructions b (length n0) (fresh n) (fresh n) (fresh n) 0 → n ≡ block_size b → block_size b < 2 ^ 32 → c.depth ≡ block_nesting b → IsCodeOf b c
is_code {L} {E} {P} {V} {S} {F} b c n0 n e0 e en lt ed =
    let all : c.instructions.items ≡ block_instructions b 0 (fresh n) (fresh n) (fresh n) 0 = e ∙ ap (λ x. x ++ block_instructions b (length x) (fresh n) (fresh n) (fresh n) 0) e0 in
    let len : length c.instructions.items ≡ block_size b = ap length all ∙ length_block_instructions L E P V S F b 0 (fresh n) (fresh n) (fresh n) 0 in
    let same : fresh n ≡ fresh (length c.instructions.items) = ap fresh (en ∙ sym len) in
    record {
      small = omega (arith, len);
      long = len;
      deep = ed;
      has = subst (λ g. HasBlock c.instructions.items c.depth b 0 g g g 0) same (block_instructions_has L E P V S F b c.instructions.items c.depth (fresh n) all (omega (arith, ed)));
    }

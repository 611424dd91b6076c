-- Expressions and left sides as lists, by which proofs tell them apart. This serves the toolchain alone: a type of the program that is
-- seen as a tree has to say how the tree is stored.
use Rattle.std.specs.Prelude.{ℕ, ℤ, suc, zero, Bool, List, [], ◌∷◌, ◌++◌, ◌≡◌, refl}
use Rattle.std.proofs.Common.{ap, sym, ◌∙◌, append_assoc}
use Rattle.mh_num.specs.declared.bounds.Bounds.{Bounds}
use Rattle.mh_design.specs.Tree.{Expression, Expressions, Operator, Integer, Truth, Item, Fixed, Signal, Local, Now, Operation, NoMore, More}

-- A leaf of an expression, or an operator with the number of its parts, which follow it.
pub data Word : Type 0 where
  IntegerWord : ℤ → Word
  TruthWord : Bool → Word
  ItemWord : (enum item : ℕ) → Word
  FixedWord : ℤ → Bounds → Word
  SignalWord : ℕ → Word
  LocalWord : ℕ → Word
  NowWord : Word
  OperatorWord : Operator → ℕ → Word

abbrev pub part_count : Expressions → ℕ
part_count NoMore = zero
part_count (More x xs) = suc (part_count xs)

abbrev mutual
  pub words : Expression → List Word
  words (Integer z) = IntegerWord z ∷ []
  words (Truth b) = TruthWord b ∷ []
  words (Item e i) = ItemWord e i ∷ []
  words (Fixed z b) = FixedWord z b ∷ []
  words (Signal n) = SignalWord n ∷ []
  words (Local n) = LocalWord n ∷ []
  words Now = NowWord ∷ []
  words (Operation o xs) = OperatorWord o (part_count xs) ∷ all_words xs

  pub all_words : Expressions → List Word
  all_words NoMore = []
  all_words (More x xs) = words x ++ all_words xs

-- So many expressions of a list as parts, and the rest of the list.
abbrev pub first_parts : ℕ → List Expression → Expressions
first_parts zero ys = NoMore
first_parts (suc k) [] = NoMore
first_parts (suc k) (y ∷ ys) = More y (first_parts k ys)

abbrev pub after_parts : ℕ → List Expression → List Expression
after_parts zero ys = ys
after_parts (suc k) [] = []
after_parts (suc k) (y ∷ ys) = after_parts k ys

-- One more word in front of expressions.
abbrev pub with_word : Word → List Expression → List Expression
with_word (IntegerWord z) ys = Integer z ∷ ys
with_word (TruthWord b) ys = Truth b ∷ ys
with_word (ItemWord e i) ys = Item e i ∷ ys
with_word (FixedWord z b) ys = Fixed z b ∷ ys
with_word (SignalWord n) ys = Signal n ∷ ys
with_word (LocalWord n) ys = Local n ∷ ys
with_word NowWord ys = Now ∷ ys
with_word (OperatorWord o k) ys = Operation o (first_parts k ys) ∷ after_parts k ys

abbrev pub read_words : List Word → List Expression
read_words [] = []
read_words (t ∷ ts) = with_word t (read_words ts)

abbrev pub first_or_now : List Expression → Expression
first_or_now [] = Now
first_or_now (x ∷ xs) = x

abbrev pub onto : Expressions → List Expression → List Expression
onto NoMore ys = ys
onto (More x xs) ys = x ∷ onto xs ys

first_onto : (xs : Expressions) (ys : List Expression) → first_parts (part_count xs) (onto xs ys) ≡ xs
first_onto NoMore ys = refl
first_onto (More x xs) ys = ap (More x) (first_onto xs ys)

after_onto : (xs : Expressions) (ys : List Expression) → after_parts (part_count xs) (onto xs ys) ≡ ys
after_onto NoMore ys = refl
after_onto (More x xs) ys = after_onto xs ys

mutual
  read-words : (x : Expression) (ts : List Word) → read_words (words x ++ ts) ≡ x ∷ read_words ts
  read-words (Integer z) ts = refl
  read-words (Truth b) ts = refl
  read-words (Item e i) ts = refl
  read-words (Fixed z b) ts = refl
  read-words (Signal n) ts = refl
  read-words (Local n) ts = refl
  read-words Now ts = refl
  read-words (Operation o xs) ts =
      ap (λ ys. with_word (OperatorWord o (part_count xs)) ys) (read-all_words xs ts)
      ∙ ap (λ zs. Operation o zs ∷ after_parts (part_count xs) (onto xs (read_words ts))) (first_onto xs (read_words ts))
      ∙ ap (λ ys. Operation o xs ∷ ys) (after_onto xs (read_words ts))

  read-all_words : (xs : Expressions) (ts : List Word) → read_words (all_words xs ++ ts) ≡ onto xs (read_words ts)
  read-all_words NoMore ts = refl
  read-all_words (More x xs) ts =
      ap read_words (append_assoc (words x) (all_words xs) ts)
      ∙ read-words x (all_words xs ++ ts)
      ∙ ap (λ ys. x ∷ ys) (read-all_words xs ts)

append_nil : (ts : List Word) → ts ++ [] ≡ ts
append_nil [] = refl
append_nil (t ∷ ts) = ap (λ us. t ∷ us) (append_nil ts)

-- An expression is that of its words.
pub expression-words : (x : Expression) → first_or_now (read_words (words x)) ≡ x
expression-words x =
    ap (λ ts. first_or_now (read_words ts)) (sym (append_nil (words x))) ∙ ap first_or_now (read-words x [])

-- A body as the program holds it, seen as a block: each variant of `Step` is the statement of that name.
use Rattle.std.specs.Prelude.{List, [], ◌∷◌}
use Rattle.mh_flat.specs.declared.step.Step.{Step, Set, If', While', Count', Wait, Say, Check, Stop, Break, Continue, Row_of-Step, end_of-Step, more_of-Step, items-the_row-Step, items_hidden-the_row-Step-0}
use Rattle.mh_flat.specs.declared.step.Step.TheBlock.{hidden-the_row-Step-0}
use Rattle.mh_flat.specs.declared.step.Step.TheVariants.{If, While, Count}
use Rattle.std.specs.Prelude.{◌≡◌, refl}
use Rattle.std.proofs.Common.{ap, ◌∙◌, Vec, Global}
use Rattle.mh_flow.specs.Flow.{Statement, Block, SetStatement, IfStatement, WhileStatement, CountStatement, WaitStatement, SayStatement, CheckStatement, StopStatement, BreakStatement, ContinueStatement, End, Then}

abbrev mutual
  pub statement_of : {L E P V S F : Type 0} → Step L E P V S F → Statement E P
  statement_of (Set p e) = SetStatement p e
  statement_of (If' e ra a rb b) = IfStatement e (row_block a) (row_block b)
  statement_of (While' e r b) = WhileStatement e (row_block b)
  statement_of (Count' p a z d r b) = CountStatement p a z d (row_block b)
  statement_of (Wait w) = WaitStatement w
  statement_of (Say w) = SayStatement w
  statement_of (Check e) = CheckStatement e
  statement_of Stop = StopStatement
  statement_of Break = BreakStatement
  statement_of Continue = ContinueStatement

  pub row_block : {L E P V S F : Type 0} {m : _} → Row_of-Step L E P V S F m → Block E P
  row_block end_of-Step = End
  row_block (more_of-Step x xs) = Then (statement_of x) (row_block xs)

abbrev pub block_of : {L E P V S F : Type 0} → List (Step L E P V S F) → Block E P
block_of [] = End
block_of (x ∷ xs) = Then (statement_of x) (block_of xs)

-- A statement that holds others is that of the blocks of those.
row_items : {L E P V S F : Type 0} {m : _} (k : Row_of-Step L E P V S F m) → row_block k ≡ block_of (items-the_row-Step L E P V S F m k)
row_items end_of-Step = refl
row_items (more_of-Step x xs) = ap (Then (statement_of x)) (row_items xs)

pub hidden_block : {L E P V S F : Type 0} (b : Vec (Step L E P V S F) Global) → row_block (hidden-the_row-Step-0 L E P V S F b) ≡ block_of b.items
hidden_block {L} {E} {P} {V} {S} {F} b =
    row_items (hidden-the_row-Step-0 L E P V S F b) ∙ ap block_of (items_hidden-the_row-Step-0 L E P V S F b)

pub statement_while : {L E P V S F : Type 0} (e : E) (b : Vec (Step L E P V S F) Global) → statement_of (While e b) ≡ WhileStatement e (block_of b.items)
statement_while e b = ap (WhileStatement e) (hidden_block b)

pub statement_count : {L E P V S F : Type 0} (p : P) (x y z : E) (b : Vec (Step L E P V S F) Global) → statement_of (Count p x y z b) ≡ CountStatement p x y z (block_of b.items)
statement_count p x y z b = ap (CountStatement p x y z) (hidden_block b)

pub statement_if : {L E P V S F : Type 0} (e : E) (a b : Vec (Step L E P V S F) Global) → statement_of (If e a b) ≡ IfStatement e (block_of a.items) (block_of b.items)
statement_if {L} {E} {P} {V} {S} {F} e a b =
    ap (λ v. IfStatement e v (row_block (hidden-the_row-Step-0 L E P V S F b))) (hidden_block a) ∙ ap (IfStatement e (block_of a.items)) (hidden_block b)

-- The same, where the blocks are known.
pub made_if : {L E P V S F : Type 0} (e : E) (a b : Vec (Step L E P V S F) Global) (x y : Block E P) → block_of a.items ≡ x → block_of b.items ≡ y → statement_of (If e a b) ≡ IfStatement e x y
made_if e a b x y ea eb = statement_if e a b ∙ ap (λ v. IfStatement e v (block_of b.items)) ea ∙ ap (IfStatement e x) eb

pub made_while : {L E P V S F : Type 0} (e : E) (b : Vec (Step L E P V S F) Global) (x : Block E P) → block_of b.items ≡ x → statement_of (While e b) ≡ WhileStatement e x
made_while e b x eb = statement_while e b ∙ ap (WhileStatement e) eb

pub made_count : {L E P V S F : Type 0} (p : P) (u v w : E) (b : Vec (Step L E P V S F) Global) (x : Block E P) → block_of b.items ≡ x → statement_of (Count p u v w b) ≡ CountStatement p u v w x
made_count p u v w b x eb = statement_count p u v w b ∙ ap (CountStatement p u v w) eb

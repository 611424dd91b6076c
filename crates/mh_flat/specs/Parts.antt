-- A statement that was taken apart, seen as the statement.
use Rattle.mh_flat.specs.declared.step.Parts.{Parts}
use Rattle.mh_flat.specs.declared.step.Parts.TheVariants.{Set, If, While, Count, Wait, Say, Check, Stop, Break, Continue}
use Rattle.mh_flow.specs.Flow.{Statement, SetStatement, IfStatement, WhileStatement, CountStatement, WaitStatement, SayStatement, CheckStatement, StopStatement, BreakStatement, ContinueStatement}
use Rattle.mh_flat.specs.Body.{block_of}

abbrev pub statement_of_parts : {L E P V S F : Type 0} → Parts L E P V S F → Statement E P
statement_of_parts (Set p e) = SetStatement p e
statement_of_parts (If e a b) = IfStatement e (block_of a.items) (block_of b.items)
statement_of_parts (While e b) = WhileStatement e (block_of b.items)
statement_of_parts (Count p x y z b) = CountStatement p x y z (block_of b.items)
statement_of_parts (Wait w) = WaitStatement w
statement_of_parts (Say w) = SayStatement w
statement_of_parts (Check e) = CheckStatement e
statement_of_parts Stop = StopStatement
statement_of_parts Break = BreakStatement
statement_of_parts Continue = ContinueStatement

-- The statement is no `If`.
abbrev pub IsNoIf : {L E P V S F : Type 0} → Parts L E P V S F → Type 0
IsNoIf (If e a b) = ⊥
IsNoIf parts = Unit {0}

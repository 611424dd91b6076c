-- Worked examples of the reading: the tree and the depth of a text, read with no more depth than it needs, and the tokens from the
-- one at which a text is refused.
use Rattle.std.proofs.Common.{◌≡◌, ℕ, List, [], ◌∷◌, refl, Ok, Err, Some, None, codes}
use Rattle.mh_reader.specs.Reader.{chain, after, expect, want, nothing, whole, turns, many}
use Rattle.mh_pytok.specs.Words as row
use Rattle.mh_pytok.specs.Lexeme.{Lexeme}
use Rattle.mh_pytok.specs.declared.token.Tok.{Tok}
use Rattle.mh_pytok.specs.declared.token.Tok.TheVariants.{Name, Newline, Indent, Dedent, End, Sign, Keyword}
use Rattle.mh_pytree.specs.declared.expression.Operator.TheVariants as op
use Rattle.mh_pytree.specs.declared.expression.Sign.TheVariants as sign
use Rattle.mh_pytree.specs.declared.expression.PyExpr as X
use Rattle.mh_pytree.specs.declared.expression.PyExpr.TheVariants as e
use Rattle.mh_pytree.specs.declared.statement.PyStmt.TheVariants as s
use Rattle.mh_pyparse.specs.Grammar.{tok, argument}
use Rattle.mh_pyparse.specs.Statements.{branch, definition, param}
use Rattle.mh_pyparse.specs.Operators as o
use Rattle.mh_pyparse.specs.Reading as r
use Rattle.mh_pyparse.specs.ReadingStatements as q

-- the token of this kind on a line
abbrev on : ℕ → Tok → Lexeme
on line kind = tok kind (record { text = []; line = line })

abbrev named : ℕ → List ℕ → Lexeme
named line text = tok Name (record { text = text; line = line })

-- ---- read

read1 :
    -- a - b - c
    (q.text 4 (named 1 (codes "a") ∷ on 1 (Sign 2) ∷ named 1 (codes "b") ∷ on 1 (Sign 2) ∷ named 1 (codes "c") ∷ on 1 Newline ∷ on 1 End ∷ []) ≡ Ok (((s.Value 1 (e.Binary op.Subtract (e.Binary op.Subtract (e.Name (codes "a")) (e.Name (codes "b"))) (e.Name (codes "c"))) ∷ []), 4), [])) ×
    -- not a == b
    (q.text 4 (on 1 (Keyword 27) ∷ named 1 (codes "a") ∷ on 1 (Sign 12) ∷ named 1 (codes "b") ∷ on 1 Newline ∷ on 1 End ∷ []) ≡ Ok (((s.Value 1 (e.Not (e.Binary op.Equal (e.Name (codes "a")) (e.Name (codes "b")))) ∷ []), 4), [])) ×
    -- x = not a and b or c
    (q.text 5 (named 1 (codes "x") ∷ on 1 (Sign 18) ∷ on 1 (Keyword 27) ∷ named 1 (codes "a") ∷ on 1 (Keyword 4) ∷ named 1 (codes "b") ∷ on 1 (Keyword 28) ∷ named 1 (codes "c") ∷ on 1 Newline ∷ on 1 End ∷ []) ≡ Ok (((s.Assign 1 (e.Name (codes "x")) (e.Binary op.Or (e.Binary op.And (e.Not (e.Name (codes "a"))) (e.Name (codes "b"))) (e.Name (codes "c"))) ∷ []), 5), [])) ×
    -- a + -b * c
    (q.text 5 (named 1 (codes "a") ∷ on 1 (Sign 1) ∷ on 1 (Sign 2) ∷ named 1 (codes "b") ∷ on 1 (Sign 3) ∷ named 1 (codes "c") ∷ on 1 Newline ∷ on 1 End ∷ []) ≡ Ok (((s.Value 1 (e.Binary op.Add (e.Name (codes "a")) (e.Binary op.Multiply (e.Unary sign.Minus (e.Name (codes "b"))) (e.Name (codes "c")))) ∷ []), 5), [])) ×
    -- -a.b
    (q.text 4 (on 1 (Sign 2) ∷ named 1 (codes "a") ∷ on 1 (Sign 35) ∷ named 1 (codes "b") ∷ on 1 Newline ∷ on 1 End ∷ []) ≡ Ok (((s.Value 1 (e.Unary sign.Minus (e.Attribute (e.Name (codes "a")) (codes "b"))) ∷ []), 4), [])) ×
    -- a, = b
    (q.text 3 (named 1 (codes "a") ∷ on 1 (Sign 33) ∷ on 1 (Sign 18) ∷ named 1 (codes "b") ∷ on 1 Newline ∷ on 1 End ∷ []) ≡ Ok (((s.Assign 1 (e.Tuple ((e.Name (codes "a")) ∷ [])) (e.Name (codes "b")) ∷ []), 3), [])) ×
    -- (); (a); (a,); (a, b)
    (q.text 3 (on 1 (Sign 29) ∷ on 1 (Sign 30) ∷ on 1 (Sign 36) ∷ on 1 (Sign 29) ∷ named 1 (codes "a") ∷ on 1 (Sign 30) ∷ on 1 (Sign 36) ∷ on 1 (Sign 29) ∷ named 1 (codes "a") ∷ on 1 (Sign 33) ∷ on 1 (Sign 30) ∷ on 1 (Sign 36) ∷ on 1 (Sign 29) ∷ named 1 (codes "a") ∷ on 1 (Sign 33) ∷ named 1 (codes "b") ∷ on 1 (Sign 30) ∷ on 1 Newline ∷ on 1 End ∷ []) ≡ Ok (((s.Value 1 (e.Bracketed []) ∷ s.Value 1 (e.Group (e.Name (codes "a"))) ∷ s.Value 1 (e.Bracketed ((e.Name (codes "a")) ∷ [])) ∷ s.Value 1 (e.Bracketed ((e.Name (codes "a")) ∷ (e.Name (codes "b")) ∷ [])) ∷ []), 3), [])) ×
    -- []; [a]; [a,]; [a for x in r];
    (q.text 3 (on 1 (Sign 31) ∷ on 1 (Sign 32) ∷ on 1 (Sign 36) ∷ on 1 (Sign 31) ∷ named 1 (codes "a") ∷ on 1 (Sign 32) ∷ on 1 (Sign 36) ∷ on 1 (Sign 31) ∷ named 1 (codes "a") ∷ on 1 (Sign 33) ∷ on 1 (Sign 32) ∷ on 1 (Sign 36) ∷ on 1 (Sign 31) ∷ named 1 (codes "a") ∷ on 1 (Keyword 18) ∷ named 1 (codes "x") ∷ on 1 (Keyword 23) ∷ named 1 (codes "r") ∷ on 1 (Sign 32) ∷ on 1 (Sign 36) ∷ on 1 Newline ∷ on 1 End ∷ []) ≡ Ok (((s.Value 1 (e.List []) ∷ s.Value 1 (e.List ((e.Name (codes "a")) ∷ [])) ∷ s.Value 1 (e.List ((e.Name (codes "a")) ∷ [])) ∷ s.Value 1 (e.Comprehension (e.Name (codes "a")) (codes "x") (e.Name (codes "r"))) ∷ []), 3), [])) ×
    -- a[i]; a[i:]; a[i:b]; a[:]
    (q.text 3 (named 1 (codes "a") ∷ on 1 (Sign 31) ∷ named 1 (codes "i") ∷ on 1 (Sign 32) ∷ on 1 (Sign 36) ∷ named 1 (codes "a") ∷ on 1 (Sign 31) ∷ named 1 (codes "i") ∷ on 1 (Sign 34) ∷ on 1 (Sign 32) ∷ on 1 (Sign 36) ∷ named 1 (codes "a") ∷ on 1 (Sign 31) ∷ named 1 (codes "i") ∷ on 1 (Sign 34) ∷ named 1 (codes "b") ∷ on 1 (Sign 32) ∷ on 1 (Sign 36) ∷ named 1 (codes "a") ∷ on 1 (Sign 31) ∷ on 1 (Sign 34) ∷ on 1 (Sign 32) ∷ on 1 Newline ∷ on 1 End ∷ []) ≡ Ok (((s.Value 1 (e.Index (e.Name (codes "a")) (e.Name (codes "i"))) ∷ s.Value 1 (e.Slice (e.Name (codes "a")) (e.Name (codes "i")) None) ∷ s.Value 1 (e.Slice (e.Name (codes "a")) (e.Name (codes "i")) (Some (e.Name (codes "b")))) ∷ s.Value 1 (e.Whole (e.Name (codes "a"))) ∷ []), 3), []))
unfolding r.is r.text_if r.leaf_of q.is_module X.out-PyExpr denote.Hole.Carrier.out chain after expect want nothing whole turns many o.infix_sign o.infix_word o.prefix_of o.augment_sign o.begins_sign o.begins_word r.word_leaf r.leaf r.admits r.closing r.items_turn r.items r.bracketed r.round r.comprehension r.list r.square r.operand r.prefix r.arguments_turn r.sliced r.indexed r.apply r.applied r.operate_turn r.operate r.whole r.tuple_turn r.tuple r.expr r.exprs q.names_turn q.bracketed_names_turn q.imported_names q.imported q.augmented q.valued q.expressed q.returned q.yielded q.raised q.asserted q.holding q.small_by q.small q.line_turn q.simple q.block_turn q.suite q.branch_turn q.otherwise q.conditional q.for_each q.as_long q.param_turn q.defined q.mark_turn q.marked q.compound q.stmt_by q.stmt q.text_turn q.stmts q.text row.level_with row.signs row.keywords
read1 = (refl, refl, refl, refl, refl, refl, refl, refl, refl)

read2 :
    -- f(); f(x, y=a,)
    (q.text 3 (named 1 (codes "f") ∷ on 1 (Sign 29) ∷ on 1 (Sign 30) ∷ on 1 (Sign 36) ∷ named 1 (codes "f") ∷ on 1 (Sign 29) ∷ named 1 (codes "x") ∷ on 1 (Sign 33) ∷ named 1 (codes "y") ∷ on 1 (Sign 18) ∷ named 1 (codes "a") ∷ on 1 (Sign 33) ∷ on 1 (Sign 30) ∷ on 1 Newline ∷ on 1 End ∷ []) ≡ Ok (((s.Value 1 (e.Call (e.Name (codes "f")) []) ∷ s.Value 1 (e.Call (e.Name (codes "f")) (argument None (e.Name (codes "x")) ∷ argument (Some (codes "y")) (e.Name (codes "a")) ∷ [])) ∷ []), 3), [])) ×
    -- a.b <<= c
    (q.text 3 (named 1 (codes "a") ∷ on 1 (Sign 35) ∷ named 1 (codes "b") ∷ on 1 (Sign 27) ∷ named 1 (codes "c") ∷ on 1 Newline ∷ on 1 End ∷ []) ≡ Ok (((s.Augment 1 op.ShiftLeft (e.Attribute (e.Name (codes "a")) (codes "b")) (e.Name (codes "c")) ∷ []), 3), [])) ×
    -- return; return a, b
    (q.text 3 (on 1 (Keyword 31) ∷ on 1 (Sign 36) ∷ on 1 (Keyword 31) ∷ named 1 (codes "a") ∷ on 1 (Sign 33) ∷ named 1 (codes "b") ∷ on 1 Newline ∷ on 1 End ∷ []) ≡ Ok (((s.Return 1 None ∷ s.Return 1 (Some (e.Tuple ((e.Name (codes "a")) ∷ (e.Name (codes "b")) ∷ []))) ∷ []), 3), [])) ×
    -- from myhdl import *; from myhdl import a, b; from myhdl import (a,)
    (q.text 1 (on 1 (Keyword 19) ∷ named 1 (codes "myhdl") ∷ on 1 (Keyword 22) ∷ on 1 (Sign 3) ∷ on 1 (Sign 36) ∷ on 1 (Keyword 19) ∷ named 1 (codes "myhdl") ∷ on 1 (Keyword 22) ∷ named 1 (codes "a") ∷ on 1 (Sign 33) ∷ named 1 (codes "b") ∷ on 1 (Sign 36) ∷ on 1 (Keyword 19) ∷ named 1 (codes "myhdl") ∷ on 1 (Keyword 22) ∷ on 1 (Sign 29) ∷ named 1 (codes "a") ∷ on 1 (Sign 33) ∷ on 1 (Sign 30) ∷ on 1 Newline ∷ on 1 End ∷ []) ≡ Ok (((s.ImportAll 1 ∷ s.Import 1 (codes "a" ∷ codes "b" ∷ []) ∷ s.Import 1 (codes "a" ∷ []) ∷ []), 1), [])) ×
    -- if a: pass
    -- elif b:
    --   break
    --   continue
    -- else: pass
    (q.text 2 (on 1 (Keyword 21) ∷ named 1 (codes "a") ∷ on 1 (Sign 34) ∷ on 1 (Keyword 29) ∷ on 1 Newline ∷ on 2 (Keyword 14) ∷ named 2 (codes "b") ∷ on 2 (Sign 34) ∷ on 2 Newline ∷ on 3 Indent ∷ on 3 (Keyword 9) ∷ on 3 Newline ∷ on 4 (Keyword 11) ∷ on 4 Newline ∷ on 5 Dedent ∷ on 5 (Keyword 15) ∷ on 5 (Sign 34) ∷ on 5 (Keyword 29) ∷ on 5 Newline ∷ on 5 End ∷ []) ≡ Ok (((s.If 1 ((branch (e.Name (codes "a")) (s.Pass 1 ∷ [])) ∷ (branch (e.Name (codes "b")) (s.Break 3 ∷ s.Continue 4 ∷ [])) ∷ []) (Some (s.Pass 5 ∷ [])) ∷ []), 2), [])) ×
    -- if a:
    --   if b: pass
    -- else: pass
    (q.text 3 (on 1 (Keyword 21) ∷ named 1 (codes "a") ∷ on 1 (Sign 34) ∷ on 1 Newline ∷ on 2 Indent ∷ on 2 (Keyword 21) ∷ named 2 (codes "b") ∷ on 2 (Sign 34) ∷ on 2 (Keyword 29) ∷ on 2 Newline ∷ on 3 Dedent ∷ on 3 (Keyword 15) ∷ on 3 (Sign 34) ∷ on 3 (Keyword 29) ∷ on 3 Newline ∷ on 3 End ∷ []) ≡ Ok (((s.If 1 ((branch (e.Name (codes "a")) (s.If 2 ((branch (e.Name (codes "b")) (s.Pass 2 ∷ [])) ∷ []) None ∷ [])) ∷ []) (Some (s.Pass 3 ∷ [])) ∷ []), 3), [])) ×
    -- for i in r: pass
    -- while a: yield b
    (q.text 3 (on 1 (Keyword 18) ∷ named 1 (codes "i") ∷ on 1 (Keyword 23) ∷ named 1 (codes "r") ∷ on 1 (Sign 34) ∷ on 1 (Keyword 29) ∷ on 1 Newline ∷ on 2 (Keyword 33) ∷ named 2 (codes "a") ∷ on 2 (Sign 34) ∷ on 2 (Keyword 35) ∷ named 2 (codes "b") ∷ on 2 Newline ∷ on 2 End ∷ []) ≡ Ok (((s.For 1 (codes "i") (e.Name (codes "r")) (s.Pass 1 ∷ []) ∷ s.While 2 (e.Name (codes "a")) (s.Yield 2 (e.Name (codes "b")) ∷ []) ∷ []), 3), [])) ×
    -- @a
    -- @b(c)
    -- def f(x, y=z,): raise a
    (q.text 3 (on 1 (Sign 37) ∷ named 1 (codes "a") ∷ on 1 Newline ∷ on 2 (Sign 37) ∷ named 2 (codes "b") ∷ on 2 (Sign 29) ∷ named 2 (codes "c") ∷ on 2 (Sign 30) ∷ on 2 Newline ∷ on 3 (Keyword 12) ∷ named 3 (codes "f") ∷ on 3 (Sign 29) ∷ named 3 (codes "x") ∷ on 3 (Sign 33) ∷ named 3 (codes "y") ∷ on 3 (Sign 18) ∷ named 3 (codes "z") ∷ on 3 (Sign 33) ∷ on 3 (Sign 30) ∷ on 3 (Sign 34) ∷ on 3 (Keyword 30) ∷ named 3 (codes "a") ∷ on 3 Newline ∷ on 3 End ∷ []) ≡ Ok (((s.Def (definition ((e.Name (codes "a")) ∷ e.Call (e.Name (codes "b")) (argument None (e.Name (codes "c")) ∷ []) ∷ []) (codes "f") (param (codes "x") None ∷ param (codes "y") (Some (e.Name (codes "z"))) ∷ []) (s.Raise 3 (e.Name (codes "a")) ∷ []) 3) ∷ []), 3), [])) ×
    -- assert a
    -- def f(): pass
    (q.text 2 (on 1 (Keyword 6) ∷ named 1 (codes "a") ∷ on 1 Newline ∷ on 2 (Keyword 12) ∷ named 2 (codes "f") ∷ on 2 (Sign 29) ∷ on 2 (Sign 30) ∷ on 2 (Sign 34) ∷ on 2 (Keyword 29) ∷ on 2 Newline ∷ on 2 End ∷ []) ≡ Ok (((s.Assert 1 (e.Name (codes "a")) None ∷ s.Def (definition [] (codes "f") [] (s.Pass 2 ∷ []) 2) ∷ []), 2), []))
unfolding r.is r.text_if r.leaf_of q.is_module X.out-PyExpr denote.Hole.Carrier.out chain after expect want nothing whole turns many o.infix_sign o.infix_word o.prefix_of o.augment_sign o.begins_sign o.begins_word r.word_leaf r.leaf r.admits r.closing r.items_turn r.items r.bracketed r.round r.comprehension r.list r.square r.operand r.prefix r.arguments_turn r.sliced r.indexed r.apply r.applied r.operate_turn r.operate r.whole r.tuple_turn r.tuple r.expr r.exprs q.names_turn q.bracketed_names_turn q.imported_names q.imported q.augmented q.valued q.expressed q.returned q.yielded q.raised q.asserted q.holding q.small_by q.small q.line_turn q.simple q.block_turn q.suite q.branch_turn q.otherwise q.conditional q.for_each q.as_long q.param_turn q.defined q.mark_turn q.marked q.compound q.stmt_by q.stmt q.text_turn q.stmts q.text row.level_with row.signs row.keywords
read2 = (refl, refl, refl, refl, refl, refl, refl, refl, refl)

-- ---- refused

refused1 :
    -- a == b == c  (at most 9 deep)
    (q.text 9 (named 1 (codes "a") ∷ on 1 (Sign 12) ∷ named 1 (codes "b") ∷ on 1 (Sign 12) ∷ named 1 (codes "c") ∷ on 1 Newline ∷ on 1 End ∷ []) ≡ Err (on 1 (Sign 12) ∷ named 1 (codes "c") ∷ on 1 Newline ∷ on 1 End ∷ [])) ×
    -- a + not b  (at most 9 deep)
    (q.text 9 (named 1 (codes "a") ∷ on 1 (Sign 1) ∷ on 1 (Keyword 27) ∷ named 1 (codes "b") ∷ on 1 Newline ∷ on 1 End ∷ []) ≡ Err (on 1 (Keyword 27) ∷ named 1 (codes "b") ∷ on 1 Newline ∷ on 1 End ∷ [])) ×
    -- a + b += c  (at most 9 deep)
    (q.text 9 (named 1 (codes "a") ∷ on 1 (Sign 1) ∷ named 1 (codes "b") ∷ on 1 (Sign 19) ∷ named 1 (codes "c") ∷ on 1 Newline ∷ on 1 End ∷ []) ≡ Err (on 1 (Sign 19) ∷ named 1 (codes "c") ∷ on 1 Newline ∷ on 1 End ∷ [])) ×
    -- a, b += c  (at most 9 deep)
    (q.text 9 (named 1 (codes "a") ∷ on 1 (Sign 33) ∷ named 1 (codes "b") ∷ on 1 (Sign 19) ∷ named 1 (codes "c") ∷ on 1 Newline ∷ on 1 End ∷ []) ≡ Err (on 1 (Sign 19) ∷ named 1 (codes "c") ∷ on 1 Newline ∷ on 1 End ∷ [])) ×
    -- a = b = c  (at most 9 deep)
    (q.text 9 (named 1 (codes "a") ∷ on 1 (Sign 18) ∷ named 1 (codes "b") ∷ on 1 (Sign 18) ∷ named 1 (codes "c") ∷ on 1 Newline ∷ on 1 End ∷ []) ≡ Err (on 1 (Sign 18) ∷ named 1 (codes "c") ∷ on 1 Newline ∷ on 1 End ∷ [])) ×
    -- x += a, b  (at most 9 deep)
    (q.text 9 (named 1 (codes "x") ∷ on 1 (Sign 19) ∷ named 1 (codes "a") ∷ on 1 (Sign 33) ∷ named 1 (codes "b") ∷ on 1 Newline ∷ on 1 End ∷ []) ≡ Err (on 1 (Sign 33) ∷ named 1 (codes "b") ∷ on 1 Newline ∷ on 1 End ∷ [])) ×
    -- f((a)=b)  (at most 9 deep)
    (q.text 9 (named 1 (codes "f") ∷ on 1 (Sign 29) ∷ on 1 (Sign 29) ∷ named 1 (codes "a") ∷ on 1 (Sign 30) ∷ on 1 (Sign 18) ∷ named 1 (codes "b") ∷ on 1 (Sign 30) ∷ on 1 Newline ∷ on 1 End ∷ []) ≡ Err (on 1 (Sign 18) ∷ named 1 (codes "b") ∷ on 1 (Sign 30) ∷ on 1 Newline ∷ on 1 End ∷ [])) ×
    -- (a b)  (at most 9 deep)
    (q.text 9 (on 1 (Sign 29) ∷ named 1 (codes "a") ∷ named 1 (codes "b") ∷ on 1 (Sign 30) ∷ on 1 Newline ∷ on 1 End ∷ []) ≡ Err (named 1 (codes "b") ∷ on 1 (Sign 30) ∷ on 1 Newline ∷ on 1 End ∷ [])) ×
    -- [a for b.c in r]  (at most 9 deep)
    (q.text 9 (on 1 (Sign 31) ∷ named 1 (codes "a") ∷ on 1 (Keyword 18) ∷ named 1 (codes "b") ∷ on 1 (Sign 35) ∷ named 1 (codes "c") ∷ on 1 (Keyword 23) ∷ named 1 (codes "r") ∷ on 1 (Sign 32) ∷ on 1 Newline ∷ on 1 End ∷ []) ≡ Err (on 1 (Sign 35) ∷ named 1 (codes "c") ∷ on 1 (Keyword 23) ∷ named 1 (codes "r") ∷ on 1 (Sign 32) ∷ on 1 Newline ∷ on 1 End ∷ [])) ×
    -- a[:b]  (at most 9 deep)
    (q.text 9 (named 1 (codes "a") ∷ on 1 (Sign 31) ∷ on 1 (Sign 34) ∷ named 1 (codes "b") ∷ on 1 (Sign 32) ∷ on 1 Newline ∷ on 1 End ∷ []) ≡ Err (named 1 (codes "b") ∷ on 1 (Sign 32) ∷ on 1 Newline ∷ on 1 End ∷ [])) ×
    -- from a import b  (at most 9 deep)
    (q.text 9 (on 1 (Keyword 19) ∷ named 1 (codes "a") ∷ on 1 (Keyword 22) ∷ named 1 (codes "b") ∷ on 1 Newline ∷ on 1 End ∷ []) ≡ Err (named 1 (codes "a") ∷ on 1 (Keyword 22) ∷ named 1 (codes "b") ∷ on 1 Newline ∷ on 1 End ∷ [])) ×
    -- from myhdl import a,  (at most 9 deep)
    (q.text 9 (on 1 (Keyword 19) ∷ named 1 (codes "myhdl") ∷ on 1 (Keyword 22) ∷ named 1 (codes "a") ∷ on 1 (Sign 33) ∷ on 1 Newline ∷ on 1 End ∷ []) ≡ Err (on 1 Newline ∷ on 1 End ∷ [])) ×
    -- pass pass  (at most 9 deep)
    (q.text 9 (on 1 (Keyword 29) ∷ on 1 (Keyword 29) ∷ on 1 Newline ∷ on 1 End ∷ []) ≡ Err (on 1 (Keyword 29) ∷ on 1 Newline ∷ on 1 End ∷ []))
unfolding r.is r.text_if r.leaf_of q.is_module X.out-PyExpr denote.Hole.Carrier.out chain after expect want nothing whole turns many o.infix_sign o.infix_word o.prefix_of o.augment_sign o.begins_sign o.begins_word r.word_leaf r.leaf r.admits r.closing r.items_turn r.items r.bracketed r.round r.comprehension r.list r.square r.operand r.prefix r.arguments_turn r.sliced r.indexed r.apply r.applied r.operate_turn r.operate r.whole r.tuple_turn r.tuple r.expr r.exprs q.names_turn q.bracketed_names_turn q.imported_names q.imported q.augmented q.valued q.expressed q.returned q.yielded q.raised q.asserted q.holding q.small_by q.small q.line_turn q.simple q.block_turn q.suite q.branch_turn q.otherwise q.conditional q.for_each q.as_long q.param_turn q.defined q.mark_turn q.marked q.compound q.stmt_by q.stmt q.text_turn q.stmts q.text row.level_with row.signs row.keywords
refused1 = (refl, refl, refl, refl, refl, refl, refl, refl, refl, refl, refl, refl, refl)

refused2 :
    -- pass;;  (at most 9 deep)
    (q.text 9 (on 1 (Keyword 29) ∷ on 1 (Sign 36) ∷ on 1 (Sign 36) ∷ on 1 Newline ∷ on 1 End ∷ []) ≡ Err (on 1 (Sign 36) ∷ on 1 Newline ∷ on 1 End ∷ [])) ×
    -- if a: if b: pass  (at most 9 deep)
    (q.text 9 (on 1 (Keyword 21) ∷ named 1 (codes "a") ∷ on 1 (Sign 34) ∷ on 1 (Keyword 21) ∷ named 1 (codes "b") ∷ on 1 (Sign 34) ∷ on 1 (Keyword 29) ∷ on 1 Newline ∷ on 1 End ∷ []) ≡ Err (on 1 (Keyword 21) ∷ named 1 (codes "b") ∷ on 1 (Sign 34) ∷ on 1 (Keyword 29) ∷ on 1 Newline ∷ on 1 End ∷ [])) ×
    -- else: pass  (at most 9 deep)
    (q.text 9 (on 1 (Keyword 15) ∷ on 1 (Sign 34) ∷ on 1 (Keyword 29) ∷ on 1 Newline ∷ on 1 End ∷ []) ≡ Err (on 1 (Keyword 15) ∷ on 1 (Sign 34) ∷ on 1 (Keyword 29) ∷ on 1 Newline ∷ on 1 End ∷ [])) ×
    -- if a: pass
    --   pass  (at most 9 deep)
    (q.text 9 (on 1 (Keyword 21) ∷ named 1 (codes "a") ∷ on 1 (Sign 34) ∷ on 1 (Keyword 29) ∷ on 1 Newline ∷ on 2 Indent ∷ on 2 (Keyword 29) ∷ on 2 Newline ∷ on 2 Dedent ∷ on 2 End ∷ []) ≡ Err (on 2 Indent ∷ on 2 (Keyword 29) ∷ on 2 Newline ∷ on 2 Dedent ∷ on 2 End ∷ [])) ×
    -- @a
    -- pass  (at most 9 deep)
    (q.text 9 (on 1 (Sign 37) ∷ named 1 (codes "a") ∷ on 1 Newline ∷ on 2 (Keyword 29) ∷ on 2 Newline ∷ on 2 End ∷ []) ≡ Err (on 2 (Keyword 29) ∷ on 2 Newline ∷ on 2 End ∷ [])) ×
    -- f(  (at most 9 deep)
    (q.text 9 (named 1 (codes "f") ∷ on 1 (Sign 29) ∷ on 1 Newline ∷ on 1 End ∷ []) ≡ Err (on 1 Newline ∷ on 1 End ∷ [])) ×
    -- not a  (at most 2 deep)
    (q.text 2 (on 1 (Keyword 27) ∷ named 1 (codes "a") ∷ on 1 Newline ∷ on 1 End ∷ []) ≡ Err (on 1 (Keyword 27) ∷ named 1 (codes "a") ∷ on 1 Newline ∷ on 1 End ∷ [])) ×
    -- not a  (at most 1 deep)
    (q.text 1 (on 1 (Keyword 27) ∷ named 1 (codes "a") ∷ on 1 Newline ∷ on 1 End ∷ []) ≡ Err (on 1 (Keyword 27) ∷ named 1 (codes "a") ∷ on 1 Newline ∷ on 1 End ∷ [])) ×
    -- a.b  (at most 2 deep)
    (q.text 2 (named 1 (codes "a") ∷ on 1 (Sign 35) ∷ named 1 (codes "b") ∷ on 1 Newline ∷ on 1 End ∷ []) ≡ Err (on 1 (Sign 35) ∷ named 1 (codes "b") ∷ on 1 Newline ∷ on 1 End ∷ [])) ×
    -- a, b  (at most 2 deep)
    (q.text 2 (named 1 (codes "a") ∷ on 1 (Sign 33) ∷ named 1 (codes "b") ∷ on 1 Newline ∷ on 1 End ∷ []) ≡ Err (on 1 (Sign 33) ∷ named 1 (codes "b") ∷ on 1 Newline ∷ on 1 End ∷ [])) ×
    -- (a)  (at most 2 deep)
    (q.text 2 (on 1 (Sign 29) ∷ named 1 (codes "a") ∷ on 1 (Sign 30) ∷ on 1 Newline ∷ on 1 End ∷ []) ≡ Err (named 1 (codes "a") ∷ on 1 (Sign 30) ∷ on 1 Newline ∷ on 1 End ∷ [])) ×
    -- if a: pass  (at most 1 deep)
    (q.text 1 (on 1 (Keyword 21) ∷ named 1 (codes "a") ∷ on 1 (Sign 34) ∷ on 1 (Keyword 29) ∷ on 1 Newline ∷ on 1 End ∷ []) ≡ Err (on 1 (Keyword 21) ∷ named 1 (codes "a") ∷ on 1 (Sign 34) ∷ on 1 (Keyword 29) ∷ on 1 Newline ∷ on 1 End ∷ [])) ×
    -- a + b + c  (at most 3 deep)
    (q.text 3 (named 1 (codes "a") ∷ on 1 (Sign 1) ∷ named 1 (codes "b") ∷ on 1 (Sign 1) ∷ named 1 (codes "c") ∷ on 1 Newline ∷ on 1 End ∷ []) ≡ Err (on 1 (Sign 1) ∷ named 1 (codes "c") ∷ on 1 Newline ∷ on 1 End ∷ []))
unfolding r.is r.text_if r.leaf_of q.is_module X.out-PyExpr denote.Hole.Carrier.out chain after expect want nothing whole turns many o.infix_sign o.infix_word o.prefix_of o.augment_sign o.begins_sign o.begins_word r.word_leaf r.leaf r.admits r.closing r.items_turn r.items r.bracketed r.round r.comprehension r.list r.square r.operand r.prefix r.arguments_turn r.sliced r.indexed r.apply r.applied r.operate_turn r.operate r.whole r.tuple_turn r.tuple r.expr r.exprs q.names_turn q.bracketed_names_turn q.imported_names q.imported q.augmented q.valued q.expressed q.returned q.yielded q.raised q.asserted q.holding q.small_by q.small q.line_turn q.simple q.block_turn q.suite q.branch_turn q.otherwise q.conditional q.for_each q.as_long q.param_turn q.defined q.mark_turn q.marked q.compound q.stmt_by q.stmt q.text_turn q.stmts q.text row.level_with row.signs row.keywords
refused2 = (refl, refl, refl, refl, refl, refl, refl, refl, refl, refl, refl, refl, refl)

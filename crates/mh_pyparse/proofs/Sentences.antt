-- Sentences with their derivations: what the grammar says of them, production by production.
use Rattle.std.proofs.Common.{◌≡◌, ℕ, pos, ◌≤◌, ◌+◌, List, [], ◌∷◌, ◌++◌, Some, None, refl, arith, codes}
use Rattle.mh_pytok.specs.Words.{keywords, signs, level_with}
use Rattle.mh_pytok.specs.Lexeme.{Lexeme}
use Rattle.mh_pytok.specs.Numbers.{number_value}
use Rattle.mh_pytok.specs.declared.token.Tok.{Tok}
use Rattle.mh_pytok.specs.declared.token.Tok.TheVariants.{Name, Number, Newline, Indent, Dedent, End, Sign}
use Rattle.mh_pytree.specs.declared.expression.Operator.{Operator}
use Rattle.mh_pytree.specs.declared.expression.Operator.TheVariants as op
use Rattle.mh_pytree.specs.declared.expression.PyExpr.{PyExpr}
use Rattle.mh_pytree.specs.declared.expression.PyExpr.TheVariants as e
use Rattle.mh_pytree.specs.declared.expression.Argument.{Argument}
use Rattle.mh_pytree.specs.declared.statement.PyStmt.{PyStmt}
use Rattle.mh_pytree.specs.declared.statement.PyStmt.TheVariants as s
use Rattle.mh_pytree.specs.declared.statement.Param.{Param}
use Rattle.mh_pytree.specs.declared.statement.Branch.{Branch}
use Rattle.mh_pyparse.specs.Signs.{def_word, elif_word, else_word, for_word, if_word, in_word, not_word, pass_word, return_word, equals, lparen, rparen, lbracket, rbracket, comma, colon, dot, semicolon, at_sign, spelled, augmented, op_level, left_level}
use Rattle.mh_pyparse.specs.Grammar as g
use Rattle.mh_pyparse.specs.Grammar.{Spot, tok, argument, IsExpr, AreItems, AreArguments, IsArgument, AreExprs}
use Rattle.mh_pyparse.specs.Statements as st
use Rattle.mh_pyparse.specs.Statements.{first_line, param, branch, definition, IsSmall, IsSimple, IsParam, AreParams, AreMarks, IsCompound, AreBranches, IsSuite, IsStmt, AreStmts, IsText}

-- ---- the productions, with what their equations say in place of these

name_ : {l : ℕ} (at : Spot) → l ≤ 12 → IsExpr l (e.Name at.text) (tok Name at ∷ [])
name_ at h0 = g.name at h0 refl refl

number_ : {l : ℕ} (at : Spot) → l ≤ 12 → IsExpr l (e.Number (pos (number_value at.text))) (tok Number at ∷ [])
number_ at h0 = g.number at h0 refl refl

empty_ : {l : ℕ} (at to : Spot) → l ≤ 12 → IsExpr l (e.Bracketed []) (tok lparen at ∷ tok rparen to ∷ [])
empty_ at to h0 = g.empty at to h0 refl refl

bracketed_ : {l : ℕ} (at between to : Spot) {x : PyExpr} {others : List PyExpr} {v w : List Lexeme} → l ≤ 12 → IsExpr 1 x v → AreItems others w → IsExpr l (e.Bracketed (x ∷ others)) (tok lparen at ∷ (v ++ tok comma between ∷ (w ++ tok rparen to ∷ [])))
bracketed_ at between to h0 h1 h2 = g.bracketed at between to _ _ _ _ h0 h1 h2 refl refl

list_ : {l : ℕ} (at to : Spot) {xs : List PyExpr} {v : List Lexeme} → l ≤ 12 → AreItems xs v → IsExpr l (e.List xs) (tok lbracket at ∷ (v ++ tok rbracket to ∷ []))
list_ at to h0 h1 = g.list at to _ _ h0 h1 refl refl

comprehension_ : {l : ℕ} (at at_for at_name at_in to : Spot) {a b : PyExpr} {v w : List Lexeme} → l ≤ 12 → IsExpr 1 a v → IsExpr 1 b w → IsExpr l (e.Comprehension a at_name.text b) (tok lbracket at ∷ (v ++ tok for_word at_for ∷ tok Name at_name ∷ tok in_word at_in ∷ (w ++ tok rbracket to ∷ [])))
comprehension_ at at_for at_name at_in to h0 h1 h2 = g.comprehension at at_for at_name at_in to _ _ _ _ h0 h1 h2 refl refl

negation_ : {l : ℕ} (at : Spot) {a : PyExpr} {v : List Lexeme} → l ≤ 3 → IsExpr 3 a v → IsExpr l (e.Not a) (tok not_word at ∷ v)
negation_ at h0 h1 = g.negation at _ _ h0 h1 refl refl

binary_ : {l : ℕ} (op : Operator) (at : Spot) {a b : PyExpr} {v w : List Lexeme} → l ≤ op_level op → IsExpr (left_level op) a v → IsExpr (op_level op + 1) b w → IsExpr l (e.Binary op a b) (v ++ tok (spelled op) at ∷ w)
binary_ op at h0 h1 h2 = g.binary op at _ _ _ _ h0 h1 h2 refl refl

attribute_ : {l : ℕ} (at at_name : Spot) {a : PyExpr} {v : List Lexeme} → l ≤ 12 → IsExpr 12 a v → IsExpr l (e.Attribute a at_name.text) (v ++ tok dot at ∷ tok Name at_name ∷ [])
attribute_ at at_name h0 h1 = g.attribute at at_name _ _ h0 h1 refl refl

call_ : {l : ℕ} (at to : Spot) {f : PyExpr} {xs : List Argument} {v w : List Lexeme} → l ≤ 12 → IsExpr 12 f v → AreArguments xs w → IsExpr l (e.Call f xs) (v ++ tok lparen at ∷ (w ++ tok rparen to ∷ []))
call_ at to h0 h1 h2 = g.call at to _ _ _ _ h0 h1 h2 refl refl

index_ : {l : ℕ} (at to : Spot) {a b : PyExpr} {v w : List Lexeme} → l ≤ 12 → IsExpr 12 a v → IsExpr 1 b w → IsExpr l (e.Index a b) (v ++ tok lbracket at ∷ (w ++ tok rbracket to ∷ []))
index_ at to h0 h1 h2 = g.index at to _ _ _ _ h0 h1 h2 refl refl

slice_from_ : {l : ℕ} (at between to : Spot) {a b : PyExpr} {v w : List Lexeme} → l ≤ 12 → IsExpr 12 a v → IsExpr 1 b w → IsExpr l (e.Slice a b None) (v ++ tok lbracket at ∷ (w ++ tok colon between ∷ tok rbracket to ∷ []))
slice_from_ at between to h0 h1 h2 = g.slice_from at between to _ _ _ _ h0 h1 h2 refl refl

whole_ : {l : ℕ} (at between to : Spot) {a : PyExpr} {v : List Lexeme} → l ≤ 12 → IsExpr 12 a v → IsExpr l (e.Whole a) (v ++ tok lbracket at ∷ tok colon between ∷ tok rbracket to ∷ [])
whole_ at between to h0 h1 = g.whole at between to _ _ h0 h1 refl refl

none_ : AreItems ([]) ([])
none_ = g.none refl refl

last_ : {u : List Lexeme} {x : PyExpr} → IsExpr 1 x u → AreItems (x ∷ []) u
last_ h0 = g.last _ h0 refl

more_ : (at : Spot) {x : PyExpr} {others : List PyExpr} {v w : List Lexeme} → IsExpr 1 x v → AreItems others w → AreItems (x ∷ others) (v ++ tok comma at ∷ w)
more_ at h0 h1 = g.more at _ _ _ _ h0 h1 refl refl

none_given_ : AreArguments ([]) ([])
none_given_ = g.none_given refl refl

last_given_ : {u : List Lexeme} {x : Argument} → IsArgument x u → AreArguments (x ∷ []) u
last_given_ h0 = g.last_given _ h0 refl

more_given_ : (at : Spot) {x : Argument} {others : List Argument} {v w : List Lexeme} → IsArgument x v → AreArguments others w → AreArguments (x ∷ others) (v ++ tok comma at ∷ w)
more_given_ at h0 h1 = g.more_given at _ _ _ _ h0 h1 refl refl

plain_ : {u : List Lexeme} {a : PyExpr} → IsExpr 1 a u → IsArgument (argument None a) u
plain_ h0 = g.plain _ h0 refl

named_ : (at_name at : Spot) {a : PyExpr} {v : List Lexeme} → IsExpr 1 a v → IsArgument (argument (Some at_name.text) a) (tok Name at_name ∷ tok equals at ∷ v)
named_ at_name at h0 = g.named at_name at _ _ h0 refl refl

single_ : {t : PyExpr} {u : List Lexeme} → IsExpr 1 t u → AreExprs t u
single_ h0 = g.single h0

tuple_ : (at : Spot) {x : PyExpr} {others : List PyExpr} {v w : List Lexeme} → IsExpr 1 x v → AreItems others w → AreExprs (e.Tuple (x ∷ others)) (v ++ tok comma at ∷ w)
tuple_ at h0 h1 = g.tuple at _ _ _ _ h0 h1 refl refl

value_ : {u : List Lexeme} {a : PyExpr} → AreExprs a u → IsSmall (s.Value (first_line u) a) u
value_ h0 = st.value _ h0 refl

assign_ : (at : Spot) {a b : PyExpr} {v w : List Lexeme} → AreExprs a v → AreExprs b w → IsSmall (s.Assign (first_line v) a b) (v ++ tok equals at ∷ w)
assign_ at h0 h1 = st.assign at _ _ _ _ h0 h1 refl refl

augment_ : (op : Operator) (sign : Tok) (at : Spot) {a b : PyExpr} {v w : List Lexeme} → augmented op ≡ Some sign → IsExpr 12 a v → IsExpr 1 b w → IsSmall (s.Augment (first_line v) op a b) (v ++ tok sign at ∷ w)
augment_ op sign at h0 h1 h2 = st.augment op sign at _ _ _ _ h0 h1 h2 refl refl

pass_ : (at : Spot) → IsSmall (s.Pass at.line) (tok pass_word at ∷ [])
pass_ at = st.pass at refl refl

return_ : (at : Spot) → IsSmall (s.Return at.line None) (tok return_word at ∷ [])
return_ at = st.return at refl refl

return_value_ : (at : Spot) {a : PyExpr} {v : List Lexeme} → AreExprs a v → IsSmall (s.Return at.line (Some a)) (tok return_word at ∷ v)
return_value_ at h0 = st.return_value at _ _ h0 refl refl

ended_ : (to : Spot) {x : PyStmt} {v : List Lexeme} → IsSmall x v → IsSimple (x ∷ []) (v ++ tok Newline to ∷ [])
ended_ to h0 = st.ended to _ _ h0 refl refl

then_ : (at : Spot) {x : PyStmt} {others : List PyStmt} {v w : List Lexeme} → IsSmall x v → IsSimple others w → IsSimple (x ∷ others) (v ++ tok semicolon at ∷ w)
then_ at h0 h1 = st.then at _ _ _ _ h0 h1 refl refl

bare_ : (at : Spot) → IsParam (param at.text None) (tok Name at ∷ [])
bare_ at = st.bare at refl refl

valued_ : (at between : Spot) {a : PyExpr} {v : List Lexeme} → IsExpr 1 a v → IsParam (param at.text (Some a)) (tok Name at ∷ tok equals between ∷ v)
valued_ at between h0 = st.valued at between _ _ h0 refl refl

no_param_ : AreParams ([]) ([])
no_param_ = st.no_param refl refl

last_param_ : {u : List Lexeme} {x : Param} → IsParam x u → AreParams (x ∷ []) u
last_param_ h0 = st.last_param _ h0 refl

more_params_ : (at : Spot) {x : Param} {others : List Param} {v w : List Lexeme} → IsParam x v → AreParams others w → AreParams (x ∷ others) (v ++ tok comma at ∷ w)
more_params_ at h0 h1 = st.more_params at _ _ _ _ h0 h1 refl refl

no_mark_ : AreMarks ([]) ([])
no_mark_ = st.no_mark refl refl

mark_ : (at to : Spot) {a : PyExpr} {others : List PyExpr} {v w : List Lexeme} → IsExpr 12 a v → AreMarks others w → AreMarks (a ∷ others) (tok at_sign at ∷ (v ++ tok Newline to ∷ w))
mark_ at to h0 h1 = st.mark at to _ _ _ _ h0 h1 refl refl

def_ : (at at_name from to at_colon : Spot) {marks : List PyExpr} {params : List Param} {body : List PyStmt} {v w x : List Lexeme} → AreMarks marks v → AreParams params w → IsSuite body x → IsCompound (s.Def (definition marks at_name.text params body at.line)) (v ++ tok def_word at ∷ tok Name at_name ∷ tok lparen from ∷ (w ++ tok rparen to ∷ tok colon at_colon ∷ x))
def_ at at_name from to at_colon h0 h1 h2 = st.def at at_name from to at_colon _ _ _ _ _ _ h0 h1 h2 refl refl

branches_ : (at : Spot) {all : List Branch} {v : List Lexeme} → AreBranches all v → IsCompound (s.If at.line all None) (tok if_word at ∷ v)
branches_ at h0 = st.branches at _ _ h0 refl refl

branches_else_ : (at at_else at_colon : Spot) {all : List Branch} {body : List PyStmt} {v w : List Lexeme} → AreBranches all v → IsSuite body w → IsCompound (s.If at.line all (Some body)) (tok if_word at ∷ (v ++ tok else_word at_else ∷ tok colon at_colon ∷ w))
branches_else_ at at_else at_colon h0 h1 = st.branches_else at at_else at_colon _ _ _ _ h0 h1 refl refl

last_branch_ : (at : Spot) {test : PyExpr} {body : List PyStmt} {v w : List Lexeme} → IsExpr 1 test v → IsSuite body w → AreBranches (branch test body ∷ []) (v ++ tok colon at ∷ w)
last_branch_ at h0 h1 = st.last_branch at _ _ _ _ h0 h1 refl refl

elif_ : (at at_elif : Spot) {test : PyExpr} {body : List PyStmt} {others : List Branch} {v w x : List Lexeme} → IsExpr 1 test v → IsSuite body w → AreBranches others x → AreBranches (branch test body ∷ others) (v ++ tok colon at ∷ (w ++ tok elif_word at_elif ∷ x))
elif_ at at_elif h0 h1 h2 = st.elif at at_elif _ _ _ _ _ _ h0 h1 h2 refl refl

line_ : {body : List PyStmt} {u : List Lexeme} → IsSimple body u → IsSuite body u
line_ h0 = st.line h0

block_ : {body : List PyStmt} (at from to : Spot) {v : List Lexeme} → AreStmts body v → IsSuite body (tok Newline at ∷ tok Indent from ∷ (v ++ tok Dedent to ∷ []))
block_ at from to h0 = st.block at from to _ h0 refl

simple_ : {body : List PyStmt} {u : List Lexeme} → IsSimple body u → IsStmt body u
simple_ h0 = st.simple h0

compound_ : {u : List Lexeme} {t : PyStmt} → IsCompound t u → IsStmt (t ∷ []) u
compound_ h0 = st.compound _ h0 refl

one_stmt_ : {body : List PyStmt} {u : List Lexeme} → IsStmt body u → AreStmts body u
one_stmt_ h0 = st.one h0

more_stmts_ : {first others : List PyStmt} {v w : List Lexeme} → IsStmt first v → AreStmts others w → AreStmts (first ++ others) (v ++ w)
more_stmts_ h0 h1 = st.more _ _ _ _ h0 h1 refl refl

full_ : {body : List PyStmt} (to : Spot) {v : List Lexeme} → AreStmts body v → IsText body (v ++ tok End to ∷ [])
full_ to h0 = st.full to _ h0 refl

-- ---- sentences

abbrev at : ℕ → Spot
at line = record { text = []; line = line }

abbrev word : List ℕ → Spot
word text = record { text = text; line = 1 }

abbrev sign : Tok → Lexeme
sign kind = tok kind (at 1)

abbrev named : List ℕ → Lexeme
named text = tok Name (word text)

abbrev v : List ℕ → PyExpr
v text = e.Name text

n : {l : ℕ} (text : List ℕ) → l ≤ 12 → IsExpr l (v text) (named text ∷ [])
n text h = name_ (word text) h

-- x = a & b
bitwise_and : IsSmall (s.Assign 1 (v (codes "x")) (e.Binary op.BitAnd (v (codes "a")) (v (codes "b"))))
    (named (codes "x") ∷ sign equals ∷ named (codes "a") ∷ sign (Sign 6) ∷ named (codes "b") ∷ [])
unfolding level_with keywords signs
bitwise_and = assign_ (at 1) (single_ (n (codes "x") (omega arith)))
    (single_ (binary_ op.BitAnd (at 1) (omega arith) (n (codes "a") (omega arith)) (n (codes "b") (omega arith))))

-- a - b - c
differences : IsExpr 1 (e.Binary op.Subtract (e.Binary op.Subtract (v (codes "a")) (v (codes "b"))) (v (codes "c")))
    (named (codes "a") ∷ sign (Sign 2) ∷ named (codes "b") ∷ sign (Sign 2) ∷ named (codes "c") ∷ [])
unfolding level_with keywords signs
differences = binary_ op.Subtract (at 1) (omega arith)
    (binary_ op.Subtract (at 1) (omega arith) (n (codes "a") (omega arith)) (n (codes "b") (omega arith)))
    (n (codes "c") (omega arith))

-- not a == b
unequal : IsExpr 1 (e.Not (e.Binary op.Equal (v (codes "a")) (v (codes "b"))))
    (sign not_word ∷ named (codes "a") ∷ sign (Sign 12) ∷ named (codes "b") ∷ [])
unfolding level_with keywords signs
unequal = negation_ (at 1) (omega arith) (binary_ op.Equal (at 1) (omega arith) (n (codes "a") (omega arith)) (n (codes "b") (omega arith)))

-- f(x, y=1,)
called : IsExpr 1 (e.Call (v (codes "f")) (argument None (v (codes "x")) ∷ argument (Some (codes "y")) (e.Number (pos (number_value (codes "1")))) ∷ []))
    (named (codes "f") ∷ sign lparen ∷ named (codes "x") ∷ sign comma ∷ named (codes "y") ∷ sign equals ∷ tok Number (word (codes "1")) ∷ sign comma ∷ sign rparen ∷ [])
called = call_ (at 1) (at 1) (omega arith) (n (codes "f") (omega arith))
    (more_given_ (at 1) (plain_ (n (codes "x") (omega arith)))
    (more_given_ (at 1) (named_ (word (codes "y")) (at 1) (number_ (word (codes "1")) (omega arith))) none_given_))

-- a[i:] and a[:]
upper_bits : IsExpr 1 (e.Slice (v (codes "a")) (v (codes "i")) None)
    (named (codes "a") ∷ sign lbracket ∷ named (codes "i") ∷ sign colon ∷ sign rbracket ∷ [])
upper_bits = slice_from_ (at 1) (at 1) (at 1) (omega arith) (n (codes "a") (omega arith)) (n (codes "i") (omega arith))

all_bits : IsExpr 1 (e.Whole (v (codes "a"))) (named (codes "a") ∷ sign lbracket ∷ sign colon ∷ sign rbracket ∷ [])
all_bits = whole_ (at 1) (at 1) (at 1) (omega arith) (n (codes "a") (omega arith))

-- [e for x in r]
made_list : IsExpr 1 (e.Comprehension (v (codes "e")) (codes "x") (v (codes "r")))
    (sign lbracket ∷ named (codes "e") ∷ sign for_word ∷ named (codes "x") ∷ sign in_word ∷ named (codes "r") ∷ sign rbracket ∷ [])
made_list = comprehension_ (at 1) (at 1) (word (codes "x")) (at 1) (at 1) (omega arith) (n (codes "e") (omega arith)) (n (codes "r") (omega arith))

-- () and (a,), which are no group
no_items : IsExpr 1 (e.Bracketed []) (sign lparen ∷ sign rparen ∷ [])
no_items = empty_ (at 1) (at 1) (omega arith)

one_item : IsExpr 1 (e.Bracketed (v (codes "a") ∷ [])) (sign lparen ∷ named (codes "a") ∷ sign comma ∷ sign rparen ∷ [])
one_item = bracketed_ (at 1) (at 1) (at 1) (omega arith) (n (codes "a") (omega arith)) none_

passes : (line : ℕ) → IsSimple (s.Pass line ∷ []) (tok pass_word (at line) ∷ tok Newline (at line) ∷ [])
passes line = ended_ (at line) (pass_ (at line))

-- if a: pass
-- elif b: pass
-- else:
--     pass
branching : IsCompound (s.If 1 (branch (v (codes "a")) (s.Pass 1 ∷ []) ∷ branch (v (codes "b")) (s.Pass 2 ∷ []) ∷ []) (Some (s.Pass 4 ∷ [])))
    (sign if_word ∷ named (codes "a") ∷ sign colon ∷ sign pass_word ∷ sign Newline
    ∷ tok elif_word (at 2) ∷ named (codes "b") ∷ tok colon (at 2) ∷ tok pass_word (at 2) ∷ tok Newline (at 2)
    ∷ tok else_word (at 3) ∷ tok colon (at 3) ∷ tok Newline (at 3) ∷ tok Indent (at 4) ∷ tok pass_word (at 4) ∷ tok Newline (at 4) ∷ tok Dedent (at 5) ∷ [])
branching = branches_else_ (at 1) (at 3) (at 3)
    (elif_ (at 1) (at 2) (n (codes "a") (omega arith)) (line_ (passes 1)) (last_branch_ (at 2) (n (codes "b") (omega arith)) (line_ (passes 2))))
    (block_ (at 3) (at 4) (at 5) (one_stmt_ (simple_ (passes 4))))

-- @a.b
-- def f(x, y=z): return
marked_definition : IsCompound (s.Def (definition (e.Attribute (v (codes "a")) (codes "b") ∷ []) (codes "f") (param (codes "x") None ∷ param (codes "y") (Some (v (codes "z"))) ∷ []) (s.Return 2 None ∷ []) 2))
    (sign at_sign ∷ named (codes "a") ∷ sign dot ∷ named (codes "b") ∷ sign Newline
    ∷ tok def_word (at 2) ∷ named (codes "f") ∷ sign lparen ∷ named (codes "x") ∷ sign comma ∷ named (codes "y") ∷ sign equals ∷ named (codes "z") ∷ sign rparen ∷ sign colon
    ∷ tok return_word (at 2) ∷ tok Newline (at 2) ∷ [])
marked_definition = def_ (at 2) (word (codes "f")) (at 1) (at 1) (at 1)
    (mark_ (at 1) (at 1) (attribute_ (at 1) (word (codes "b")) (omega arith) (n (codes "a") (omega arith))) no_mark_)
    (more_params_ (at 1) (bare_ (word (codes "x"))) (last_param_ (valued_ (word (codes "y")) (at 1) (n (codes "z") (omega arith)))))
    (line_ (ended_ (at 2) (return_ (at 2))))

-- pass; x += 1; a, b = c
row : IsText (s.Pass 1 ∷ s.Augment 1 op.Add (v (codes "x")) (e.Number (pos (number_value (codes "1")))) ∷ s.Assign 1 (e.Tuple (v (codes "a") ∷ v (codes "b") ∷ [])) (v (codes "c")) ∷ [])
    (sign pass_word ∷ sign semicolon ∷ named (codes "x") ∷ sign (Sign 19) ∷ tok Number (word (codes "1")) ∷ sign semicolon
    ∷ named (codes "a") ∷ sign comma ∷ named (codes "b") ∷ sign equals ∷ named (codes "c") ∷ sign Newline ∷ tok End (at 2) ∷ [])
row = full_ (at 2) (one_stmt_ (simple_
    (then_ (at 1) (pass_ (at 1))
    (then_ (at 1) (augment_ op.Add (Sign 19) (at 1) refl (n (codes "x") (omega arith)) (number_ (word (codes "1")) (omega arith)))
    (ended_ (at 1) (assign_ (at 1) (tuple_ (at 1) (n (codes "a") (omega arith)) (last_ (n (codes "b") (omega arith)))) (single_ (n (codes "c") (omega arith)))))))))

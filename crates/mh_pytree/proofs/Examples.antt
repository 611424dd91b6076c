-- Worked examples of the definitions.
use Rattle.std.proofs.Common.{◌≡◌, pos, [], ◌∷◌, None, true, false, codes}
use Rattle.mh_text.specs.Characters.{is_identifier}
use Rattle.mh_pytree.specs.declared.expression.Operator.TheVariants as op
use Rattle.mh_pytree.specs.declared.expression.PyExpr.TheVariants as e
use Rattle.mh_pytree.specs.declared.statement.PyStmt.TheVariants as s
use Rattle.mh_pytree.specs.Depth.{expr_depth, stmt_depth, text_depth}
use Rattle.mh_pytree.specs.Names.{are_names, stmt_names}
use Rattle.mh_pytree.proofs.Depths.{expr_depths, stmt_depths}
use Rattle.mh_pytree.proofs.NameLaws.{expr_name_laws, stmt_name_laws}

-- `x = not (y, 1)[2:]` is 5 deep: the statement, `not`, the slice, the brackets, the name
example_depth : stmt_depth (s.Assign 1 (e.Name (codes "x")) (e.Not (e.Slice (e.Bracketed (e.Name (codes "y") ∷ e.Number (pos 1) ∷ [])) (e.Number (pos 2)) None))) ≡ 5
example_depth = simp (expr_depths, stmt_depths)

-- `pass` is 1 deep, and a source without statements 0
example_pass : text_depth (s.Pass 1 ∷ []) ≡ 1
example_pass = simp stmt_depths

-- a row of operators nests to the left: `a + a + a` is 3 deep
example_row : expr_depth (e.Binary op.Add (e.Binary op.Add (e.Name (codes "a")) (e.Name (codes "a"))) (e.Name (codes "a"))) ≡ 3
example_row = simp expr_depths

-- `a.b_1` has names of Python, and `a.1b` hasn't
example_names : are_names (s.Value 1 (e.Attribute (e.Name (codes "a")) (codes "b_1")) ∷ []) ≡ true
unfolding is_identifier
example_names = simp (expr_name_laws, stmt_name_laws)

example_no_name : stmt_names (s.Value 1 (e.Attribute (e.Name (codes "a")) (codes "1b"))) ≡ false
unfolding is_identifier
example_no_name = simp (expr_name_laws, stmt_name_laws)

-- The line of a statement is that of its plain form.
use Rattle.std.proofs.Common.{◌≡◌, ap, sym, subst, ◌∙◌}
use Rattle.mh_pytree.specs.Lines as tree
use Rattle.mh_pytree.specs.declared.statement.PyStmt.{PyStmt, PyStmt-F, roll-PyStmt}
use Rattle.mh_pytree.specs.declared.statement.PyStmt.TheVariants as s
use Rattle.mh_pytree.specs.declared.statement.Branch.{Branch}
use Rattle.mh_pytree.specs.declared.statement.FuncDef.{FuncDef}
use Rattle.mh_pytree.specs.declared.statement.PyStmt.TheFolds.{ind-PyStmt}
use Rattle.mh_pytree.proofs.LineLaws as tree_law
use Rattle.mh_world.specs.Statements.{line_of, line_of_def, st_of}
use Rattle.mh_world.proofs.Shapes as law

abbrev P : PyStmt → Type 0
P s = line_of (st_of s) ≡ tree.line_of s

rolled : (x : PyStmt-F PyStmt Branch FuncDef) → P (roll-PyStmt x)
rolled (PyStmt-F.Value l e) = subst P (sym (s.rolls-Value l e)) (ap line_of (law.st-value l e) ∙ sym (tree_law.line-value l e))
rolled (PyStmt-F.Assign l t e) = subst P (sym (s.rolls-Assign l t e)) (ap line_of (law.st-assign l t e) ∙ sym (tree_law.line-assign l t e))
rolled (PyStmt-F.Augment l op t e) = subst P (sym (s.rolls-Augment l op t e)) (ap line_of (law.st-augment l op t e) ∙ sym (tree_law.line-augment l op t e))
rolled (PyStmt-F.Pass l) = subst P (sym (s.rolls-Pass l)) (ap line_of (law.st-pass l) ∙ sym (tree_law.line-pass l))
rolled (PyStmt-F.Break l) = subst P (sym (s.rolls-Break l)) (ap line_of (law.st-break l) ∙ sym (tree_law.line-break l))
rolled (PyStmt-F.Continue l) = subst P (sym (s.rolls-Continue l)) (ap line_of (law.st-continue l) ∙ sym (tree_law.line-continue l))
rolled (PyStmt-F.Return l e) = subst P (sym (s.rolls-Return l e)) (ap line_of (law.st-return l e) ∙ sym (tree_law.line-return l e))
rolled (PyStmt-F.Yield l e) = subst P (sym (s.rolls-Yield l e)) (ap line_of (law.st-yield l e) ∙ sym (tree_law.line-yield l e))
rolled (PyStmt-F.Raise l e) = subst P (sym (s.rolls-Raise l e)) (ap line_of (law.st-raise l e) ∙ sym (tree_law.line-raise l e))
rolled (PyStmt-F.Assert l e m) = subst P (sym (s.rolls-Assert l e m)) (ap line_of (law.st-assert l e m) ∙ sym (tree_law.line-assert l e m))
rolled (PyStmt-F.ImportAll l) = subst P (sym (s.rolls-ImportAll l)) (ap line_of (law.st-import_all l) ∙ sym (tree_law.line-importall l))
rolled (PyStmt-F.Import l ts) = subst P (sym (s.rolls-Import l ts)) (ap line_of (law.st-import l ts) ∙ sym (tree_law.line-import l ts))
rolled (PyStmt-F.Def f) = subst P (sym (s.rolls-Def f)) (ap line_of (law.st-def f) ∙ (ap line_of_def (law.fn-def f) ∙ sym (tree_law.line-def f)))
rolled (PyStmt-F.If l bs o) = subst P (sym (s.rolls-If l bs o)) (ap line_of (law.st-if l bs o) ∙ sym (tree_law.line-if l bs o))
rolled (PyStmt-F.For l t e b) = subst P (sym (s.rolls-For l t e b)) (ap line_of (law.st-for l t e b) ∙ sym (tree_law.line-for l t e b))
rolled (PyStmt-F.While l e b) = subst P (sym (s.rolls-While l e b)) (ap line_of (law.st-while l e b) ∙ sym (tree_law.line-while l e b))

pub line_of_stmt : (s : PyStmt) → line_of (st_of s) ≡ tree.line_of s
line_of_stmt = ind-PyStmt P (λ b. Unit {0}) (λ f. Unit {0}) (λ x y is. rolled x) (λ x y is. tt) (λ x y is. tt)

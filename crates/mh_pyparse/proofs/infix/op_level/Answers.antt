use Rattle.std.proofs.Common.{ℕ, ◌≤◌, ◌∙◌, sym, ap, subst}
use Rattle.mh_pytok.specs.Words.{level_of}
use Rattle.mh_pyparse.proofs.Levels.{op-most}
use Rattle.mh_pyparse.proofs.infix.op_level.Goals as goal

pub returns-clause-small : goal.returns-clause-small
returns-clause-small c = subst (λ (n : ℕ). n ≤ 10) (sym (c.level_of.ensures ∙ ap level_of c.spelled.ensures)) (op-most c.args.op)

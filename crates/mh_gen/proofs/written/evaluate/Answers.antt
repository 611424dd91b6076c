use Rattle.std.proofs.Common.{pos, ap, sym, ◌∙◌, rules}
use Rattle.std.proofs.lemmas.Int.{to_z-of_z}
use Rattle.std.specs.Int.{w128}
use Rattle.std.specs.Int.RustNames.{FitsSigned}
use Rattle.mh_design.specs.Values.{value_of}
use Rattle.mh_gen.specs.Written.{written_seen}
use Rattle.mh_gen.proofs.Writing.{difference_of, value-negative}
use Rattle.mh_gen.proofs.written.evaluate.Goals as goal

pub returns-in-Negative : goal.returns-in-Negative
returns-in-Negative c =
    let f : FitsSigned w128 c.in-Negative.z = search rules in
    c.difference-in-Negative.ensures
    ∙ ap (difference_of (pos 0)) (to_z-of_z w128 c.in-Negative.z f)
    ∙ sym (value-negative c.args.s.now c.in-Negative.z)
    ∙ ap (λ e. value_of (written_seen e) c.args.s.now) (sym c.in-Negative.is)

use Rattle.std.proofs.Common.{◌∙◌}
use Rattle.std.specs.List.{flat_map}
use Rattle.std.specs.BTreeSet.{contains}
use Rattle.std.specs.Ordering.{nat_cmp}
use Rattle.mh_design.specs.Numbering.{block_expressions, block_statements, body_of}
use Rattle.mh_design.specs.Uses.{read_by, driven_by}
use Rattle.mh_world.specs.View.{made_of}
use Rattle.mh_plans.specs.Plans as spec
use Rattle.mh_plans.proofs.SetLaws.{four_added}
use Rattle.mh_plans.proofs.chosen.use_signals.Goals as goal

pub returns : goal.returns
returns c n =
    four_added (contains nat_cmp c.args.used.now n) (contains nat_cmp c.add_all.new.set n) (contains nat_cmp c.add_all-2.new.set n) (contains nat_cmp c.add_all-3.new.set n) (contains nat_cmp c.add_all-4.new.set n)
    c.as_slice.result.now c.as_slice-2.result.now c.args.waited.now c.as_slice-3.result.now
    (flat_map (read_by c.args.d.now) (block_expressions (body_of c.args.made.now.generator))) (flat_map (driven_by c.args.d.now) (block_statements (body_of c.args.made.now.generator))) (spec.waited_in (made_of c.args.made.now)) (spec.start_signals c.args.made.now.generator.kind) n
    (c.in_ok-add_all.ensures n) (c.in_ok-add_all-2.ensures n) (c.in_ok-add_all-3.ensures n) (c.in_ok-add_all-4.ensures n)
    (c.as_slice.ensures ∙ c.in_ok-read.ensures) (c.as_slice-2.ensures ∙ c.in_ok-driven.ensures) c.requires (c.as_slice-3.ensures ∙ c.in_ok-started.ensures)

use Rattle.std.proofs.Common.{◌≡◌, ◌∙◌, map, ap, rules}
use Rattle.std.specs.List.{flat_map}
use Rattle.std.specs.BTreeSet.{contains}
use Rattle.std.specs.Ordering.{nat_cmp}
use Rattle.mh_design.specs.Numbering.{block_expressions, block_statements, body_of}
use Rattle.mh_design.specs.Tree.{block, statement_of}
use Rattle.mh_plans.specs.Plans as spec
use Rattle.mh_plans.proofs.SetLaws.{two_added}
use Rattle.mh_plans.proofs.chosen.use_generator.Goals as goal

pub returns-clause-mems : goal.returns-clause-mems
returns-clause-mems c n =
    two_added (contains nat_cmp c.args.used.now.mems n) (contains nat_cmp c.add_all.new.set n) (contains nat_cmp c.add_all-2.new.set n)
    c.as_slice-2.result.now c.as_slice-3.result.now
    (flat_map spec.mem_read (block_expressions (body_of c.args.made.now.generator))) (flat_map spec.mem_driven (block_statements (body_of c.args.made.now.generator))) n
    (c.in_ok-add_all.ensures n) (c.in_ok-add_all-2.ensures n)
    (c.as_slice-2.ensures ∙ c.in_ok-indexed.ensures.mems ∙ ap (λ ss. flat_map spec.mem_read (block_expressions (block (map statement_of ss)))) c.as_slice-body.ensures)
    (c.as_slice-3.ensures ∙ c.in_ok-stated.ensures.mems ∙ ap (λ ss. flat_map spec.mem_driven (block_statements (block (map statement_of ss)))) c.as_slice-body.ensures)

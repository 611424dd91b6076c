use Rattle.std.proofs.Common.{◌≡◌, ◌∙◌, ◌||◌, ℕ, [], ◌∷◌, sym}
use Rattle.std.specs.BTreeSet.{contains}
use Rattle.std.specs.Ordering.{nat_cmp}
use Rattle.std.proofs.lemmas.Result.{on_ok_weaker}
use Rattle.mh_world.specs.View.{made_of, world}
use Rattle.mh_plans.specs.Order.{is_in}
use Rattle.mh_plans.specs.Plans as spec
use Rattle.mh_plans.proofs.SetLaws.{reads_some, reads_none, used_one, used_none}
use Rattle.mh_plans.proofs.chosen.use_number.Goals as goal

pub returns-in-Some-clause-signals : goal.returns-in-Some-clause-signals
returns-in-Some-clause-signals c =
    on_ok_weaker c.use_generator.result
    (λ (h : (m : ℕ) → contains nat_cmp c.use_generator.new.used.signals m ≡ (contains nat_cmp c.args.used.now.signals m || is_in (spec.signals_used c.args.state.now.design (made_of c.in-Some.made.now)) m)) n. h n ∙ used_one (spec.signals_used c.args.state.now.design) (spec.reads_at (world c.args.state.now) (c.args.g ∷ [])) (made_of c.in-Some.made.now) (contains nat_cmp c.args.used.now.signals n) n (reads_some (world c.args.state.now) c.args.g (made_of c.in-Some.made.now) (sym c.in-Some.ensures)))
    c.use_generator.ensures.signals

pub returns-in-None-clause-signals : goal.returns-in-None-clause-signals
returns-in-None-clause-signals c n =
    used_none (spec.signals_used c.args.state.now.design) (spec.reads_at (world c.args.state.now) (c.args.g ∷ [])) (contains nat_cmp c.args.used.now.signals n) n (reads_none (world c.args.state.now) c.args.g (sym c.in-None.ensures))

pub returns-in-Some-clause-mems : goal.returns-in-Some-clause-mems
returns-in-Some-clause-mems c =
    on_ok_weaker c.use_generator.result
    (λ (h : (m : ℕ) → contains nat_cmp c.use_generator.new.used.mems m ≡ (contains nat_cmp c.args.used.now.mems m || is_in (spec.mems_used (made_of c.in-Some.made.now)) m)) n. h n ∙ used_one spec.mems_used (spec.reads_at (world c.args.state.now) (c.args.g ∷ [])) (made_of c.in-Some.made.now) (contains nat_cmp c.args.used.now.mems n) n (reads_some (world c.args.state.now) c.args.g (made_of c.in-Some.made.now) (sym c.in-Some.ensures)))
    c.use_generator.ensures.mems

pub returns-in-None-clause-mems : goal.returns-in-None-clause-mems
returns-in-None-clause-mems c n =
    used_none spec.mems_used (spec.reads_at (world c.args.state.now) (c.args.g ∷ [])) (contains nat_cmp c.args.used.now.mems n) n (reads_none (world c.args.state.now) c.args.g (sym c.in-None.ensures))

pub returns-in-Some-clause-tables : goal.returns-in-Some-clause-tables
returns-in-Some-clause-tables c =
    on_ok_weaker c.use_generator.result
    (λ (h : (m : ℕ) → contains nat_cmp c.use_generator.new.used.tables m ≡ (contains nat_cmp c.args.used.now.tables m || is_in (spec.tables_used (made_of c.in-Some.made.now)) m)) n. h n ∙ used_one spec.tables_used (spec.reads_at (world c.args.state.now) (c.args.g ∷ [])) (made_of c.in-Some.made.now) (contains nat_cmp c.args.used.now.tables n) n (reads_some (world c.args.state.now) c.args.g (made_of c.in-Some.made.now) (sym c.in-Some.ensures)))
    c.use_generator.ensures.tables

pub returns-in-None-clause-tables : goal.returns-in-None-clause-tables
returns-in-None-clause-tables c n =
    used_none spec.tables_used (spec.reads_at (world c.args.state.now) (c.args.g ∷ [])) (contains nat_cmp c.args.used.now.tables n) n (reads_none (world c.args.state.now) c.args.g (sym c.in-None.ensures))

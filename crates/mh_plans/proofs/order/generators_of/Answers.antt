use Rattle.std.proofs.Common.{ℕ, List, [], ◌∷◌, ◌∙◌, ap, arith}
use Rattle.mh_consts.specs.declared.kinds.Const.TheVariants as const
use Rattle.mh_world.specs.declared.kinds.Instance.{Instance}
use Rattle.mh_plans.specs.Order.{walk}
use Rattle.mh_plans.specs.Walks.{walk_of}
use Rattle.mh_plans.proofs.AdvanceLaws.{whole}
use Rattle.mh_plans.proofs.order.generators_of.Goals as goal

pub returns : goal.returns
returns c =
    whole c.args.most c.args.top c.as_slice-instances.result.now c.new-ahead.result.items c.new-met.result c.new-found.result (walk_of c.meet_instance.new.walk) (walk_of c.go.new.walk) (omega (arith, c.requires))
    c.new-ahead.ensures.items c.new-met.ensures c.new-found.ensures c.in_ok-meet_instance.ensures c.in_ok-go.ensures
    ∙ ap (λ (is : List Instance). (walk c.args.most is (record { ahead = const.Instance c.args.top ∷ []; met = []; found = [] })).found) c.as_slice-instances.ensures.value
    ∙ ap (λ (n : ℕ). (walk n c.args.state.now.instances.items (record { ahead = const.Instance c.args.top ∷ []; met = []; found = [] })).found) c.requires

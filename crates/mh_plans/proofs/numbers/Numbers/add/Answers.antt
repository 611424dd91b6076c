use Rattle.std.proofs.Common.{◌≡◌, ◌∙◌, ◌++◌, ◌∷◌, [], cond, false, Some, ap, sym}
use Rattle.std.specs.Prelude.{nat_eq, position}
use Rattle.std.specs.BTreeMap.{get}
use Rattle.std.specs.Ordering.{nat_cmp, eq_by_cmp}
use Rattle.mh_plans.specs.Order.{is_in}
use Rattle.mh_plans.proofs.NumberLaws.{places_more}
use Rattle.mh_plans.proofs.numbers.Numbers.add.Goals as goal

pub invariant_of-self-in-Ok : goal.invariant_of-self-in-Ok
invariant_of-self-in-Ok c q =
    places_more c.self.inside.places c.insert.new.self c.self.inside.list c.args.n c.self.invariant
    (ap (λ l. is_in l c.args.n) c.self.view_is ∙ (sym c.has.ensures ∙ c.if-has.false))
    (λ p. c.in-Ok.ensures.updates.0 p ∙ ap (λ m. cond (eq_by_cmp nat_cmp c.args.n p) (Some m) (get nat_cmp c.self.inside.places p)) c.len-count.ensures) q
    ∙ ap (position (λ m. nat_eq m q)) (sym c.in_ok-push.ensures.ok)

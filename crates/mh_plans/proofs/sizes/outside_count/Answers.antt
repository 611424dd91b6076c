use Rattle.std.proofs.Common.{◌≡◌, ◌∙◌, ℕ, ◌<◌, ◌≤◌, Bool, false, not, sym, arith}
use Rattle.std.specs.Prelude.{nat_le}
use Rattle.std.specs.BTreeSet.{contains}
use Rattle.std.specs.Ordering.{nat_cmp}
use Rattle.std.proofs.lemmas.Bool.{lt-leb}
use Rattle.mh_design.specs.WellFormed.{count_below}
use Rattle.mh_design.proofs.Below.{count_below_rises}
use Rattle.mh_plans.proofs.sizes.outside_count.Goals as goal

-- two counts above the limit
too_many : (n m : ℕ) → 4096 < n → n ≤ m → nat_le n 4096 ≡ nat_le m 4096
too_many n m h l = lt-leb n 4096 h ∙ sym (lt-leb m 4096 (omega (arith, h, l)))

pub returns-then-outside-gt-MOST_SIGNALS : goal.returns-then-outside-gt-MOST_SIGNALS
returns-then-outside-gt-MOST_SIGNALS c =
    let outside : ℕ → Bool = λ n. not (contains nat_cmp c.args.cells.now n) in
    let r = count_below_rises c.args.count c.loop-i.i outside (omega arith) in
    let e : c.loop-i.outside ≡ count_below c.loop-i.i outside = c.loop-i.invariant.counted in
    too_many c.loop-i.outside (count_below c.args.count outside) (omega arith) (omega (arith, r, e))

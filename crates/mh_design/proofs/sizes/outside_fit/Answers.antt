use Rattle.std.proofs.Common.{◌≡◌, ℕ, ◌<◌, ◌≤◌, not, Bool, false, sym, length, arith}
use Rattle.std.specs.Prelude.{nat_le}
use Rattle.std.proofs.lemmas.Bool.{lt-leb}
use Rattle.mh_design.specs.WellFormed.{count_below, is_in, outside_count}
use Rattle.mh_design.proofs.Below.{count_below_rises}
use Rattle.mh_design.proofs.sizes.outside_fit.Goals as goal

-- a count above the limit
too_many : (n : ℕ) → 4096 < n → false ≡ nat_le n 4096
too_many n h = sym (lt-leb n 4096 h)

pub returns-then-count-gt-MOST_SIGNALS : goal.returns-then-count-gt-MOST_SIGNALS
returns-then-count-gt-MOST_SIGNALS c =
    let outside : ℕ → Bool = λ s. not (is_in c.args.d.now.mems s) in
    let r = count_below_rises (length c.args.d.now.signals) c.loop-first.first outside (omega arith) in
    let e : c.loop-first.count ≡ count_below c.loop-first.first outside = c.loop-first.invariant.counted in
    too_many (outside_count c.args.d.now) (omega (arith, r, e))

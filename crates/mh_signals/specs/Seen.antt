-- How what this crate keeps is seen.
use Rattle.mh_signals.specs.declared.limits.Limits.{Limits as Kept}
use Rattle.mh_signals.specs.declared.limits.Limits.TheVariants as kept
use Rattle.mh_design.specs.Values.{Limits, Unlimited, TruthLimits, Between, Coded}

abbrev pub limits_seen : Kept → Limits
limits_seen kept.Unlimited = Unlimited
limits_seen kept.Truth = TruthLimits
limits_seen (kept.Within b) = Between b.lo b.top b.wraps
limits_seen (kept.Items c) = Coded c.encoding c.count

-- How what this crate keeps is seen.
use Rattle.std.specs.Prelude.{ℤ, pos, ◌≡◌, ◌≤◌, ◌≤ℤ◌, Result, Ok, Err}
use Rattle.mh_gen.specs.declared.fault.Cause.{Cause}
use Rattle.mh_gen.specs.declared.fault.Cause.TheVariants as cause
use Rattle.mh_gen.specs.declared.form.Form.{Form as Kept}
use Rattle.mh_gen.specs.declared.form.Form.TheVariants as kept
use Rattle.mh_gen.specs.declared.spot.Spot.{Spot as Kept'}
use Rattle.mh_gen.specs.declared.spot.Spot.TheVariants as spot
use Rattle.mh_design.specs.Values.{Form, AsInteger, AsTruth, AsBits, Fault, Range, Index, Divide, NumberTooWide, Shift, bits_of}
use Rattle.mh_design.specs.Assignments.{Spot, SignalSpot, LocalSpot}

abbrev pub cause_seen : Cause → Fault
cause_seen (cause.Range o) = Range o.value o.low o.high
cause_seen (cause.Index o) = Index o.value o.low o.high
cause_seen (cause.Divide z) = Divide z
cause_seen cause.NumberTooWide = NumberTooWide
cause_seen (cause.Shift z) = Shift z

abbrev pub form_seen : Kept → Form
form_seen kept.Integer = AsInteger
form_seen kept.Truth = AsTruth
form_seen (kept.Bits w s) = AsBits w s

-- A width is at most 128 bits, and what has 128 isn't negative.
abbrev pub HasRoom : Form → ℤ → Type 0
HasRoom f z = (bits_of f ≤ 128) × (bits_of f ≡ 128 → pos 0 ≤ℤ z)

abbrev pub spot_seen : Kept' → Spot
spot_seen (spot.Signal n) = SignalSpot n
spot_seen (spot.Local n) = LocalSpot n

abbrev pub spots_seen : Result Kept' Fault → Result Spot Fault
spots_seen (Ok p) = Ok (spot_seen p)
spots_seen (Err f) = Err f

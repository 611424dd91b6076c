-- What becomes of an integer that is put into bounds.
use Rattle.std.specs.Prelude.{ℤ, Bool, if◌then◌else◌, Ok, Err, Result}
use Rattle.mh_codes.specs.Ranges.{is_inside, wrap_of}
use Rattle.mh_num.specs.declared.bounds.OutOfBounds.{OutOfBounds}

-- v itself inside lo .. top; outside, the integer that it wraps to where the bounds wrap (`modbv` of
-- MyHDL 0.11), and else the error (`intbv`).
abbrev pub fit_of : ℤ → ℤ → Bool → ℤ → Result ℤ OutOfBounds
fit_of lo top wraps v =
    if is_inside lo top v then Ok v else (if wraps then Ok (wrap_of lo top v) else Err (record { value = v; low = lo; high = top }))

use Rattle.mh_codes.proofs.Slices.{slice_below, bit_of-slice, slice-join}
use Rattle.mh_codes.proofs.slice_laws.Goals as goal

pub returns-clause-below : goal.returns-clause-below
returns-clause-below c = slice_below

pub returns-clause-bits : goal.returns-clause-bits
returns-clause-bits c = bit_of-slice

pub returns-clause-joined : goal.returns-clause-joined
returns-clause-joined c = slice-join

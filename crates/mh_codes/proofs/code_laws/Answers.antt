use Rattle.mh_codes.proofs.Numbers.{number-code, fits_signed_from, fits_signed_low, fits_signed_high, fits_held}
use Rattle.mh_codes.proofs.Bits.{bit_of-code}
use Rattle.mh_codes.proofs.code_laws.Goals as goal

pub returns-clause-bits : goal.returns-clause-bits
returns-clause-bits c = bit_of-code

pub returns-clause-number : goal.returns-clause-number
returns-clause-number c = number-code

pub returns-clause-signed : goal.returns-clause-signed
returns-clause-signed c = λ w z. (λ f. (fits_signed_low w z f, fits_signed_high w z f), λ h. fits_signed_from w z h.0 h.1)

pub returns-clause-held : goal.returns-clause-held
returns-clause-held c = fits_held

use Rattle.mh_reader.proofs.Refuse.{stops, none_is_read}
use Rattle.mh_reader.proofs.laws.refusal_laws.Goals as goal

pub returns-clause-stops : goal.returns-clause-stops
returns-clause-stops g c = λ is_end p ts r local h e. stops is_end p local ts h r e

pub returns-clause-none_is_read : goal.returns-clause-none_is_read
returns-clause-none_is_read g c = λ is_end p ts r local h e. none_is_read is_end p local ts h r e

use Rattle.mh_reader.proofs.Turns.{many_err, many_done, many_again}
use Rattle.mh_reader.proofs.laws.repetition_laws.Goals as goal

pub returns-clause-refused : goal.returns-clause-refused
returns-clause-refused g c = λ step s ts r e. many_err step s ts r e

pub returns-clause-last : goal.returns-clause-last
returns-clause-last g c = λ step s x ts r e. many_done step s ts x r e

pub returns-clause-again : goal.returns-clause-again
returns-clause-again g c = λ step s x ts r e h. many_again step s ts x r e h

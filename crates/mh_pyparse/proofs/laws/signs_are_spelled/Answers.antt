use Rattle.mh_pyparse.proofs.Spellings.{operator_spelled, augmented_spelled, sign_spelled, words_spelled, marks_spelled}
use Rattle.mh_pyparse.proofs.laws.signs_are_spelled.Goals as goal

pub returns-clause-operators : goal.returns-clause-operators
returns-clause-operators c = operator_spelled

pub returns-clause-augmented : goal.returns-clause-augmented
returns-clause-augmented c = augmented_spelled

pub returns-clause-in_front : goal.returns-clause-in_front
returns-clause-in_front c = sign_spelled

pub returns-clause-words : goal.returns-clause-words
returns-clause-words c = words_spelled

pub returns-clause-marks : goal.returns-clause-marks
returns-clause-marks c = marks_spelled

use Rattle.mh_bits.proofs.Selections.{selected-whole, selected-extended, selected-extended_whole, extended-same, selected-joined_low, selected-joined_high, selected-joined_second, selected-joined_first}
use Rattle.mh_bits.proofs.laws.part_laws.Goals as goal

pub returns-clause-whole : goal.returns-clause-whole
returns-clause-whole c = selected-whole

pub returns-clause-extension : goal.returns-clause-extension
returns-clause-extension c = selected-extended

pub returns-clause-extended_back : goal.returns-clause-extended_back
returns-clause-extended_back c = selected-extended_whole

pub returns-clause-extended_same : goal.returns-clause-extended_same
returns-clause-extended_same c = extended-same

pub returns-clause-lower : goal.returns-clause-lower
returns-clause-lower c = selected-joined_low

pub returns-clause-upper : goal.returns-clause-upper
returns-clause-upper c = selected-joined_high

pub returns-clause-second : goal.returns-clause-second
returns-clause-second c = selected-joined_second

pub returns-clause-first : goal.returns-clause-first
returns-clause-first c = selected-joined_first

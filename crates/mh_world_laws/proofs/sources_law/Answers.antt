use Rattle.mh_world_laws.proofs.SourceParts.{statement_parts, block_parts, definition_parts}
use Rattle.mh_world_laws.proofs.sources_law.Goals as goal

pub returns-clause-statements : goal.returns-clause-statements
returns-clause-statements c = statement_parts

pub returns-clause-blocks : goal.returns-clause-blocks
returns-clause-blocks c = block_parts

pub returns-clause-definitions : goal.returns-clause-definitions
returns-clause-definitions c = definition_parts

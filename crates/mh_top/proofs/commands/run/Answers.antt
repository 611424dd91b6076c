use Rattle.mh_top.proofs.ConvertLaws.{completes_as, ends_as, never_words}
use Rattle.mh_top.proofs.SimLaws.{completes_as as sim_completes_as, ends_as as sim_ends_as, never_words as never_sim}
use Rattle.mh_top.specs.Words.{Convert, Sim}
use Rattle.mh_top.proofs.commands.run.Goals as goal

pub convert-requires-clause-file : goal.convert-requires-clause-file
convert-requires-clause-file g c = (c.requires.names (Convert c.in-Convert.file.now c.in-Convert.out.now) c.in-Convert.ensures).0

pub convert-requires-clause-out : goal.convert-requires-clause-out
convert-requires-clause-out g c = (c.requires.names (Convert c.in-Convert.file.now c.in-Convert.out.now) c.in-Convert.ensures).1

pub returns-in-Convert-clause-words : goal.returns-in-Convert-clause-words
returns-in-Convert-clause-words g c =
    (λ is. absurd (never_words _ _ _ _ c.convert.ensures.ends is), λ none. absurd (none (Convert c.in-Convert.file.now c.in-Convert.out.now) c.in-Convert.ensures))

pub returns-in-Convert-clause-refuses : goal.returns-in-Convert-clause-refuses
returns-in-Convert-clause-refuses g c = λ none. absurd (none (Convert c.in-Convert.file.now c.in-Convert.out.now) c.in-Convert.ensures)

pub returns-in-Convert-clause-completes : goal.returns-in-Convert-clause-completes
returns-in-Convert-clause-completes g c =
    completes_as _ _ c.in-Convert.out.now _ _ c.in-Convert.ensures c.convert.ensures.completes

pub returns-in-Convert-clause-ends : goal.returns-in-Convert-clause-ends
returns-in-Convert-clause-ends g c =
    ends_as _ c.in-Convert.file.now c.in-Convert.out.now _ _ c.in-Convert.ensures c.convert.ensures.ends

pub sim-requires : goal.sim-requires
sim-requires g c = record { file = c.requires.names (Sim c.in-Sim.file.now) c.in-Sim.ensures }

pub returns-in-Sim-clause-words : goal.returns-in-Sim-clause-words
returns-in-Sim-clause-words g c =
    (λ is. absurd (never_sim _ _ _ c.sim.ensures.ends is), λ none. absurd (none (Sim c.in-Sim.file.now) c.in-Sim.ensures))

pub returns-in-Sim-clause-refuses : goal.returns-in-Sim-clause-refuses
returns-in-Sim-clause-refuses g c = λ none. absurd (none (Sim c.in-Sim.file.now) c.in-Sim.ensures)

pub returns-in-Sim-clause-completes : goal.returns-in-Sim-clause-completes
returns-in-Sim-clause-completes g c = sim_completes_as _ c.in-Sim.file.now _ _ c.in-Sim.ensures c.sim.ensures.completes

pub returns-in-Sim-clause-ends : goal.returns-in-Sim-clause-ends
returns-in-Sim-clause-ends g c = sim_ends_as _ c.in-Sim.file.now _ _ c.in-Sim.ensures c.sim.ensures.ends

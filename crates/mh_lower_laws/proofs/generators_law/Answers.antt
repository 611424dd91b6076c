use Rattle.mh_lower.specs.Generators.{def_of}
use Rattle.mh_lower_laws.proofs.GeneratorsFitLaws.{def_reads, read_to}
use Rattle.mh_lower_laws.proofs.generators_law.Goals as goal

pub returns : goal.returns
returns c = λ s f d r e h q.
    let l = read_to s d h (def_of s d f) r e (def_reads s d h f) q in
    (l.extends, l.holds, l.gives)

use Rattle.mh_top.proofs.SimLaws.{ends_memory}
use Rattle.mh_top.proofs.sim.simulate_source.Goals as goal

pub returns-in-Err : goal.returns-in-Err
returns-in-Err g c =
    ends_memory c.args.source.now (g.S.Shelf.seen c.args.shelf.now) (g.S.Shelf.seen c.complain_of_memory.new.shelf) (g.S.Shelf.counts c.args.shelf.now) (g.S.Shelf.counts c.complain_of_memory.new.shelf) c.complain_of_memory.result.code c.complain_of_memory.ensures.code c.complain_of_memory.ensures.complained

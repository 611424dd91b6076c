use Rattle.mh_top.proofs.SimLaws.{memory_ends, too_long_ends, unfetched_ends, whole_completes, whole_ends}
use Rattle.mh_top.proofs.sim.sim.Goals as goal

pub returns-in-Ok-Whole-clause-ends : goal.returns-in-Ok-Whole-clause-ends
returns-in-Ok-Whole-clause-ends g c =
    let arm = c.in-Ok-Whole in
    whole_ends c.args.file.now c.fetch.new.into.items (g.S.Shelf.seen c.args.shelf.now) (g.S.Shelf.seen c.fetch.new.self) (g.S.Shelf.seen c.simulate_source.new.shelf) (g.S.Shelf.counts c.args.shelf.now) (g.S.Shelf.counts c.fetch.new.self) (g.S.Shelf.counts c.simulate_source.new.shelf) c.simulate_source.result.code
    (rw arm.field-0-is at arm.ensures.found) arm.ensures.seen arm.ensures.count arm.ensures.others (rw c.as_slice.ensures.value at c.simulate_source.ensures)

pub returns-in-Ok-Whole-clause-completes : goal.returns-in-Ok-Whole-clause-completes
returns-in-Ok-Whole-clause-completes g c =
    let arm = c.in-Ok-Whole in
    whole_completes c.runs_once.ensures c.args.file.now c.fetch.new.into.items (g.S.Shelf.seen c.args.shelf.now) (g.S.Shelf.seen c.fetch.new.self) (g.S.Shelf.seen c.simulate_source.new.shelf) (g.S.Shelf.counts c.args.shelf.now) (g.S.Shelf.counts c.fetch.new.self) (g.S.Shelf.counts c.simulate_source.new.shelf) c.simulate_source.result.code
    (rw arm.field-0-is at arm.ensures.found) arm.ensures.seen arm.ensures.count arm.ensures.others (rw c.as_slice.ensures.value at c.simulate_source.ensures)

pub returns-in-Ok-TooLong-clause-ends : goal.returns-in-Ok-TooLong-clause-ends
returns-in-Ok-TooLong-clause-ends g c =
    let arm = c.in-Ok-TooLong in
    too_long_ends c.args.file.now c.fetch.new.into.items c.of_too_long.result (g.S.Shelf.seen c.args.shelf.now) (g.S.Shelf.seen c.fetch.new.self) (g.S.Shelf.seen c.complain_of.new.shelf) (g.S.Shelf.counts c.args.shelf.now) (g.S.Shelf.counts c.fetch.new.self) (g.S.Shelf.counts c.complain_of.new.shelf) c.complain_of.result.code
    (rw arm.field-0-is at arm.ensures.found) arm.ensures.seen arm.ensures.count arm.ensures.others c.of_too_long.ensures c.complain_of.ensures.code c.complain_of.ensures.complained

pub returns-in-Err-Failed-clause-ends : goal.returns-in-Err-Failed-clause-ends
returns-in-Err-Failed-clause-ends g c =
    let arm = c.in-Err-Failed in
    let said = c.complain_of-in-Err-Failed in
    unfetched_ends c.args.file.now c.of_shelf.result (g.S.Shelf.seen c.args.shelf.now) (g.S.Shelf.seen c.fetch.new.self) (g.S.Shelf.seen said.new.shelf) (g.S.Shelf.counts c.args.shelf.now) (g.S.Shelf.counts c.fetch.new.self) (g.S.Shelf.counts said.new.shelf) said.result.code
    arm.ensures.seen (rw arm.field-0-is at arm.ensures.count) arm.ensures.others c.of_shelf.ensures said.ensures.code said.ensures.complained

pub returns-clause-ends : goal.returns-clause-ends
returns-clause-ends g c =
    let arm = c.in-Err-Memory in
    let said = c.complain_of_memory in
    memory_ends c.args.file.now (g.S.Shelf.seen c.args.shelf.now) (g.S.Shelf.seen c.fetch.new.self) (g.S.Shelf.seen said.new.shelf) (g.S.Shelf.counts c.args.shelf.now) (g.S.Shelf.counts c.fetch.new.self) (g.S.Shelf.counts said.new.shelf) said.result.code
    arm.ensures.seen (rw arm.field-0-is at arm.ensures.count) arm.ensures.others said.ensures.code said.ensures.complained

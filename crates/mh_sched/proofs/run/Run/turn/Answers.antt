use Rattle.std.proofs.Common.{refl}
use Rattle.mh_sched.proofs.Stepping.{plan_at, kept_at, can_go_on, waiter_there, has_room, turned_of}
use Rattle.mh_sched.proofs.run.Run.turn.Goals as goal

pub take_turn-requires-clause-stands : goal.take_turn-requires-clause-stands
take_turn-requires-clause-stands c =
    can_go_on c.args.k c.requires.run c.requires.there c.index.result.now c.index_mut.result.now (plan_at c.args.k c.requires.run c.requires.there c.index.result.now c.index.ensures) (kept_at c.args.k c.requires.run c.requires.there c.index_mut.result.now c.index_mut.ensures.value)

pub take_turn-requires-clause-there : goal.take_turn-requires-clause-there
take_turn-requires-clause-there c = waiter_there c.args.k c.requires.run c.requires.there

pub take_turn-requires-clause-room : goal.take_turn-requires-clause-room
take_turn-requires-clause-room c =
    has_room c.args.k c.requires.run c.requires.there c.body_laws.ensures.room c.index.result.now (plan_at c.args.k c.requires.run c.requires.there c.index.result.now c.index.ensures)

pub returns : goal.returns
returns c =
    turned_of c.args.k c.index.result.now c.index_mut.result.now c.take_turn.new.self c.take_turn.new.store _ c.take_turn.result (plan_at c.args.k c.requires.run c.requires.there c.index.result.now c.index.ensures) (kept_at c.args.k c.requires.run c.requires.there c.index_mut.result.now c.index_mut.ensures.value) c.requires.there c.take_turn.ensures refl refl refl refl

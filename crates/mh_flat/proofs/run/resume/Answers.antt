use Rattle.mh_flat.proofs.Advance.{Laws}
use Rattle.mh_flat.proofs.Turns.{is_left, start_at, instruction_fits_at, instruction_room_at, next, smaller, done}
use Rattle.mh_flat.proofs.run.resume.Given as with_value
use Rattle.mh_flat.proofs.run.resume.Goals as goal

pub loop-answer-init : goal.loop-answer-init
loop-answer-init g c = λ xs h f. start_at g.L.Lang c.args.budget c.args.code.now xs c.args.state.now c.args.store.now (is_left g.L.Lang c.args.code.now xs c.args.state.now c.args.store.now h f)

pub advance-requires-clause-fits : goal.advance-requires-clause-fits
advance-requires-clause-fits g c = let x = c.loop-answer.invariant c.requires.0 c.requires.1 c.requires.2 in instruction_fits_at g.L.Lang c.args.budget c.args.code.now x.rest _ _ x.left

pub advance-requires-clause-room : goal.advance-requires-clause-room
advance-requires-clause-room g c = let x = c.loop-answer.invariant c.requires.0 c.requires.1 c.requires.2 in instruction_room_at g.L.Lang c.args.budget c.args.code.now x.rest _ _ x.left

laws_of : (g : with_value.Over) → Laws g.L.Lang
laws_of g = record { assign_keeps = g.met.L.Lang.assign_keeps; count_keeps = g.met.L.Lang.count_keeps }

pub returns-in-Some : goal.returns-in-Some
returns-in-Some g c = λ xs h f. done g.L.Lang (laws_of g) c.args.budget c.args.code.now xs c.args.state.now c.loop-answer.state c.advance.new.state c.args.store.now c.loop-answer.store c.advance.new.store c.in-Some.answer (c.loop-answer.invariant xs h f) c.in-Some.ensures

pub loop-answer-smaller : goal.loop-answer-smaller
loop-answer-smaller g c = let x = c.loop-answer.invariant c.requires.0 c.requires.1 c.requires.2 in smaller g.L.Lang (laws_of g) c.args.budget c.args.code.now x.rest c.loop-answer.state c.advance.new.state c.loop-answer.store c.advance.new.store x.left c.in_default.ensures

pub loop-answer-preserved : goal.loop-answer-preserved
loop-answer-preserved g c = λ xs h f. next g.L.Lang (laws_of g) c.args.budget c.args.code.now xs c.args.state.now c.loop-answer.state c.advance.new.state c.args.store.now c.loop-answer.store c.advance.new.store (c.loop-answer.invariant xs h f) c.in_default.ensures

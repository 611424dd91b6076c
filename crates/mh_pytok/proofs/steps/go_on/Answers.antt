use Rattle.std.proofs.Common.{[], length, sym, ap, arith}
use Rattle.std.proofs.lemmas.List.{append-nil, length-drop}
use Rattle.mh_pytok.specs.Pieces.{piece}
use Rattle.mh_pytok.specs.State.{place_of}
use Rattle.mh_pytok.proofs.GoLaws.{gone, gone_end, gone_line, gone_gap, gone_word, gone_bad, stopped}
use Rattle.mh_pytok.proofs.steps.go_on.Goals as goal

pub end_line-requires-clause-within : goal.end_line-requires-clause-within
end_line-requires-clause-within c = omega (arith, c.in-LineEnd.ensures.within, ap length c.behind.ensures, length-drop c.args.state.now.at c.args.src.now)

pub move_on-requires-clause-within : goal.move_on-requires-clause-within
move_on-requires-clause-within c = omega (arith, c.in-Gap.ensures.within.1, c.in-Gap.ensures.within.0, ap length c.behind.ensures, length-drop c.args.state.now.at c.args.src.now)

pub put_word-requires-clause-within : goal.put_word-requires-clause-within
put_word-requires-clause-within c = omega (arith, c.in-Word.ensures.within.1, c.in-Word.ensures.within.0, ap length c.behind.ensures, length-drop c.args.state.now.at c.args.src.now)

pub returns-in_ok-finish-in-Nothing-clause-gives : goal.returns-in_ok-finish-in-Nothing-clause-gives
returns-in_ok-finish-in-Nothing-clause-gives c =
    (_, gone_end c.args.src.now c.args.state.now c.behind.result.now piece c.behind.ensures c.requires.state.line.is c.in-Nothing.ensures.piece, c.in_ok-finish-in-Nothing.ensures)

pub returns-in_ok-end_line-in-LineEnd-clause-gives : goal.returns-in_ok-end_line-in-LineEnd-clause-gives
returns-in_ok-end_line-in-LineEnd-clause-gives c = (
  _,
  gone _ _ _ _ c.in_ok-end_line-in-LineEnd.ensures.state
      (gone_line c.args.src.now c.args.state.now c.behind.result.now piece c.behind.ensures c.requires.state.line.is c.in-LineEnd.ensures.piece),
  c.in_ok-end_line-in-LineEnd.ensures.tokens,
)

pub returns-in-Gap-clause-gives : goal.returns-in-Gap-clause-gives
returns-in-Gap-clause-gives c = (
  [],
  gone _ _ _ _ c.move_on.ensures.state
      (gone_gap c.args.src.now c.args.state.now c.behind.result.now piece c.behind.ensures c.requires.state.line.is _ c.in-Gap.ensures.piece),
  sym (append-nil c.args.out.now),
)

pub returns-in_ok-put_word-in-Word-clause-gives : goal.returns-in_ok-put_word-in-Word-clause-gives
returns-in_ok-put_word-in-Word-clause-gives c = (
  _,
  gone _ _ _ _ c.in_ok-put_word-in-Word.ensures.state
      (gone_word c.args.src.now c.args.state.now c.behind.result.now piece c.behind.ensures c.requires.state.line.is _ _ c.in-Word.ensures.piece),
  c.in_ok-put_word-in-Word.ensures.tokens,
)

pub returns-in-Bad-clause-gives : goal.returns-in-Bad-clause-gives
returns-in-Bad-clause-gives c =
    stopped _ c.args.out.now c.args.out.now (place_of c.args.state.now) _ _ _ c.refusal.ensures
    (gone_bad c.args.src.now c.args.state.now c.behind.result.now piece c.behind.ensures c.requires.state.line.is _ c.in-Bad.ensures.piece)

-- The statements of a source as the body of a generator.
use Rattle.mh_lower.specs.Body as line
use Rattle.mh_world.specs.Statements.{St, Fn, Func, Block, Choice, Choices, End, Then, Where, NoChoice, OrElse, Value, Assign, Augment, Pass, Break, Continue, Return, Yield, Raise, Assert, ImportAll, Import, Define, If, For, While, line_of_def}

abbrev mutual
  pub body_line : St → line.Line
  body_line (Value l e) = line.Value l e
  body_line (Assign l t left e) = line.Assign l left e
  body_line (Augment l op t left e) = line.Augment l op left e
  body_line (Pass l) = line.Pass
  body_line (Break l) = line.Break l
  body_line (Continue l) = line.Continue l
  body_line (Return l e) = line.Forbidden l
  body_line (Yield l e) = line.Yield l e
  body_line (Raise l e) = line.Raise l e
  body_line (Assert l e) = line.Assert l e
  body_line (ImportAll l) = line.Forbidden l
  body_line (Import l names) = line.Forbidden l
  body_line (Define f) = line.Forbidden (line_of_def f)
  body_line (If l cs other) = line.If l (body_choices cs) (body_lines other)
  body_line (For l t e b) = line.For l t e (body_lines b)
  body_line (While l e b) = line.While l e (body_lines b)

  pub body_lines : Block → line.Lines
  body_lines End = line.End
  body_lines (Then s b) = line.Then (body_line s) (body_lines b)

  pub body_choice : Choice → line.Choice
  body_choice (Where e b) = line.Where e (body_lines b)

  pub body_choices : Choices → line.Choices
  body_choices NoChoice = line.NoChoice
  body_choices (OrElse c cs) = line.OrElse (body_choice c) (body_choices cs)

use Rattle.mh_pytok.proofs.Outcome as outcome
use Rattle.mh_pytok.proofs.lex.tokens.Goals as goal

pub returns : goal.returns
returns c = record {
  found = outcome.found c.args.src.now c.read.result c.read.ensures;
  only = outcome.only c.args.src.now c.read.result c.read.ensures;
  refused = outcome.refused c.args.src.now c.read.result c.read.ensures;
  refuses = outcome.refuses c.args.src.now c.read.result c.read.ensures;
  readable = outcome.all_readable c.args.src.now c.read.result c.read.ensures;
}

use Rattle.mh_top_laws.proofs.Sources.{one_answer, one_run, one_gate}
use Rattle.mh_top_laws.proofs.source_law.Goals as goal

pub returns-clause-answers : goal.returns-clause-answers
returns-clause-answers c = λ source a b h k. one_answer c.one_token_list.ensures c.one_tree.ensures source a b h k

pub returns-clause-asked : goal.returns-clause-asked
returns-clause-asked c = λ source d e m n h k. one_run c.one_token_list.ensures c.one_tree.ensures source d e m n h k

pub returns-clause-gates : goal.returns-clause-gates
returns-clause-gates c = λ source d e h k. one_gate c.one_token_list.ensures c.one_tree.ensures source d e h k

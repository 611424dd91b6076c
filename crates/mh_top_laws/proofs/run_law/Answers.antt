use Rattle.mh_top_laws.proofs.Runs.{ends_once, refused_apart}
use Rattle.mh_top_laws.proofs.run_law.Goals as goal

pub returns-clause-ends : goal.returns-clause-ends
returns-clause-ends c = λ source a b s t h k. ends_once c.source_law.ensures.asked c.runs_once.ensures source a b s t h k

pub returns-clause-refusals : goal.returns-clause-refusals
returns-clause-refusals c = λ source code line a t h k. refused_apart c.one_token_list.ensures c.one_tree.ensures c.tokens_or_refusal.ensures source code line a t h k

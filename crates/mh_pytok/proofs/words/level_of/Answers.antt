use Rattle.std.proofs.Common.{◌∙◌, sym, ap}
use Rattle.mh_pytok.specs.Words.{keywords, signs, level_of}
use Rattle.mh_pytok.proofs.words.level_of.Goals as goal

pub returns-in-Keyword : goal.returns-in-Keyword
unfolding keywords
returns-in-Keyword c = c.level_with.ensures ∙ ap level_of (sym c.in-Keyword.is)

pub returns-in-Sign : goal.returns-in-Sign
unfolding signs
returns-in-Sign c = c.level_with-in-Sign.ensures ∙ ap level_of (sym c.in-Sign.is)

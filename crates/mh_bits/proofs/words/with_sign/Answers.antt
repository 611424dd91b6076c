use Rattle.std.proofs.Common.{◌∙◌, ap, sym, neg_ℤ, pos, arith, cond}
use Rattle.mh_codes.specs.Codes.{code}
use Rattle.mh_bits.proofs.Arithmetic.{negated_word}
use Rattle.mh_bits.proofs.words.with_sign.Goals as goal

pub returns-then-negative : goal.returns-then-negative
returns-then-negative c =
    c.low_bits.ensures.value ∙ negated_word c.args.width c.args.n c.requires (omega arith) ∙ ap (λ b. code c.args.width (cond b (neg_ℤ (pos c.args.n)) (pos c.args.n))) (sym c.if-negative.true)

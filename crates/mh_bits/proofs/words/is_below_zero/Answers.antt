use Rattle.std.proofs.Common.{◌∙◌, ap, sym, ◌-◌, ltb, cond}
use Rattle.std.specs.Int.{bit_at, from_bool}
use Rattle.mh_bits.proofs.MovedWords.{top_bit}
use Rattle.mh_bits.proofs.words.is_below_zero.Goals as goal

pub returns-then-signed-clause-top : goal.returns-then-signed-clause-top
returns-then-signed-clause-top c =
    ap (λ m. from_bool (ltb m c.args.n)) c.mask.ensures ∙ top_bit c.args.width c.args.n c.requires.some c.requires.within ∙ ap (λ b. cond b (bit_at c.args.n (c.args.width - 1)) 0) (sym c.if-signed.true)

use Rattle.std.proofs.Common.{ap, ◌∙◌, ◌^◌, bit_and, arith}
use Rattle.std.proofs.lemmas.Nat.{and_mask, mod_below, pow_pos}
use Rattle.mh_bits.proofs.words.low_bits.Goals as goal

pub returns-clause-value : goal.returns-clause-value
returns-clause-value c = ap (bit_and c.args.n) c.mask.ensures ∙ and_mask c.args.n c.args.width

pub returns-clause-within : goal.returns-clause-within
returns-clause-within c =
    let e = ap (bit_and c.args.n) c.mask.ensures ∙ and_mask c.args.n c.args.width in
    omega (arith, mod_below c.args.n (2 ^ c.args.width) (pow_pos c.args.width))

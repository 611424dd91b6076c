use Rattle.std.proofs.Common.{◌≡◌, ◌∙◌, ap, sym, ◌+◌, ◌-◌, ◌^◌, ltb, cond, arith}
use Rattle.std.specs.Int.{bit_at, from_bool}
use Rattle.mh_codes.proofs.Powers.{wider}
use Rattle.mh_bits.specs.Vector.{word}
use Rattle.mh_bits.proofs.MovedWords.{extended_low, extended_high}
use Rattle.mh_bits.proofs.words.extended.Goals as goal

pub overflow_sub-result : goal.overflow_sub-result
overflow_sub-result c = let p = wider c.args.width c.args.to c.requires.upto in omega arith

pub returns-then-fill : goal.returns-then-fill
returns-then-fill c =
    let p = wider c.args.width c.args.to c.requires.upto in
    let s : c.args.n + (c.mask.result - c.mask-then-fill.result) ≡ c.args.n + (2 ^ c.args.to - 2 ^ c.args.width) = omega arith in
    s ∙ extended_high c.args.n c.args.width c.args.to c.requires.upto c.requires.within ∙ ap (λ b. word (λ k. cond (ltb k c.args.width) (bit_at c.args.n k) (from_bool b)) c.args.to) (sym c.if-fill.true)

pub returns-else-fill : goal.returns-else-fill
returns-else-fill c =
    extended_low c.args.n c.args.width c.args.to c.requires.upto c.requires.within ∙ ap (λ b. word (λ k. cond (ltb k c.args.width) (bit_at c.args.n k) (from_bool b)) c.args.to) (sym c.if-fill.false)

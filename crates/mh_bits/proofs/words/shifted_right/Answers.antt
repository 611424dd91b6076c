use Rattle.std.proofs.Common.{◌≡◌, ◌∙◌, ap, ◌+◌, ◌-◌, ◌<◌, ◌^◌, arith}
use Rattle.std.specs.Int.{from_bool}
use Rattle.std.proofs.lemmas.Nat.{shr_below}
use Rattle.mh_bits.proofs.MovedWords.{moved_right}
use Rattle.mh_bits.proofs.words.shifted_right.Goals as goal

pub extended-requires-clause-within : goal.extended-requires-clause-within
extended-requires-clause-within c =
    let e : c.args.width ≡ c.args.width - c.args.amount + c.args.amount = omega arith in
    let power = ap (λ k. 2 ^ k) e in
    let h : c.args.n < 2 ^ (c.args.width - c.args.amount + c.args.amount) = omega arith in
    shr_below c.args.n (c.args.width - c.args.amount) c.args.amount h

pub returns-then-amount-from : goal.returns-then-amount-from
returns-then-amount-from c =
    c.extended.ensures ∙ moved_right c.args.n c.args.amount c.args.width (from_bool c.args.fill) (omega arith)

use Rattle.std.proofs.Common.{◌∙◌, ◌*◌, ◌^◌, arith, pos}
use Rattle.mh_codes.proofs.Codes.{code_cut}
use Rattle.mh_bits.proofs.MovedWords.{moved_left, moved_out}
use Rattle.mh_bits.proofs.words.shifted_left.Goals as goal

pub returns-then-amount-from : goal.returns-then-amount-from
returns-then-amount-from c =
    c.low_bits.ensures.value ∙ code_cut 128 c.args.width (pos (c.args.n * 2 ^ c.args.amount)) c.requires ∙ moved_left c.args.n c.args.amount c.args.width

pub returns-else-amount-from : goal.returns-else-amount-from
returns-else-amount-from c = moved_out c.args.n c.args.amount c.args.width (omega arith)

use Rattle.std.proofs.lemmas.Nat.{one_shl}
use Rattle.std.proofs.Common.{arith}
use Rattle.mh_design.proofs.enums.power.Goals as goal

pub returns : goal.returns
returns c = one_shl c.args.exponent 128 (omega arith)

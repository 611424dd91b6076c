use Rattle.std.proofs.Common.{length, sym, ap, ◌∙◌, arith}
use Rattle.mh_design.specs.Enums.{is_narrow}
use Rattle.mh_design.proofs.EnumLaws.{binary_narrow}
use Rattle.mh_design.proofs.enums.enum_fits.Goals as goal

pub returns-in-Binary : goal.returns-in-Binary
returns-in-Binary c =
    sym (ap (λ e. is_narrow e (length c.args.x.now.names)) c.in-Binary.is ∙ binary_narrow (length c.args.x.now.names) (omega arith))

use Rattle.mh_top.proofs.convert.prepare.Goals as goal

pub returns-in-Err-At : goal.returns-in-Err-At
returns-in-Err-At c =
    let refused = rw c.in-Err-At.field-0-is at c.in-Err-At.ensures.refused in
    (c.in-Err-At.code, c.in-Err-At.line, refused.0, refused.1, c.in_ok-line-in-Err-At.ensures)

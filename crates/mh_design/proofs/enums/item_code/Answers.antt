use Rattle.std.proofs.Common.{◌≡◌, ◌≤◌, ◌-◌, ◌^◌, ap, sym, subst, ◌∙◌, pos, arith}
use Rattle.mh_codes.proofs.Powers.{wider}
use Rattle.mh_design.specs.Enums.{encoding_width, item_code}
use Rattle.mh_design.proofs.EnumLaws.{one_bit}
use Rattle.mh_design.proofs.enums.item_code.Goals as goal

pub number-requires : goal.number-requires
number-requires c =
    let few : c.args.count ≤ 127 = subst (λ e. encoding_width e c.args.count ≤ 127) c.in-OneHot.is c.requires.narrow in
    let w = wider c.args.place 126 (omega arith) in
    omega arith

pub overflow_sub-code : goal.overflow_sub-code
overflow_sub-code c = let o = one_bit c.args.place c.args.count c.requires.there in omega arith

pub number-requires-in-OneCold : goal.number-requires-in-OneCold
number-requires-in-OneCold c =
    let few : c.args.count ≤ 127 = subst (λ e. encoding_width e c.args.count ≤ 127) c.in-OneCold.is c.requires.narrow in
    let w = wider c.args.count 127 few in
    omega arith
